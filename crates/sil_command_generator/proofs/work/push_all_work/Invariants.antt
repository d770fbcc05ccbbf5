-- The functions so far stand in the text.
use Rattle.std.proofs.Common.{◌≡◌, ◌++◌, List, map}
use Rattle.std.specs.List.{range_with_len}
use Rattle.sil_ast.specs.declared.function.Function.{Function}
use Rattle.sil_printer.specs.CanonicalFunctions.{function_text}
use Rattle.sil_printer.specs.Words.{each_behind, line_feed}
use Rattle.sil_command_generator.specs.WorkFunctions.{work}
use Rattle.sil_command_generator.proofs.work.push_all_work.Given as goal

abbrev pub invariant-loop-k : goal.invariant-loop-k
invariant-loop-k l = (fs : List Function) → l.out.items ≡ l.initial.out.items ++ each_behind line_feed (function_text fs) (map work (range_with_len 0 l.k))
