-- The calls so far stand in the text.
use Rattle.std.proofs.Common.{◌≡◌, ◌++◌}
use Rattle.std.specs.List.{flat_map, range_with_len}
use Rattle.sil_printer.specs.CanonicalInsts.{inst_text}
use Rattle.sil_printer.specs.Words.{indented}
use Rattle.sil_command_generator.specs.GeneratedModules.{call_of, functions_of}
use Rattle.sil_command_generator.proofs.generated.push_calls.Given as goal

abbrev pub invariant-loop-k : goal.invariant-loop-k
invariant-loop-k l = l.out.items ≡ l.initial.out.items ++ indented (inst_text (functions_of l.n)) (flat_map call_of (range_with_len 0 l.k))
