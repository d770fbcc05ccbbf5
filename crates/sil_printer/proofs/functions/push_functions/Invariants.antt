-- The functions so far stand in the text, each after an empty line.
use Rattle.std.proofs.Common.{◌≡◌, ◌++◌, take}
use Rattle.sil_printer.specs.Words.{each_behind, line_feed}
use Rattle.sil_printer.specs.CanonicalFunctions.{function_text}
use Rattle.sil_printer.proofs.functions.push_functions.Given as goal

abbrev pub invariant-loop-function : goal.invariant-loop-function
invariant-loop-function l =
    l.out.items ≡ l.initial.out.items ++ each_behind line_feed (function_text l.functions) (take l.function-index l.functions)
