-- The vtables so far stand in the text, each after an empty line.
use Rattle.std.proofs.Common.{◌≡◌, ◌++◌, take}
use Rattle.sil_printer.specs.Words.{each_behind, line_feed}
use Rattle.sil_printer.specs.CanonicalModules.{vtable_text}
use Rattle.sil_printer.proofs.modules.push_vtables.Given as goal

abbrev pub invariant-loop-vtable : goal.invariant-loop-vtable
invariant-loop-vtable l =
    l.out.items ≡ l.initial.out.items ++ each_behind line_feed (vtable_text l.functions) (take l.vtable-index l.vtables)
