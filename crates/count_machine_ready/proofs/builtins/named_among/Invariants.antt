use Rattle.std.proofs.Common.{◌≡◌, drop}
use Rattle.std.specs.List.{flat_map}
use Rattle.std.specs.Prelude.{find}
use Rattle.sil_types.specs.Typing.Builtins.{at_widths, is_named}
use Rattle.count_machine_ready.proofs.builtins.named_among.Given as goal

abbrev pub invariant-loop-operation : goal.invariant-loop-operation
invariant-loop-operation l = find (is_named l.name) (flat_map at_widths l.operations)
    ≡ find (is_named l.name) (flat_map at_widths (drop l.operation-index l.operations))
