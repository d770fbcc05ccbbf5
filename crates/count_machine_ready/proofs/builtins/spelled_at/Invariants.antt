use Rattle.std.proofs.Common.{◌≡◌, drop, map}
use Rattle.std.specs.Prelude.{find}
use Rattle.sil_types.specs.Typing.Builtins.{at_width}
use Rattle.count_machine_ready.specs.inner.BuiltinsTold.{is_spelled_by}
use Rattle.count_machine_ready.proofs.builtins.spelled_at.Given as goal

abbrev pub invariant-loop-width : goal.invariant-loop-width
invariant-loop-width l = find (is_spelled_by l.text) (map (at_width l.operation) l.widths)
    ≡ find (is_spelled_by l.text) (map (at_width l.operation) (drop l.width-index l.widths))
