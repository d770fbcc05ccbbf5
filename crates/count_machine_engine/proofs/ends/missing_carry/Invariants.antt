use Rattle.std.proofs.Common.{◌≡◌, drop, map}
use Rattle.std.specs.Prelude.{find}
use Rattle.count_machine_model.specs.MachineSteps.Ends.{carried_value}
use Rattle.count_machine_model.specs.MachineSteps.Operands.{is_missing}
use Rattle.count_machine_engine.proofs.ends.missing_carry.Given as goal

abbrev pub invariant-loop-carry : goal.invariant-loop-carry
invariant-loop-carry l =
    find (is_missing l.machine l.frame) (map carried_value (drop l.carry-index l.values)) ≡ find (is_missing l.machine l.frame) (map carried_value l.values)
