use Rattle.std.proofs.Common.{◌≡◌, map, take}
use Rattle.count_machine_model.specs.MachineSteps.Operands.{contents, int_among}
use Rattle.count_machine_state.proofs.machine.Machine.ints.Given as goal

abbrev pub invariant-loop-local : goal.invariant-loop-local
invariant-loop-local l = l.numbers ≡ map (λ x. int_among (contents l.self l.frame x)) (take l.local-index l.operands)
