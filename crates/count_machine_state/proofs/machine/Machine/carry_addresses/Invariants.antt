use Rattle.std.proofs.Common.{◌≡◌, take}
use Rattle.count_machine_model.specs.MachineSteps.Calling.{addresses_carried}
use Rattle.count_machine_state.proofs.machine.Machine.carry_addresses.Given as goal

abbrev pub invariant-loop-carry : goal.invariant-loop-carry
invariant-loop-carry l = l.self ≡ addresses_carried l.initial.self l.from l.to (take l.carry-index l.addresses)
