use Rattle.std.proofs.Common.{arith}
use Rattle.std.proofs.lemmas.Grind.{common_steps}
use Rattle.count_machine_state.proofs.CarriedLists.{carried-is}
use Rattle.count_machine_state.proofs.machine.Machine.carry_all.Goals as goal

pub returns : goal.returns
returns c =
    rw (carried-is c.args.self.now c.args.from.now c.args.to.now c.args.values.now, ← c.self.view_is) (grind (arith, common_steps))
