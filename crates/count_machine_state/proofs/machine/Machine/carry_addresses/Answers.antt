use Rattle.std.proofs.Common.{sym}
use Rattle.count_machine_state.proofs.CarriedLists.{addresses_carried-more}
use Rattle.count_machine_state.proofs.machine.Machine.carry_addresses.Goals as goal

pub loop-carry-preserved : goal.loop-carry-preserved
loop-carry-preserved c =
    let more = addresses_carried-more c.args.self.now c.args.from.now c.args.to.now c.args.addresses.now c.loop-carry.carry-index _ c.loop-carry-test.true in
    rw (c.put_address.ensures, c.address-address.ensures, c.loop-carry.invariant) (sym more)
