use Rattle.std.proofs.Common.{◌≡◌, ◌+◌, ◌==◌, true, ◌&&◌, length, ap, arith}
use Rattle.std.specs.Prelude.{nat_le}
use Rattle.std.proofs.lemmas.Bool.Decides.{nat_tests}
use Rattle.count_machine_model.specs.MachineSteps.Views.{MachineView}
use Rattle.count_machine_state.proofs.GoingOn.{goes_on_in}
use Rattle.count_machine_state.proofs.machine.Machine.remove_open_slot.Goals as goal

pub returns : goal.returns
returns c = λ rest h.
    let st = c.args.self.now in
    let slots : length c.self.inside.slots.items ≡ length st.slots = ap (λ (it : MachineView). length it.slots) c.self.view_is in
    let newest : c.args.index + 1 ≡ length st.slots = omega arith in
    let test : c.args.index + 1 == length st.slots && nat_le c.args.frame.now.slots c.args.index ≡ true = grind (arith, nat_tests, newest, c.if-index-frame.false) in
    rw (c.in-Some.is, test) (goes_on_in _ _ _ _ _ c.cut_slots.ensures (c.go_on.ensures c.args.frame.now) rest h)
