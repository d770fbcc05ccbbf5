use Rattle.std.proofs.Common.{◌≡◌, ◌∙◌, [], subst, arith}
use Rattle.count_machine_model.specs.MachineSteps.Operands.{put}
use Rattle.count_machine_model.specs.MachineSteps.Places.{all_contents}
use Rattle.count_machine_model.specs.MachineSteps.Views.{MachineView}
use Rattle.count_machine_state.specs.contracts.machine.Machine.{the_view}
use Rattle.count_machine_state.proofs.Putting.{put_laid_in}
use Rattle.count_machine_state.proofs.machine.Machine.put_group.Goals as goal

pub returns : goal.returns
returns c =
    let fr = c.args.frame.now in
    let laid = rw (c.deref_mut.ensures.value, c.deref-2.ensures.value, c.in_ok-gather_group.ensures, c.deref.ensures.value) at c.lay_over.ensures in
    let here = c.put_there.ensures ∙ put_laid_in c.self.inside.leaves (the_view c.self.inside) fr c.args.to _ c.lay_over.new.leaves c.saturating_add.result c.saturating_add.ensures (omega arith)
    (omega arith) laid in
    subst (λ (st : MachineView). c.put_there.new.self ≡ put st fr c.args.to (all_contents st fr [] c.args.operands.now)) c.self.view_is here
