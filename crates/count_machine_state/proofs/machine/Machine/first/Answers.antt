use Rattle.std.proofs.Common.{◌∙◌, ap, arith}
use Rattle.count_machine_model.specs.MachineSteps.Operands.{contents, first_leaf}
use Rattle.count_machine_model.specs.MachineSteps.Views.{MachineView}
use Rattle.count_machine_leaves.proofs.LeafWindows.Windows.{first_saturated}
use Rattle.count_machine_state.proofs.machine.Machine.first.Goals as goal

pub returns : goal.returns
returns c =
    let read = rw c.deref.ensures.value at c.leaf_at.ensures in
    let first = first_saturated c.self.inside.leaves.items c.saturating_add.result _ c.args.local.size c.saturating_add.ensures (omega arith) (omega arith) in
    read ∙ first ∙ ap (λ (st : MachineView). first_leaf (contents st c.args.frame.now c.args.local)) c.self.view_is
