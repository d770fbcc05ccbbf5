use Rattle.std.proofs.Common.{refl}
use Rattle.count_machine_model.specs.MachineSteps.Views.{MachineView}
use Rattle.count_machine_state.proofs.MoreReferences.{retained_more, stopped_more}
use Rattle.count_machine_state.proofs.retaining.retain_all.Goals as goal

pub loop-leaf-preserved : goal.loop-leaf-preserved
loop-leaf-preserved c = λ st e.
    let here : MachineView = record st { heap = c.loop-leaf.heap } in
    retained_more c.args.leaves.now c.loop-leaf.leaf-index _ here _ _ c.loop-leaf-test.true (c.loop-leaf.invariant st e) (c.in_default.ensures here refl)

pub returns-in-Err : goal.returns-in-Err
returns-in-Err c = λ st e.
    let here : MachineView = record st { heap = c.loop-leaf.heap } in
    stopped_more c.args.leaves.now c.loop-leaf.leaf-index _ here _ _ c.in-Err.stop c.loop-leaf-test.true (c.loop-leaf.invariant st e) (c.in-Err.ensures here refl)
