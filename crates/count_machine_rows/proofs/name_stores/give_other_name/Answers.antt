use Rattle.std.proofs.Common.{Bool, cond, subst, sym}
use Rattle.count_machine_model.specs.MachineSteps.Naming.{leaf_unnamed}
use Rattle.count_machine_model.specs.MachineSteps.Places.{named_anew}
use Rattle.count_machine_model.specs.MachineSteps.Views.{MachineView}
use Rattle.count_machine_state.specs.GoingOn.{GoesOver}
use Rattle.count_machine_state.specs.Went.{HasGone}
use Rattle.count_machine_rows.proofs.name_stores.give_other_name.Goals as goal

pub returns : goal.returns
returns c = λ fr rest h.
    let st = c.args.machine.now in
    let Named : MachineView → Type 0 = λ it.
    GoesOver it fr (λ next. named_anew it fr next c.args.storage c.args.place c.args.leaf it.heap) c.give_name-2.result c.give_name-2.new.machine in
    subst (λ (first : Bool). HasGone (named_anew st fr rest c.args.storage c.args.place c.args.leaf (cond first st.heap
    (leaf_unnamed c.args.storage c.args.held st.heap))) c.give_name-2.result c.give_name-2.new.machine)
    (sym c.if-first.false) (subst Named c.unname.ensures (c.give_name-2.ensures fr) rest h)
