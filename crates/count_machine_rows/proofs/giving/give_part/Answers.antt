use Rattle.std.proofs.Common.{◌≡◌, ◌∙◌, ◌+◌, ◌-◌, List, min, drop, take, subst, sym, arith, ap}
use Rattle.count_machine_model.specs.MachineSteps.Operands.{put}
use Rattle.holder_model_values.specs.declared.run_values.leaf.Leaf.{Leaf}
use Rattle.count_machine_state.specs.GoingOn.{GoesOn}
use Rattle.count_machine_leaves.proofs.LeafWindows.Windows.{part_of_window}
use Rattle.count_machine_rows.proofs.giving.give_part.Goals as goal

pub returns : goal.returns
returns c =
    let st = c.args.machine.now in
    let fr = c.args.frame.now in
    let l = c.args.operand in
    let from = c.args.from in
    let size = c.args.to.size in
    let part : take size (drop from (take l.size (drop (fr.leaves + l.at) st.leaves))) ≡ take c.min.result (drop (fr.leaves + c.in-Some.at) st.leaves) =
    let at : fr.leaves + l.at + from ≡ fr.leaves + c.in-Some.at = omega (arith, c.in-Some.ensures) in
    let count : min size (l.size - from) ≡ c.min.result = omega arith in
    part_of_window (fr.leaves + l.at) l.size from size st.leaves
    ∙ ap (λ n. take n (drop (fr.leaves + l.at + from) st.leaves)) count ∙ ap (λ n. take c.min.result (drop n st.leaves)) at in
    subst (λ (ls : List Leaf). GoesOn st fr (put st fr c.args.to ls) c.give_copy.result c.give_copy.new.machine) (sym part) c.give_copy.ensures
