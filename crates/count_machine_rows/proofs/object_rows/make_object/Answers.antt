use Rattle.std.proofs.Common.{◌≡◌, ℕ, [], ◌∷◌, ap, subst}
use Rattle.count_machine_model.specs.count_heap.HeapModel.HeapCalls.{allocated_in}
use Rattle.count_machine_model.specs.MachineSteps.Operands.{put}
use Rattle.count_machine_model.specs.MachineSteps.Places.{made_object}
use Rattle.count_machine_model.specs.MachineSteps.Views.{MachineView}
use Rattle.holder_model_values.specs.declared.run_values.leaf.Leaf.TheVariants as leaf
use Rattle.sil_ast.specs.declared.place.ObjectId.{ObjectId}
use Rattle.count_machine_state.specs.GoingOn.{GoesOn}
use Rattle.count_machine_rows.proofs.object_rows.make_object.Goals as goal

pub returns : goal.returns
returns c = λ ready bound rest h.
    let st = c.args.machine.now in
    let fr = c.args.frame.now in
    let with_object : MachineView = record st { heap = allocated_in st.heap c.args.class } in
    let GoesBy : MachineView → ObjectId → Type 0 = λ it o. GoesOn it fr (put it fr c.args.to (leaf.Object o ∷ [])) c.give_leaf.result c.give_leaf.new.machine in
    let number : c.in_ok-object.object ≡ made_object st fr rest c.args.class = ap (λ (n : ℕ). let o : ObjectId = record { 0 = n } in o) c.in_ok-object.ensures.number in
    let made = subst (λ it. GoesBy it c.in_ok-object.object) c.in_ok-object.ensures.heap c.give_leaf.ensures in
    let numbered = subst (λ o. GoesBy with_object o) number made in
    rw (← c.if-not-is_class.ensures) (numbered rest h)
