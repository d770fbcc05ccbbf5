use Rattle.std.proofs.Common.{◌≡◌, ℕ, ◌+◌, List, Option, Vec, Global, ◌∙◌, refl, sym, ap, subst, take, Some, None}
use Rattle.std.proofs.lemmas.List.{with_items_is}
use Rattle.holder_model.specs.ModuleShapes.{case_place}
use Rattle.holder_model_values.specs.RunValues.Shapes.{shape_of}
use Rattle.count_machine_layouts.proofs.FrameLayouts.Lists.{further}
use Rattle.count_machine_ready.specs.inner.Bodies.{declared}
use Rattle.count_machine_ready.specs.inner.Cases.{AreByCase, noted}
use Rattle.count_machine_ready.proofs.Noting.{noted_more, same_more}
use Rattle.count_machine_ready.proofs.edges.edges_by_case.Goals as goal
use Rattle.count_machine_ready.proofs.edges.edges_by_case.Goals.{in-Some, in_default}

abbrev items_of : Vec (Option ℕ) Global → List (Option ℕ)
items_of v = v.items

pub loop-number-preserved : goal.loop-number-preserved
loop-number-preserved c =
    let s = shape_of (declared c.args.body.now) c.args.ty.now in
    let edges = c.args.edges.now in
    let j = c.loop-number.number in
    let e = c.index-edges-number.result in
    let more = further edges edges j e refl c.loop-number-test.true c.index-edges-number.is in
    let before = c.loop-number.chosen.items in
    elim c.match-case_named.branch [
      | in-Some w ↦
          let place_is : case_place s e.case_of ≡ Some w.in-Some.place = sym w.in-Some.ensures in
          let noted_is : c.match-case_named.chosen.items ≡ noted before w.in-Some.place j =
          ap items_of w.chosen-is ∙ with_items_is c.loop-number.chosen w.note.new.chosen (w.note.auto.chosen ∙ w.as_mut_slice.ensures.len)
          ∙ w.note.ensures ∙ ap (λ xs. noted xs w.in-Some.place j) w.as_mut_slice.ensures.value in
          subst (AreByCase s (take (j + 1) edges) c.args.count) (sym noted_is)
          (noted_more s edges c.args.count j e more c.loop-number-test.true before c.loop-number.invariant w.in-Some.place place_is)
      | in_default w ↦
          let place_is : case_place s e.case_of ≡ None = sym w.in_default.ensures in
          subst (λ v. AreByCase s (take (j + 1) edges) c.args.count (items_of v)) (sym w.chosen-is)
          (same_more s edges c.args.count j e more c.loop-number-test.true before c.loop-number.invariant place_is)
    ]
