use Rattle.std.proofs.Common.{List, ℕ, ◌+◌, [], ◌∷◌, subst, sym, ◌∙◌, get_or, take}
use Rattle.std.proofs.lemmas.List.{take_more}
use Rattle.number_tables.specs.PathLists.inner.Lists.{list_at}
use Rattle.reach_engine.specs.declared.scan.Step.{Step}
use Rattle.reach_engine.specs.inner.Columns.{AllMoved}
use Rattle.reach_engine.proofs.SubjectsMoved.{AllMoved_then}
use Rattle.reach_engine_marks.specs.KeptSubjects.inner.Settled.{subject_settled}
use Rattle.reach_engine_marks.proofs.kept_subjects.blocks.pass_items.Goals as goal

pub loop-item-preserved : goal.loop-item-preserved
loop-item-preserved c = record {
  size = c.move_all.auto.bundle ∙ c.loop-item.invariant.size;
  bad_size = c.move_all.auto.bad ∙ c.loop-item.invariant.bad_size;
  moved =
      let f : ℕ → ℕ → ℕ → Step = λ u. subject_settled (list_at c.args.family.now.entries.now) (c.args.family.now.first + u) in
      let P : List ℕ → Type 0 = λ xs. AllMoved f 3 c.args.family.now.count c.args.width xs c.args.bundle.now c.move_all.new.bundle c.args.bad.now c.move_all.new.bad in
      subst P (sym (take_more c.args.items.now c.loop-item.item-index 0 c.loop-item-test.true))
      (AllMoved_then f 3 c.args.family.now.count c.args.width
      (take c.loop-item.item-index c.args.items.now) (get_or c.args.items.now c.loop-item.item-index 0 ∷ [])
      c.args.bundle.now c.loop-item.bundle c.move_all.new.bundle c.args.bad.now c.loop-item.bad c.move_all.new.bad c.loop-item.invariant.size c.loop-item.invariant.moved c.move_all.ensures);
}
