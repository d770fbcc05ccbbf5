use Rattle.std.proofs.Common.{◌≡◌, ℕ, ◌+◌, length, sym, ap, ◌∙◌, subst}
use Rattle.sil_cfg.specs.Flow.{numbered}
use Rattle.number_tables.specs.PathLists.inner.Lists.{list_at}
use Rattle.reach_engine.specs.declared.scan.Step.{Step}
use Rattle.reach_engine.specs.inner.Bits.{bit_in}
use Rattle.reach_engine.specs.inner.Columns.{AllMoved, Has, cell}
use Rattle.reach_engine.proofs.RowsAreExact.{whole_again}
use Rattle.reach_engine_marks.specs.KeptSubjects.inner.Broken.{AreMarked}
use Rattle.reach_engine_marks.specs.KeptSubjects.inner.Settled.{subject_settled}
use Rattle.reach_engine_marks.proofs.KeptSubjects.BlocksBroken.{block_marked}
use Rattle.reach_engine_marks.proofs.kept_subjects.blocks.mark_block.Goals as goal

pub rows_of-requires-clause-width : goal.rows_of-requires-clause-width
rows_of-requires-clause-width c = c.words_for-width.ensures.least c.args.map.now.width c.requires.width

pub returns : goal.returns
returns c =
    let first : ℕ = c.args.family.now.first in
    let count : ℕ = c.args.family.now.count in
    let width : ℕ = c.words_for-width.result in
    let f : ℕ → ℕ → ℕ → Step = λ u. subject_settled (list_at c.args.family.now.entries.now) (first + u) in
    let long : length c.pass_items.new.bundle ≡ c.in_ok-bundle.bundle.len = c.pass_items.auto.bundle ∙ c.as_mut_slice.ensures.len in
    let same : c.as_slice.result.now ≡ c.pass_items.new.bundle = c.as_slice.ensures.value ∙ sym (whole_again c.in_ok-bundle.bundle.len c.pass_items.new.bundle _ long) in
    block_marked (numbered c.args.g.now) f c.args.map.now.width width c.args.block.0 first count c.args.map.now.words
    c.as_mut_slice.result.now c.pass_items.new.bundle c.as_mut_slice-2.result.now c.pass_items.new.bad c.words_for-width.ensures.fits
    (λ s u ls lt. ap (λ xs. bit_in xs (cell width s u)) c.as_mut_slice.ensures.value ∙ c.in_ok-bundle.ensures.rows s u ls lt)
    (subst (λ xs. AllMoved f 3 count width xs c.as_mut_slice.result.now c.pass_items.new.bundle c.as_mut_slice-2.result.now c.pass_items.new.bad)
    c.items_of.ensures.items c.pass_items.ensures.moved)
    c.args.broken.now c.mark_bundle.new.broken
    (subst (λ xs. AreMarked first count (Has xs width 2) c.args.broken.now c.mark_bundle.new.broken) same c.mark_bundle.ensures)
