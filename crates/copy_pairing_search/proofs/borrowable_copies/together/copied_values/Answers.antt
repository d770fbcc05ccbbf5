use Rattle.std.proofs.Common.{◌≤◌, ◌+◌, length, sym, ap, ◌∙◌, subst, arith}
use Rattle.std.proofs.lemmas.List.{with_items_is}
use Rattle.sil_cfg.specs.Layout.{item_count}
use Rattle.copy_pairing_search.specs.BorrowableCopies.inner.Together.{AreCopies, with_copied}
use Rattle.copy_pairing_search.proofs.BorrowableCopies.CopiesTold.{AreTold, all_told, copies_more, size_kept, told_more}
use Rattle.copy_pairing_search.proofs.borrowable_copies.together.copied_values.Goals as goal

pub loop-i-preserved : goal.loop-i-preserved
loop-i-preserved c =
    let f = c.args.f.now in
    let g = c.args.g.now in
    let before = c.loop-i.copied.items in
    let copy = c.copy_of.result in
    let is =
    with_items_is c.loop-i.copied c.note_copied.new.copied (c.note_copied.auto.copied ∙ c.as_mut_slice.ensures.len) ∙ c.note_copied.ensures
    ∙ ap (with_copied copy) c.as_mut_slice.ensures.value in
    record {
      size = ap length is ∙ size_kept f before copy ∙ c.loop-i.invariant.size;
      copies = subst (AreCopies f) (sym is) (copies_more f before copy c.copy_of.ensures.some c.loop-i.invariant.copies);
      told = subst (AreTold g f (c.loop-i.i + 1)) (sym is)
          (told_more g f before c.loop-i.i c.item.result copy c.item.ensures c.copy_of.ensures.none c.copy_of.ensures.own c.loop-i.invariant.told);
    }

pub returns-clause-told : goal.returns-clause-told
returns-clause-told c =
    let end : item_count c.args.g.now ≤ c.loop-i.i = omega arith in
    all_told c.args.g.now c.args.f.now c.loop-i.copied.items (length c.args.k.now.table) c.requires.graph c.loop-i.invariant.size c.loop-i.i end c.loop-i.invariant.told
