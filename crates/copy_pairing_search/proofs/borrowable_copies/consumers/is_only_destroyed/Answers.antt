use Rattle.std.proofs.Common.{◌≡◌, ◌≤◌, sym, ap, ◌∙◌, arith}
use Rattle.sil_cfg.specs.Layout.{item_count}
use Rattle.ownership_kinds_chains.specs.OwnershipMarks.Known.{marks_at}
use Rattle.copy_pairing_search.proofs.BorrowableCopies.EndedItems.{all_destroys, is_kept, kept_more, one_consumes}
use Rattle.copy_pairing_search.proofs.borrowable_copies.consumers.is_only_destroyed.Goals as goal

pub loop-i-init : goal.loop-i-init
loop-i-init c = λ i item lt. absurd (omega arith)

pub returns-then-not-is_kept : goal.returns-then-not-is_kept
returns-then-not-is_kept c = λ count facts by.
    let told : c.is_kept.result ≡ is_kept c.args.f.now c.args.value c.item.result (marks_at c.args.k.now c.loop-i.i) =
    c.is_kept.ensures ∙ ap (is_kept c.args.f.now c.args.value c.item.result) c.marks.ensures in
    one_consumes c.args.f.now c.args.g.now c.requires c.args.k.now c.args.value count facts by c.loop-i.i c.item.result c.item.ensures (sym told ∙ c.if-not-is_kept.true)

pub loop-i-preserved : goal.loop-i-preserved
loop-i-preserved c =
    let told : c.is_kept.result ≡ is_kept c.args.f.now c.args.value c.item.result (marks_at c.args.k.now c.loop-i.i) =
    c.is_kept.ensures ∙ ap (is_kept c.args.f.now c.args.value c.item.result) c.marks.ensures in
    kept_more c.args.f.now c.args.g.now c.args.k.now c.args.value c.loop-i.i c.item.result c.loop-i.invariant c.item.ensures (sym told ∙ c.if-not-is_kept.false)

pub returns : goal.returns
returns c = λ count facts by.
    let end : item_count c.args.g.now ≤ c.loop-i.i = omega arith in
    all_destroys c.args.f.now c.args.g.now c.requires c.args.k.now c.args.value count facts by c.loop-i.i end c.loop-i.invariant
