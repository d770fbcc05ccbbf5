use Rattle.std.proofs.Common.{ap, ◌∙◌}
use Rattle.std.proofs.lemmas.Result.{IfOk-weaker}
use Rattle.ownership_kinds_chains.specs.declared.ownership_chains.facts.Facts.{Facts}
use Rattle.copy_pairing_search.proofs.BorrowableCopies.BorrowedCopies.{borrowable_by, not_borrowable}
use Rattle.copy_pairing_search.proofs.borrowable_copies.lending.is_borrowable.Goals as goal

pub returns-then-not-is_only_destroyed : goal.returns-then-not-is_only_destroyed
returns-then-not-is_only_destroyed c = λ count facts by.
    not_borrowable facts c.args.f.now c.args.copied.value c.args.copied.operand c.is_only_destroyed.result c.if-not-is_only_destroyed.true (c.is_only_destroyed.ensures count facts by)

pub returns : goal.returns
returns c = IfOk-weaker c.are_free_at.result _ _
    (λ r h count facts by. borrowable_by facts c.args.f.now c.args.copied.value c.args.copied.operand c.bases.result.now
    (c.bases.ensures ∙ ap (λ (x : Facts). x.bases) (by.facts_are c.args.copied.operand)) c.is_only_destroyed.result c.if-not-is_only_destroyed.false
    (c.is_only_destroyed.ensures count facts by) r (h count facts by))
    c.are_free_at.ensures
