use Rattle.std.proofs.Common.{◌≡◌, true, false}
use Rattle.ownership_kinds_chains.specs.OwnershipChains.Facts.{known_or}
use Rattle.ownership_kinds_chains.specs.declared.ownership_marks.mark.MarkSort.TheVariants.{End}
use Rattle.copy_pairing_search.proofs.BorrowableCopies.BorrowedCopies.{one_free}
use Rattle.copy_pairing_search.proofs.borrowable_copies.answers.can_be_borrow.Goals as goal

pub returns-then-held : goal.returns-then-held
returns-then-held c = λ count facts by w free. (
  λ t. absurd (let wrong : false ≡ true = t in cc),
  λ h.
      let not_so : c.args.held ≡ false = free.1 ((one_free facts c.args.f.now End (known_or facts w).bases c.args.value).1 h.bases_stay) in
      let so : c.args.held ≡ true = c.if-held.true in
      absurd (cc),
)

pub returns : goal.returns
returns c = λ count facts by w free. (
  λ t. record {
    destroyed = (c.is_only_destroyed.ensures count facts by).0 t;
    bases_stay = (one_free facts c.args.f.now End (known_or facts w).bases c.args.value).0 (free.0 c.if-held.false);
  },
  λ h. (c.is_only_destroyed.ensures count facts by).1 h.destroyed,
)
