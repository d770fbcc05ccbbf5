use Rattle.std.specs.Prelude.{◌≡◌, length}
use Rattle.copy_pairing_search.specs.BorrowableCopies.inner.Together.{AreCopies}
use Rattle.copy_pairing_search.proofs.BorrowableCopies.CopiesTold.{AreTold}
use Rattle.copy_pairing_search.proofs.borrowable_copies.together.copied_values.Given as goal

abbrev pub invariant-loop-i : goal.invariant-loop-i
invariant-loop-i l = record {
  size : length l.copied.items ≡ length l.k.table;
  copies : AreCopies l.f l.copied.items;
  told : AreTold l.g l.f l.i l.copied.items;
}
