-- A function whose copy is a move keeps the rules on values, memory aside.
use Rattle.copy_pairing_acceptance.specs.MovedFunctions.inner.Laws.{MovedValuesAreClean}
use Rattle.copy_pairing_acceptance.proofs.MovedFunctions.KindsKept.{kinds_kept}
use Rattle.copy_pairing_acceptance.proofs.MovedFunctions.Lives.{none_of_lives}
use Rattle.copy_pairing_acceptance.proofs.MovedFunctions.Scopes.{none_of_scopes}
use Rattle.copy_pairing_acceptance.proofs.MovedFunctions.Split.{split}
use Rattle.copy_pairing_acceptance.proofs.MovedFunctions.Undefined.{none_undefined}

pub moved_clean : MovedValuesAreClean
moved_clean m n f p c v verified there copy h =
    let s = split f p h.last c v copy h.next.behind h.next.destroyed in
    record {
      defined = none_undefined m n f verified there s;
      kinds = kinds_kept m n f verified there p c v h s;
      lives = none_of_lives m n f verified there p c v h s;
      scopes = λ u r walk point shown. none_of_scopes m n f verified there p c v h s u r walk point shown.item shown.at;
    }
