-- What a borrow keeps for the other copies and values.
use Rattle.copy_pairing_model.specs.Copies.{IsCopy}
use Rattle.copy_pairing_model.specs.Optimised.{facts_of}
use Rattle.copy_pairing_model.specs.Removable.{IsBorrowable}
use Rattle.sil_ast.specs.declared.function.Function.{Function}
use Rattle.sil_ast.specs.declared.module.Module.{Module}
use Rattle.sil_ast.specs.declared.place.PointId.{PointId}
use Rattle.sil_ast.specs.declared.place.ValueId.{ValueId}
use Rattle.sil_types_declarations.specs.TypeDefinitions.Declarations.{declarations_of}
use Rattle.copy_pairing_acceptance.proofs.LentFunctions.Clean.{lent_ready}
use Rattle.copy_pairing_acceptance.proofs.LentFunctions.Ready.{Ready}
use Rattle.copy_pairing_acceptance.specs.RewritingOrder.inner.Laws.{IsVerifiedIn, LendingKeepsBorrowable, LendingMakesNoCopy}
use Rattle.copy_pairing_acceptance.proofs.RewritingOrder.LentBack.{copy_back}
use Rattle.copy_pairing_acceptance.proofs.RewritingOrder.LentForth.{borrowable_alike}

ready : (m : Module) (f : Function) (p : PointId) (c v : ValueId) → IsVerifiedIn m f → IsCopy f p c v → IsBorrowable (facts_of m f) f c v → Ready (declarations_of m) f p c v
ready m f p c v in_module copy b = lent_ready m in_module.number f p c v in_module.verified in_module.there copy b

pub keeps_borrowable : LendingKeepsBorrowable
keeps_borrowable m f p q c v e w in_module copy b here = borrowable_alike (declarations_of m) f p c v (ready m f p c v in_module copy b) q e w here

pub makes_no_copy : LendingMakesNoCopy
makes_no_copy f q c e w here = copy_back c f q e w here
