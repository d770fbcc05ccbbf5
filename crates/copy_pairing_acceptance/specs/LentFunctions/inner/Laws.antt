-- What holds of the values of a function in which a copy is lent.
use Rattle.std.specs.Prelude.{◌≡◌, ℕ, None, Some, slice_get}
use Rattle.copy_pairing_model.specs.Copies.{IsCopy}
use Rattle.copy_pairing_model.specs.Optimised.{facts_of}
use Rattle.copy_pairing_model.specs.Removable.{IsBorrowable}
use Rattle.copy_pairing_model.specs.Rewritten.{lent}
use Rattle.sil_verifier_trails.specs.ownership_kinds.Statics.{HasKinds}
use Rattle.reach_engine_marks.specs.PathChecks.First.{IsFirst}
use Rattle.sil_ast.specs.declared.function.Function.{Function}
use Rattle.sil_ast.specs.declared.module.Module.{Module}
use Rattle.sil_ast.specs.declared.place.PointId.{PointId}
use Rattle.sil_ast.specs.declared.place.ValueId.{ValueId}
use Rattle.sil_verifier_trails.specs.sil_verifier_accepted.AcceptedModules.Shown.{lives_in, scopes_in}
use Rattle.sil_verifier_trails.specs.sil_verifier_accepted.AcceptedModules.inner.Checked.{IsVerified}
use Rattle.sil_types_declarations.specs.TypeDefinitions.Declarations.{Declarations, declarations_of}
use Rattle.value_availability.specs.Accesses.{accesses_of}

-- the function keeps 301 to 505: nothing is shown of its values but what breaks a rule on memory
pub record KeepsValueRules (d : Declarations) (f : Function) : Type 0 where
  -- 301
  pub available : IsFirst f (accesses_of f) None
  -- 302 to 305
  pub kinds : HasKinds d f
  -- 401 to 404
  pub lives : IsFirst f (lives_in d f) None
  -- 501 to 505
  pub scopes : IsFirst f (scopes_in d f) None

-- where a copy of a function of an accepted module can be a borrow, the function in which it is one keeps these rules
abbrev pub LentValuesAreClean : Type 0
LentValuesAreClean = (m : Module) (n : ℕ) (f : Function) (p : PointId) (c v : ValueId) → IsVerified m → slice_get m.functions n ≡ Some f → IsCopy f p c v
    → IsBorrowable (facts_of m f) f c v → KeepsValueRules (declarations_of m) (lent c f)
