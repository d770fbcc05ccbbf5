-- The law of moved values.
use Rattle.std.specs.Prelude.{◌≡◌, ℕ, Some, None, slice_get}
use Rattle.sil_ast.specs.declared.function.Function.{Function}
use Rattle.sil_ast.specs.declared.module.Module.{Module}
use Rattle.sil_ast.specs.declared.place.PointId.{PointId}
use Rattle.sil_ast.specs.declared.place.ValueId.{ValueId}
use Rattle.sil_types_declarations.specs.TypeDefinitions.Declarations.{Declarations, declarations_of}
use Rattle.reach_engine_marks.specs.PathChecks.First.{IsFirst}
use Rattle.value_availability.specs.Accesses.{accesses_of}
use Rattle.sil_verifier_trails.specs.ownership_kinds.Statics.{HasKinds}
use Rattle.sil_verifier_trails.specs.sil_verifier_accepted.AcceptedModules.Shown.{lives_in, scopes_in}
use Rattle.sil_verifier_trails.specs.sil_verifier_accepted.AcceptedModules.inner.Checked.{IsVerified}
use Rattle.copy_pairing_model.specs.Copies.{IsCopy}
use Rattle.copy_pairing_model.specs.Optimised.{facts_of}
use Rattle.copy_pairing_model.specs.Removable.{IsMovable}
use Rattle.copy_pairing_model.specs.Rewritten.{moved}

-- no rule on the values of the function is broken, but for those on memory: no walk shows an operand before its definition, no rule on kinds
-- is broken, and no walk breaks a life or a scope
pub record AreValuesClean (d : Declarations) (f : Function) : Type 0 where
  pub defined : IsFirst f (accesses_of f) None
  pub kinds : HasKinds d f
  pub lives : IsFirst f (lives_in d f) None
  pub scopes : IsFirst f (scopes_in d f) None

-- an accepted function keeps these rules where a copy that can become a move does
abbrev pub MovedValuesAreClean : Type 0
MovedValuesAreClean = (m : Module) (n : ℕ) (f : Function) (p : PointId) (c v : ValueId) → IsVerified m → slice_get m.functions n ≡ Some f → IsCopy f p c v
    → (h : IsMovable (facts_of m f) f p c v) → AreValuesClean (declarations_of m) (moved p h.last f)
