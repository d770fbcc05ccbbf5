-- A rewriting keeps a module in numbered form and typed.
use Rattle.std.specs.Prelude.{◌≡◌, ℕ}
use Rattle.copy_pairing_model.specs.Optimised.{Rewrites}
use Rattle.numbered_form.specs.inner.NumberedForm.{IsNumbered}
use Rattle.sil_ast.specs.declared.module.Module.{Module}
use Rattle.sil_ast.specs.declared.place.PointId.{PointId}
use Rattle.sil_verifier_trails.specs.sil_verifier_accepted.AcceptedModules.Refusals.{HasTypes}
use Rattle.sil_types_declarations.specs.TypeDefinitions.Declarations.{declarations_of}

-- the other module is typed and in numbered form too, and declares the same
pub record IsTypedAs (m next : Module) : Type 0 where
  pub numbered : IsNumbered next
  pub types : HasTypes next
  pub declarations : declarations_of next ≡ declarations_of m

-- where a copy of a typed module in numbered form is rewritten, it stays typed and in numbered form
abbrev pub RewritingKeepsTypes : Type 0
RewritingKeepsTypes = (m : Module) (n : ℕ) (p : PointId) (next : Module) → IsNumbered m → HasTypes m → Rewrites m n p next → IsTypedAs m next
