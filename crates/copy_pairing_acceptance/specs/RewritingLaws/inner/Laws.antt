-- A verified module stays verified where copies that can go are rewritten.
use Rattle.std.specs.Prelude.{◌≡◌, ℕ}
use Rattle.copy_pairing_model.specs.Optimised.{IsOptimised, Rewrites}
use Rattle.sil_ast.specs.declared.module.Module.{Module}
use Rattle.sil_ast.specs.declared.place.PointId.{PointId}
use Rattle.sil_verifier_trails.specs.sil_verifier_accepted.AcceptedModules.inner.Checked.{IsVerified, IsVerifiedWith}
use Rattle.sil_types_declarations.specs.TypeDefinitions.Declarations.{Declarations, declarations_of}

-- the other module is verified too, and declares the same
pub record IsVerifiedAs (m next : Module) : Type 0 where
  pub verified : IsVerified next
  pub declarations : declarations_of next ≡ declarations_of m
  pub table : (d : Declarations) → IsVerifiedWith m d → IsVerifiedWith next d

-- where a copy is rewritten
abbrev pub RewritingKeepsVerified : Type 0
RewritingKeepsVerified = (m : Module) (n : ℕ) (p : PointId) (next : Module) → IsVerified m → Rewrites m n p next → IsVerifiedAs m next

-- where copies are rewritten until none can go
abbrev pub OptimisedIsVerified : Type 0
OptimisedIsVerified = (m last : Module) → IsVerified m → IsOptimised m last → IsVerifiedAs m last
