-- The functions of an accepted module.
use Rattle.std.specs.Prelude.{ℕ}
use Rattle.sil_ast.specs.declared.function.Function.{Function}
use Rattle.sil_ast.specs.declared.module.Module.{Module}
use Rattle.sil_verifier_values.specs.sil_types_declarations.TypeDefinitions.Declarations.{Declarations, declarations_of}
use Rattle.sil_verifier_trails.specs.RunTrails.inner.RunTrails.{IsEnteredOnce}
use Rattle.sil_verifier_values.specs.sil_verifier_accepted.AcceptedModules.Values.{IsBody, IsCleanIn}
use Rattle.sil_verifier_values.specs.sil_verifier_accepted.AcceptedModules.inner.Checked.{IsVerified}

-- no rule on its values is broken, and no edge goes back to its entry block
pub record IsAcceptedIn (d : Declarations) (f : Function) : Type 0 where
  pub clean : IsCleanIn d f
  pub once : IsEnteredOnce f

-- so is each function with a body of a module that is in numbered form and accepted
abbrev pub AreAccepted : Type 0
AreAccepted = (m : Module) (n : ℕ) (f : Function) → IsVerified m → IsBody m n f → IsAcceptedIn (declarations_of m) f
