-- What is known of an accepted module that was checked.
use Rattle.sil_ast.specs.declared.module.Module.{Module}
use Rattle.numbered_form.specs.inner.NumberedForm.{IsNumbered}
use Rattle.ownership_kinds.specs.sil_types_declarations.TypeDefinitions.Declarations.{Declarations}
use Rattle.ownership_kinds.specs.sil_types_declarations.TypeDefinitions.Rules.{AreDeclarationsOf}
use Rattle.sil_verifier_accepted.specs.AcceptedModules.Findings.{Accepted}

-- it is in numbered form and accepted
pub record IsVerified (m : Module) : Type 0 where
  pub numbered : IsNumbered m
  pub accepted : Accepted m

-- and the table is its own
pub record IsVerifiedWith (m : Module) (table : Declarations) : Type 0 where
  pub verified : IsVerified m
  pub declarations : AreDeclarationsOf table m
