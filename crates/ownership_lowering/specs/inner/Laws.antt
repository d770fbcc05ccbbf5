-- What lowering makes of an accepted module.
use Rattle.std.specs.Prelude.{◌≡◌}
use Rattle.sil_ast.specs.declared.module.Module.{Module}
use Rattle.ownership_lowering_laws.specs.ownership_lowering_model.LoweredModules.{lowered}
use Rattle.sil_verifier.specs.holder_model.RunTyping.Runnable.{IsRunnable}
use Rattle.sil_verifier.specs.sil_verifier_accepted.AcceptedModules.inner.Checked.{IsVerified}
use Rattle.sil_types_declarations.specs.TypeDefinitions.Declarations.{declarations_of}

-- it can be run, and declares what the module does
abbrev pub AcceptedLowersRunnable : Type 0
AcceptedLowersRunnable = (m : Module) → IsVerified m → IsRunnable (lowered m) × (declarations_of (lowered m) ≡ declarations_of m)
