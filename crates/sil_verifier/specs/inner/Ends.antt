-- How the verifier ends with a module that it doesn't accept.
use Rattle.std.specs.Prelude.{◌≡◌}
use Rattle.sil_ast.specs.declared.module.Module.{Module}
use Rattle.sil_verifier_accepted.specs.AcceptedModules.Findings.{Finding, Refusal, limit}
use Rattle.sil_verifier.specs.inner.Reports.{Reported}
use Rattle.sil_verifier.specs.declared.refusal.Refusal as declared
use Rattle.sil_verifier.specs.declared.verifier.VerifyEnd.{VerifyEnd}
use Rattle.sil_verifier.specs.declared.verifier.VerifyEnd.TheVariants as end

-- the refusal reports the first that is wrong
pub record IsReported (m : Module) (r : declared.Refusal) : Type 0 where
  pub found : Finding
  pub first : Refusal m found
  pub reported : Reported m found r

-- the module that was handed in, and the first that is wrong with it; or memory ran out
abbrev pub IsVerifyEnd : Module → VerifyEnd → Type 0
IsVerifyEnd m (end.Refused n r) = (n ≡ m) × IsReported m r
IsVerifyEnd m (end.Limit n what) = (n ≡ m) × Refusal m (limit what)
IsVerifyEnd m (end.Memory n) = n ≡ m
