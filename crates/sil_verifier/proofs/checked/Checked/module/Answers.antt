use Rattle.std.proofs.Common.{◌≡◌, subst}
use Rattle.sil_verifier_accepted.specs.AcceptedModules.inner.Checked.{IsVerified}
use Rattle.sil_verifier.proofs.checked.Checked.module.Goals as goal

pub returns-clause-runs : goal.returns-clause-runs
returns-clause-runs c = c.no_outcome_faults.ensures c.args.self.now (subst IsVerified c.self.view_is c.self.invariant.verified)
