use Rattle.sil_verifier.proofs.verifier.verify.Goals as goal

pub returns-in-Ok-check_values-clause-runs : goal.returns-in-Ok-check_values-clause-runs
returns-in-Ok-check_values-clause-runs c = c.of_verified.ensures.runs
