use Rattle.sil_verifier.proofs.checked.Checked.of_verified.Goals as goal

pub returns-clause-runs : goal.returns-clause-runs
returns-clause-runs c = c.no_outcome_faults.ensures c.args.m c.requires.verified
