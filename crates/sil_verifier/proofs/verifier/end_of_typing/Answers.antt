-- The first fault of typing is the first of all that is wrong.
use Rattle.std.proofs.Common.{refl}
use Rattle.sil_verifier_accepted.specs.AcceptedModules.Findings.{typing}
use Rattle.sil_verifier.proofs.Stages.{first_typing}
use Rattle.sil_verifier.proofs.verifier.end_of_typing.Goals as goal

pub returns-in-Some : goal.returns-in-Some
returns-in-Some c = (
  refl,
  record {
    found = typing c.args.fault;
    first = first_typing c.args.m c.args.fault c.requires.refusal.0 c.requires.refusal.1;
    reported = c.in-Some.ensures;
  },
)
