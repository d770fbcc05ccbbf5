-- The first broken rule on values is the first of all that is wrong.
use Rattle.std.proofs.Common.{refl, subst}
use Rattle.sil_verifier_accepted.specs.AcceptedModules.Findings.{value}
use Rattle.sil_verifier_accepted.specs.AcceptedModules.Values.{IsValueRefusal}
use Rattle.sil_verifier.proofs.Stages.{first_value}
use Rattle.sil_verifier.proofs.verifier.end_of_values.Goals as goal

pub returns-in-Rule : goal.returns-in-Rule
returns-in-Rule c =
    let m = c.args.m in
    let n = c.in-Rule.function.0 in
    let fault = c.in-Rule.fault in
    let told = subst (IsValueRefusal m) c.in-Rule.is c.requires.refusal in (
      refl,
      record { found = value n fault; first = first_value m n fault c.requires.types told; reported = c.value_refusal.ensures m },
    )
