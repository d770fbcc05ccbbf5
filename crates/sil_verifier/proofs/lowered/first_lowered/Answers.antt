use Rattle.std.proofs.Common.{sym, ap, ◌∙◌, subst}
use Rattle.sil_rules.specs.Order.{IsFirst}
use Rattle.type_check.specs.Refusals.{fault_key}
use Rattle.sil_verifier.proofs.FirstFaults.{first_function}
use Rattle.sil_verifier.specs.inner.Lowered as lowering
use Rattle.sil_verifier_accepted.specs.AcceptedModules.Refusals.{IsLowered}
use Rattle.sil_verifier.proofs.lowered.first_lowered.Goals as goal

-- src/lowered.rt:33:1
pub returns : goal.returns
returns c =
    subst (IsFirst fault_key (IsLowered c.args.m.now)) (sym (c.first_among.ensures ∙ ap (lowering.first_lowered 0) c.as_slice.ensures)) (first_function c.args.m.now)
