use Rattle.std.proofs.Common.{Option, Some, None}
use Rattle.std.specs.Prelude.{IfSome}
use Rattle.sil_rules.specs.Order.{IsFirst}
use Rattle.sil_rules.proofs.Firsts.{first_earlier}
use Rattle.type_check.specs.Refusals.{IsBroken, fault_key}
use Rattle.type_check.specs.declared.fault.TypingFault.{TypingFault}
use Rattle.sil_verifier_accepted.specs.AcceptedModules.Refusals.{IsLowered}
use Rattle.sil_verifier.proofs.typing.first_fault.Goals as goal

-- what is found is shown
found : (Shown : TypingFault → Type 0) (r : Option TypingFault) → IsFirst fault_key Shown r → IfSome r Shown
found Shown None none = tt
found Shown (Some a) least = least.shown

-- src/typing.rt:78:1
pub returns : goal.returns
returns c =
    let broken = c.in_ok-broken.ensures in
    first_earlier fault_key (IsBroken c.args.m.now) (IsLowered c.args.m.now) c.in_ok-broken.broken c.first_lowered.result c.earlier.result broken c.first_lowered.ensures
    (c.earlier.ensures c.args.m.now (found (IsBroken c.args.m.now) c.in_ok-broken.broken broken) (found (IsLowered c.args.m.now) c.first_lowered.result c.first_lowered.ensures))
