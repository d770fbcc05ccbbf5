use Rattle.std.proofs.Common.{refl, sym, ◌∙◌, subst, inl, inr, Some}
use Rattle.std.specs.Prelude.{IfSome}
use Rattle.sil_rules.specs.Order.{IsEarlier}
use Rattle.type_check.specs.Refusals.{IsBroken, fault_key}
use Rattle.sil_verifier.proofs.FirstFaults.{first_where_before, behind_where_not}
use Rattle.sil_verifier_accepted.specs.AcceptedModules.Refusals.{IsLowered}
use Rattle.sil_verifier.proofs.typing.earlier.Goals as goal

pub returns-then-is_before : goal.returns-then-is_before
returns-then-is_before c m h g =
    let one = subst (λ o. IfSome o (IsBroken m)) c.in-Some-Some.is-0 h in
    let other = subst (λ o. IfSome o (IsLowered m)) c.in-Some-Some.is-1 g in
    let order = first_where_before m c.in-Some-Some.one c.in-Some-Some.other one other (sym c.is_before.ensures ∙ c.if-is_before.true) in
    subst (λ o. IsEarlier fault_key o c.args.lowered (Some c.in-Some-Some.one)) (sym c.in-Some-Some.is-0)
    (subst (λ o. IsEarlier fault_key (Some c.in-Some-Some.one) o (Some c.in-Some-Some.one)) (sym c.in-Some-Some.is-1) (inl (refl, order)))

pub returns-else-is_before : goal.returns-else-is_before
returns-else-is_before c m h g =
    let one = subst (λ o. IfSome o (IsBroken m)) c.in-Some-Some.is-0 h in
    let other = subst (λ o. IfSome o (IsLowered m)) c.in-Some-Some.is-1 g in
    let order = behind_where_not m c.in-Some-Some.one c.in-Some-Some.other one other (sym c.is_before.ensures ∙ c.if-is_before.false) in
    subst (λ o. IsEarlier fault_key o c.args.lowered (Some c.in-Some-Some.other)) (sym c.in-Some-Some.is-0)
    (subst (λ o. IsEarlier fault_key (Some c.in-Some-Some.one) o (Some c.in-Some-Some.other)) (sym c.in-Some-Some.is-1) (inr (refl, order)))
