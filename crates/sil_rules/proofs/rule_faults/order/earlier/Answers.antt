use Rattle.std.proofs.Common.{refl, sym, subst, inl, Some}
use Rattle.sil_rules.specs.Order.{IsEarlier}
use Rattle.sil_rules.specs.RuleFaults.Keys.{fault_key}
use Rattle.sil_rules.proofs.rule_faults.order.earlier.Goals as goal

pub returns-then-is_not_after : goal.returns-then-is_not_after
returns-then-is_not_after c =
    subst (λ o. IsEarlier fault_key o c.args.b (Some c.in-Some-Some.a)) (sym c.in-Some-Some.is-0)
    (subst (λ o. IsEarlier fault_key (Some c.in-Some-Some.a) o (Some c.in-Some-Some.a)) (sym c.in-Some-Some.is-1)
    (inl (refl, c.is_not_after.ensures.yes c.if-is_not_after.true)))
