use Rattle.std.proofs.Common.{◌≡◌, sym, ◌∙◌, subst, None}
use Rattle.sil_rules.specs.Order.{IsFirst}
use Rattle.type_check.proofs.FirstFaults.{first_fault}
use Rattle.type_check.specs.Refusals.{IsBroken, fault_at, fault_key}
use Rattle.type_check.specs.Refusals.IsBroken.{broken}
use Rattle.type_check.proofs.typing.check.Goals as goal

-- src/typing.rt:29:1
pub returns-in-Some-clause-err : goal.returns-in-Some-clause-err
returns-in-Some-clause-err c =
    subst (IsFirst fault_key (IsBroken c.args.m.now)) (sym c.in_ok-fault.ensures ∙ c.in-Some.is) (first_fault c.args.m.now)

-- src/typing.rt:29:1
pub returns-in-None-clause-ok : goal.returns-in-None-clause-ok
returns-in-None-clause-ok c = λ s r h. none (fault_at s r) (broken s r h)
  where
    none : IsFirst fault_key (IsBroken c.args.m.now) None
    none = subst (IsFirst fault_key (IsBroken c.args.m.now)) (sym c.in_ok-fault.ensures ∙ c.in-None.is) (first_fault c.args.m.now)
