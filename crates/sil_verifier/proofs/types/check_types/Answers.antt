use Rattle.std.proofs.Common.{inl, inr, subst, None}
use Rattle.sil_rules.specs.Order.{IsFirst}
use Rattle.sil_types.specs.Typing.Typed.{Typed}
use Rattle.type_check.specs.Refusals.{fault_at, fault_key}
use Rattle.type_check.specs.Refusals.IsBroken.{broken}
use Rattle.sil_verifier_accepted.specs.AcceptedModules.Refusals.{IsWrong}
use Rattle.sil_verifier.proofs.types.check_types.Goals as goal

-- src/types.rt:16:1
pub returns-in-None-clause-ok : goal.returns-in-None-clause-ok
returns-in-None-clause-ok c = record { declared = (c.in-Ok.ensures.ok.declared, c.in-Ok.ensures.ok.limits); typed = typed; owned = λ f h. none f (inr h) }
  where
    none : IsFirst fault_key (IsWrong c.args.m.now) None
    none = subst (IsFirst fault_key (IsWrong c.args.m.now)) c.in-None.is c.in_ok-fault.ensures

    typed : Typed c.args.m.now
    typed s r h = none (fault_at s r) (inl (broken s r h))
