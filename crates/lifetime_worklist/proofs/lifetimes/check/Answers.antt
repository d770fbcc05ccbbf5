use Rattle.std.proofs.Common.{sym, subst, Option, Some, None}
use Rattle.reach_engine_marks.specs.declared.path_checks.fault.PathFault.{PathFault}
use Rattle.lifetime_worklist.specs.inner.Lifetimes.{IsFirstLife}
use Rattle.lifetime_worklist.proofs.lifetimes.check.Goals as goal

pub returns-in-Ok-None-clause-ok : goal.returns-in-Ok-None-clause-ok
returns-in-Ok-None-clause-ok c =
    let P : Option PathFault → Type 0 = λ o. IsFirstLife c.args.f.now c.args.g.now c.args.k.now o in
    let first : P None = subst P c.in-Ok-None.field-0-is c.in-Ok-None.ensures in
    first

pub returns-in-Ok-Some-clause-fault : goal.returns-in-Ok-Some-clause-fault
returns-in-Ok-Some-clause-fault c =
    let P : Option PathFault → Type 0 = λ o. IsFirstLife c.args.f.now c.args.g.now c.args.k.now o in
    let found : P (Some c.in-Ok-Some.fault) = subst P c.in-Ok-Some.field-0-is c.in-Ok-Some.ensures in
    record { item = c.in-Ok-Some.fault.item; first = subst (λ (z : PathFault). P (Some z)) (sym c.report.ensures.fault) found; other = c.report.ensures.other }
