use Rattle.std.proofs.Common.{sym, subst, Option, Some}
use Rattle.reach_engine_marks.specs.PathChecks.First.{IsFirst}
use Rattle.reach_engine_marks.specs.declared.path_checks.fault.PathFault.{PathFault}
use Rattle.value_availability.specs.Accesses.{accesses_of}
use Rattle.value_availability.proofs.availability.check.Goals as goal

pub returns-in-Ok-Some-clause-fault : goal.returns-in-Ok-Some-clause-fault
returns-in-Ok-Some-clause-fault c =
    let P : Option PathFault → Type 0 = λ o. IsFirst c.args.f.now (accesses_of c.args.f.now) o in
    let found : P (Some c.in-Ok-Some.fault) = subst P c.in-Ok-Some.field-0-is c.in-Ok-Some.ensures in
    record { item = c.in-Ok-Some.fault.item; first = subst (λ (z : PathFault). P (Some z)) (sym c.report.ensures.fault) found; other = c.report.ensures.other }
