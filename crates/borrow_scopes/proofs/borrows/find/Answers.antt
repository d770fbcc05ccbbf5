use Rattle.std.proofs.Common.{subst, Option}
use Rattle.reach_engine_marks.specs.declared.path_checks.fault.PathFault.{PathFault}
use Rattle.borrow_scopes.specs.inner.Borrows.{IsFirstScope}
use Rattle.borrow_scopes.proofs.Reported.{reported}
use Rattle.borrow_scopes.proofs.borrows.find.Goals as goal

pub returns-in-None : goal.returns-in-None
returns-in-None c =
    let P : Option PathFault → Type 0 = λ o. IsFirstScope c.args.f.now c.args.g.now c.args.k.now o in
    subst P c.in-None.is c.in_ok-first_broken.ensures

pub returns-in_ok-found-in-Some : goal.returns-in_ok-found-in-Some
returns-in_ok-found-in-Some c =
    let P : Option PathFault → Type 0 = λ o. IsFirstScope c.args.f.now c.args.g.now c.args.k.now o in
    reported c.args.f.now c.args.g.now c.args.k.now c.in-Some.fault c.in_ok-found-in-Some.found c.in_ok-found-in-Some.ensures (subst P c.in-Some.is c.in_ok-first_broken.ensures)
