use Rattle.copy_pairing_search.proofs.BorrowableCopies.CopyFacts.{copy_stands, none_stands, nothing_stands}
use Rattle.copy_pairing_search.proofs.borrowable_copies.copies.copy_at.Goals as goal

pub returns-in-None-clause-none : goal.returns-in-None-clause-none
returns-in-None-clause-none c = nothing_stands c.args.f.now c.args.p c.in-None.ensures

pub returns-in-Some-clause-some : goal.returns-in-Some-clause-some
returns-in-Some-clause-some c = copy_stands c.args.f.now c.args.p c.in-Some.inst.now c.copied_by.result c.in-Some.ensures c.copied_by.ensures.some

pub returns-in-Some-clause-none : goal.returns-in-Some-clause-none
returns-in-Some-clause-none c = none_stands c.args.f.now c.args.p c.in-Some.inst.now c.copied_by.result c.in-Some.ensures c.copied_by.ensures.none
