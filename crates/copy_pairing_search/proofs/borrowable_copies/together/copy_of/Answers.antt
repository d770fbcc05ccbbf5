use Rattle.copy_pairing_search.proofs.BorrowableCopies.CopiesTold.{none_of, own_of, some_of}
use Rattle.copy_pairing_search.proofs.borrowable_copies.together.copy_of.Goals as goal

pub returns-in-Inst-clause-some : goal.returns-in-Inst-clause-some
returns-in-Inst-clause-some c = some_of c.args.f.now c.args.item c.in-Inst.p c.in-Inst.is c.copy_at.result c.copy_at.ensures.some

pub returns-in-Inst-clause-none : goal.returns-in-Inst-clause-none
returns-in-Inst-clause-none c = none_of c.args.f.now c.args.item c.in-Inst.p c.in-Inst.is c.copy_at.result c.copy_at.ensures.none

pub returns-in-Inst-clause-own : goal.returns-in-Inst-clause-own
returns-in-Inst-clause-own c = own_of c.args.f.now c.args.item c.in-Inst.p c.in-Inst.is c.copy_at.result c.copy_at.ensures.some
