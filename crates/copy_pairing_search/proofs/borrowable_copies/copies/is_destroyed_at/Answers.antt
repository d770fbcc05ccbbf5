use Rattle.copy_pairing_search.proofs.BorrowableCopies.CopyFacts.{destroyed_at, nothing_destroyed}
use Rattle.copy_pairing_search.proofs.borrowable_copies.copies.is_destroyed_at.Goals as goal

pub returns-in-None : goal.returns-in-None
returns-in-None c = nothing_destroyed c.args.f.now c.args.p c.args.value c.in-None.ensures

pub returns-in-Some : goal.returns-in-Some
returns-in-Some c = destroyed_at c.args.f.now c.args.p c.args.value c.in-Some.inst.now c.destroys.result c.in-Some.ensures c.destroys.ensures
