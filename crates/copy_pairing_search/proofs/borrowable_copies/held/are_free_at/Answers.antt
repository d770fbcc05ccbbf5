use Rattle.copy_pairing_search.specs.BorrowableCopies.inner.Watched.{watched_of}
use Rattle.copy_pairing_search.proofs.BorrowableCopies.FreeAt.{decided_by, watched_agree}
use Rattle.copy_pairing_search.proofs.borrowable_copies.held.are_free_at.Goals as goal

pub returns : goal.returns
returns c = λ count facts by.
    let sort = c.args.sort in
    let values = c.args.values.now in
    let held = c.args.held.now in
    let f = c.args.f.now in
    decided_by sort values held facts f c.in_ok-fault.fault
    (c.in_ok-fault.ensures (watched_of sort values held facts f)
    (watched_agree sort values held f c.args.g.now c.args.k.now c.in_ok-entries.entries (λ n item e. c.in_ok-entries.ensures.entries n item e) count facts by))
    c.is_none.result c.is_none.ensures
