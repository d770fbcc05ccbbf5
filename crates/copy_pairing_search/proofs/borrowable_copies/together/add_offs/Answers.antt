use Rattle.copy_pairing_search.proofs.BorrowableCopies.FoundTogether.{offs_more}
use Rattle.copy_pairing_search.proofs.borrowable_copies.together.add_offs.Goals as goal

pub loop-copy-preserved : goal.loop-copy-preserved
loop-copy-preserved c =
    offs_more c.args.k.now c.args.ended c.args.copied.now c.loop-copy.copy c.operand_of-operand.result c.off_for.result c.args.entries.now.items c.loop-copy.entries.items
    c.push_off.new.entries.items c.loop-copy-test.true c.operand_of-operand.ensures c.off_for.ensures c.loop-copy.invariant c.in_ok-push_off.ensures
