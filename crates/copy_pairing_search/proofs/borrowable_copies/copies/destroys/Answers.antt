use Rattle.std.proofs.Common.{sym, ◌∙◌}
use Rattle.copy_pairing_search.proofs.BorrowableCopies.CopyFacts.{not_destroy}
use Rattle.copy_pairing_search.proofs.borrowable_copies.copies.destroys.Goals as goal

pub returns-then-not-is_op : goal.returns-then-not-is_op
returns-then-not-is_op c = not_destroy c.args.inst.now c.args.value (sym c.is_op.ensures ∙ c.if-not-is_op.true)
