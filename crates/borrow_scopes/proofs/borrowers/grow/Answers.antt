use Rattle.std.proofs.Common.{ap, ◌∙◌}
use Rattle.borrow_scopes.specs.inner.Tables.{borrowers_at}
use Rattle.borrow_scopes.proofs.Rows.{row_added}
use Rattle.borrow_scopes.proofs.borrowers.grow.Goals as goal

pub loop-alloc-preserved : goal.loop-alloc-preserved
loop-alloc-preserved c = λ b.
    ap (λ rows. borrowers_at rows b) c.in_ok-push.ensures.items ∙ row_added c.loop-alloc.rows.items c.new.result c.new.ensures.items b ∙ c.loop-alloc.invariant b
