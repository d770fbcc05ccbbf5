use Rattle.std.proofs.Common.{ap, ◌∙◌}
use Rattle.std.specs.Prelude.{◌==◌}
use Rattle.borrow_scopes.specs.inner.Tables.{with_last_if}
use Rattle.borrow_scopes.proofs.Rows.{row_set}
use Rattle.borrow_scopes.proofs.borrowers.add_borrower.Goals as goal

pub returns : goal.returns
returns c = λ b.
    row_set c.grow.new.rows.items c.args.base c.index_mut.result.now c.add_last.new.scopes c.args.scope c.in_ok-grow.ensures.there c.index_mut.ensures.value c.in_ok-add_last.ensures b
    ∙ ap (λ row. with_last_if (c.args.base == b) row c.args.scope) (c.in_ok-grow.ensures.same b)
