use Rattle.std.proofs.Common.{ap, sym, ◌∙◌, get_or, take}
use Rattle.std.specs.Prelude.{◌==◌}
use Rattle.std.proofs.lemmas.List.{take_more}
use Rattle.ownership_kinds_chains.specs.OwnershipChains.Facts.{has, value_of}
use Rattle.borrow_scopes.specs.inner.Tables.{borrowers_at, with_last_if}
use Rattle.borrow_scopes.proofs.Rows.{more_bases}
use Rattle.borrow_scopes.proofs.borrowers.add_to_bases.Goals as goal

pub loop-base-preserved : goal.loop-base-preserved
loop-base-preserved c =
    let bases = c.args.bases.now in
    let i = c.loop-base.base-index in
    let base = get_or c.args.bases.now c.loop-base.base-index (value_of 0) in
    λ b. c.in_ok-add_borrower.ensures b
    ∙ ap (λ row. with_last_if (base.0 == b) row c.args.scope) (c.loop-base.invariant b)
    ∙ more_bases (take i bases) base b (borrowers_at c.args.rows.now.items b) c.args.scope
    ∙ ap (λ before. with_last_if (has before b) (borrowers_at c.args.rows.now.items b) c.args.scope) (sym (take_more bases i (value_of 0) c.loop-base-test.true))
