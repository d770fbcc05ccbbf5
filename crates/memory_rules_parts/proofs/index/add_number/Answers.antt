use Rattle.std.proofs.Common.{ap, ◌∙◌, ◌++◌, [], ◌∷◌, cond}
use Rattle.std.specs.Prelude.{◌==◌}
use Rattle.reach_engine_marks.specs.PathPatterns.inner.Reads.{accesses_at}
use Rattle.memory_rules_parts.proofs.Rows.{row_set}
use Rattle.memory_rules_parts.proofs.index.add_number.Goals as goal

pub returns : goal.returns
returns c = λ r.
    row_set c.grow.new.rows.items c.row_of-row.result c.index_mut.result.now c.push.new.self c.args.number c.in_ok-grow.ensures.there c.index_mut.ensures.value c.in_ok-push.ensures.items r
    ∙ ap (λ row. row ++ cond (c.row_of-row.result == r) (c.args.number ∷ []) []) (c.in_ok-grow.ensures.same r)
    ∙ ap (λ i. accesses_at c.args.rows.now.items r ++ cond (i == r) (c.args.number ∷ []) []) c.row_of-row.ensures
