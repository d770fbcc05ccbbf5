use Rattle.std.proofs.Common.{ap, ◌∙◌}
use Rattle.reach_engine_marks.specs.PathPatterns.inner.Reads.{accesses_at}
use Rattle.memory_rules_parts.proofs.Rows.{row_added}
use Rattle.memory_rules_parts.proofs.index.grow.Goals as goal

pub loop-alloc-preserved : goal.loop-alloc-preserved
loop-alloc-preserved c = λ r.
    ap (λ rows. accesses_at rows r) c.in_ok-push.ensures.items ∙ row_added c.loop-alloc.rows.items c.new.result c.new.ensures.items r ∙ c.loop-alloc.invariant r
