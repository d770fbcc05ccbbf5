use Rattle.std.proofs.Common.{◌++◌, get_or, ap, ◌∙◌}
use Rattle.ownership_kinds_chains.specs.OwnershipMarks.Known.{facts_of}
use Rattle.reach_engine_marks.specs.PathChecks.inner.Shared.{entry_if}
use Rattle.memory_rules_parts.specs.inner.Batches.{entry_at}
use Rattle.memory_rules_parts.proofs.Listed.{each_more}
use Rattle.memory_rules_parts.proofs.entries.add_of_each.Goals as goal

pub loop-number-preserved : goal.loop-number-preserved
loop-number-preserved c =
    each_more (entry_at c.args.batch.now.m.now (facts_of c.args.batch.now.k.now) c.args.batch.now.parts.now c.args.access)
    c.args.numbers.now c.loop-number.number-index 0 c.args.entries.now.items c.loop-number.entries.items
    c.add_entry.new.entries.items
    c.loop-number-test.true c.loop-number.invariant
    (c.in_ok-add_entry.ensures ∙ ap (λ mark. c.loop-number.entries.items ++ entry_if (get_or c.args.numbers.now c.loop-number.number-index 0) mark) c.means_at.ensures)
