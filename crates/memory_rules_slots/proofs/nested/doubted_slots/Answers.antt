use Rattle.memory_rules_accesses.specs.reach_engine_marks.PathPatterns.inner.Reads.{accesses_at}
use Rattle.memory_rules_slots.proofs.NestedSlots.{nested_uncrossed}
use Rattle.memory_rules_slots.proofs.nested.doubted_slots.Goals as goal

pub returns : goal.returns
returns c = λ a t sa b sb.
    nested_uncrossed c.args.sources.now c.as_slice-ranks.result.now (accesses_at c.args.accesses.now) c.args.g.now c.as_slice-stacks.result.now (c.has_start.ensures.few c.if-not-has_start.false)
    (c.has_start.ensures.known c.if-not-has_start.false) a (c.in_ok-follow_blocks.ensures a t) sa b sb
