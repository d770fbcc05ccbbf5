use Rattle.ownership_kinds_chains.specs.OwnershipMarks.Known.{facts_of}
use Rattle.memory_rules_parts.proofs.Joint.{joint_grown}
use Rattle.memory_rules_parts.proofs.entries.add_of_all.Goals as goal

pub loop-number-preserved : goal.loop-number-preserved
loop-number-preserved c =
    joint_grown c.args.batch.now.m.now (facts_of c.args.batch.now.k.now) c.args.batch.now.parts.now c.args.access
    c.loop-number.number _ c.means.result c.args.entries.now.items c.loop-number.entries.items
    c.add_entry.new.entries.items
    c.loop-number-test.true c.loop-number.invariant c.means.ensures c.in_ok-add_entry.ensures
