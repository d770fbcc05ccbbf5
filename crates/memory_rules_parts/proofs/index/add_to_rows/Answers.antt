use Rattle.memory_rules_parts.proofs.Rows.{rows_more}
use Rattle.memory_rules_parts.proofs.index.add_to_rows.Goals as goal

pub loop-key-preserved : goal.loop-key-preserved
loop-key-preserved c =
    rows_more c.args.rows.now.items c.loop-key.rows.items c.add_number.new.rows.items c.args.keys.now c.loop-key.key-index _ c.args.number c.loop-key-test.true c.loop-key.invariant
    c.in_ok-add_number.ensures
