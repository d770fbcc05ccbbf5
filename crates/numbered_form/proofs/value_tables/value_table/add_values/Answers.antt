use Rattle.numbered_form.proofs.ValueTables.Rows.{rows_next}
use Rattle.numbered_form.proofs.value_tables.value_table.add_values.Goals as goal

pub loop-number-preserved : goal.loop-number-preserved
loop-number-preserved g c =
    rows_next (g.T.ValueTable.arg_rows c.args.of.now) (g.T.ValueTable.result_rows c.args.of.now) c.args.f.now.blocks c.as_slice-block-items.result.now c.loop-number.number c.block-item.result
    (g.T.ValueTable.rows c.args.table.now) (g.T.ValueTable.rows c.loop-number.table) (g.T.ValueTable.rows c.add_block.new.table)
    c.as_slice-block-items.ensures c.loop-number-test.true c.block-item.is c.loop-number.invariant c.in_ok-add_block.ensures
