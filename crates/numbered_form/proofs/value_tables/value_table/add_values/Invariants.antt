use Rattle.std.proofs.Common.{◌≡◌, ◌++◌, take}
use Rattle.numbered_form.specs.ValueTables.ValueRows.{rows_from}
use Rattle.numbered_form.proofs.value_tables.value_table.add_values.Given as goal

abbrev pub invariant-loop-number : goal.invariant-loop-number
invariant-loop-number g l =
    g.T.ValueTable.rows l.table ≡ g.T.ValueTable.rows l.initial.table ++ rows_from (g.T.ValueTable.arg_rows l.of) (g.T.ValueTable.result_rows l.of) 0 (take l.number l.f.blocks)
