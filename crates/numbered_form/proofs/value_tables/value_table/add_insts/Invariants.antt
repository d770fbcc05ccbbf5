use Rattle.std.proofs.Common.{◌≡◌, ◌++◌, take}
use Rattle.std.specs.List.{flat_map}
use Rattle.numbered_form.proofs.value_tables.value_table.add_insts.Given as goal

abbrev pub invariant-loop-inst : goal.invariant-loop-inst
invariant-loop-inst g l =
    g.T.ValueTable.rows l.table ≡ g.T.ValueTable.rows l.initial.table ++ flat_map (g.T.ValueTable.result_rows l.of) (take l.inst-index l.insts)
