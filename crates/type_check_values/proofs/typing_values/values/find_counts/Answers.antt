use Rattle.std.proofs.Common.{◌≡◌, OnOk, map, rules, subst}
use Rattle.numbered_form.specs.Insts.{insts_in}
use Rattle.numbered_form.proofs.ValueTables.Rows.{rows_by_inst}
use Rattle.numbered_form.specs.ValueTables.ValueRows.{value_rows}
use Rattle.type_check_values.specs.TypingValues.inner.Given.{given_count, given_counts, no_counts}
use Rattle.type_check_values.proofs.typing_values.values.find_counts.Goals as goal

pub returns : goal.returns
returns c =
    let d = c.args.table.now in
    let f = c.args.f.now in
    let counted : value_rows no_counts (given_counts d) f ≡ map (given_count d) (insts_in f.blocks) = rows_by_inst (given_count d) 0 f.blocks in
    subst (λ rows. OnOk c.add_values.result (c.add_values.new.table.items ≡ rows)) counted (search rules)
