use Rattle.std.proofs.Common.{◌++◌, ◌∙◌, ap, map}
use Rattle.numbered_form.specs.ValueTables.ValueRows.{value_rows}
use Rattle.ownership_kinds_origins.specs.Origins.{arg_definition, is_zero, result_definitions}
use Rattle.ownership_kinds_origins.specs.inner.Tables.{switch_at}
use Rattle.ownership_kinds_origins.proofs.ByTables.{definitions_by}
use Rattle.ownership_kinds_origins.proofs.defining.definitions.Goals as goal

pub returns : goal.returns
returns c =
    let d = c.args.table.now in
    c.in_ok-add_values.ensures
    ∙ ap (λ xs. xs ++ value_rows (λ n. map (arg_definition d (is_zero n) (switch_at c.args.switches.now n))) (result_definitions d) c.args.f.now) c.in_ok-defs.ensures
    ∙ definitions_by c.args.f.now c.args.switches.now c.requires d
