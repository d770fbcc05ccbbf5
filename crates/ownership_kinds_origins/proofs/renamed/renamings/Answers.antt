use Rattle.std.proofs.Common.{◌++◌, ◌∙◌, ap, map}
use Rattle.numbered_form.specs.ValueTables.ValueRows.{value_rows}
use Rattle.ownership_kinds_origins.specs.Renamings.{arg_renaming, result_renamings}
use Rattle.ownership_kinds_origins.specs.inner.Tables.{switch_at}
use Rattle.ownership_kinds_origins.proofs.ByTables.{renamings_by}
use Rattle.ownership_kinds_origins.proofs.renamed.renamings.Goals as goal

pub returns : goal.returns
returns c =
    c.in_ok-add_values.ensures
    ∙ ap (λ xs. xs ++ value_rows (λ n. map (arg_renaming (switch_at c.args.switches.now n))) result_renamings c.args.f.now) c.in_ok-defs.ensures
    ∙ renamings_by c.args.f.now c.args.switches.now c.requires
