use Rattle.std.proofs.Common.{◌≡◌, ◌++◌, subst, List, OnOk, true}
use Rattle.std.specs.Prelude.{option_map}
use Rattle.instruction_table.specs.declared.entries.ResultKind.{ResultKind}
use Rattle.sil_types.specs.Typing.RowTypes.{row_types}
use Rattle.type_check_rows.specs.inner.Views.{made_told}
use Rattle.ownership_kinds_chains.specs.declared.ownership_chains.definition.Definition.{Definition}
use Rattle.ownership_kinds_origins.specs.inner.Results.{asks_type}
use Rattle.ownership_kinds_origins.proofs.ResultByResult.{made_serves}
use Rattle.ownership_kinds_origins.proofs.results.add_results.Goals as goal

pub returns : goal.returns
returns c =
    subst (λ (x : List Definition). OnOk c.add_made.result (c.add_made.new.defs ≡ c.args.defs.now ++ x))
    (made_serves c.args.table.now c.args.inst.now (option_map made_told c.made_where_asked-made.result)
    (subst (λ (k : ResultKind). asks_type k ≡ true → option_map made_told c.made_where_asked-made.result ≡ row_types c.args.table.now c.args.inst.now) c.result_kind_of.ensures
    c.made_where_asked-made.ensures))
    c.add_made.ensures
