use Rattle.std.proofs.Common.{sym, ap, ◌∙◌}
use Rattle.sil_types.specs.sil_types_declarations.TypeDefinitions.Measures.{is_trivial}
use Rattle.sil_types.specs.sil_types_declarations.TypeDefinitions.Mentions.{direct_types}
use Rattle.type_check_rows.specs.inner.Views.{view_told}
use Rattle.type_check_rows.specs.declared.view.TypeView.{TypeView}
use Rattle.ownership_kinds_origins.proofs.TrivialTuples.{operands_trivial, together_trivial}
use Rattle.ownership_kinds_origins.proofs.trivial.is_trivial_view.Goals as goal

pub returns-in-TupleOf : goal.returns-in-TupleOf
returns-in-TupleOf c = c.are_trivial_operands.ensures ∙ sym (operands_trivial c.args.table.now c.in-TupleOf.operands.now)
    ∙ sym (ap (λ (v : TypeView). is_trivial c.args.table.now (view_told v)) c.in-TupleOf.is)

pub returns-in-GivenBy : goal.returns-in-GivenBy
returns-in-GivenBy c = c.are_trivial_results.ensures ∙ sym (together_trivial c.args.table.now (direct_types c.in-GivenBy.results.now))
    ∙ sym (ap (λ (v : TypeView). is_trivial c.args.table.now (view_told v)) c.in-GivenBy.is)
