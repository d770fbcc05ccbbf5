use Rattle.std.proofs.Common.{sym, ap, ◌∙◌, map}
use Rattle.std.proofs.lemmas.List.{length-map}
use Rattle.argument_conventions.specs.Arguments.{direct_results}
use Rattle.sil_types_declarations.specs.TypeDefinitions.Declarations.{all_names}
use Rattle.sil_types_declarations.specs.TypeDefinitions.Measures.{measure_at, measure_with}
use Rattle.sil_types_declarations.specs.TypeDefinitions.Mentions.{direct_types, result_type}
use Rattle.sil_types_items.specs.TypeMeasures.inner.Gathered.{capped, as_members}
use Rattle.sil_types_items.proofs.TypeMeasures.Agreement.{measure-Tuple, together_many}
use Rattle.sil_types_items.proofs.TypeMeasures.Gathering.{members_capped}
use Rattle.sil_types_items.proofs.type_measures.measure.measure_results.Goals as goal

pub returns : goal.returns
returns c =
    let known = measure_at (all_names c.args.table.now) c.args.known.now in
    let results = direct_results c.args.results.now in
    let ts = direct_types c.args.results.now in
    c.as_members.ensures ∙ ap as_members c.gather_results-all.ensures ∙ members_capped (map (measure_with known) ts)
    ∙ sym (ap capped (ap (measure_with known) (together_many ts (λ e. c.if-direct_count-eq1.false (c.direct_count.ensures ∙ sym (length-map results result_type) ∙ e))) ∙ measure-Tuple known ts))
