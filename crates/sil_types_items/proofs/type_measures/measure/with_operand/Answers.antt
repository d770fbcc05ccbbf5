use Rattle.std.proofs.Common.{sym, ap, ◌∙◌, ◌++◌, map}
use Rattle.std.specs.Option.{option_to_list}
use Rattle.std.proofs.lemmas.List.{append-nil}
use Rattle.sil_types_declarations.specs.TypeDefinitions.Declarations.{all_names}
use Rattle.sil_types_declarations.specs.TypeDefinitions.Measures.{measure_at, measure_with}
use Rattle.sil_types_declarations.specs.TypeDefinitions.Mentions.{target_of}
use Rattle.sil_types_items.specs.TypeMeasures.inner.Gathered.{capped, gathered, with_member}
use Rattle.sil_types_items.proofs.TypeMeasures.Agreement.{measure_target}
use Rattle.sil_types_items.proofs.TypeMeasures.Gathering.{gathered_push}
use Rattle.sil_types_items.proofs.type_measures.measure.with_operand.Goals as goal

pub returns-in-Some : goal.returns-in-Some
returns-in-Some c = λ ms e.
    let known = measure_at (all_names c.args.table.now) c.args.known.now in
    let m = measure_with known (target_of c.in-Some.ty) in
    c.and.ensures ∙ ap (with_member c.args.all) (c.measure_type.ensures ∙ ap capped (sym (measure_target known c.in-Some.ty))) ∙ ap (λ g. with_member g (capped m)) e ∙ gathered_push ms m
    ∙ ap (λ o. gathered (ms ++ map (measure_with known) (map target_of (option_to_list o)))) (sym c.in-Some.is)

pub returns-in-None : goal.returns-in-None
returns-in-None c = λ ms e.
    let known = measure_at (all_names c.args.table.now) c.args.known.now in
    e ∙ ap gathered (sym (append-nil ms)) ∙ ap (λ o. gathered (ms ++ map (measure_with known) (map target_of (option_to_list o)))) (sym c.in-None.is)
