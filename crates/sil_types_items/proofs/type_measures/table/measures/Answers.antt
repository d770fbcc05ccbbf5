use Rattle.std.proofs.Common.{◌≡◌, ◌<◌, ap, ◌∙◌, arith, length, get_or}
use Rattle.std.proofs.lemmas.List.{length-map, length-set}
use Rattle.sil_types_declarations.specs.TypeDefinitions.Contained.{containment, lower_places}
use Rattle.sil_types_declarations.specs.TypeDefinitions.Declarations.{all_decls, all_names}
use Rattle.sil_types_declarations.specs.TypeDefinitions.Measures.{measure_at, measure_decl}
use Rattle.sil_types_items.specs.TypeMeasures.inner.Gathered.{capped}
use Rattle.sil_types_items.proofs.TypeMeasures.Ordered.{up_to_next, all_measured}
use Rattle.sil_types_items.proofs.type_measures.table.measures.Goals as goal

pub loop-place-preserved : goal.loop-place-preserved
loop-place-preserved c =
    let d = c.args.table.now in
    let order = c.args.order.now in
    let i = c.loop-place.place-index in
    let ms = c.loop-place.measures.items in
    let x = c.index-decls-place.result in
    let many : length (containment d) ≡ length (all_decls d) = length-map (all_decls d) (lower_places d) in
    let within : get_or order i 0 < length (containment d) = c.requires.inside i 0 c.loop-place-test.true in
    let inside : get_or order i 0 < length (all_decls d) = omega arith in
    let is : x ≡ get_or (all_decls d) (get_or order i 0) x = c.index-decls-place.is ∙ ap (λ ds. get_or ds (get_or order i 0) x) c.decls-decls.ensures in
    let right : c.measure_decl-measure.result ≡ capped (measure_decl (measure_at (all_names d) ms) x) =
    c.measure_decl-measure.ensures ∙ ap (λ known. capped (measure_decl (measure_at (all_names d) known) x)) c.as_slice.ensures.value in (
      length-set ms (get_or order i 0) c.measure_decl-measure.result ∙ c.loop-place.invariant.0,
      up_to_next d order c.requires.parts ms i c.loop-place-test.true c.loop-place.invariant.1 c.loop-place.invariant.0 x inside is c.measure_decl-measure.result right,
    )

pub returns : goal.returns
returns c =
    c.from_vec.ensures
    ∙ all_measured c.args.table.now c.args.order.now c.loop-place.measures.items c.requires c.loop-place.invariant.0
    (λ j lt k far. c.loop-place.invariant.1 j (omega (arith, c.loop-place-test.false)) k far)
