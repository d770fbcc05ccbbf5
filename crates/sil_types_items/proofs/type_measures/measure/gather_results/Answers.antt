use Rattle.std.proofs.Common.{ap, ◌∙◌, map, []}
use Rattle.sil_types_declarations.specs.TypeDefinitions.Declarations.{all_names}
use Rattle.sil_types_declarations.specs.TypeDefinitions.Measures.{measure_at, measure_with}
use Rattle.sil_types_declarations.specs.TypeDefinitions.Mentions.{direct_types}
use Rattle.sil_types_items.specs.TypeMeasures.inner.Gathered.{with_members}
use Rattle.sil_types_items.proofs.TypeMeasures.Gathering.{gathered_behind, next_result}
use Rattle.sil_types_items.proofs.type_measures.measure.gather_results.Goals as goal

pub loop-given-init : goal.loop-given-init
loop-given-init c =
    let known = measure_with (measure_at (all_names c.args.table.now) c.args.known.now) in
    let ms = map known (direct_types c.args.results.now) in
    ap (λ all. with_members all ms) c.new-all.ensures ∙ gathered_behind [] ms

pub loop-given-preserved : goal.loop-given-preserved
loop-given-preserved c =
    next_result (measure_with (measure_at (all_names c.args.table.now) c.args.known.now)) c.args.results.now c.loop-given.given-index c.given-item.result c.loop-given.all c.with_result-all.result
    c.loop-given-test.true c.given-item.is c.with_result-all.ensures
    ∙ c.loop-given.invariant
