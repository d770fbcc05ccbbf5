use Rattle.std.proofs.Common.{ap, ◌∙◌}
use Rattle.sil_types_declarations.specs.TypeDefinitions.Measures.{measure_of}
use Rattle.sil_types_items.specs.TypeMeasures.inner.Gathered.{capped}
use Rattle.sil_types_items.proofs.TypeMeasures.Ordered.{kept_serves}
use Rattle.sil_types.proofs.table.TypeTable.measure.Goals as goal

pub returns : goal.returns
returns c =
    let d = c.self.inside.declarations in
    let ms = c.as_slice.result.now in
    let t = c.args.ty.now in
    c.measure_type.ensures ∙ kept_serves d ms t (c.as_slice.ensures ∙ c.self.invariant) ∙ ap (λ e. capped (measure_of e t)) c.self.view_is
