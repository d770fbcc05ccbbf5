use Rattle.std.proofs.Common.{ap, sym, ◌∙◌}
use Rattle.sil_types_declarations.specs.TypeDefinitions.Declarations.{all_names}
use Rattle.sil_types_declarations.specs.TypeDefinitions.Measures.{measure_at, measure_of}
use Rattle.sil_ast.specs.declared.type_name.TypeName.TheVariants.{Named}
use Rattle.sil_types_items.proofs.TypeMeasures.Agreement.{measure-Named}
use Rattle.sil_types_items.specs.TypeMeasures.inner.Gathered.{capped}
use Rattle.sil_types_items.proofs.TypeMeasures.Ordered.{kept_serves}
use Rattle.sil_types.proofs.table.TypeTable.measure_name.Goals as goal

pub returns : goal.returns
returns c =
    let d = c.self.inside.declarations in
    let ms = c.as_slice.result.now in
    let t = Named c.args.name.now in
    c.measure_name.ensures ∙ ap capped (sym (measure-Named (measure_at (all_names d) ms) c.args.name.now)) ∙ kept_serves d ms t (c.as_slice.ensures ∙ c.self.invariant)
    ∙ ap (λ e. capped (measure_of e t)) c.self.view_is
