use Rattle.std.proofs.Common.{ap, ◌∙◌}
use Rattle.std.specs.List.{flat_map}
use Rattle.sil_types_declarations.specs.TypeDefinitions.Measures.{measure_of}
use Rattle.sil_types_declarations.specs.TypeDefinitions.Mentions.{together, operand_types}
use Rattle.sil_types_items.specs.TypeMeasures.inner.Gathered.{capped}
use Rattle.sil_types_items.proofs.TypeMeasures.Ordered.{kept_serves}
use Rattle.sil_types.proofs.table.TypeTable.measure_operands.Goals as goal

pub returns : goal.returns
returns c =
    let d = c.self.inside.declarations in
    let ms = c.as_slice.result.now in
    let t = together (flat_map operand_types c.args.operands.now) in
    c.measure_operands.ensures ∙ kept_serves d ms t (c.as_slice.ensures ∙ c.self.invariant) ∙ ap (λ e. capped (measure_of e t)) c.self.view_is
