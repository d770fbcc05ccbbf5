use Rattle.std.proofs.Common.{ap, map, ◌∙◌}
use Rattle.sil_types_declarations.specs.TypeDefinitions.Measures.{measures_of}
use Rattle.sil_types_items.specs.TypeMeasures.inner.Gathered.{capped}
use Rattle.sil_types.proofs.table.TypeTable.declared_measures.Goals as goal

pub returns : goal.returns
returns c = c.as_slice.ensures ∙ c.self.invariant ∙ ap (λ d. map capped (measures_of d)) c.self.view_is
