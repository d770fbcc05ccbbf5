-- The law of the facts of a function's values.
use Rattle.std.specs.Prelude.{◌≡◌, ◌<◌, ◌↔◌, Some, length}
use Rattle.sil_ast.specs.declared.function.Function.{Function}
use Rattle.sil_ast.specs.declared.place.ValueId.{ValueId}
use Rattle.numbered_form.specs.Numbering.{values_of}
use Rattle.numbered_form.specs.PointChecks.inner.Numbered.{IsOfNumberedModule}
use Rattle.ownership_kinds_chains.specs.OwnershipChains.Facts.{AreFactsOf}
use Rattle.ownership_kinds_chains.specs.declared.ownership_chains.facts.Facts.{Facts}
use Rattle.sil_types_declarations.specs.TypeDefinitions.Declarations.{Declarations}
use Rattle.ownership_kinds_origins.specs.Origins.{definitions_of}
use Rattle.ownership_kinds_origins.specs.Facts.{facts_in}

-- a value has just the facts that are told by those of its operands, and a number that is no value's has none
abbrev pub AreFactsTold : Type 0
AreFactsTold = (d : Declarations) (f : Function) (v : ValueId) (x : Facts) → IsOfNumberedModule f
    → (facts_in d f v ≡ Some x) ↔ ((v.0 < length (values_of f.blocks)) × AreFactsOf (definitions_of d f) v x)
