-- Laws of kinds and bases.
use Rattle.std.specs.Prelude.{◌≡◌, ◌↔◌, ◌<◌, List, length, Some}
use Rattle.sil_ast.specs.declared.place.ValueId.{ValueId}
use Rattle.ownership_kinds_chains.specs.declared.ownership_chains.definition.Definition.{Definition}
use Rattle.ownership_kinds_chains.specs.declared.ownership_chains.facts.Facts.{Facts}
use Rattle.ownership_kinds_chains.specs.OwnershipChains.Chains.{IsInRange, LeadsIntoRing}
use Rattle.ownership_kinds_chains.specs.OwnershipChains.Facts.{AreFactsOf}
use Rattle.ownership_kinds_chains.specs.OwnershipChains.Steps.{told_in}

-- a value has one kind and one list of bases
abbrev pub AreUnique : Type 0
AreUnique = (defs : List Definition) (v : ValueId) (f g : Facts) → AreFactsOf defs v f → AreFactsOf defs v g → f ≡ g

-- a value from which a chain leads into a ring has neither
abbrev pub EndAtRings : Type 0
EndAtRings = (defs : List Definition) (v : ValueId) (f : Facts) → AreFactsOf defs v f → LeadsIntoRing defs v → ⊥

-- as many steps as there are values tell just the kinds and bases
abbrev pub AreToldInTime : Type 0
AreToldInTime = (defs : List Definition) (v : ValueId) (f : Facts) → IsInRange defs → v.0 < length defs
    → AreFactsOf defs v f ↔ (told_in defs (length defs) v ≡ Some f)
