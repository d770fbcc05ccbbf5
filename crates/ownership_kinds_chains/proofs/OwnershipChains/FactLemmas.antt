-- A value has one kind and one list of bases, and none where a chain from it leads into a ring.
use Rattle.sil_ast.specs.declared.place.ValueId.{ValueId}
use Rattle.std.proofs.Common.{List}
use Rattle.ownership_kinds_chains.specs.declared.ownership_chains.definition.Definition.{Definition}
use Rattle.ownership_kinds_chains.specs.declared.ownership_chains.facts.Facts.{Facts}
use Rattle.ownership_kinds_chains.specs.OwnershipChains.Chains.{Chain, one, more, IsCyclic}
use Rattle.ownership_kinds_chains.specs.OwnershipChains.Facts.{AreFactsOf, told}
use Rattle.ownership_kinds_chains.specs.OwnershipChains.inner.Laws.{AreUnique, EndAtRings}
use Rattle.ownership_kinds_chains.proofs.OwnershipChains.Depths.{determined}
use Rattle.ownership_kinds_chains.proofs.OwnershipChains.NumberLemmas.{chain_push}

pub are_unique : AreUnique
are_unique = determined

-- what a chain leads to has facts too
led_to : (defs : List Definition) (v w : ValueId) (f : Facts) → AreFactsOf defs v f → Chain defs v w → (g : Facts) × AreFactsOf defs w g
led_to defs v w _ (told _ at below) (one _ _ c) = (at w, below w c)
led_to defs v w _ (told _ at below) (more _ u _ c h) = led_to defs u w (at u) (below u c) h

-- a value with facts is on no ring: the next on it would have facts below its own
pub off_rings : (defs : List Definition) (v : ValueId) (f : Facts) → AreFactsOf defs v f → IsCyclic defs v → ⊥
off_rings defs v _ (told _ at below) (one _ _ c) = off_rings defs v (at v) (below v c) (one v v c)
off_rings defs v _ (told _ at below) (more _ u _ c h) = off_rings defs u (at u) (below u c) (chain_push defs u v u h c)

pub end_at_rings : EndAtRings
end_at_rings defs v f h (w, leads, ring) = let led = led_to defs v w f h leads in off_rings defs w led.0 led.1 ring
