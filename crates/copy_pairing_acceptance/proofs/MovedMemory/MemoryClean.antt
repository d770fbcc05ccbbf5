-- No rule on memory is broken in a function in which a copy became a move, where none is in the function itself.
use Rattle.std.proofs.Common.{◌≡◌, false, true, Option, List}
use Rattle.sil_verifier_trails.specs.memory_rules_accesses.declared.source.Source.{Source}
use Rattle.sil_verifier_trails.specs.memory_rules_parts.Parts.{is_scope}
use Rattle.sil_verifier_trails.specs.memory_rules.Broken.{IsBroken, at_part, crossing, static}
use Rattle.ownership_kinds_chains.specs.OwnershipChains.Facts.{is_owned, known_or}
use Rattle.ownership_kinds_chains.specs.declared.ownership_chains.facts.Facts.{Facts}
use Rattle.sil_rules.specs.declared.rule_faults.fault.RuleFault.{RuleFault}
use Rattle.sil_ast.specs.declared.function.Function.{Function}
use Rattle.sil_ast.specs.declared.place.ValueId.{ValueId}
use Rattle.copy_pairing_acceptance.specs.MovedMemory.inner.Items.{AreCut, ArePointsFrom}
use Rattle.copy_pairing_acceptance.proofs.MovedMemory.PartsClean.{parts_clean}
use Rattle.copy_pairing_acceptance.proofs.MovedMemory.SlotsClean.{slots_clean}
use Rattle.copy_pairing_acceptance.proofs.MovedMemory.StaticsClean.{statics_clean}

module _ (sources : List Source) (facts : ValueId → Option Facts) (f other : Function) (c v : ValueId)
    (owned : is_owned (known_or facts v).kind ≡ true) (unscoped : is_scope sources v ≡ false)
    (clean : (s : RuleFault) → IsBroken sources facts f s → ⊥) (cuts : AreCut f other c v) (points : ArePointsFrom f other c v) where
  pub memory_clean : (s : RuleFault) → IsBroken sources facts other s → ⊥
  memory_clean s (at_part h) = parts_clean sources facts f other c v owned unscoped clean cuts s h
  memory_clean s (crossing later is_order is_other h) = slots_clean sources facts f other c v owned clean cuts (record { first = s.subject; walk = s.walk; point = s.point; other = later }) h
  memory_clean s (static no_walk h) = statics_clean sources facts f other c v clean points s.rule s.subject s.other s.point.block.0 s.point.index h
