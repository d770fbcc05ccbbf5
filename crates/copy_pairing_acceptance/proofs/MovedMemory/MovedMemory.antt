-- No rule on memory is broken where a copy of an accepted function becomes a move.
use Rattle.std.proofs.Common.{◌≡◌, [], subst}
use Rattle.copy_pairing_model.specs.Copies.{IsDestroy}
use Rattle.copy_pairing_model.specs.Rewritten.{moved}
use Rattle.sil_verifier_trails.specs.memory_rules_accesses.Sources.{sources_of}
use Rattle.sil_verifier_trails.specs.memory_rules.Broken.{IsBroken}
use Rattle.copy_pairing_model.specs.ownership_kinds_origins.Facts.{facts_in}
use Rattle.sil_ast.specs.declared.function.Function.{Function}
use Rattle.sil_cfg.specs.Items.{point_at}
use Rattle.sil_verifier_trails.specs.sil_verifier_accepted.AcceptedModules.Shown.{memory}
use Rattle.sil_types_declarations.specs.TypeDefinitions.Declarations.{Declarations, declarations_of}
use Rattle.copy_pairing_acceptance.specs.MovedMemory.inner.Laws.{MovedMemoryIsClean}
use Rattle.copy_pairing_acceptance.proofs.MovedMemory.FactsSame.{destroy_makes_none, facts_same, nothing_shown}
use Rattle.copy_pairing_acceptance.proofs.MovedMemory.MemoryClean.{memory_clean}
use Rattle.copy_pairing_acceptance.proofs.MovedMemory.MovedItems.{points_from}
use Rattle.copy_pairing_acceptance.proofs.MovedMemory.MovedTrails.{trails_cut}
use Rattle.copy_pairing_acceptance.proofs.MovedMemory.OwnedUnscoped.{owned_unscoped}
use Rattle.copy_pairing_acceptance.proofs.MovedMemory.SourcesSame.{sources_same}

pub moved_memory_clean : MovedMemoryIsClean
moved_memory_clean m n f p c v verified there copy h s broken =
    let d : Declarations = declarations_of m in
    let f' : Function = moved p h.last f in
    let destroy : IsDestroy f (point_at p.block.0 h.last) v = h.next.destroyed in
    let empty : destroy.inst.results ≡ [] = destroy_makes_none m n f verified there (point_at p.block.0 h.last) v destroy in
    let by_facts : IsBroken (sources_of d f') (facts_in d f) f' s =
    subst (λ facts. IsBroken (sources_of d f') facts f' s) (facts_same m n f verified there p c v h.last copy destroy h.next.behind) broken in
    let here : IsBroken (sources_of d f) (facts_in d f) f' s =
    subst (λ sources. IsBroken sources (facts_in d f) f' s) (sources_same d f p c v h.last copy destroy h.next.behind empty) by_facts in
    memory_clean (sources_of d f) (facts_in d f) f f' c v h.owned (owned_unscoped d f v h.owned)
    (λ x b. nothing_shown m n f verified there p copy.inst copy.stands x (memory b))
    (trails_cut f p c v h.last copy destroy h.next.behind empty) (points_from f p c v h.last copy destroy h.next.behind empty) s here
