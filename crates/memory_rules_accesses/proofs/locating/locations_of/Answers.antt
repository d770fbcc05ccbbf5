use Rattle.std.proofs.Common.{[], ◌∷◌, ◌++◌, map, sym, ap, ◌∙◌, arith}
use Rattle.std.specs.List.{range_with_len}
use Rattle.std.proofs.lemmas.List.FromFn.{map-range_with_len_more}
use Rattle.ownership_kinds_chains.specs.OwnershipChains.Facts.{value_of}
use Rattle.memory_rules_accesses.specs.Locations.{location_of}
use Rattle.memory_rules_accesses.proofs.locating.locations_of.Goals as goal

pub loop-n-preserved : goal.loop-n-preserved
loop-n-preserved c =
    c.in_ok-push.ensures.ok ∙ ap (λ v. v ++ c.in_ok-location.location ∷ []) c.loop-n.invariant
    ∙ ap (λ l. map (λ n. location_of c.args.sources.now (value_of n)) (range_with_len 0 c.loop-n.n) ++ l ∷ []) c.in_ok-location.ensures
    ∙ sym (map-range_with_len_more (λ n. location_of c.args.sources.now (value_of n)) 0 c.loop-n.n c.loop-n.n (omega arith))
