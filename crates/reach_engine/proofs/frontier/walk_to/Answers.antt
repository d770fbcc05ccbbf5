use Rattle.std.proofs.Common.{◌≡◌, ℕ, ◌<◌, length, List, [], ◌∷◌, ◌++◌, get_or, reverse, refl, sym, subst, ap, ◌∙◌, arith}
use Rattle.std.proofs.lemmas.List.{reverse-append}
use Rattle.std.proofs.lemmas.Option.{slice_get-get_or}
use Rattle.sil_ast.specs.declared.place.EdgeId.{EdgeId}
use Rattle.reach_engine.specs.declared.frontier.Visit.{Visit}
use Rattle.reach_engine.specs.inner.Frontier.{Climbs, ParentsFirst}
use Rattle.reach_engine.proofs.frontier.walk_to.Goals as goal

-- one edge further back
climb_more : (q : List Visit) (k at : ℕ) (d : Visit) (walk more : List EdgeId) → k < length q → 0 < k → more ≡ walk ++ (get_or q k d).edge ∷ [] →
    Climbs q k (reverse walk) at → Climbs q (get_or q k d).parent (reverse more) at
climb_more q k at d walk more lt pos e h =
    let turned : reverse more ≡ (get_or q k d).edge ∷ reverse walk = ap reverse e ∙ reverse-append walk ((get_or q k d).edge ∷ []) in
    let P : List EdgeId → Type 0 = λ w. Climbs q (get_or q k d).parent w at in
    subst P (sym turned) (k, get_or q k d, pos, slice_get-get_or q k d lt, refl, refl, h)

parent_in : (q : List Visit) (k : ℕ) (d : Visit) → ParentsFirst q → k < length q → 0 < k → (get_or q k d).parent < length q
parent_in q k d first lt pos =
    let earlier : (get_or q k d).parent < k = first k (get_or q k d) (slice_get-get_or q k d lt) pos in
    omega arith

pub loop-here-preserved : goal.loop-here-preserved
loop-here-preserved c = (
  parent_in c.args.queue.now c.loop-here.here _ c.requires.parents c.loop-here.invariant.0 (omega arith),
  climb_more c.args.queue.now c.loop-here.here c.args.at _ c.loop-here.walk.items c.push.new.self.items c.loop-here.invariant.0 (omega arith) c.in_ok-push.ensures.items c.loop-here.invariant.1,
)
