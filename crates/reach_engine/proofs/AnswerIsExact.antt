use Rattle.std.proofs.Common.{◌≡◌, ℕ, ◌<◌, ◌≤◌, List, ◌++◌, length, refl, sym, ap, ap₂, ◌∙◌, subst, arith, inl, inr, Option, Some, None, Bool}
use Rattle.std.specs.Prelude.{IfSome}
use Rattle.std.proofs.lemmas.Option.{slice_get_within}
use Rattle.sil_ast.specs.declared.place.EdgeId.{EdgeId}
use Rattle.sil_cfg.specs.Flow.{Flow, block_count}
use Rattle.reach_engine.specs.declared.scan.Step.{Step}
use Rattle.reach_engine.specs.declared.frontier.Visit.{Visit}
use Rattle.reach_engine.specs.declared.frontier.Fault.{Fault}
use Rattle.reach_engine.specs.inner.Table.{Table, table}
use Rattle.reach_engine.specs.inner.Reach.{ReachesFirst}
use Rattle.reach_engine.specs.inner.Search.{IsClean, IsExact, IsLeastCode, IsShortest}
use Rattle.reach_engine.specs.inner.Frontier.{Noted, IsFault, IsFront, IsReached, ParentsFirst, IsWalkOf, edge_list}
use Rattle.reach_engine.proofs.EveryWalk.{marked_entered, entered_marked, noted_walk, fault_walk}

module _ (g : Flow ℕ) (f : ℕ → ℕ → Step) (states : ℕ) (q : List Visit) (seen : List Bool) (best : Option Fault) (next : ℕ) (front : IsFront g f states q seen best next) where
  pub parents_first : ParentsFirst q
  parents_first k v there pos = at (front.reached k v there)
    where
      at : IsReached g f q k v → v.parent < k
      at (inl r) = let zero_is : k ≡ 0 = r.first in absurd (omega arith)
      at (inr r) = r.earlier

  fault_is : (b : Fault) → best ≡ Some b → IsFault g f q b
  fault_is b e = let P : Option Fault → Type 0 = λ o. IfSome o (IsFault g f q) in subst P e front.fault

  pub visit_within : (b : Fault) → best ≡ Some b → b.visit < length q
  visit_within b e = let r = fault_is b e in slice_get_within q b.visit r.visit r.there

  pub end_clean : length q ≤ next → best ≡ None → IsClean g f
  end_clean le e w code item h = let P : Option Fault → Type 0 = λ o. Noted o code (length w) in subst P e (noted_walk g f states q seen best next front le w code item h)

  pub end_exact : length q ≤ next → (blocks width : ℕ) (map : Table) → map ≡ table blocks width seen → blocks ≡ block_count g → width ≡ states → IsExact g f states map
  end_exact le blocks width map map_is blocks_is width_is =
      let exact : IsExact g f states (table (block_count g) states seen) = record {
        blocks = refl;
        states_are = refl;
        exact = λ b s lb ls. (marked_entered g f states q seen best next front b s lb ls, λ p. entered_marked g f states q seen best next front le b s p.0 p.1);
      } in
      subst (IsExact g f states) (sym (map_is ∙ ap₂ (λ n m. table n m seen) blocks_is width_is)) exact

  pub end_fault : (b : Fault) → best ≡ Some b → (walk : List EdgeId) → IsWalkOf q b walk → ReachesFirst g f walk b.code b.item
  end_fault b e walk h = subst (λ w. ReachesFirst g f w b.code b.item) (sym h.parts) (fault_walk g f states q seen best next front b (fault_is b e) h.climb h.climbs).0

  pub noted_best : length q ≤ next → (b : Fault) → best ≡ Some b → (w : List EdgeId) (code item : ℕ) → ReachesFirst g f w code item → Noted (Some b) code (length w)
  noted_best le b e w code item h = let P : Option Fault → Type 0 = λ o. Noted o code (length w) in subst P e (noted_walk g f states q seen best next front le w code item h)

  pub end_least : length q ≤ next → (b : Fault) → best ≡ Some b → IsLeastCode g f b.code
  end_least le b e w other item h = elim (noted_best le b e w other item h) [ inl lt ↦ omega arith | inr same ↦ omega arith ]

  pub end_shortest : length q ≤ next → (b : Fault) → best ≡ Some b → (walk : List EdgeId) → IsWalkOf q b walk → IsShortest g f b.code walk
  end_shortest le b e walk is w item h =
      let long : length (is.climb ++ edge_list b.edge) ≡ b.length = (fault_walk g f states q seen best next front b (fault_is b e) is.climb is.climbs).1 in
      let same : length walk ≡ length (is.climb ++ edge_list b.edge) = ap length is.parts in
      elim (noted_best le b e w b.code item h) [ inl lt ↦ absurd (omega arith) | inr s ↦ let le : b.length ≤ length w = s.1 in omega arith ]
