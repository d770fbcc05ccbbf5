-- What a search of a pair of slots finds, and the nearest of several.
use Rattle.std.proofs.Common.{◌≡◌, ℕ, zero, suc, ◌+◌, ◌<◌, ◌≤◌, List, [], ◌∷◌, ◌++◌, length, take, get_or, refl, sym, ap, ◌∙◌, subst, inl, inr, All, Option, Some, None, arith}
use Rattle.std.specs.Prelude.{Contains, AllPairs}
use Rattle.std.proofs.lemmas.List.{get_or-take, length-take-le}
use Rattle.std.proofs.lemmas.List.Elements.{All-push, All-weaker, All-contains, All-from_get_or, Contains-push, Contains-append_left}
use Rattle.std.proofs.lemmas.Grind.{take_at_read}
use Rattle.sil_ast.specs.declared.place.EdgeId.{EdgeId}
use Rattle.sil_ast.specs.declared.place.PointId.{PointId}
use Rattle.sil_ast.specs.declared.place.ValueId.{ValueId}
use Rattle.sil_cfg.specs.Layout.{Layout}
use Rattle.sil_cfg.specs.Flow.{numbered}
use Rattle.reach_engine.specs.declared.scan.Step.TheVariants.{Bad}
use Rattle.reach_engine.specs.inner.Reach.{ReachesFirst, ReachesPoint}
use Rattle.reach_engine.specs.inner.Search.{IsShortest}
use Rattle.reach_engine.proofs.Runs.{bad_at, go-bad, same_Bad}
use Rattle.memory_rules_accesses.specs.reach_engine_marks.PathPatterns.inner.Reads.{read_step, step_in}
use Rattle.memory_rules_accesses.specs.declared.access.Access.{Access}
use Rattle.memory_rules_slots.specs.Order.{crossing_code}
use Rattle.memory_rules_slots.specs.inner.Automaton.{order_step}
use Rattle.memory_rules_slots.specs.Marks.{pair_mark}
use Rattle.memory_rules_slots.specs.inner.Automaton.{pair_step}
use Rattle.memory_rules_slots.specs.inner.Searches.{IsUncrossed, IsFar, IsPairCrossing, IsPairSearched, IsNearest, IsNearer}
use Rattle.memory_rules_slots.specs.declared.crossing.Crossing.{Crossing}
use Rattle.memory_rules_slots.specs.declared.mark.SlotMark.{SlotMark}
use Rattle.memory_rules_slots.specs.declared.mark.SlotMark.TheVariants.{FirstIn, FirstOut, SecondIn, SecondOut}

-- the automaton's one code
one_code : (s : ℕ) (mark : SlotMark) (c : ℕ) → order_step s mark ≡ Bad c → c ≡ crossing_code
one_code zero FirstIn c e = absurd (go-bad _ c e)
one_code zero FirstOut c e = absurd (go-bad _ c e)
one_code zero SecondIn c e = absurd (go-bad _ c e)
one_code zero SecondOut c e = absurd (go-bad _ c e)
one_code (suc zero) FirstIn c e = absurd (go-bad _ c e)
one_code (suc zero) FirstOut c e = absurd (go-bad _ c e)
one_code (suc zero) SecondIn c e = absurd (go-bad _ c e)
one_code (suc zero) SecondOut c e = absurd (go-bad _ c e)
one_code (suc (suc zero)) FirstIn c e = absurd (go-bad _ c e)
one_code (suc (suc zero)) FirstOut c e = absurd (go-bad _ c e)
one_code (suc (suc zero)) SecondIn c e = absurd (go-bad _ c e)
one_code (suc (suc zero)) SecondOut c e = absurd (go-bad _ c e)
one_code (suc (suc (suc zero))) FirstIn c e = absurd (go-bad _ c e)
one_code (suc (suc (suc zero))) FirstOut c e = sym (same_Bad crossing_code c e)
one_code (suc (suc (suc zero))) SecondIn c e = absurd (go-bad _ c e)
one_code (suc (suc (suc zero))) SecondOut c e = absurd (go-bad _ c e)
one_code (suc (suc (suc (suc s)))) FirstIn c e = absurd (go-bad _ c e)
one_code (suc (suc (suc (suc s)))) FirstOut c e = absurd (go-bad _ c e)
one_code (suc (suc (suc (suc s)))) SecondIn c e = absurd (go-bad _ c e)
one_code (suc (suc (suc (suc s)))) SecondOut c e = absurd (go-bad _ c e)

module _ (g : Layout) (accesses : ℕ → List Access) (first : ValueId) where
  pub pair_code : (second : ValueId) (w : List EdgeId) (code item : ℕ) → ReachesFirst (numbered g) (pair_step accesses first second) w code item → code ≡ crossing_code
  pair_code second w code item h =
      let b = bad_at (read_step order_step (pair_mark first second)) h.state (accesses item) code h.breaks in
      at (pair_mark first second b.here) b.state b.breaks
    where
      at : (o : Option SlotMark) (s : ℕ) → step_in order_step s o ≡ Bad code → code ≡ crossing_code
      at None s e = absurd (go-bad s code e)
      at (Some mark) s e = one_code s mark code e

  pub pair_found : (second : ValueId) (walk : List EdgeId) (point : PointId) (code : ℕ) → ReachesPoint g (pair_step accesses first second) walk code point →
      IsShortest (numbered g) (pair_step accesses first second) code walk →
      IsPairCrossing g accesses first second (record { first = first; walk = walk; point = point; other = second })
  pair_found second walk point code h shortest =
      let four : code ≡ crossing_code = pair_code second walk code h.item h.reaches in
      record {
        first_is = refl;
        other_is = refl;
        reaches = subst (λ n. ReachesPoint g (pair_step accesses first second) walk n point) four h;
        far = λ w other item r. shortest w item (subst (λ n. ReachesFirst (numbered g) (pair_step accesses first second) w n item) (pair_code second w other item r ∙ sym four) r);
      }

  -- one slot more
  nearest_push : (seen : List ValueId) (s : ValueId) → All (λ b. b.0 < s.0) seen → (best next result : Option Crossing) →
      IsNearest g accesses first seen best → IsPairSearched g accesses first s next → IsNearer best next result → IsNearest g accesses first (seen ++ s ∷ []) result
  nearest_push seen s below None None result h n e = subst (IsNearest g accesses first (seen ++ s ∷ [])) (sym e) (All-push (IsUncrossed g accesses first) seen s h n)
  nearest_push seen s below None (Some c) result h n e = subst (IsNearest g accesses first (seen ++ s ∷ [])) (sym e) (record {
    first_is = n.first_is;
    other = subst (Contains (seen ++ s ∷ [])) (sym n.other_is) (Contains-push seen s);
    reaches = subst (λ v. ReachesPoint g (pair_step accesses first v) c.walk crossing_code c.point) (sym n.other_is) n.reaches;
    far = All-push (IsFar g accesses first (length c.walk)) seen s
        (All-weaker (IsUncrossed g accesses first) (IsFar g accesses first (length c.walk)) (λ b u w code item r. absurd (u w code item r)) seen h) n.far;
    farther = All-push (λ b. b.0 < c.other.0 → IsFar g accesses first (length c.walk + 1) b) seen s
        (All-weaker (IsUncrossed g accesses first) (λ b. b.0 < c.other.0 → IsFar g accesses first (length c.walk + 1) b) (λ b u lt w code item r. absurd (u w code item r)) seen h)
        (λ lt. let same : c.other.0 ≡ s.0 = ap (λ v. v.0) n.other_is in absurd (omega arith));
  })
  nearest_push seen s below (Some best) None result h n e = subst (IsNearest g accesses first (seen ++ s ∷ [])) (sym e) (record {
    first_is = h.first_is;
    other = Contains-append_left seen (s ∷ []) best.other h.other;
    reaches = h.reaches;
    far = All-push (IsFar g accesses first (length best.walk)) seen s h.far (λ w code item r. absurd (n w code item r));
    farther = All-push (λ b. b.0 < best.other.0 → IsFar g accesses first (length best.walk + 1) b) seen s h.farther (λ lt w code item r. absurd (n w code item r));
  })
  nearest_push seen s below (Some best) (Some c) result h n (inl p) = subst (IsNearest g accesses first (seen ++ s ∷ [])) (sym p.1) (record {
    first_is = n.first_is;
    other = subst (Contains (seen ++ s ∷ [])) (sym n.other_is) (Contains-push seen s);
    reaches = subst (λ v. ReachesPoint g (pair_step accesses first v) c.walk crossing_code c.point) (sym n.other_is) n.reaches;
    far = All-push (IsFar g accesses first (length c.walk)) seen s
        (All-weaker (IsFar g accesses first (length best.walk)) (IsFar g accesses first (length c.walk)) (λ b u w code item r. let le : length best.walk ≤ length w = u w code item r in
        let lt : length c.walk < length best.walk = p.0 in omega arith) seen h.far) n.far;
    farther = All-push (λ b. b.0 < c.other.0 → IsFar g accesses first (length c.walk + 1) b) seen s
        (All-weaker (IsFar g accesses first (length best.walk)) (λ b. b.0 < c.other.0 → IsFar g accesses first (length c.walk + 1) b)
        (λ b u less w code item r. let le : length best.walk ≤ length w = u w code item r in let lt : length c.walk < length best.walk = p.0 in omega arith) seen h.far)
        (λ lt. let same : c.other.0 ≡ s.0 = ap (λ v. v.0) n.other_is in absurd (omega arith));
  })
  nearest_push seen s below (Some best) (Some c) result h n (inr p) = subst (IsNearest g accesses first (seen ++ s ∷ [])) (sym p.1) (record {
    first_is = h.first_is;
    other = Contains-append_left seen (s ∷ []) best.other h.other;
    reaches = h.reaches;
    far = All-push (IsFar g accesses first (length best.walk)) seen s h.far (λ w code item r. let le : length c.walk ≤ length w = n.far w code item r in
        let at_most : length best.walk ≤ length c.walk = p.0 in omega arith);
    farther = All-push (λ b. b.0 < best.other.0 → IsFar g accesses first (length best.walk + 1) b) seen s h.farther
        (λ less. let lt : best.other.0 < s.0 = All-contains (λ (b : ValueId). b.0 < s.0) seen best.other below h.other in absurd (omega arith));
  })

  pub nearest_more : (slots : List ValueId) (i : ℕ) (d : ValueId) → i < length slots → AllPairs (λ a b. a.0 < b.0) slots → (best next result : Option Crossing) →
      IsNearest g accesses first (take i slots) best → IsPairSearched g accesses first (get_or slots i d) next → IsNearer best next result → IsNearest g accesses first (take (i + 1) slots) result
  nearest_more slots i d lt ascending best next result h n e =
      subst (λ v. IsNearest g accesses first v result) (sym (take_at_read slots i d lt).1)
      (nearest_push (take i slots) (get_or slots i d) (below_taken slots i d lt ascending) best next result h n e)
    where
      below_taken : (xs : List ValueId) (n : ℕ) (x : ValueId) → n < length xs → AllPairs (λ a b. a.0 < b.0) xs → All (λ b. b.0 < (get_or xs n x).0) (take n xs)
      below_taken xs n x less order = All-from_get_or (λ (b : ValueId). b.0 < (get_or xs n x).0) (take n xs) x (λ k within.
          let size : length (take n xs) ≡ n = length-take-le n xs (omega arith) in
          let place : k < n = omega arith in
          subst (λ (v : ValueId). v.0 < (get_or xs n x).0) (sym (get_or-take n xs k x place)) (order k n x place less))
