-- Where each of some numbers has a part among them, one is on a ring; numbers in an order and numbers whose parts rise are on none.
use Rattle.std.proofs.Common.{◌≡◌, ℕ, zero, suc, ◌+◌, ◌<◌, ◌≤◌, List, [], ◌∷◌, length, get_or, set, replicate, refl, sym, ap, ◌∙◌, subst, arith, Bool, true, false, not, ◌⊎◌, inl, inr}
use Rattle.std.specs.Prelude.{Contains, count_by, ◌&&◌}
use Rattle.std.specs.List.{list_all}
use Rattle.std.proofs.lemmas.Bool.{cases_lt}
use Rattle.std.proofs.lemmas.List.{length-set, length-replicate, get_or-replicate}
use Rattle.std.proofs.lemmas.List.Elements.{All-contains, All-weaker, Contains-append_right}
use Rattle.number_tables.specs.ContainmentOrder.Chains.{Graph, parts_of, Chain, one, more, HasNoRing, IsCyclic, IsInRange}
use Rattle.number_tables.specs.ContainmentOrder.inner.Order.{IsOrder}
use Rattle.number_tables.specs.ContainmentOrder.inner.Ranks.{NeverFall, Rises}
use Rattle.number_tables.specs.ContainmentOrder.inner.Search.{IsMarked}
use Rattle.number_tables.specs.ContainmentOrder.inner.Settling.{Settles, IsStuck, is_marked}
use Rattle.number_tables.proofs.ContainmentOrder.Chaining.{count_set, set_only, chain_push, marked_lt}

-- a number on a ring, of which P holds
abbrev pub Ring : Graph → (ℕ → Type 0) → Type 0
Ring graph P = (v : ℕ) × (v < length graph) × IsCyclic graph v × P v

module _ (graph : Graph) (P : ℕ → Type 0) (next : (v : ℕ) → P v → (w : ℕ) × Contains (parts_of graph v) w × (w < length graph) × P w) where
  -- the next number was passed before, or it wasn't
  turn : (marks : List Bool) (v : ℕ) (p : P v) → ((x : ℕ) → IsMarked marks x → (x ≡ v) ⊎ Chain graph x v) → (get_or marks (next v p).0 false ≡ false → Ring graph P) → Ring graph P
  turn marks v p reach other = at (get_or marks (next v p).0 false) refl
    where
      ring : ((next v p).0 ≡ v) ⊎ Chain graph (next v p).0 v → IsCyclic graph (next v p).0
      ring (inl e) = subst (λ x. Chain graph x (next v p).0) (sym e) (one v (next v p).0 (next v p).1)
      ring (inr h) = chain_push graph v (next v p).0 v (next v p).0 h (next v p).1

      at : (b : Bool) → get_or marks (next v p).0 false ≡ b → Ring graph P
      at true e = ((next v p).0, (next v p).2, ring (reach (next v p).0 e), (next v p).3)
      at false e = other e

  reach_next : (marks : List Bool) (v : ℕ) (p : P v) → ((x : ℕ) → IsMarked marks x → (x ≡ v) ⊎ Chain graph x v) →
      (x : ℕ) → IsMarked (set marks (next v p).0 true) x → (x ≡ (next v p).0) ⊎ Chain graph x (next v p).0
  reach_next marks v p reach x h = at (set_only marks (next v p).0 x h)
    where
      old : (x ≡ v) ⊎ Chain graph x v → (x ≡ (next v p).0) ⊎ Chain graph x (next v p).0
      old (inl e) = inr (subst (λ y. Chain graph y (next v p).0) (sym e) (one v (next v p).0 (next v p).1))
      old (inr c) = inr (chain_push graph v x v (next v p).0 c (next v p).1)

      at : IsMarked marks x ⊎ (x ≡ (next v p).0) → (x ≡ (next v p).0) ⊎ Chain graph x (next v p).0
      at (inl m) = old (reach x m)
      at (inr e) = inl e

  -- a walk that marks where it was comes to a mark
  ring_from : (fuel : ℕ) (marks : List Bool) (v : ℕ) (p : P v) → length marks ≡ length graph → count_by not marks ≤ fuel →
      ((x : ℕ) → IsMarked marks x → (x ≡ v) ⊎ Chain graph x v) → Ring graph P
  ring_from zero marks v p size few reach =
      turn marks v p reach (λ off.
      let w = (next v p).0 in
      let lt : w < length graph = (next v p).2 in
      let fewer : suc (count_by not (set marks w true)) ≡ count_by not marks = count_set marks w (omega arith) off in
      absurd (omega arith))
  ring_from (suc fuel) marks v p size few reach =
      turn marks v p reach (λ off.
      let lt : (next v p).0 < length graph = (next v p).2 in
      let fewer : suc (count_by not (set marks (next v p).0 true)) ≡ count_by not marks = count_set marks (next v p).0 (omega arith) off in
      ring_from fuel (set marks (next v p).0 true) (next v p).0 (next v p).3 (length-set marks (next v p).0 true ∙ size) (omega arith) (reach_next marks v p reach))

  pub some_ring : (v : ℕ) → P v → Ring graph P
  some_ring v p =
      let none = replicate (length graph) false in
      ring_from (count_by not none) none v p (length-replicate (length graph) false) (omega arith)
      (λ x h. absurd (let lt : x < length graph = marked_lt_all x h in let off : get_or none x false ≡ false = get_or-replicate (length graph) x false false lt in cc (off, h)))
    where
      marked_lt_all : (x : ℕ) → IsMarked (replicate (length graph) false) x → x < length graph
      marked_lt_all x h = let lt : x < length (replicate (length graph) false) = marked_lt (replicate (length graph) false) x h in
          let long : length (replicate (length graph) false) ≡ length graph = length-replicate (length graph) false in omega arith

-- a part that isn't marked
some_unmarked : (marks : List Bool) (parts : List ℕ) → list_all (is_marked marks) parts ≡ false → (w : ℕ) × Contains parts w × (is_marked marks w ≡ false)
some_unmarked marks [] h = absurd (cc)
some_unmarked marks (x ∷ parts) h = at (is_marked marks x) refl (λ e. some_unmarked marks parts (sym (ap (λ b. b && list_all (is_marked marks) parts) e) ∙ h))
  where
    at : (b : Bool) → is_marked marks x ≡ b → (is_marked marks x ≡ true → (w : ℕ) × Contains parts w × (is_marked marks w ≡ false)) → (w : ℕ) × Contains (x ∷ parts) w × (is_marked marks w ≡ false)
    at false e rest = (x, (0, omega arith, refl), e)
    at true e rest = let m = rest e in (m.0, Contains-append_right (x ∷ []) parts m.0 m.1, m.2)

abbrev IsLeft : Graph → List Bool → ℕ → Type 0
IsLeft graph marks v = (v < length graph) × (is_marked marks v ≡ false)

stuck_next : (graph : Graph) (marks : List Bool) → IsInRange graph → ((v : ℕ) → v < length graph → IsStuck graph marks v) →
    (v : ℕ) → IsLeft graph marks v → (w : ℕ) × Contains (parts_of graph v) w × (w < length graph) × IsLeft graph marks w
stuck_next graph marks range stuck v p =
    let u = some_unmarked marks (parts_of graph v) (stuck v p.0 p.1) in
    let lt = All-contains (λ w. w < length graph) (parts_of graph v) u.0 (range v p.0) u.1 in
    (u.0, u.1, lt, (lt, u.2))

-- without a ring each number is marked, once nothing more can be placed
all_marked : (graph : Graph) (marks : List Bool) → IsInRange graph → ((v : ℕ) → v < length graph → IsStuck graph marks v) → HasNoRing graph → (v : ℕ) → v < length graph → IsMarked marks v
all_marked graph marks range stuck none v lt = at (is_marked marks v) refl
  where
    at : (b : Bool) → is_marked marks v ≡ b → IsMarked marks v
    at true e = e
    at false e = let r = some_ring graph (IsLeft graph marks) (stuck_next graph marks range stuck) v (lt, e) in absurd (none r.0 r.2)

-- beyond the graph nothing has parts
no_parts : (graph : Graph) (v : ℕ) → length graph ≤ v → parts_of graph v ≡ []
no_parts [] v le = refl
no_parts (x ∷ graph) zero le = absurd (omega arith)
no_parts (x ∷ graph) (suc v) le = no_parts graph v (omega arith)

no_chain : (graph : Graph) (v w : ℕ) → parts_of graph v ≡ [] → Chain graph v w → ⊥
no_chain graph v w e (one _ _ c) = let c' : Contains [] w = subst (λ xs. Contains xs w) e c in let lt : c'.0 < 0 = c'.1 in omega arith
no_chain graph v w e (more _ u _ c h) = let c' : Contains [] u = subst (λ xs. Contains xs u) e c in let lt : c'.0 < 0 = c'.1 in omega arith

pub cyclic_inside : (graph : Graph) → ((v : ℕ) → v < length graph → IsCyclic graph v → ⊥) → HasNoRing graph
cyclic_inside graph none v h = at (cases_lt v (length graph))
  where
    at : (v < length graph) ⊎ (length graph ≤ v) → ⊥
    at (inl lt) = none v lt h
    at (inr le) = no_chain graph v v (no_parts graph v le) h

-- where nothing more can be placed and there is no ring, all numbers are in order
pub in_order : (graph : Graph) (marks : List Bool) (order : List ℕ) → IsInRange graph → Settles graph marks order → ((v : ℕ) → v < length graph → IsStuck graph marks v) → HasNoRing graph →
    IsOrder graph order
in_order graph marks order range s stuck none = record {
  all = λ v lt. s.placed v (all_marked graph marks range stuck none v lt);
  inside = All-weaker (IsMarked marks) (λ v. v < length graph) (λ v h. let lt : v < length marks = marked_lt marks v h in let size : length marks ≡ length graph = s.size in
      omega arith) order s.marked;
  parts = s.parts;
  once = let count : count_by not marks + length order ≡ length graph = s.count in omega arith;
}

-- where ranks never fall, a chain never leads to a lower one
module _ (graph : Graph) (ranks : List ℕ) (ranked : NeverFall graph ranks) where
  part_not_lower : (v w : ℕ) → Contains (parts_of graph v) w → get_or ranks v 0 ≤ get_or ranks w 0
  part_not_lower v w c = at (cases_lt v (length graph))
    where
      at : (v < length graph) ⊎ (length graph ≤ v) → get_or ranks v 0 ≤ get_or ranks w 0
      at (inl lt) = All-contains (λ x. get_or ranks v 0 ≤ get_or ranks x 0) (parts_of graph v) w (ranked v lt) c
      at (inr le) = absurd (no_chain graph v w (no_parts graph v le) (one v w c))

  never_lower : (v w : ℕ) → Chain graph v w → get_or ranks v 0 ≤ get_or ranks w 0
  never_lower v w (one _ _ c) = part_not_lower v w c
  never_lower v w (more _ u _ c h) =
      let a : get_or ranks v 0 ≤ get_or ranks u 0 = part_not_lower v u c in
      let b : get_or ranks u 0 ≤ get_or ranks w 0 = never_lower u w h in
      omega arith

  -- and a number whose parts all rise is on no ring
  pub rising_off : (v : ℕ) → Rises graph ranks v → IsCyclic graph v → ⊥
  rising_off v rises (one _ _ c) =
      let a : get_or ranks v 0 < get_or ranks v 0 = All-contains (λ x. get_or ranks v 0 < get_or ranks x 0) (parts_of graph v) v rises c in
      omega arith
  rising_off v rises (more _ u _ c h) =
      let a : get_or ranks v 0 < get_or ranks u 0 = All-contains (λ x. get_or ranks v 0 < get_or ranks x 0) (parts_of graph v) u rises c in
      let b : get_or ranks u 0 ≤ get_or ranks v 0 = never_lower u v h in
      omega arith
