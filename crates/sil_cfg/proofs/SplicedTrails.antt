-- The splicing law.
use Rattle.std.proofs.Common.{◌<◌, length, ◌≡◌, ℕ, suc, List, [], ◌∷◌, ◌++◌, refl, sym, ap, ◌∙◌, subst, arith, append_assoc, ◌⊎◌, inl, inr, Some, Bool, true, false}
use Rattle.std.specs.List.{list_any}
use Rattle.std.proofs.lemmas.List.Folds.{list_any-append}
use Rattle.std.proofs.lemmas.Grind.{common_steps}
use Rattle.std.proofs.lemmas.Option.{some_pair_parts, none-some}
use Rattle.std.proofs.lemmas.Bool.{eqb-true}
use Rattle.sil_ast.specs.declared.place.EdgeId.{EdgeId}
use Rattle.sil_cfg.specs.declared.item.Item.{Item}
use Rattle.sil_cfg.specs.declared.item.Item.TheVariants.{Entry, Inst, Edge, Exit}
use Rattle.sil_cfg.specs.Flow.{Flow, edge_to}
use Rattle.sil_ast.specs.declared.function.Function.{Function}
use Rattle.sil_cfg.specs.Items.{flow_of}
use Rattle.sil_cfg.specs.Walk.{IsTrail}
use Rattle.sil_cfg.specs.inner.Splice.{Stop, item, into, goes_into, is_at, Precedes, LastStandsBefore, Splices}
use Rattle.sil_cfg.proofs.Places.{place_of, IsPlaced, flow_placed, same_item-true}
use Rattle.sil_cfg.proofs.Paths.{Spot, Moves, Path, Path-append, Path-split, entry, Path-from_trail, Trail-from_path, some_pushed}

-- a list that passes nowhere, taken apart and put together
none_left : (p : Item → Bool) (u v : List Item) → list_any p (u ++ v) ≡ false → list_any p u ≡ false
none_left p u v h = grind (arith, common_steps, list_any-append p u v)

none_right : (p : Item → Bool) (u v : List Item) → list_any p (u ++ v) ≡ false → list_any p v ≡ false
none_right p u v h = grind (arith, common_steps, list_any-append p u v)

none_append : (p : Item → Bool) (u v : List Item) → list_any p u ≡ false → list_any p v ≡ false → list_any p (u ++ v) ≡ false
none_append p u v h k = grind (arith, common_steps, list_any-append p u v)

record FirstAt (p : Item → Bool) (xs : List Item) : Type 0 where
  front : List Item
  here : Item
  rest : List Item
  parts : xs ≡ front ++ here ∷ rest
  passes : p here ≡ true
  none_before : list_any p front ≡ false

record LastAt (p : Item → Bool) (xs : List Item) : Type 0 where
  front : List Item
  here : Item
  rest : List Item
  parts : xs ≡ front ++ here ∷ rest
  passes : p here ≡ true
  none_after : list_any p rest ≡ false

bool_cases : (b : Bool) → (b ≡ true) ⊎ (b ≡ false)
bool_cases true = inl refl
bool_cases false = inr refl

first_of_any : (p : Item → Bool) (xs : List Item) → list_any p xs ≡ true → FirstAt p xs
first_of_any p [] h = absurd (cc)
first_of_any p (x ∷ xs) h = elim (bool_cases (p x)) [
  | inl y ↦ record { front = []; here = x; rest = xs; parts = refl; passes = y; none_before = refl }
  | inr n ↦ let r = first_of_any p xs (grind arith) in
      record { front = x ∷ r.front; here = r.here; rest = r.rest; parts = ap (λ v. x ∷ v) r.parts; passes = r.passes; none_before = rw n r.none_before }
]

last_of_any : (p : Item → Bool) (xs : List Item) → list_any p xs ≡ true → LastAt p xs
last_of_any p [] h = absurd (cc)
last_of_any p (x ∷ xs) h = elim (bool_cases (list_any p xs)) [
  | inl y ↦ let r = last_of_any p xs y in
      record { front = x ∷ r.front; here = r.here; rest = r.rest; parts = ap (λ v. x ∷ v) r.parts; passes = r.passes; none_after = r.none_after }
  | inr n ↦ record { front = []; here = x; rest = xs; parts = refl; passes = grind arith; none_after = n }
]

-- an item that is no edge stands in one place
same_place : (i : Item) (b k c m : ℕ) → place_of i ≡ Some (b, k) → place_of i ≡ Some (c, m) → (b ≡ c) × (k ≡ m)
same_place i b k c m h j = some_pair_parts b c k m (sym h ∙ j)

no_edge_item : (i : Item) (b k : ℕ) (e : EdgeId) → place_of i ≡ Some (b, k) → i ≡ Edge e → ⊥
no_edge_item i b k e h j = none-some (b, k) (let P : Item → Type 0 = λ v. place_of v ≡ Some (b, k) in subst P j h)

not_into : (g : Flow Item) (i : Item) (b k c : ℕ) → place_of i ≡ Some (b, k) → goes_into g c i ≡ true → ⊥
not_into g Entry b k c h j = cc
not_into g (Inst p) b k c h j = cc
not_into g (Edge e) b k c h j = none-some (b, k) h
not_into g (Exit p) b k c h j = cc

same_edge : (e d : EdgeId) → Edge e ≡ Edge d → e ≡ d
same_edge e d h = cc

-- what one item does
Moves_one : (g : Flow Item) → IsPlaced g → (p q : Spot) (i : Item) (s t : Spot) → Moves g p i s → Moves g q i t → s ≡ t
Moves_one g sound p q i s t (inl a) (inl b) =
    let same = same_place i p.block p.done q.block q.done (sound.place p.block p.done i a.next) (sound.place q.block q.done i b.next) in
    a.to ∙ ap (λ (v : Spot). let r : Spot = record { block = v.block; done = suc v.done } in r) (let e : p ≡ q = spot_path p q same.0 same.1 in e) ∙ sym b.to
  where
    spot_path : (x y : Spot) → x.block ≡ y.block → x.done ≡ y.done → x ≡ y
    spot_path x y e f = λ i. record { block = e i; done = f i }
Moves_one g sound p q i s t (inl a) (inr b) = absurd (no_edge_item i p.block p.done b.edge (sound.place p.block p.done i a.next) (b.next ∙ sound.edge b.edge))
Moves_one g sound p q i s t (inr a) (inl b) = absurd (no_edge_item i q.block q.done a.edge (sound.place q.block q.done i b.next) (a.next ∙ sound.edge a.edge))
Moves_one g sound p q i s t (inr a) (inr b) =
    let same : a.edge ≡ b.edge = same_edge a.edge b.edge (sym (sound.edge a.edge) ∙ sym a.next ∙ b.next ∙ sound.edge b.edge) in
    a.to ∙ ap (λ (e : EdgeId). let r : Spot = record { block = edge_to g e; done = 0 } in r) same ∙ sym b.to

Moves_into : (g : Flow Item) → IsPlaced g → (p : Spot) (i : Item) (s : Spot) (b : ℕ) → Moves g p i s → goes_into g b i ≡ true → s ≡ record { block = b; done = 0 }
Moves_into g sound p i s b (inl a) h = absurd (not_into g i p.block p.done b (sound.place p.block p.done i a.next) h)
Moves_into g sound p i s b (inr a) h =
    let is : i ≡ Edge a.edge = a.next ∙ sound.edge a.edge in
    let goes : edge_to g a.edge ≡ b = eqb-true (edge_to g a.edge) b (sym (ap (goes_into g b) is) ∙ h) in
    a.to ∙ ap (λ (v : ℕ). let r : Spot = record { block = v; done = 0 } in r) goes

-- behind each of the items of a stop there is one and the same spot
Moves_same : (g : Flow Item) → IsPlaced g → (stop : Stop) (p q : Spot) (i j : Item) (s t : Spot) → Moves g p i s → Moves g q j t → is_at g stop i ≡ true → is_at g stop j ≡ true → s ≡ t
Moves_same g sound (item x) p q i j s t a b h k =
    let e : i ≡ j = same_item-true i x h ∙ sym (same_item-true j x k) in
    Moves_one g sound p q j s t (let P : Item → Type 0 = λ v. Moves g p v s in subst P e a) b
Moves_same g sound (into x) p q i j s t a b h k = Moves_into g sound p i s x a h ∙ sym (Moves_into g sound q j t x b k)

-- a path at one of its items
record Passes (g : Flow Item) (before : List Item) (i : Item) (after : List Item) (q : Spot) : Type 0 where
  from : Spot
  to : Spot
  reaches : Path g entry before from
  moves : Moves g from i to
  leads : Path g to after q

pass_at : (g : Flow Item) (t u v : List Item) (i : Item) (q : Spot) → Path g entry t q → t ≡ u ++ i ∷ v → Passes g u i v q
pass_at g t u v i q a e =
    let r = Path-split g u (i ∷ v) entry q (let P : List Item → Type 0 = λ x. Path g entry x q in subst P e a) in
    record { from = r.0; to = r.2.0; reaches = r.1; moves = r.2.1; leads = r.2.2 }

prefix_trail : (g : Flow Item) (t u v : List Item) (q : Spot) → 0 < length u → Path g entry t q → t ≡ u ++ v → (w : List EdgeId) × IsTrail g w u
prefix_trail g t u v q some a e =
    let r = Path-split g u v entry q (let P : List Item → Type 0 = λ x. Path g entry x q in subst P e a) in
    Trail-from_path g u r.0 some r.1

-- what is none of a list's tail is none of a part of the tail
none_behind : (p : Item → Bool) (j k : Item) (z f r : List Item) → j ∷ z ≡ f ++ k ∷ r → list_any p z ≡ false → list_any p r ≡ false
none_behind p j k z [] r e h = let same : z ≡ r = cc in subst (λ v. list_any p v ≡ false) same h
none_behind p j k z (x ∷ f) r e h =
    let same : z ≡ f ++ k ∷ r = cc in
    let there : list_any p (k ∷ r) ≡ false = none_right p f (k ∷ r) (subst (λ v. list_any p v ≡ false) same h) in
    none_right p (k ∷ []) r there

-- lists put together in other ways
end_at : (xs f r : List Item) (h i : Item) → xs ≡ f ++ h ∷ r → xs ++ i ∷ [] ≡ (f ++ h ∷ []) ++ (r ++ i ∷ [])
end_at xs f r h i e = rw e (simp append_assoc)

cut_at : (xs f r u v : List Item) (h k i : Item) → xs ≡ f ++ h ∷ r → f ≡ u ++ k ∷ v → xs ++ i ∷ [] ≡ u ++ k ∷ (v ++ (h ∷ (r ++ i ∷ [])))
cut_at xs f r u v h k i e d = rw (e, d) (simp append_assoc)

cut_behind : (xs f r u v : List Item) (h k i : Item) → xs ≡ f ++ h ∷ r → h ∷ r ≡ u ++ k ∷ v → xs ++ i ∷ [] ≡ (f ++ u) ++ k ∷ (v ++ i ∷ [])
cut_behind xs f r u v h k i e d = ap (λ y. y ++ i ∷ []) (e ∙ ap (λ y. f ++ y) d) ∙ simp append_assoc

cut_twice : (xs f r u v : List Item) (h k : Item) → xs ≡ f ++ h ∷ r → f ≡ u ++ k ∷ v → xs ≡ u ++ k ∷ (v ++ h ∷ r)
cut_twice xs f r u v h k e d = rw (e, d) (simp append_assoc)

some_at : (p : Item → Bool) (xs u z : List Item) (j : Item) → xs ≡ u ++ j ∷ z → p j ≡ true → list_any p xs ≡ true
some_at p xs u z j e h = rw e (grind (arith, common_steps, list_any-append p u (j ∷ z)))

module _ (g : Flow Item) (sound : IsPlaced g) (a b c : Stop) (ab : Precedes g a b) (bc : Precedes g b c) where
  -- no a comes after the last b, as a walk to that a around every b would go on to c
  no_later : (before u z : List Item) (i j : Item) (q : Spot) → Path g entry (before ++ i ∷ []) q → is_at g c i ≡ true →
      before ≡ u ++ j ∷ z → is_at g b j ≡ true → list_any (is_at g b) z ≡ false → list_any (is_at g a) (j ∷ z) ≡ true → ⊥
  no_later before u z i j q path ci parts bj none_b some_a =
      let late = first_of_any (is_at g a) (j ∷ z) some_a in
      let none_z : list_any (is_at g b) late.rest ≡ false = none_behind (is_at g b) j late.here z late.front late.rest late.parts none_b in
      let any_b : list_any (is_at g b) before ≡ true = some_at (is_at g b) before u z j parts bj in
      let early_b = first_of_any (is_at g b) before any_b in
      let whole_b : before ++ i ∷ [] ≡ (early_b.front ++ early_b.here ∷ []) ++ (early_b.rest ++ i ∷ []) = end_at before early_b.front early_b.rest early_b.here i early_b.parts in
      let trail_b = prefix_trail g (before ++ i ∷ []) (early_b.front ++ early_b.here ∷ []) (early_b.rest ++ i ∷ []) q (some_pushed early_b.front early_b.here) path whole_b in
      let early_a = first_of_any (is_at g a) early_b.front (ab trail_b.0 early_b.front early_b.here trail_b.1 early_b.passes) in
      let early : before ++ i ∷ [] ≡ early_a.front ++ early_a.here ∷ (early_a.rest ++ (early_b.here ∷ (early_b.rest ++ i ∷ []))) =
      cut_at before early_b.front early_b.rest early_a.front early_a.rest early_b.here early_a.here i early_b.parts early_a.parts in
      let first_pass = pass_at g _ early_a.front _ early_a.here q path early in
      let later : before ++ i ∷ [] ≡ (u ++ late.front) ++ late.here ∷ (late.rest ++ i ∷ []) = cut_behind before u z late.front late.rest j late.here i parts late.parts in
      let last_pass = pass_at g _ (u ++ late.front) _ late.here q path later in
      let same : last_pass.to ≡ first_pass.to =
      Moves_same g sound a last_pass.from first_pass.from late.here early_a.here last_pass.to first_pass.to last_pass.moves first_pass.moves late.passes early_a.passes in
      let onward : Path g first_pass.to (late.rest ++ i ∷ []) q = (let P : Spot → Type 0 = λ s. Path g s (late.rest ++ i ∷ []) q in subst P same last_pass.leads) in
      let spliced : Path g entry (early_a.front ++ early_a.here ∷ (late.rest ++ i ∷ [])) q =
      Path-append g early_a.front _ entry first_pass.from q first_pass.reaches (first_pass.to, first_pass.moves, onward) in
      let joined : early_a.front ++ early_a.here ∷ (late.rest ++ i ∷ []) ≡ (early_a.front ++ early_a.here ∷ late.rest) ++ i ∷ [] =
      sym (append_assoc early_a.front (early_a.here ∷ late.rest) (i ∷ [])) in
      let trail = Trail-from_path g _ q (some_pushed (early_a.front ++ early_a.here ∷ late.rest) i) (let P : List Item → Type 0 = λ t. Path g entry t q in subst P joined spliced) in
      let some_b : list_any (is_at g b) (early_a.front ++ early_a.here ∷ late.rest) ≡ true = bc trail.0 _ i trail.1 ci in
      let none_early : list_any (is_at g b) (early_a.front ++ early_a.here ∷ early_a.rest) ≡ false = subst (λ v. list_any (is_at g b) v ≡ false) early_a.parts early_b.none_before in
      let none_front : list_any (is_at g b) early_a.front ≡ false = none_left (is_at g b) early_a.front (early_a.here ∷ early_a.rest) none_early in
      let none_rest : list_any (is_at g b) (early_a.here ∷ early_a.rest) ≡ false = none_right (is_at g b) early_a.front (early_a.here ∷ early_a.rest) none_early in
      let none_here : list_any (is_at g b) (early_a.here ∷ []) ≡ false = none_left (is_at g b) (early_a.here ∷ []) early_a.rest none_rest in
      let none : list_any (is_at g b) (early_a.front ++ early_a.here ∷ late.rest) ≡ false =
      none_append (is_at g b) early_a.front (early_a.here ∷ late.rest) none_front (none_append (is_at g b) (early_a.here ∷ []) late.rest none_here none_z) in
      absurd (cc (none, some_b))

  spliced_at : (w : List EdgeId) (before : List Item) (i : Item) → IsTrail g w (before ++ i ∷ []) → is_at g c i ≡ true → LastStandsBefore (is_at g a) (is_at g b) before
  spliced_at w before i trail ci =
      let path = Path-from_trail g w (before ++ i ∷ []) trail in
      let second = last_of_any (is_at g b) before (bc w before i trail ci) in
      let whole : before ++ i ∷ [] ≡ (second.front ++ second.here ∷ []) ++ (second.rest ++ i ∷ []) = end_at before second.front second.rest second.here i second.parts in
      let trail_b = prefix_trail g (before ++ i ∷ []) (second.front ++ second.here ∷ []) (second.rest ++ i ∷ []) path.0 (some_pushed second.front second.here) path.1 whole in
      let first = last_of_any (is_at g a) second.front (ab trail_b.0 second.front second.here trail_b.1 second.passes) in
      let none : list_any (is_at g a) (second.here ∷ second.rest) ≡ false = elim (bool_cases (list_any (is_at g a) (second.here ∷ second.rest))) [
        | inl y ↦ absurd (no_later before second.front second.rest i second.here path.0 path.1 ci second.parts second.passes second.none_after y)
        | inr n ↦ n
      ] in
      record {
        front = first.front;
        first = first.here;
        middle = first.rest;
        second = second.here;
        rest = second.rest;
        parts = cut_twice before second.front second.rest first.front first.rest second.here first.here second.parts first.parts;
        first_is = first.passes;
        second_is = second.passes;
        last_first = none_append (is_at g a) first.rest (second.here ∷ second.rest) first.none_after none;
        last_second = second.none_after;
      }

-- the splicing law
pub splices : (f : Function) → Splices f
splices f a b c ab bc w before i trail ci = spliced_at (flow_of f) (flow_placed f) a b c ab bc w before i trail ci
