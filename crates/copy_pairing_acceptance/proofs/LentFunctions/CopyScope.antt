-- The copy as a scope: what its life kept on each trail of the function, its scope keeps, and no base of the copied value ends while it is open.
use Rattle.std.proofs.Common.{◌≡◌, ℕ, List, [], ◌∷◌, ◌++◌, map, refl, sym, ap, ap₂, ◌∙◌, subst, Bool, Option, Some, None, true, false}
use Rattle.std.specs.Prelude.{◌==◌, ◌&&◌, ◌↔◌, cond, filter_map}
use Rattle.std.specs.List.{cons_option, flat_map, range_with_len}
use Rattle.std.proofs.lemmas.Grind.{flat_map-append}
use Rattle.std.proofs.lemmas.List.{append-nil}
use Rattle.std.proofs.lemmas.List.Elements.{filter_map-append}
use Rattle.sil_verifier_trails.specs.borrow_scopes.Scopes as scopes
use Rattle.sil_verifier_trails.specs.borrow_scopes.Scopes.{is_scope, lent_bases, lost_at_end, lost_entries, lost_from, lost_with, mark_entries, scope_entries, scopes_of}
use Rattle.sil_verifier_trails.specs.borrow_scopes.inner.Runs.{sort_for, sort_of}
use Rattle.sil_verifier_trails.specs.lifetime_worklist.Lives as lives
use Rattle.sil_verifier_trails.specs.lifetime_worklist.Lives.{lives_by, lives_of}
use Rattle.numbered_form.specs.Lists.{Each}
use Rattle.ownership_kinds_chains.specs.OwnershipChains.Facts.{has, is_guaranteed, is_owned, value_of}
use Rattle.ownership_kinds_chains.specs.declared.ownership_chains.facts.Facts.{Facts}
use Rattle.copy_pairing_model.specs.ownership_kinds_origins.Facts.{facts_in}
use Rattle.ownership_kinds_chains.specs.OwnershipMarks.Marks.{marks_of}
use Rattle.ownership_kinds_chains.specs.declared.ownership_marks.mark.Mark as own
use Rattle.ownership_kinds_chains.specs.declared.ownership_marks.mark.MarkSort.{MarkSort}
use Rattle.ownership_kinds_chains.specs.declared.ownership_marks.mark.MarkSort.TheVariants.{End, Use, Begin}
use Rattle.reach_engine_marks.specs.PathChecks.Entries.{marks_for, means}
use Rattle.reach_engine_marks.proofs.PathPatterns.HeldIsOn.{on_while_held}
use Rattle.reach_engine_marks.specs.PathPatterns.Along.{IsKept}
use Rattle.reach_engine_marks.specs.PathPatterns.Lawful.{AreLawful}
use Rattle.reach_engine_marks.specs.PathPatterns.Switch.{Finds, IsInPlace, IsOn}
use Rattle.reach_engine_marks.specs.declared.path_patterns.mark.Mark.{Mark}
use Rattle.reach_engine_marks.specs.PathPatterns.inner.Runs.{IsHeld, Sort, TurnAlike, turned_by}
use Rattle.sil_ast.specs.declared.function.Function.{Function}
use Rattle.sil_ast.specs.declared.place.EdgeId.{EdgeId}
use Rattle.sil_ast.specs.declared.place.PointId.{PointId}
use Rattle.sil_ast.specs.declared.place.ValueId.{ValueId}
use Rattle.sil_cfg.specs.Items.{flow_of}
use Rattle.sil_cfg.specs.Returns.{is_return}
use Rattle.sil_cfg.specs.Walk.{IsTrail}
use Rattle.sil_cfg.specs.declared.item.Item.{Item}
use Rattle.sil_types_declarations.specs.TypeDefinitions.Declarations.{Declarations}
use Rattle.numbered_form.specs.ValueTables.Borrows.{borrows, lends}
use Rattle.copy_pairing_model.specs.Removable.{is_mark, is_sort}
use Rattle.copy_pairing_model.specs.Rewritten.{lent}
use Rattle.copy_pairing_acceptance.proofs.LentFunctions.Graph.{return_lent}
use Rattle.copy_pairing_acceptance.proofs.LentFunctions.Lists.{each_behind, each_front, flat_map_all, nothing_in, placed}
use Rattle.copy_pairing_acceptance.proofs.LentFunctions.Marks.{marks_lent}
use Rattle.copy_pairing_acceptance.proofs.LentFunctions.Ready.{Ready}
use Rattle.copy_pairing_acceptance.proofs.LentFunctions.Tables.{bases_same, facts, flat_none, flat_same, known_copy, known_lent, lent_facts, one_same}
use Rattle.copy_pairing_acceptance.proofs.LentFunctions.ValueRows.{lent_borrow, same_value}

-- ---- what an item does to the copy, mark by mark; none stands for the return

abbrev Event : Type 0
Event = Option own.Mark

abbrev marks_in : List Event → List own.Mark
marks_in es = filter_map (λ (e : Event). e) es

-- it needs the switch off, and turns nothing
abbrev IsOff : Mark → Type 0
IsOff m = (m.needs ≡ Some false) × (m.turns ≡ None)

off_turns : (ms : List Mark) → Each IsOff ms → filter_map (λ (m : Mark). m.turns) ms ≡ []
off_turns [] h = refl
off_turns (m ∷ ms) h = ap₂ cons_option h.0.1 (off_turns ms h.1)

finds_alike : (o : Option Bool) (xs ys : List Mark) → IsOn xs ↔ IsOn ys → Finds o ys → Finds o xs
finds_alike None xs ys h k = tt
finds_alike (Some true) xs ys h k = h.1 k
finds_alike (Some false) xs ys h k = λ on. k (h.0 on)

needs_same : (x : MarkSort) → (scopes.turned_by x).needs ≡ (lives.turned_by x).needs
needs_same End = refl
needs_same Use = refl
needs_same Begin = refl

scope_turns : (x : MarkSort) → (scopes.turned_by x).turns ≡ turned_by (sort_of x)
scope_turns End = refl
scope_turns Use = refl
scope_turns Begin = refl

life_turns : (x : MarkSort) → (lives.turned_by x).turns ≡ turned_by (sort_of x)
life_turns End = refl
life_turns Use = refl
life_turns Begin = refl

flat_flat : {A B C : Type 0} (g : B → List C) (h : A → List B) (xs : List A) → flat_map g (flat_map h xs) ≡ flat_map (λ x. flat_map g (h x)) xs
flat_flat g h [] = refl
flat_flat g h (x ∷ xs) = flat_map-append g (h x) (flat_map h xs) ∙ ap (λ ys. flat_map g (h x) ++ ys) (flat_flat g h xs)

flat_mapped : {A B C : Type 0} (g : B → List C) (h : A → B) (xs : List A) → flat_map g (map h xs) ≡ flat_map (λ x. g (h x)) xs
flat_mapped g h [] = refl
flat_mapped g h (x ∷ xs) = ap (λ ys. g (h x) ++ ys) (flat_mapped g h xs)

picked_flat : {A B C : Type 0} (pick : B → Option C) (h : A → List B) (xs : List A) → filter_map pick (flat_map h xs) ≡ flat_map (λ x. filter_map pick (h x)) xs
picked_flat pick h [] = refl
picked_flat pick h (x ∷ xs) = filter_map-append pick (h x) (flat_map h xs) ∙ ap (λ ys. filter_map pick (h x) ++ ys) (picked_flat pick h xs)

picked_back : {A : Type 0} (xs : List A) → filter_map (λ (e : Option A). e) (map (λ x. Some x) xs) ≡ xs
picked_back [] = refl
picked_back (x ∷ xs) = ap (λ ys. x ∷ ys) (picked_back xs)

-- ---- entries that all returns share

-- of two tables that have an entry of each number, the one has marks where the other has
data Alike : List Mark → List Mark → Type 0 where
  none : Alike [] []
  more : (x y : Mark) (xs ys : List Mark) → IsOff x → IsOff y → Alike xs ys → Alike (x ∷ xs) (y ∷ ys)

alike_off : (xs ys : List Mark) → Alike xs ys → Each IsOff xs
alike_off _ _ none = tt
alike_off _ _ (more x y xs ys a b h) = (a, alike_off xs ys h)

record IsFirstOff (ys : List Mark) : Type 0 where
  mark : Mark
  rest : List Mark
  parts : ys ≡ mark ∷ rest
  off : IsOff mark

alike_first : (xs ys front behind : List Mark) (m : Mark) → xs ≡ front ++ m ∷ behind → Alike xs ys → IsFirstOff ys
alike_first _ _ front behind m e none = nothing_in front behind m e
alike_first _ _ front behind m e (more x y xs ys a b h) = record { mark = y; rest = ys; parts = refl; off = b }

returns_alike : (s : ℕ) (ks : List ℕ)
    → Alike (filter_map (means s) (flat_map (λ k. scopes.left_at_return k ∷ []) ks)) (filter_map (means s) (flat_map (λ k. lives.left_at_return k ∷ []) ks))
returns_alike s [] = none
returns_alike s (k ∷ ks) = at (k == s) (returns_alike s ks)
  where
    at : (b : Bool) → Alike (filter_map (means s) (flat_map (λ j. scopes.left_at_return j ∷ []) ks)) (filter_map (means s) (flat_map (λ j. lives.left_at_return j ∷ []) ks))
        → Alike (cons_option (cond b (Some (scopes.left_at_return k).mark) None) (filter_map (means s) (flat_map (λ j. scopes.left_at_return j ∷ []) ks)))
        (cons_option (cond b (Some (lives.left_at_return k).mark) None) (filter_map (means s) (flat_map (λ j. lives.left_at_return j ∷ []) ks)))
    at true h = more (scopes.left_at_return k).mark (lives.left_at_return k).mark _ _ (refl, refl) (refl, refl) h
    at false h = h

lost_off : (s : ℕ) (test : ℕ → Bool) (ks : List ℕ) → Each IsOff (filter_map (means s) (flat_map (λ k. cond (test k) (lost_at_end k ∷ []) []) ks))
lost_off s test [] = tt
lost_off s test (k ∷ ks) = at (test k) (lost_off s test ks)
  where
    own_one : (b : Bool) → Each IsOff (filter_map (means s) (flat_map (λ j. cond (test j) (lost_at_end j ∷ []) []) ks))
        → Each IsOff (cons_option (cond b (Some (lost_at_end k).mark) None) (filter_map (means s) (flat_map (λ j. cond (test j) (lost_at_end j ∷ []) []) ks)))
    own_one true h = ((refl, refl), h)
    own_one false h = h

    at : (b : Bool) → Each IsOff (filter_map (means s) (flat_map (λ j. cond (test j) (lost_at_end j ∷ []) []) ks))
        → Each IsOff (filter_map (means s) (cond b (lost_at_end k ∷ []) [] ++ flat_map (λ j. cond (test j) (lost_at_end j ∷ []) []) ks))
    at true h = own_one (k == s) h
    at false h = h

module _ (d : Declarations) (f : Function) (p : PointId) (c v : ValueId) (r : Ready d f p c v) (n : ℕ) where
  abbrev was : ValueId → Facts
  was = facts d f p c v r

  abbrev now : ValueId → Facts
  now = lent_facts d f p c v r

  abbrev bases : List ValueId
  bases = (was v).bases

  abbrev events : Item → List Event
  events item = map (λ m. Some m) (marks_of (facts_in d f) f item) ++ cond (is_return f item) (None ∷ []) []

  -- what an event is to the copy's life, and to its scope

  abbrev lost : own.Mark → List Mark
  lost m = filter_map (means c.0) (lost_with (lent c f) now n m.subject m.sort)

  abbrev life : Event → List Mark
  life None = filter_map (means c.0) (flat_map (λ k. lives.left_at_return k ∷ []) (range_with_len 0 n))
  life (Some m) = cond (m.subject.0 == c.0) (lives.turned_by m.sort ∷ []) []

  abbrev scope : Event → List Mark
  scope None = filter_map (means c.0) (flat_map (λ k. scopes.left_at_return k ∷ []) (range_with_len 0 n))
  scope (Some m) = cond (m.subject.0 == c.0) (scopes.turned_by m.sort ∷ []) [] ++ lost m

  single : (b : Bool) (x : Mark) → cons_option (cond b (Some x) None) [] ≡ cond b (x ∷ []) []
  single true x = refl
  single false x = refl

  -- ---- the tables by events

  by_events : (g : Event → List Mark) (item : Item)
      → flat_map g (events item) ≡ flat_map (λ m. g (Some m)) (marks_of (facts_in d f) f item) ++ cond (is_return f item) (g None) []
  by_events g item =
      flat_map-append g (map (λ m. Some m) (marks_of (facts_in d f) f item)) (cond (is_return f item) (None ∷ []) [])
      ∙ ap₂ (λ a b. a ++ b) (flat_mapped g (λ m. Some m) (marks_of (facts_in d f) f item)) (at (is_return f item))
    where
      at : (b : Bool) → flat_map g (cond b (None ∷ []) []) ≡ cond b (g None) []
      at true = append-nil (g None)
      at false = refl

  is_owned_copy : (w : ValueId) → w.0 ≡ c.0 → is_owned (was w).kind ≡ true
  is_owned_copy w e = ap (λ (x : Facts). is_owned x.kind) (ap was (same_value w c e) ∙ known_copy d f p c v r)

  is_scope_copy : (w : ValueId) → w.0 ≡ c.0 → is_scope (lent c f) now w ≡ true
  is_scope_copy w e =
      ap (is_scope (lent c f) now) (same_value w c e)
      ∙ ap₂ (λ a b. a && b) (ap (λ (x : Facts). is_guaranteed x.kind) (known_lent d f p c v r)) (ap borrows (lent_borrow d f p c v r))

  life_of : (m : own.Mark) → filter_map (means c.0) (lives_by was m) ≡ life (Some m)
  life_of m =
      one_same c.0 (lives.entry_of m) (is_owned (was m.subject).kind) true (λ e. is_owned_copy m.subject e) ∙ single (m.subject.0 == c.0) (lives.turned_by m.sort)

  left_life : (b : Bool) → filter_map (means c.0) (lives.returned was n b) ≡ cond b (life None) []
  left_life true =
      flat_same c.0 (lives.leaves was) (λ k. lives.left_at_return k ∷ [])
      (λ k. one_same c.0 (lives.left_at_return k) (is_owned (was (value_of k)).kind) true (λ e. is_owned_copy (value_of k) e)) (range_with_len 0 n)
  left_life false = refl

  life_at : (item : Item) → marks_for c.0 (lives_of n (facts_in d f) f) item ≡ flat_map life (events item)
  life_at item =
      filter_map-append (means c.0) (flat_map (lives_by was) (marks_of (facts_in d f) f item)) (lives.returned was n (is_return f item))
      ∙ ap₂ (λ a b. a ++ b)
      (picked_flat (means c.0) (lives_by was) (marks_of (facts_in d f) f item)
      ∙ flat_map_all (λ m. filter_map (means c.0) (lives_by was m)) (λ m. life (Some m)) life_of (marks_of (facts_in d f) f item))
      (left_life (is_return f item))
      ∙ sym (by_events life item)

  scope_of : (m : own.Mark) → filter_map (means c.0) (mark_entries (lent c f) now n m) ≡ scope (Some m)
  scope_of m =
      filter_map-append (means c.0) (scope_entries (lent c f) now m) (lost_entries (lent c f) now n m)
      ∙ ap (λ xs. xs ++ lost m)
      (one_same c.0 (scopes.entry_of m) (is_scope (lent c f) now m.subject) true (λ e. is_scope_copy m.subject e) ∙ single (m.subject.0 == c.0) (scopes.turned_by m.sort))

  left_scope : (b : Bool) → filter_map (means c.0) (scopes.returned (lent c f) now n b) ≡ cond b (scope None) []
  left_scope true =
      flat_same c.0 (scopes.leaves (lent c f) now) (λ k. scopes.left_at_return k ∷ [])
      (λ k. one_same c.0 (scopes.left_at_return k) (is_scope (lent c f) now (value_of k)) true (λ e. is_scope_copy (value_of k) e)) (range_with_len 0 n)
  left_scope false = refl

  abbrev pub scope_marks : Item → List Mark
  scope_marks item = marks_for c.0 (scopes_of n (facts_in d (lent c f)) (lent c f)) item

  scope_at : (item : Item) → scope_marks item ≡ flat_map scope (events item)
  scope_at item =
      filter_map-append (means c.0) (flat_map (mark_entries (lent c f) now n) (marks_of (facts_in d (lent c f)) (lent c f) item))
      (scopes.returned (lent c f) now n (is_return (lent c f) item))
      ∙ ap₂ (λ a b. a ++ b)
      (ap (λ ms. filter_map (means c.0) (flat_map (mark_entries (lent c f) now n) ms)) (marks_lent d f p c v r item)
      ∙ picked_flat (means c.0) (mark_entries (lent c f) now n) (marks_of (facts_in d f) f item)
      ∙ flat_map_all (λ m. filter_map (means c.0) (mark_entries (lent c f) now n m)) (λ m. scope (Some m)) scope_of (marks_of (facts_in d f) f item))
      (ap (λ b. filter_map (means c.0) (scopes.returned (lent c f) now n b)) (return_lent c f item) ∙ left_scope (is_return f item))
      ∙ sym (by_events scope item)

  -- the marks of the events are those of the items
  marks_at : (item : Item) → marks_in (events item) ≡ marks_of (facts_in d f) f item
  marks_at item =
      filter_map-append (λ (e : Event). e) (map (λ m. Some m) (marks_of (facts_in d f) f item)) (cond (is_return f item) (None ∷ []) [])
      ∙ ap₂ (λ a b. a ++ b) (picked_back (marks_of (facts_in d f) f item)) (at (is_return f item))
      ∙ append-nil (marks_of (facts_in d f) f item)
    where
      at : (b : Bool) → marks_in (cond b (None ∷ []) []) ≡ []
      at true = refl
      at false = refl

  marks_along : (t : List Item) → marks_in (flat_map events t) ≡ flat_map (marks_of (facts_in d f) f) t
  marks_along t = picked_flat (λ (e : Event). e) events t ∙ flat_map_all (λ i. marks_in (events i)) (marks_of (facts_in d f) f) marks_at t

  -- ---- the switch is on just while the copy is held

  abbrev sorts : List Event → List Sort
  sorts es = filter_map (sort_for c) (marks_in es)

  own_turns : (turned : MarkSort → Mark) → ((x : MarkSort) → (turned x).turns ≡ turned_by (sort_of x)) → (m : own.Mark) (b : Bool) → (rest : List Sort)
      → filter_map (λ (x : Mark). x.turns) (cond b (turned m.sort ∷ []) []) ++ filter_map turned_by rest
      ≡ filter_map turned_by (cons_option (cond b (Some (sort_of m.sort)) None) rest)
  own_turns turned same m true rest = at (turned m.sort).turns (turned_by (sort_of m.sort)) (same m.sort)
    where
      at : (a b : Option Bool) → a ≡ b → cons_option a [] ++ filter_map turned_by rest ≡ cons_option b (filter_map turned_by rest)
      at None b e = ap (λ o. cons_option o (filter_map turned_by rest)) e
      at (Some x) b e = ap (λ o. cons_option o (filter_map turned_by rest)) e
  own_turns turned same m false rest = refl

  returns_off : Each IsOff (scope None)
  returns_off = alike_off (scope None) (life None) (returns_alike c.0 (range_with_len 0 n))

  lives_off : (xs ys : List Mark) → Alike xs ys → Each IsOff ys
  lives_off _ _ none = tt
  lives_off _ _ (more x y xs ys a b h) = (b, lives_off xs ys h)

  lost_is_off : (m : own.Mark) → Each IsOff (lost m)
  lost_is_off m = at m.sort
    where
      at : (x : MarkSort) → Each IsOff (filter_map (means c.0) (lost_with (lent c f) now n m.subject x))
      at End = lost_off c.0 (λ k. has (lent_bases (lent c f) now k) m.subject.0) (range_with_len 0 n)
      at Use = tt
      at Begin = tt

  life_alike : (es : List Event) → TurnAlike (flat_map life es) (sorts es)
  life_alike [] = refl
  life_alike (None ∷ es) =
      filter_map-append (λ (x : Mark). x.turns) (life None) (flat_map life es)
      ∙ ap₂ (λ a b. a ++ b) (off_turns (life None) (lives_off (scope None) (life None) (returns_alike c.0 (range_with_len 0 n)))) (life_alike es)
  life_alike (Some m ∷ es) =
      filter_map-append (λ (x : Mark). x.turns) (life (Some m)) (flat_map life es)
      ∙ ap (λ b. filter_map (λ (x : Mark). x.turns) (life (Some m)) ++ b) (life_alike es)
      ∙ own_turns lives.turned_by life_turns m (m.subject.0 == c.0) (sorts es)

  scope_alike : (es : List Event) → TurnAlike (flat_map scope es) (sorts es)
  scope_alike [] = refl
  scope_alike (None ∷ es) =
      filter_map-append (λ (x : Mark). x.turns) (scope None) (flat_map scope es) ∙ ap₂ (λ a b. a ++ b) (off_turns (scope None) returns_off) (scope_alike es)
  scope_alike (Some m ∷ es) =
      filter_map-append (λ (x : Mark). x.turns) (scope (Some m)) (flat_map scope es)
      ∙ ap₂ (λ a b. a ++ b)
      (filter_map-append (λ (x : Mark). x.turns) (cond (m.subject.0 == c.0) (scopes.turned_by m.sort ∷ []) []) (lost m)
      ∙ ap (λ b. filter_map (λ (x : Mark). x.turns) (cond (m.subject.0 == c.0) (scopes.turned_by m.sort ∷ []) []) ++ b) (off_turns (lost m) (lost_is_off m))
      ∙ append-nil (filter_map (λ (x : Mark). x.turns) (cond (m.subject.0 == c.0) (scopes.turned_by m.sort ∷ []) [])))
      (scope_alike es)
      ∙ own_turns scopes.turned_by scope_turns m (m.subject.0 == c.0) (sorts es)

  life_held : (es : List Event) → IsOn (flat_map life es) ↔ IsHeld (sorts es)
  life_held es = on_while_held (flat_map life es) (sorts es) (life_alike es)

  -- marks that turn nothing may come behind
  scope_held : (es : List Event) (later : List Mark) → Each IsOff later → IsOn (flat_map scope es ++ later) ↔ IsHeld (sorts es)
  scope_held es later off =
      on_while_held (flat_map scope es ++ later) (sorts es)
      (filter_map-append (λ (x : Mark). x.turns) (flat_map scope es) later
      ∙ ap₂ (λ a b. a ++ b) (scope_alike es) (off_turns later off) ∙ append-nil (filter_map turned_by (sorts es)))

  -- ---- where a base ends

  lost_bases : lent_bases (lent c f) now c.0 ≡ bases
  lost_bases = ap (λ b. scopes.bases_in now (lends b)) (lent_borrow d f p c v r) ∙ bases_same d f p c v r (Some v)

  -- something is lost only where a base of the copied value ends
  lost_ends : (m : own.Mark) (front rest : List Mark) (x : Mark) → lost m ≡ front ++ x ∷ rest → is_mark End bases m ≡ true
  lost_ends m front rest x e = at m.sort refl e
    where
      none_lost : has bases m.subject.0 ≡ false → filter_map (means c.0) (flat_map (lost_from (lent c f) now m.subject) (range_with_len 0 n)) ≡ []
      none_lost no_base =
          flat_none c.0 (lost_from (lent c f) now m.subject)
          (λ k. one_same c.0 (lost_at_end k) (has (lent_bases (lent c f) now k) m.subject.0) false
          (λ same. ap (λ j. has (lent_bases (lent c f) now j) m.subject.0) same ∙ ap (λ bs. has bs m.subject.0) lost_bases ∙ no_base)) (range_with_len 0 n)

      by : (b : Bool) → has bases m.subject.0 ≡ b → filter_map (means c.0) (flat_map (lost_from (lent c f) now m.subject) (range_with_len 0 n)) ≡ front ++ x ∷ rest
          → has bases m.subject.0 ≡ true
      by true q h = q
      by false q h = nothing_in front rest x (sym (none_lost q) ∙ h)

      at : (s : MarkSort) → m.sort ≡ s → filter_map (means c.0) (lost_with (lent c f) now n m.subject s) ≡ front ++ x ∷ rest → is_mark End bases m ≡ true
      at End q h = ap₂ (λ a b. a && b) (ap (is_sort End) q) (by (has bases m.subject.0) refl h)
      at Use q h = nothing_in front rest x h
      at Begin q h = nothing_in front rest x h

  end_of_sort : (m : own.Mark) → is_mark End bases m ≡ true → m.sort ≡ End
  end_of_sort m h = at m.sort refl h
    where
      at : (s : MarkSort) → m.sort ≡ s → (is_sort End s && has bases m.subject.0) ≡ true → m.sort ≡ End
      at End q h = q
      at Use q h = absurd (let wrong : false ≡ true = h in cc)
      at Begin q h = absurd (let wrong : false ≡ true = h in cc)

  -- ---- along a trail

  module _ (lawful_life : IsKept (flow_of f) (marks_for c.0 (lives_of n (facts_in d f) f)) IsInPlace) (w : List EdgeId) (t : List Item) (trail : IsTrail (flow_of f) w t) where
    lawful : AreLawful IsInPlace (flat_map life (flat_map events t))
    lawful =
        subst (AreLawful IsInPlace)
        (flat_map_all (marks_for c.0 (lives_of n (facts_in d f) f)) (λ i. flat_map life (events i)) life_at t ∙ sym (flat_flat life events t))
        (lawful_life w t trail)

    module _ (before after : List Event) (here : Event) (parts : flat_map events t ≡ before ++ here ∷ after) where
      life_in_place : (y : Mark) (ys : List Mark) → life here ≡ y ∷ ys → IsInPlace (flat_map life before) y
      life_in_place y ys e =
          lawful (flat_map life before) (ys ++ flat_map life after) y
          (ap (flat_map life) parts ∙ flat_map-append life before (here ∷ after) ∙ ap (λ xs. flat_map life before ++ (xs ++ flat_map life after)) e)

    free_at : (before after : List Event) (m : own.Mark) → flat_map events t ≡ before ++ Some m ∷ after → is_mark End bases m ≡ true → IsHeld (sorts before) → ⊥
    free_at before after m parts =
        r.lends.bases_stay w t trail (marks_in before) (marks_in after) m
        (sym (marks_along t) ∙ ap (filter_map (λ (e : Event). e)) parts ∙ filter_map-append (λ (e : Event). e) before (Some m ∷ after))

    abbrev Place : List Event → List Mark → Mark → Type 0
    Place before inner x = IsInPlace (flat_map scope before ++ inner) x

    off_place : (before : List Event) (inner : List Mark) (x : Mark) → IsOff x → Each IsOff inner → (IsHeld (sorts before) → ⊥) → Place before inner x
    off_place before inner x off quiet free =
        subst (λ o. Finds o (flat_map scope before ++ inner)) (sym off.0) (λ on. free ((scope_held before inner quiet).0 on))

    at_return : (before after : List Event) → flat_map events t ≡ before ++ None ∷ after → (inner outer : List Mark) (x : Mark) → scope None ≡ inner ++ x ∷ outer
        → Place before inner x
    at_return before after parts inner outer x e =
        let all = subst (Each IsOff) e returns_off in
        let first = alike_first (scope None) (life None) inner outer x e (returns_alike c.0 (range_with_len 0 n)) in
        let off : Finds (Some false) (flat_map life before) =
        subst (λ o. Finds o (flat_map life before)) first.off.0 (life_in_place before after None parts first.mark first.rest first.parts) in
        off_place before inner x (each_behind IsOff inner (x ∷ outer) all).0 (each_front IsOff inner (x ∷ outer) all)
        (λ held. off ((life_held before).1 held))

    at_lost : (before after : List Event) (m : own.Mark) → flat_map events t ≡ before ++ Some m ∷ after → (inner outer : List Mark) (x : Mark)
        → lost m ≡ inner ++ x ∷ outer → Place before inner x
    at_lost before after m parts inner outer x e =
        let all = subst (Each IsOff) e (lost_is_off m) in
        off_place before inner x (each_behind IsOff inner (x ∷ outer) all).0 (each_front IsOff inner (x ∷ outer) all)
        (free_at before after m parts (lost_ends m inner outer x e))

    at_own : (before after : List Event) (m : own.Mark) → flat_map events t ≡ before ++ Some m ∷ after → (m.subject.0 == c.0) ≡ true → (inner outer : List Mark) (x : Mark)
        → scopes.turned_by m.sort ∷ lost m ≡ inner ++ x ∷ outer → Place before inner x
    at_own before after m parts is [] outer x e =
        let same : scopes.turned_by m.sort ≡ x = cc in
        let lived : IsInPlace (flat_map life before) (lives.turned_by m.sort) =
        life_in_place before after (Some m) parts (lives.turned_by m.sort) [] (ap (λ b. cond b (lives.turned_by m.sort ∷ []) []) is) in
        subst (λ y. Place before [] y) same
        (finds_alike (scopes.turned_by m.sort).needs (flat_map scope before ++ []) (flat_map life before) (
          λ on. (life_held before).1 ((scope_held before [] tt).0 on),
          λ on. (scope_held before [] tt).1 ((life_held before).0 on),
        )
        (subst (λ o. Finds o (flat_map life before)) (sym (needs_same m.sort)) lived))
    at_own before after m parts is (z ∷ inner) outer x e =
        let rest : lost m ≡ inner ++ x ∷ outer = cc in
        let ended = lost_ends m inner outer x rest in
        let lived : IsInPlace (flat_map life before) (lives.turned_by m.sort) =
        life_in_place before after (Some m) parts (lives.turned_by m.sort) [] (ap (λ b. cond b (lives.turned_by m.sort ∷ []) []) is) in
        let on : IsOn (flat_map life before) = subst (λ s. IsInPlace (flat_map life before) (lives.turned_by s)) (end_of_sort m ended) lived in
        absurd (free_at before after m parts ended ((life_held before).0 on))

    at_event : (before after : List Event) (here : Event) → flat_map events t ≡ before ++ here ∷ after → (inner outer : List Mark) (x : Mark) → scope here ≡ inner ++ x ∷ outer
        → Place before inner x
    at_event before after None parts inner outer x e = at_return before after parts inner outer x e
    at_event before after (Some m) parts inner outer x e = by (m.subject.0 == c.0) refl
      where
        by : (b : Bool) → (m.subject.0 == c.0) ≡ b → Place before inner x
        by true q = at_own before after m parts q inner outer x (sym (ap (λ b. cond b (scopes.turned_by m.sort ∷ []) [] ++ lost m) q) ∙ e)
        by false q = at_lost before after m parts inner outer x (sym (ap (λ b. cond b (scopes.turned_by m.sort ∷ []) [] ++ lost m) q) ∙ e)

    scope_lawful : AreLawful IsInPlace (flat_map scope (flat_map events t))
    scope_lawful front rest x e =
        let at = placed scope (flat_map events t) front rest x e in
        subst (λ xs. IsInPlace xs x) (sym at.behind) (at_event at.before at.after at.here at.parts at.inner at.outer x at.made)

  pub scope_kept : IsKept (flow_of f) (marks_for c.0 (lives_of n (facts_in d f) f)) IsInPlace → IsKept (flow_of f) scope_marks IsInPlace
  scope_kept life_kept w t trail =
      subst (AreLawful IsInPlace) (flat_flat scope events t ∙ sym (flat_map_all scope_marks (λ i. flat_map scope (events i)) scope_at t))
      (scope_lawful life_kept w t trail)
