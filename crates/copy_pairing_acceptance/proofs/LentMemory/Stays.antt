-- While a copy that can become a borrow is held, no base of what it copies ends.
use Rattle.std.proofs.Common.{◌≡◌, ◌⊎◌, inl, inr, ℕ, List, [], ◌∷◌, ◌++◌, length, refl, sym, ap, ap₂, ◌∙◌, subst, Bool, true, false, cond, reverse, Option, Some, None, append-nil, append_assoc}
use Rattle.std.specs.Prelude.{◌&&◌, ◌||◌}
use Rattle.std.specs.Prelude.{◌==◌, filter_map, flat_map}
use Rattle.std.specs.List.{cons_option, list_any}
use Rattle.std.proofs.lemmas.Bool.{and_parts, cases_Bool, eqb-true, true≢false}
use Rattle.std.proofs.lemmas.Grind.{flat_map-append}
use Rattle.std.proofs.lemmas.List.Elements.{filter_map-append}
use Rattle.sil_cfg_items.specs.Items.{item_defined, item_taken}
use Rattle.sil_cfg_items.specs.declared.taken.Taken.{Taken}
use Rattle.sil_verifier_trails.specs.borrow_scopes.inner.Runs as scopes
use Rattle.sil_verifier_trails.specs.lifetime_worklist.inner.Runs as lives
use Rattle.sil_verifier_trails.proofs.lifetime_worklist.LivesAreRuns.{held_while_on}
use Rattle.numbered_form.specs.Numbering.{values_of}
use Rattle.ownership_kinds_chains.specs.OwnershipChains.Facts.{has}
use Rattle.ownership_kinds_chains.specs.declared.ownership_chains.facts.Facts.{Facts}
use Rattle.copy_pairing_model.specs.ownership_kinds_origins.Facts.{facts_in}
use Rattle.ownership_kinds_chains.specs.OwnershipMarks.Marks.{begun, end_of, ended, ended_with, marks_of, used}
use Rattle.ownership_kinds_chains.specs.declared.ownership_marks.mark.Mark.{Mark}
use Rattle.ownership_kinds_chains.specs.declared.ownership_marks.mark.MarkSort.{MarkSort}
use Rattle.ownership_kinds_chains.specs.declared.ownership_marks.mark.MarkSort.TheVariants.{Begin, End, Use}
use Rattle.reach_engine_marks.specs.PathChecks.Entries.{marks_for}
use Rattle.reach_engine_marks.specs.PathPatterns.inner.Runs.{IsHeld, Sort}
use Rattle.sil_ast.specs.declared.function.Function.{Function}
use Rattle.sil_ast.specs.declared.place.ValueId.{ValueId}
use Rattle.sil_cfg.specs.declared.item.Item.{Item}
use Rattle.sil_verifier_trails.specs.sil_verifier_accepted.AcceptedModules.Shown.{lives_in}
use Rattle.sil_types_declarations.specs.TypeDefinitions.Declarations.{Declarations}
use Rattle.sil_verifier_trails.specs.holder_model.Frames.{has_any}
use Rattle.sil_verifier_trails.specs.RunTrails.inner.RunTrails.{IsTurnedTrail}
use Rattle.sil_verifier_trails.proofs.RunTrails.SwitchedTrails.{turned_on}
use Rattle.sil_verifier_trails.specs.AcceptedTrails.inner.Lives.{is_held}
use Rattle.sil_verifier_trails.specs.AcceptedTrails.inner.Passing.{is_end}
use Rattle.sil_verifier_trails.proofs.AcceptedTrails.Reading.{end_with}
use Rattle.sil_verifier_trails.proofs.AcceptedTrails.Tests.{first_of}
use Rattle.copy_pairing_model.specs.Removable.{IsFreeAt}

-- ---- the two tables read a value's marks alike

sorts_alike : (s : MarkSort) → lives.sort_of s ≡ scopes.sort_of s
sorts_alike End = refl
sorts_alike Use = refl
sorts_alike Begin = refl

read_alike : (c : ValueId) (m : Mark) → lives.sort_for c m ≡ scopes.sort_for c m
read_alike c m = ap (λ s. cond (m.subject.0 == c.0) (Some s) None) (sorts_alike m.sort)

filtered_flat : {A B C : Type 0} (p : B → Option C) (g : A → List B) (xs : List A) → filter_map p (flat_map g xs) ≡ flat_map (λ x. filter_map p (g x)) xs
filtered_flat p g [] = refl
filtered_flat p g (x ∷ xs) = filter_map-append p (g x) (flat_map g xs) ∙ ap (λ ys. filter_map p (g x) ++ ys) (filtered_flat p g xs)

along_alike : (facts : ValueId → Option Facts) (f : Function) (c : ValueId) (items : List Item)
    → lives.sorts_along facts f c items ≡ filter_map (scopes.sort_for c) (flat_map (marks_of facts f) items)
along_alike facts f c items =
    ap (λ (p : Mark → Option Sort). flat_map (λ i. filter_map p (marks_of facts f i)) items) (λ j m. read_alike c m j)
    ∙ sym (filtered_flat (scopes.sort_for c) (marks_of facts f) items)

-- ---- ends of others

module _ (facts : ValueId → Option Facts) (c : ValueId) where
  end_unread : (there : Bool) (x : Taken) → (there && (x.value.0 == c.0)) ≡ false → filter_map (scopes.sort_for c) (cond there (end_of x.value ∷ []) []) ≡ []
  end_unread true x e = ap (λ own. cons_option (cond own (Some (scopes.sort_of End)) None) []) e
  end_unread false x e = refl

  ends_unread : (xs : List Taken) → list_any (is_end facts c) xs ≡ false → filter_map (scopes.sort_for c) (flat_map (ended facts) xs) ≡ []
  ends_unread [] e = refl
  ends_unread (x ∷ xs) e = at (is_end facts c x) refl e (ends_unread xs)
    where
      at : (b : Bool) → is_end facts c x ≡ b → (b || list_any (is_end facts c) xs) ≡ false
          → (list_any (is_end facts c) xs ≡ false → filter_map (scopes.sort_for c) (flat_map (ended facts) xs) ≡ [])
          → filter_map (scopes.sort_for c) (ended facts x ++ flat_map (ended facts) xs) ≡ []
      at true is e more = absurd (true≢false e)
      at false is e more =
          filter_map-append (scopes.sort_for c) (ended facts x) (flat_map (ended facts) xs)
          ∙ ap₂ (λ a b. a ++ b)
          (ap (filter_map (scopes.sort_for c)) (end_with (facts x.value) x) ∙ end_unread (has_any (ended_with (facts x.value) x)) x is)
          (more e)

front_lacks : {A : Type 0} (p : A → Bool) (front rest : List A) (x : A) (xs : List A) → xs ≡ front ++ x ∷ rest → list_any p xs ≡ false → list_any p front ≡ false
front_lacks p [] rest x xs parts e = refl
front_lacks p (y ∷ front) rest x xs parts e = at (p y) (sym (ap (list_any p) parts) ∙ e) (front_lacks p front rest x (front ++ x ∷ rest) refl)
  where
    at : (b : Bool) → (b || list_any p (front ++ x ∷ rest)) ≡ false → (list_any p (front ++ x ∷ rest) ≡ false → list_any p front ≡ false) → (b || list_any p front) ≡ false
    at true e more = absurd (true≢false e)
    at false e more = more e

module _ (d : Declarations) (f : Function) (c v : ValueId) (owned : lives.IsOwned (facts_in d f) c) (bases : List ValueId) (own : has bases v.0 ≡ true)
    (free : IsFreeAt (facts_in d f) f End bases c) where
  -- where c is held it is so by its marks
  held_by_marks : (t : List Item) → is_held d f c t ≡ Some true → IsHeld (filter_map (scopes.sort_for c) (flat_map (marks_of (facts_in d f) f) (reverse t)))
  held_by_marks t held =
      let on = (turned_on (marks_for c.0 (lives_in d f)) t true held).1 held in
      subst IsHeld (along_alike (facts_in d f) f c (reverse t)) ((held_while_on (length (values_of f.blocks)) (facts_in d f) f c owned (reverse t)).0 on)

  pub base_stays : (t : List Item) (i : Item) → IsTurnedTrail f (i ∷ t) → is_held d f c t ≡ Some true → list_any (is_end (facts_in d f) c) (item_taken f i) ≡ false
      → list_any (is_end (facts_in d f) v) (item_taken f i) ≡ false
  base_stays t i trail held none = at (cases_Bool (list_any (is_end (facts_in d f) v) (item_taken f i)))
    where
      ended_there : list_any (is_end (facts_in d f) v) (item_taken f i) ≡ true → ⊥
      ended_there ends =
          let facts = facts_in d f in
          let x = first_of (is_end facts v) (item_taken f i) ends in
          let both = and_parts (has_any (ended_with (facts x.here.value) x.here)) (x.here.value.0 == v.0) x.passes in
          let mark : ended facts x.here ≡ end_of x.here.value ∷ [] =
          end_with (facts x.here.value) x.here ∙ ap (λ b. cond b (end_of x.here.value ∷ []) []) both.0 in
          let before : List Mark = flat_map (ended facts) x.front in
          let uses : List Mark = flat_map (used facts) (item_taken f i) in
          let begins : List Mark = flat_map (begun facts) (item_defined f i) in
          let behind : List Mark = (flat_map (ended facts) x.rest ++ uses) ++ begins in
          let ends_are : flat_map (ended facts) (item_taken f i) ≡ before ++ end_of x.here.value ∷ flat_map (ended facts) x.rest =
          ap (flat_map (ended facts)) x.parts ∙ flat_map-append (ended facts) x.front (x.here ∷ x.rest)
          ∙ ap (λ ms. before ++ (ms ++ flat_map (ended facts) x.rest)) mark in
          let parts : marks_of facts f i ≡ before ++ end_of x.here.value ∷ behind =
          ap (λ ms. (ms ++ uses) ++ begins) ends_are
          ∙ ap (λ ms. ms ++ begins) (append_assoc before (end_of x.here.value ∷ flat_map (ended facts) x.rest) uses)
          ∙ append_assoc before (end_of x.here.value ∷ (flat_map (ended facts) x.rest ++ uses)) begins in
          let earlier : List Mark = flat_map (marks_of facts f) (reverse t) in
          let whole : flat_map (marks_of facts f) (reverse t ++ i ∷ []) ≡ (earlier ++ before) ++ end_of x.here.value ∷ behind =
          flat_map-append (marks_of facts f) (reverse t) (i ∷ [])
          ∙ ap (λ ms. earlier ++ ms) (append-nil (marks_of facts f i) ∙ parts)
          ∙ sym (append_assoc earlier before (end_of x.here.value ∷ behind)) in
          let unread : filter_map (scopes.sort_for c) (earlier ++ before) ≡ filter_map (scopes.sort_for c) earlier =
          filter_map-append (scopes.sort_for c) earlier before
          ∙ ap (λ ss. filter_map (scopes.sort_for c) earlier ++ ss) (ends_unread facts c x.front (front_lacks (is_end facts c) x.front x.rest x.here (item_taken f i) x.parts none))
          ∙ append-nil (filter_map (scopes.sort_for c) earlier) in
          let base : has bases x.here.value.0 ≡ true = ap (λ (n : ℕ). has bases n) (eqb-true x.here.value.0 v.0 both.1) ∙ own in
          free trail.0 (reverse t ++ i ∷ []) trail.1 (earlier ++ before) behind (end_of x.here.value) whole base
          (subst IsHeld (sym unread) (held_by_marks t held))

      at : (list_any (is_end (facts_in d f) v) (item_taken f i) ≡ true) ⊎ (list_any (is_end (facts_in d f) v) (item_taken f i) ≡ false)
          → list_any (is_end (facts_in d f) v) (item_taken f i) ≡ false
      at (inl ends) = absurd (ended_there ends)
      at (inr stays) = stays
