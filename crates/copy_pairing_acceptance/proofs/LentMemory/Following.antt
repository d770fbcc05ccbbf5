-- While the copy of a new object is held, all fields of the object are written: the object is held too, and isn't allocated anew.
use Rattle.std.proofs.Common.{◌≡◌, ◌⊎◌, inl, inr, ℕ, List, [], ◌∷◌, ◌++◌, refl, sym, ap, ◌∙◌, Bool, true, false, cond, not, ◌&&◌, Some}
use Rattle.std.specs.Prelude.{◌==◌, flat_map, option_and_then}
use Rattle.std.specs.List.{list_any}
use Rattle.std.proofs.lemmas.Bool.{and_parts, cases_Bool, false≢true, or_cases, true≢false}
use Rattle.std.proofs.lemmas.List.{append-nil}
use Rattle.std.proofs.lemmas.Option.{same_Some}
use Rattle.sil_cfg_items.specs.Items.{item_defined, item_taken}
use Rattle.sil_cfg_items.specs.declared.taken.Taken.{Taken}
use Rattle.sil_verifier_trails.specs.memory_rules_accesses.Sources.{sources_of}
use Rattle.sil_verifier_trails.specs.memory_rules_parts.Shown.{marks_of_access, part_marks}
use Rattle.sil_verifier_trails.specs.memory_rules_parts.declared.part.Part.TheVariants.{Building}
use Rattle.copy_pairing_model.specs.ownership_kinds_origins.Facts.{facts_in}
use Rattle.ownership_kinds_chains.specs.OwnershipMarks.Marks.{marks_of}
use Rattle.reach_engine_marks.specs.declared.path_patterns.mark.Mark.{Mark}
use Rattle.sil_ast.specs.declared.function.Function.{Function}
use Rattle.sil_ast.specs.declared.place.ValueId.{ValueId}
use Rattle.sil_cfg.specs.Items.{IsItem}
use Rattle.sil_cfg.specs.Returns.{is_return}
use Rattle.sil_cfg.specs.declared.item.Item.{Item}
use Rattle.sil_types_declarations.specs.TypeDefinitions.Declarations.{Declarations}
use Rattle.sil_verifier_trails.specs.RunTrails.inner.RunTrails.{IsTurnedTrail}
use Rattle.sil_verifier_trails.specs.RunTrails.inner.Switched.{IsFollowed, switched, switched_over}
use Rattle.sil_verifier_trails.proofs.RunTrails.SwitchedTrails.{followed_turned}
use Rattle.sil_verifier_trails.proofs.RunTrails.TurnedTrails.{turned_item, turned_older}
use Rattle.sil_verifier_trails.specs.AcceptedTrails.inner.Accepted.{IsAcceptedIn}
use Rattle.sil_verifier_trails.specs.AcceptedTrails.inner.Defined.{makes}
use Rattle.sil_verifier_trails.specs.AcceptedTrails.inner.Lives.{IsOwnedIn, is_held}
use Rattle.sil_verifier_trails.specs.AcceptedTrails.inner.Passing.{IsPassed, behind, is_begin, is_end, is_use, left_by}
use Rattle.sil_verifier_trails.proofs.AcceptedTrails.BasesOpen.{begins_where_made, made_where_begun, owned_begins}
use Rattle.sil_verifier_trails.proofs.AcceptedTrails.LivesPassed.{lives_passed}
use Rattle.sil_verifier_trails.proofs.AcceptedTrails.Tests.{first_of, or_right, or_second}
use Rattle.sil_verifier_trails.specs.AcceptedMemory.inner.PartTrails.{IsPartOf, accesses_in}
use Rattle.sil_verifier_trails.proofs.AcceptedMemory.PartsFollowed.{part_unbroken}
use Rattle.copy_pairing_acceptance.proofs.LentMemory.Items.{taken_where_mentioned, unallocated}
use Rattle.copy_pairing_acceptance.proofs.LentMemory.Means.{mentions}
use Rattle.copy_pairing_acceptance.proofs.LentMemory.Quiet.{off_behind, quiet, refuses}

-- the operand is the value
abbrev pub takes_value : ValueId → Taken → Bool
takes_value c t = t.value.0 == c.0

-- c is a copy of the new object v, which stays while c is held
pub record IsCopyOfObject (d : Declarations) (f : Function) (c v : ValueId) : Type 0 where
  pub owned_copy : IsOwnedIn d f c
  pub owned : IsOwnedIn d f v
  -- where c is held, an item that doesn't end it doesn't end v
  pub stays : (t : List Item) (i : Item) → IsTurnedTrail f (i ∷ t) → is_held d f c t ≡ Some true → list_any (is_end (facts_in d f) c) (item_taken f i) ≡ false
      → list_any (is_end (facts_in d f) v) (item_taken f i) ≡ false
  -- what makes c uses v, and refuses it unfinished
  pub uses : (i : Item) → IsItem f i → makes f c i ≡ true → list_any (is_use (facts_in d f) v) (item_taken f i) ≡ true
  pub refused : (i : Item) → IsItem f i → makes f c i ≡ true → list_any (refuses v) (accesses_in d f i) ≡ true
  -- what takes c ends or uses it
  pub taken : (i : Item) → IsItem f i → list_any (takes_value c) (item_taken f i) ≡ true
      → (list_any (is_end (facts_in d f) c) (item_taken f i) ≡ true) ⊎ (list_any (is_use (facts_in d f) c) (item_taken f i) ≡ true)
  -- what makes v takes nothing
  pub alone : (i : Item) → IsItem f i → makes f v i ≡ true → item_taken f i ≡ []

from_not : (b : Bool) → not b ≡ true → b ≡ false
from_not true e = absurd (false≢true e)
from_not false e = refl

module _ (d : Declarations) (f : Function) (accepted : IsAcceptedIn d f) (c v : ValueId) (copy : IsCopyOfObject d f c v) (field : ℕ)
    (there : IsPartOf d f (Building v field)) where
  abbrev marks : Item → List Mark
  marks = part_marks (sources_of d f) (facts_in d f) f (Building v field)

  abbrev each_marked : Item → List Mark
  each_marked i = flat_map (marks_of_access (sources_of d f) (facts_in d f) f (Building v field)) (accesses_in d f i)

  pub followed : (t : List Item) → IsTurnedTrail f t → IsFollowed marks t
  followed t h = followed_turned f marks (part_unbroken d f accepted (Building v field) there) t h

  -- a `return` asks nothing
  marks_are : (i : Item) → marks i ≡ each_marked i
  marks_are i = at (is_return f i)
    where
      at : (b : Bool) → each_marked i ++ cond b [] [] ≡ each_marked i
      at true = append-nil (each_marked i)
      at false = append-nil (each_marked i)

  pass_copy : (t : List Item) (i : Item) → IsTurnedTrail f (i ∷ t) → IsPassed (facts_in d f) c (is_held d f c) f t i
  pass_copy t i h = lives_passed d f accepted c copy.owned_copy t i h

  pass_object : (t : List Item) (i : Item) → IsTurnedTrail f (i ∷ t) → IsPassed (facts_in d f) v (is_held d f v) f t i
  pass_object t i h = lives_passed d f accepted v copy.owned t i h

  -- what is behind an item, by what is before it
  stepped : (t : List Item) (i : Item) → IsTurnedTrail f (i ∷ t)
      → (on b : Bool) × (switched marks t ≡ Some on) × (switched marks (i ∷ t) ≡ Some b) × (switched_over (each_marked i) on ≡ Some b)
  stepped t i h =
      let was = followed t (turned_older f i t h) in
      let is = followed (i ∷ t) h in (
        was.0,
        is.0,
        was.1,
        is.1,
        ap (λ ms. switched_over ms was.0) (sym (marks_are i)) ∙ ap (option_and_then (switched_over (marks i))) (sym was.1) ∙ is.1,
      )

  -- an item that finds v held, and doesn't end it, doesn't allocate it
  not_made : (t : List Item) (i : Item) → (h : IsTurnedTrail f (i ∷ t)) → left_by (facts_in d f) v f i (pass_object t i h).on ≡ true → makes f v i ≡ false
  not_made t i h left = at (cases_Bool (makes f v i))
    where
      at : (makes f v i ≡ true) ⊎ (makes f v i ≡ false) → makes f v i ≡ false
      at (inl made) =
          let begins = begins_where_made (facts_in d f) v (owned_begins (facts_in d f) v copy.owned.owned) f i made in
          let x = first_of (is_begin (facts_in d f) v) (item_defined f i) begins in
          absurd (true≢false (sym left ∙ or_second (list_any (is_begin (facts_in d f) v) x.front) (left_by (facts_in d f) v f i (pass_object t i h).on)
          ((pass_object t i h).found.begun x.front x.rest x.here x.parts x.passes)))
      at (inr none) = none

  stays_off : (i : Item) → makes f v i ≡ false → (on b : Bool) → on ≡ false → switched_over (each_marked i) on ≡ Some b → b ≡ false
  stays_off i none on b off e =
      sym (same_Some false b (sym (quiet (sources_of d f) (facts_in d f) f v field (accesses_in d f i) (unallocated (sources_of d f) (marks_of (facts_in d f) f i) f i v none))
      ∙ ap (switched_over (each_marked i)) (sym off) ∙ e))

  abbrev IsWritten : List Item → Type 0
  IsWritten t = (is_held d f v t ≡ Some true) × (switched marks t ≡ Some false)

  -- while c is held v is, and the field is written
  written : (t : List Item) → IsTurnedTrail f t → is_held d f c t ≡ Some true → IsWritten t
  written [] h held = absurd (false≢true (same_Some false true held))
  written (i ∷ t) h held = at (or_cases (list_any (is_begin (facts_in d f) c) (item_defined f i)) (left_by (facts_in d f) c f i (pass_copy t i h).on) is_behind) (written t (turned_older f i t h))
    where
      is_behind : behind (facts_in d f) c f i (pass_copy t i h).on ≡ true
      is_behind = same_Some (behind (facts_in d f) c f i (pass_copy t i h).on) true (sym (pass_copy t i h).is_left ∙ held)

      still : left_by (facts_in d f) v f i (pass_object t i h).on ≡ true → is_held d f v (i ∷ t) ≡ Some true
      still left = (pass_object t i h).is_left ∙ ap (λ b. Some b) (or_right (list_any (is_begin (facts_in d f) v) (item_defined f i)) (left_by (facts_in d f) v f i (pass_object t i h).on) left)

      at : (list_any (is_begin (facts_in d f) c) (item_defined f i) ≡ true) ⊎ (left_by (facts_in d f) c f i (pass_copy t i h).on ≡ true)
          → (is_held d f c t ≡ Some true → IsWritten t) → IsWritten (i ∷ t)
      at (inl begins) more =
          let is = turned_item f i t h in
          let made = made_where_begun (facts_in d f) c f i begins in
          let left = (pass_object t i h).found.used (copy.uses i is made) in
          let s = stepped t i h in
          let none = unallocated (sources_of d f) (marks_of (facts_in d f) f i) f i v (not_made t i h left) in
          let off = off_behind (sources_of d f) (facts_in d f) f v field (accesses_in d f i) none (copy.refused i is made) s.0 s.1 s.4 in
          (still left, s.3 ∙ ap (λ b. Some b) off)
      at (inr left) more =
          let parts = and_parts (pass_copy t i h).on (not (list_any (is_end (facts_in d f) c) (item_taken f i))) left in
          let was : is_held d f c t ≡ Some true = (pass_copy t i h).was ∙ ap (λ b. Some b) parts.0 in
          let before = more was in
          let none = copy.stays t i h was (from_not (list_any (is_end (facts_in d f) c) (item_taken f i)) parts.1) in
          let on : (pass_object t i h).on ≡ true = same_Some (pass_object t i h).on true (sym (pass_object t i h).was ∙ before.0) in
          let goes : left_by (facts_in d f) v f i (pass_object t i h).on ≡ true = ap (λ x. x && not (list_any (is_end (facts_in d f) v) (item_taken f i))) on ∙ ap not none in
          let s = stepped t i h in
          let off : s.0 ≡ false = same_Some s.0 false (sym s.2 ∙ before.1) in
          (still goes, s.3 ∙ ap (λ b. Some b) (stays_off i (not_made t i h goes) s.0 s.1 off s.4))

  -- c is held where an item takes it
  held_where_taken : (t : List Item) (i : Item) → IsTurnedTrail f (i ∷ t) → list_any (takes_value c) (item_taken f i) ≡ true → is_held d f c t ≡ Some true
  held_where_taken t i h e = at (copy.taken i (turned_item f i t h) e)
    where
      at : (list_any (is_end (facts_in d f) c) (item_taken f i) ≡ true) ⊎ (list_any (is_use (facts_in d f) c) (item_taken f i) ≡ true) → is_held d f c t ≡ Some true
      at (inl ends) =
          let x = first_of (is_end (facts_in d f) c) (item_taken f i) ends in
          let left = (pass_copy t i h).found.ended x.front x.rest x.here x.parts x.passes in
          (pass_copy t i h).was ∙ ap (λ b. Some b) (and_parts (pass_copy t i h).on _ left).0
      at (inr uses) =
          let left = (pass_copy t i h).found.used uses in
          (pass_copy t i h).was ∙ ap (λ b. Some b) (and_parts (pass_copy t i h).on _ left).0

  -- so the field is written where an item takes the copy, and the item doesn't allocate the object
  pub written_where_taken : (t : List Item) (i : Item) → IsTurnedTrail f (i ∷ t) → list_any (mentions c) (accesses_in d f i) ≡ true
      → (switched marks t ≡ Some false) × (makes f v i ≡ false)
  written_where_taken t i h mentioned =
      let takes = taken_where_mentioned (sources_of d f) (marks_of (facts_in d f) f i) f i c mentioned in
      ((written t (turned_older f i t h) (held_where_taken t i h takes)).1, at (cases_Bool (makes f v i)) takes)
    where
      at : (makes f v i ≡ true) ⊎ (makes f v i ≡ false) → list_any (takes_value c) (item_taken f i) ≡ true → makes f v i ≡ false
      at (inl made) takes = absurd (false≢true (sym (ap (list_any (takes_value c)) (copy.alone i (turned_item f i t h) made)) ∙ takes))
      at (inr none) takes = none
