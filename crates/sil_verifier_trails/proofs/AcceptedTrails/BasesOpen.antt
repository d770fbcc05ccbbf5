-- What an open scope borrows from stays held, or open, and is the one that was borrowed.
use Rattle.std.proofs.Common.{◌≡◌, List, [], ◌∷◌, refl, sym, ap, ◌∙◌, Bool, true, false, cond, not, ◌&&◌, ◌||◌, ◌⊎◌, inl, inr, Option, Some, None, eq-eqb}
use Rattle.std.specs.Prelude.{◌==◌}
use Rattle.std.specs.List.{list_any}
use Rattle.std.proofs.lemmas.Bool.{and_parts, cases_Bool, eqb-true, false≢true, or_cases, true≢false}
use Rattle.std.proofs.lemmas.Option.{same_Some}
use Rattle.sil_verifier_values.specs.holder_model.Frames.{has_any}
use Rattle.sil_cfg_items.specs.Items.{item_defined, item_taken}
use Rattle.sil_verifier_values.specs.lifetime_worklist.inner.Runs.{IsOwned}
use Rattle.sil_verifier_values.specs.ownership_kinds_chains.OwnershipChains.Facts.{has, is_guaranteed, is_owned, known_or}
use Rattle.sil_verifier_values.specs.ownership_kinds_chains.declared.ownership_chains.facts.Facts.{Facts}
use Rattle.sil_verifier_values.specs.ownership_kinds_origins.Facts.{facts_in}
use Rattle.sil_verifier_values.specs.ownership_kinds_chains.OwnershipMarks.Marks.{begin_of, begun, begun_with, is_own_base}
use Rattle.sil_ast.specs.declared.function.Function.{Function}
use Rattle.sil_ast.specs.declared.place.ValueId.{ValueId}
use Rattle.sil_cfg.specs.Items.{IsItem}
use Rattle.sil_cfg.specs.declared.item.Item.{Item}
use Rattle.sil_verifier_values.specs.sil_types_declarations.declared.type_definitions.kind.Kind.{Kind}
use Rattle.sil_verifier_values.specs.sil_types_declarations.declared.type_definitions.kind.Kind.TheVariants as kind
use Rattle.sil_verifier_trails.specs.RunTrails.inner.RunTrails.{IsTurnedTrail}
use Rattle.sil_verifier_trails.specs.RunTrails.inner.Since.{is_none_since}
use Rattle.sil_verifier_trails.proofs.RunTrails.TurnedTrails.{turned_item, turned_older}
use Rattle.sil_verifier_trails.specs.AcceptedTrails.inner.Bases.{AreBorrowedHeld, AreBorrowedOpen}
use Rattle.sil_verifier_trails.specs.AcceptedTrails.inner.Defined.{makes}
use Rattle.sil_verifier_trails.specs.AcceptedTrails.inner.Lives.{is_held, is_open}
use Rattle.sil_verifier_trails.specs.AcceptedTrails.inner.Passing.{IsFoundRight, IsPassed, behind, is_begin, is_end, is_use, left_by}
use Rattle.sil_verifier_trails.proofs.AcceptedTrails.Tests.{any_weaker, either, first_of, or_right, or_second, same_value}
use Rattle.sil_verifier_trails.proofs.AcceptedTrails.LivesPassed.{lives_passed}
use Rattle.sil_verifier_trails.proofs.AcceptedTrails.ScopesPassed.{bases_kept, scopes_passed}

from_not : (b : Bool) → not b ≡ true → b ≡ false
from_not true e = absurd (false≢true e)
from_not false e = refl

-- a value that is made begins where its own kind and bases say so
module _ (facts : ValueId → Option Facts) (v : ValueId) (own : has_any (begun facts v) ≡ true) where
  begins_made : (w : ValueId) → (w.0 == v.0) ≡ true → is_begin facts v w ≡ true
  begins_made w same =
      let is : w ≡ v = same_value w v (eqb-true w.0 v.0 same) in
      ap (λ (u : ValueId). has_any (begun facts u) && (u.0 == v.0)) is ∙ ap (λ b. b && (v.0 == v.0)) own ∙ eq-eqb v.0 v.0 refl

  pub begins_where_made : (f : Function) (i : Item) → makes f v i ≡ true → list_any (is_begin facts v) (item_defined f i) ≡ true
  begins_where_made f i made = any_weaker (λ (w : ValueId). w.0 == v.0) (is_begin facts v) begins_made (item_defined f i) made

pub made_where_begun : (facts : ValueId → Option Facts) (v : ValueId) (f : Function) (i : Item) → list_any (is_begin facts v) (item_defined f i) ≡ true → makes f v i ≡ true
made_where_begun facts v f i begins =
    any_weaker (is_begin facts v) (λ (w : ValueId). w.0 == v.0) (λ w e. (and_parts (has_any (begun facts w)) (w.0 == v.0) e).1) (item_defined f i) begins

-- where it begins it isn't left on by the ends
begins_off : (facts : ValueId → Option Facts) (v : ValueId) (f : Function) (i : Item) (on : Bool) → IsFoundRight facts v f i on →
    list_any (is_begin facts v) (item_defined f i) ≡ true → left_by facts v f i on ≡ false
begins_off facts v f i on found begins =
    let x = first_of (is_begin facts v) (item_defined f i) begins in
    or_second (list_any (is_begin facts v) x.front) (left_by facts v f i on) (found.begun x.front x.rest x.here x.parts x.passes)

module _ (facts : ValueId → Option Facts) (f : Function) (s b : ValueId) (open_s on_b : List Item → Option Bool) (closed : open_s [] ≡ Some true → ⊥)
    (pass_s : (t : List Item) (i : Item) → IsTurnedTrail f (i ∷ t) → IsPassed facts s open_s f t i)
    (pass_b : (t : List Item) (i : Item) → IsTurnedTrail f (i ∷ t) → IsPassed facts b on_b f t i)
    (kept : (t : List Item) (i : Item) → IsTurnedTrail f (i ∷ t) → open_s t ≡ Some true → list_any (is_end facts s) (item_taken f i) ≡ false
    → list_any (is_end facts b) (item_taken f i) ≡ false)
    (uses : (i : Item) → IsItem f i → makes f s i ≡ true → list_any (is_use facts b) (item_taken f i) ≡ true)
    (begins : (i : Item) → makes f b i ≡ true → list_any (is_begin facts b) (item_defined f i) ≡ true) where
  -- the base is on behind the ends of an item that opens the scope, or finds it open and leaves it so
  left_on : (t : List Item) (i : Item) → (h : IsTurnedTrail f (i ∷ t)) → (open_s t ≡ Some true → on_b t ≡ Some true) → open_s (i ∷ t) ≡ Some true →
      (left_by facts b f i (pass_b t i h).on ≡ true)
      × ((makes f s i ≡ true) ⊎ (open_s t ≡ Some true))
  left_on t i h more opened = either opens stays (or_cases (list_any (is_begin facts s) (item_defined f i)) (left_by facts s f i (pass_s t i h).on) is_behind)
    where
      is_behind : behind facts s f i (pass_s t i h).on ≡ true
      is_behind = same_Some (behind facts s f i (pass_s t i h).on) true (sym (pass_s t i h).is_left ∙ opened)

      opens : list_any (is_begin facts s) (item_defined f i) ≡ true → (left_by facts b f i (pass_b t i h).on ≡ true) × ((makes f s i ≡ true) ⊎ (open_s t ≡ Some true))
      opens begun =
          let made = made_where_begun facts s f i begun in
          ((pass_b t i h).found.used (uses i (turned_item f i t h) made), inl made)

      stays : left_by facts s f i (pass_s t i h).on ≡ true → (left_by facts b f i (pass_b t i h).on ≡ true) × ((makes f s i ≡ true) ⊎ (open_s t ≡ Some true))
      stays left =
          let parts = and_parts (pass_s t i h).on (not (list_any (is_end facts s) (item_taken f i))) left in
          let was : open_s t ≡ Some true = (pass_s t i h).was ∙ ap Some parts.0 in
          let none = kept t i h was (from_not (list_any (is_end facts s) (item_taken f i)) parts.1) in
          let on : (pass_b t i h).on ≡ true = same_Some (pass_b t i h).on true (sym (pass_b t i h).was ∙ more was) in
          (ap (λ x. x && not (list_any (is_end facts b) (item_taken f i))) on ∙ ap not none, inr was)

  base_on : (t : List Item) → IsTurnedTrail f t → open_s t ≡ Some true → on_b t ≡ Some true
  base_on [] h opened = absurd (closed opened)
  base_on (i ∷ t) h opened =
      let left = left_on t i h (base_on t (turned_older f i t h)) opened in
      (pass_b t i h).is_left ∙ ap Some (or_right (list_any (is_begin facts b) (item_defined f i)) (left_by facts b f i (pass_b t i h).on) left.0)

  base_since : (t : List Item) → IsTurnedTrail f t → open_s t ≡ Some true → is_none_since (makes f b) (makes f s) t ≡ true
  base_since [] h opened = absurd (closed opened)
  base_since (i ∷ t) h opened = at (base_since t (turned_older f i t h)) (left_on t i h (base_on t (turned_older f i t h)) opened)
    where
      not_made : left_by facts b f i (pass_b t i h).on ≡ true → makes f b i ≡ false
      not_made left = either
          (λ made. absurd (true≢false (sym left ∙ begins_off facts b f i (pass_b t i h).on (pass_b t i h).found (begins i made))))
          (λ none. none) (cases_Bool (makes f b i))

      at : (open_s t ≡ Some true → is_none_since (makes f b) (makes f s) t ≡ true) →
          (left_by facts b f i (pass_b t i h).on ≡ true) × ((makes f s i ≡ true) ⊎ (open_s t ≡ Some true)) → is_none_since (makes f b) (makes f s) (i ∷ t) ≡ true
      at more (left, inl made) = ap (λ x. x || (not (makes f b i) && is_none_since (makes f b) (makes f s) t)) made
      at more (left, inr was) =
          or_right (makes f s i) (not (makes f b i) && is_none_since (makes f b) (makes f s) t)
          (ap (λ x. not x && is_none_since (makes f b) (makes f s) t) (not_made left) ∙ more was)

closed_first : Some false ≡ Some true → ⊥
closed_first e = false≢true (same_Some false true e)

-- an Owned value begins where it is made, and so does a scope, its own base
pub owned_begins : (facts : ValueId → Option Facts) (v : ValueId) → IsOwned facts v → has_any (begun facts v) ≡ true
owned_begins facts v owned = at (facts v) owned
  where
    by : (k : Kind) (bases : List ValueId) → is_owned k ≡ true → has_any (cond (is_own_base k v bases) (begin_of v ∷ []) []) ≡ true
    by kind.Owned bases e = refl
    by kind.Guaranteed bases e = absurd (false≢true e)
    by kind.Plain bases e = absurd (false≢true e)

    at : (o : Option Facts) → is_owned (known_or (λ _. o) v).kind ≡ true → has_any (begun_with o v) ≡ true
    at None e = absurd (false≢true e)
    at (Some x) e = by x.kind x.bases e

pub scope_begins : (facts : ValueId → Option Facts) (v : ValueId) → is_guaranteed (known_or facts v).kind ≡ true → has (known_or facts v).bases v.0 ≡ true → has_any (begun facts v) ≡ true
scope_begins facts v guaranteed own = at (facts v) guaranteed own
  where
    by : (k : Kind) (bases : List ValueId) → is_guaranteed k ≡ true → has bases v.0 ≡ true → has_any (cond (is_own_base k v bases) (begin_of v ∷ []) []) ≡ true
    by kind.Owned bases e h = refl
    by kind.Guaranteed bases e h = ap (λ x. has_any (cond x (begin_of v ∷ []) [])) h
    by kind.Plain bases e h = absurd (false≢true e)

    at : (o : Option Facts) → is_guaranteed (known_or (λ _. o) v).kind ≡ true → has (known_or (λ _. o) v).bases v.0 ≡ true → has_any (begun_with o v) ≡ true
    at None e h = absurd (false≢true e)
    at (Some x) e h = by x.kind x.bases e h

pub borrowed_held : AreBorrowedHeld
borrowed_held d f accepted used s b is_scope is_owned borrows t h opened =
    let facts = facts_in d f in
    let pass_s = scopes_passed d f accepted s is_scope in
    let pass_b = lives_passed d f accepted b is_owned in
    let kept = bases_kept d f accepted s b is_scope borrows in
    let uses = λ (i : Item) (is : IsItem f i) (made : makes f s i ≡ true). used s b i is made borrows in
    let begins = begins_where_made facts b (owned_begins facts b is_owned.owned) f in (
      base_on facts f s b (is_open d f s) (is_held d f b) closed_first pass_s pass_b kept uses begins t h opened,
      base_since facts f s b (is_open d f s) (is_held d f b) closed_first pass_s pass_b kept uses begins t h opened,
    )

pub borrowed_open : AreBorrowedOpen
borrowed_open d f accepted used s b is_scope is_base own borrows t h opened =
    let facts = facts_in d f in
    let pass_s = scopes_passed d f accepted s is_scope in
    let pass_b = scopes_passed d f accepted b is_base in
    let kept = bases_kept d f accepted s b is_scope borrows in
    let uses = λ (i : Item) (is : IsItem f i) (made : makes f s i ≡ true). used s b i is made borrows in
    let guaranteed = (and_parts (is_guaranteed (known_or facts b).kind) _ is_base.scope).0 in
    let begins = begins_where_made facts b (scope_begins facts b guaranteed own) f in (
      base_on facts f s b (is_open d f s) (is_open d f b) closed_first pass_s pass_b kept uses begins t h opened,
      base_since facts f s b (is_open d f s) (is_open d f b) closed_first pass_s pass_b kept uses begins t h opened,
    )
