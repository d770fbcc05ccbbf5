-- What values are to memory in a function and in the one where the copy c of v is lent: the same, but for c, which borrows v there.
use Rattle.std.proofs.Common.{◌≡◌, ◌⊎◌, inl, inr, ℕ, zero, suc, List, length, refl, sym, ap, ◌∙◌, Bool, true, false, cond, Option, Some, None}
use Rattle.std.specs.Prelude.{is_some}
use Rattle.std.proofs.lemmas.Bool.{cases_eq}
use Rattle.sil_ast.specs.declared.place.ValueId.{ValueId}
use Rattle.sil_verifier_trails.specs.memory_rules_accesses.Locations.{below, below_by, cell_by, cell_of, do_overlap, field_cell, is_object}
use Rattle.sil_verifier_trails.specs.memory_rules_accesses.Locations.{locate, located_by, location_of, meet, object_built, object_lent, upcast_from}
use Rattle.sil_verifier_trails.specs.memory_rules_accesses.Rows.{field_has, has_by, has_operation, is_part}
use Rattle.sil_verifier_trails.specs.memory_rules_accesses.Sources.{is_slot, is_slot_source, is_trivial_at, is_trivial_source, source_at}
use Rattle.sil_verifier_trails.specs.memory_rules_accesses.declared.access.Operation.{Operation}
use Rattle.sil_verifier_trails.specs.memory_rules_accesses.declared.location.Location.{Location}
use Rattle.sil_verifier_trails.specs.memory_rules_accesses.declared.source.Source.{Source}
use Rattle.sil_verifier_trails.specs.memory_rules_accesses.declared.source.Source.TheVariants.{Slot, Argument, Object, Borrow, Upcast, Loan, Field, Part, Other}

pub same_value : (a b : ValueId) → a.0 ≡ b.0 → a ≡ b
same_value a b e = ap (λ (n : ℕ). let v : ValueId = record { 0 = n } in v) e

-- S are the sources of the function, T those of the one where c borrows v
pub record AreLentSources (S T : List Source) (c v : ValueId) : Type 0 where
  pub size : length T ≡ length S
  pub others : (w : ValueId) → (w.0 ≡ c.0 → ⊥) → source_at T w ≡ source_at S w
  pub copied : source_at S c ≡ Other
  pub borrowed : source_at T c ≡ Borrow v
  -- where v is a new object, nothing goes on from the copy
  pub no_upcast : is_object (source_at S v) ≡ true → (w : ValueId) → source_at S w ≡ Upcast c → ⊥
  pub no_field : is_object (source_at S v) ≡ true → (w : ValueId) (k : ℕ) (trivial : Bool) → source_at S w ≡ Field c k trivial → ⊥

module _ (S T : List Source) (c v : ValueId) (h : AreLentSources S T c v) where
  -- what doesn't tell a borrow of v from nothing is told alike of each value
  pub told_alike : {A : Type 0} (g : Source → A) → g (Borrow v) ≡ g Other → (w : ValueId) → g (source_at T w) ≡ g (source_at S w)
  told_alike g e w = at (cases_eq w.0 c.0)
    where
      at : (w.0 ≡ c.0) ⊎ (w.0 ≡ c.0 → ⊥) → g (source_at T w) ≡ g (source_at S w)
      at (inl same) =
          let is : w ≡ c = same_value w c same in
          ap (λ x. g (source_at T x)) is ∙ ap g h.borrowed ∙ e ∙ sym (ap g h.copied) ∙ sym (ap (λ x. g (source_at S x)) is)
      at (inr other) = ap g (h.others w other)

  pub slot_alike : (w : ValueId) → is_slot T w ≡ is_slot S w
  slot_alike w = told_alike is_slot_source refl w

  pub trivial_alike : (w : ValueId) → is_trivial_at T w ≡ is_trivial_at S w
  trivial_alike w = told_alike is_trivial_source refl w

  pub object_alike : (w : ValueId) → is_object (source_at T w) ≡ is_object (source_at S w)
  object_alike w = told_alike is_object refl w

  -- ---- locations

  located_alike : (n : ℕ) (w : ValueId) → locate T n w ≡ locate S n w
  located_alike zero w = refl
  located_alike (suc n) w =
      told_alike (λ s. located_by (locate T n) w s) refl w
      ∙ ap (λ (others : ValueId → Option Location). located_by others w (source_at S w)) (λ i x. located_alike n x i)

  pub location_alike : (w : ValueId) → location_of T w ≡ location_of S w
  location_alike w = ap (λ n. locate T n w) h.size ∙ located_alike (length S) w

  pub overlap_alike : (a b : ValueId) → do_overlap T a b ≡ do_overlap S a b
  overlap_alike a b = ap (λ l. meet l (location_of T b)) (location_alike a) ∙ ap (λ l. meet (location_of S a) l) (location_alike b)

  -- ---- objects that are built

  below_alike : (n : ℕ) (w : ValueId) → below T n w ≡ below S n w
  below_alike zero w = refl
  below_alike (suc n) w =
      told_alike (λ s. below_by (below T n) w s) refl w
      ∙ ap (λ (others : ValueId → ValueId). below_by others w (source_at S w)) (λ i x. below_alike n x i)

  pub from_alike : (w : ValueId) → upcast_from T w ≡ upcast_from S w
  unfolding upcast_from
  from_alike w = ap (λ n. below T n w) h.size ∙ below_alike (length S) w

  lent_alike : (s : Source) → object_lent T s ≡ object_lent S s
  lent_alike (Slot trivial) = refl
  lent_alike (Argument row trivial) = refl
  lent_alike (Object fields) = refl
  lent_alike (Borrow of) = ap (λ b. cond b (Some of) None) (object_alike of)
  lent_alike (Upcast of) = refl
  lent_alike (Loan of) = refl
  lent_alike (Field of k trivial) = refl
  lent_alike (Part of k) = refl
  lent_alike Other = refl

  -- of what doesn't come from the copy by upcasts
  built_elsewhere : (w : ValueId) → ((upcast_from S w).0 ≡ c.0 → ⊥) → object_built T w ≡ object_built S w
  built_elsewhere w other =
      ap (λ u. object_lent T (source_at T u)) (from_alike w)
      ∙ ap (object_lent T) (h.others (upcast_from S w) other)
      ∙ lent_alike (source_at S (upcast_from S w))

  -- where v is no new object
  built_anywhere : is_object (source_at S v) ≡ false → (w : ValueId) → object_built T w ≡ object_built S w
  built_anywhere none w =
      ap (λ u. object_lent T (source_at T u)) (from_alike w)
      ∙ told_alike (object_lent T) (ap (λ b. cond b (Some v) None) (object_alike v ∙ none)) (upcast_from S w)
      ∙ lent_alike (source_at S (upcast_from S w))

  module _ (is : is_object (source_at S v) ≡ true) where
    step_itself : (n : ℕ) → ((w : ValueId) → (below S n w).0 ≡ c.0 → w.0 ≡ c.0) → (w : ValueId) (s : Source) → source_at S w ≡ s → (below_by (below S n) w s).0 ≡ c.0 → w.0 ≡ c.0
    step_itself n more w (Slot trivial) here e = e
    step_itself n more w (Argument row trivial) here e = e
    step_itself n more w (Object fields) here e = e
    step_itself n more w (Borrow of) here e = e
    step_itself n more w (Upcast of) here e = absurd (h.no_upcast is w (here ∙ ap (λ x. Upcast x) (same_value of c (more of e))))
    step_itself n more w (Loan of) here e = e
    step_itself n more w (Field of k trivial) here e = e
    step_itself n more w (Part of k) here e = e
    step_itself n more w Other here e = e

    below_itself : (n : ℕ) (w : ValueId) → (below S n w).0 ≡ c.0 → w.0 ≡ c.0
    below_itself zero w e = e
    below_itself (suc n) w e = step_itself n (below_itself n) w (source_at S w) refl e

    -- by upcasts the copy comes from itself alone
    from_itself : (w : ValueId) → (upcast_from S w).0 ≡ c.0 → w.0 ≡ c.0
    unfolding upcast_from
    from_itself w e = below_itself (length S) w e

  -- what another value builds
  pub built_alike : (w : ValueId) → (w.0 ≡ c.0 → ⊥) → object_built T w ≡ object_built S w
  built_alike w other = at (is_object (source_at S v)) refl
    where
      at : (b : Bool) → is_object (source_at S v) ≡ b → object_built T w ≡ object_built S w
      at true is = built_elsewhere w (λ e. other (from_itself is w e))
      at false none = built_anywhere none w

  -- what the address of a field is an address in
  field_alike : (w of : ValueId) (k : ℕ) (trivial : Bool) → source_at S w ≡ Field of k trivial → object_built T of ≡ object_built S of
  field_alike w of k trivial here = at (is_object (source_at S v)) refl
    where
      at : (b : Bool) → is_object (source_at S v) ≡ b → object_built T of ≡ object_built S of
      at true is = built_alike of (λ e. h.no_field is w k trivial (here ∙ ap (λ x. Field x k trivial) (same_value of c e)))
      at false none = built_anywhere none of

  -- ---- the copy

  below_borrowed : (n : ℕ) → below T n c ≡ c
  below_borrowed zero = refl
  below_borrowed (suc n) = ap (λ s. below_by (below T n) c s) h.borrowed

  -- and as a borrow v, where that is a new object
  pub copy_built : object_built T c ≡ cond (is_object (source_at S v)) (Some v) None
  unfolding upcast_from
  copy_built =
      ap (λ u. object_lent T (source_at T u)) (below_borrowed (length T)) ∙ ap (object_lent T) h.borrowed
      ∙ ap (λ b. cond b (Some v) None) (object_alike v)

  -- ---- cells and rows

  pub cell_alike : (root : ValueId) → cell_of T root ≡ cell_of S root
  cell_alike root = told_alike (cell_by T root) refl root ∙ at (source_at S root) refl
    where
      at : (s : Source) → source_at S root ≡ s → cell_by T root s ≡ cell_by S root s
      at (Slot trivial) here = refl
      at (Argument row trivial) here = refl
      at (Object fields) here = refl
      at (Borrow of) here = refl
      at (Upcast of) here = refl
      at (Loan of) here = refl
      at (Field of k trivial) here = ap (λ o. field_cell o root k) (field_alike root of k trivial here)
      at (Part of k) here = refl
      at Other here = refl

  pub has_alike : (l : Location) (o : Operation) → has_operation T l o ≡ has_operation S l o
  has_alike l o = told_alike (λ s. has_by T s (is_part l) o) refl l.root ∙ at (source_at S l.root) refl
    where
      at : (s : Source) → source_at S l.root ≡ s → has_by T s (is_part l) o ≡ has_by S s (is_part l) o
      at (Slot trivial) here = refl
      at (Argument row trivial) here = refl
      at (Object fields) here = refl
      at (Borrow of) here = refl
      at (Upcast of) here = refl
      at (Loan of) here = refl
      at (Field of k trivial) here = ap (λ b. field_has (is_part l) (is_some b) o) (field_alike l.root of k trivial here)
      at (Part of k) here = refl
      at Other here = refl
