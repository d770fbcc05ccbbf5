-- What is about a new object: an address is about the object whose building borrow it is made of, and about no other.
use Rattle.std.proofs.Common.{◌≡◌, ℕ, zero, suc, List, length, Bool, true, false, Some, None, refl, sym, ap, ◌∙◌, subst, eq-eqb, cond}
use Rattle.std.proofs.lemmas.Bool.{eqb-true, false≢true}
use Rattle.std.proofs.lemmas.Option.{none-some, same_Some}
use Rattle.memory_rules_parts.specs.memory_rules_accesses.Locations.{below, below_by, is_object, locate, located_by, location_of, object_built, object_lent, upcast_from}
use Rattle.memory_rules_parts.specs.memory_rules_accesses.Sources.{source_at}
use Rattle.memory_rules_parts.specs.memory_rules_accesses.declared.location.Location.{Location}
use Rattle.memory_rules_parts.specs.memory_rules_accesses.declared.source.Source.{Source}
use Rattle.memory_rules_parts.specs.memory_rules_accesses.declared.source.Source.TheVariants.{Slot, Argument, Object, Borrow, Upcast, Loan, Field, Part, Other}
use Rattle.memory_rules_parts.specs.Building.{builds, is_object_of}
use Rattle.sil_ast.specs.declared.place.ValueId.{ValueId}
use Rattle.holder_model_laws.specs.HolderLaws.inner.Built.Building.{IsAbout, IsFieldAddress}

-- the object that a value builds is built by it
pub builds_it : (sources : List Source) (object v : ValueId) → object_built sources v ≡ Some object → builds sources object v ≡ true
builds_it sources object v e = ap (is_object_of object) e ∙ eq-eqb object.0 object.0 refl

module _ (sources : List Source) (object v : ValueId) (l : Location) where
  object_unlocated : (fields n : ℕ) → source_at sources v ≡ Object fields → locate sources n v ≡ Some l → ⊥
  object_unlocated fields zero is at = none-some l at
  object_unlocated fields (suc n) is at = none-some l (subst (λ s. located_by (locate sources n) v s ≡ Some l) is at)

  borrow_unlocated : (n : ℕ) → locate sources n v ≡ Some l → is_object_of object (object_lent sources (source_at sources (below sources n v))) ≡ true → ⊥
  borrow_unlocated zero at lent = none-some l at
  borrow_unlocated (suc n) at lent = by (source_at sources v) refl at lent
    where
      lends : Source → Bool
      lends s = is_object_of object (object_lent sources s)

      by : (s : Source) → source_at sources v ≡ s → located_by (locate sources n) v s ≡ Some l
          → is_object_of object (object_lent sources (source_at sources (below_by (below sources n) v s))) ≡ true → ⊥
      by (Slot trivial) e at lent = false≢true (subst (λ s. is_object_of object (object_lent sources s) ≡ true) e lent)
      by (Argument row trivial) e at lent = false≢true (subst (λ s. is_object_of object (object_lent sources s) ≡ true) e lent)
      by (Object fields) e at lent = none-some l at
      by (Borrow of) e at lent = none-some l at
      by (Upcast of) e at lent = none-some l at
      by (Loan of) e at lent = none-some l at
      by (Field of k trivial) e at lent = false≢true (subst (λ s. is_object_of object (object_lent sources s) ≡ true) e lent)
      by (Part of k) e at lent = false≢true (subst (λ s. is_object_of object (object_lent sources s) ≡ true) e lent)
      by Other e at lent = none-some l at

  pub builder_unlocated : builds sources object v ≡ true → location_of sources v ≡ Some l → ⊥
  unfolding upcast_from
  builder_unlocated built at = borrow_unlocated (length sources) at built

  -- an address of a field is about an object just where it is made of a building borrow of it
  pub address_about : (of : ValueId) (k fields : ℕ) → source_at sources object ≡ Object fields → IsFieldAddress sources v l of k → IsAbout sources object v
      → builds sources object of ≡ true
  address_about of k fields is address (IsAbout.itself same) =
      absurd (object_unlocated fields (length sources) (ap (source_at sources) same ∙ is) address.at)
  address_about of k fields is address (IsAbout.borrow built) = absurd (builder_unlocated built address.at)
  address_about of k fields is address (IsAbout.address l' of' k' other built) =
      let here : l' ≡ l = same_Some l' l (sym other.at ∙ address.at) in
      let fields_are : Field of' k' other.trivial ≡ Field of k address.trivial =
      sym other.is ∙ ap (λ (x : Location). source_at sources x.root) here ∙ address.is in
      let same : of' ≡ of = cc in
      subst (λ w. builds sources object w ≡ true) same built

-- ---- new objects

same_value : (v w : ValueId) → v.0 ≡ w.0 → v ≡ w
same_value v w e = ap (λ (n : ℕ). record { 0 = n }) e

is_new : (s : Source) → is_object s ≡ true → (fields : ℕ) × (s ≡ Object fields)
is_new (Slot trivial) e = absurd (false≢true e)
is_new (Argument row trivial) e = absurd (false≢true e)
is_new (Object fields) e = (fields, refl)
is_new (Borrow of) e = absurd (false≢true e)
is_new (Upcast of) e = absurd (false≢true e)
is_new (Loan of) e = absurd (false≢true e)
is_new (Field of k trivial) e = absurd (false≢true e)
is_new (Part of k) e = absurd (false≢true e)
is_new Other e = absurd (false≢true e)

module _ (sources : List Source) (object : ValueId) where
  lent_new : (s : Source) → is_object_of object (object_lent sources s) ≡ true → (fields : ℕ) × (source_at sources object ≡ Object fields)
  lent_new (Slot trivial) e = absurd (false≢true e)
  lent_new (Argument row trivial) e = absurd (false≢true e)
  lent_new (Object fields) e = absurd (false≢true e)
  lent_new (Borrow of) e = by (is_object (source_at sources of)) refl e
    where
      by : (b : Bool) → is_object (source_at sources of) ≡ b → is_object_of object (cond b (Some of) None) ≡ true → (fields : ℕ) × (source_at sources object ≡ Object fields)
      by false is e = absurd (false≢true e)
      by true is e =
          let new = is_new (source_at sources of) is in
          let same : of ≡ object = same_value of object (eqb-true of.0 object.0 e) in
          (new.0, subst (λ v. source_at sources v ≡ Object new.0) same new.1)
  lent_new (Upcast of) e = absurd (false≢true e)
  lent_new (Loan of) e = absurd (false≢true e)
  lent_new (Field of k trivial) e = absurd (false≢true e)
  lent_new (Part of k) e = absurd (false≢true e)
  lent_new Other e = absurd (false≢true e)

  -- what has a building borrow is a new object
  pub built_new : (v : ValueId) → builds sources object v ≡ true → (fields : ℕ) × (source_at sources object ≡ Object fields)
  built_new v e = lent_new (source_at sources (upcast_from sources v)) e

  -- a new object is about itself alone
  object_lends : (n fields : ℕ) (v : ValueId) → source_at sources v ≡ Object fields → is_object_of object (object_lent sources (source_at sources (below sources n v))) ≡ true → ⊥
  object_lends zero fields v is e = false≢true (subst (λ s. is_object_of object (object_lent sources s) ≡ true) is e)
  object_lends (suc n) fields v is e =
      false≢true (subst (λ s. is_object_of object (object_lent sources s) ≡ true) is
      (subst (λ s. is_object_of object (object_lent sources (source_at sources (below_by (below sources n) v s))) ≡ true) is e))

  object_builds : (fields : ℕ) (v : ValueId) → source_at sources v ≡ Object fields → builds sources object v ≡ true → ⊥
  unfolding upcast_from
  object_builds fields v is e = object_lends (length sources) fields v is e

  pub new_about : (fields : ℕ) (v : ValueId) → source_at sources v ≡ Object fields → IsAbout sources object v → v ≡ object
  new_about fields v is (IsAbout.itself same) = same
  new_about fields v is (IsAbout.borrow built) = absurd (object_builds fields v is built)
  new_about fields v is (IsAbout.address l of k address built) = absurd (object_unlocated sources v v l fields (length sources) is address.at)
