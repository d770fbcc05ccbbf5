-- Parts stand in the order of their subjects.
use Rattle.std.proofs.Common.{◌≡◌, ℕ, zero, suc, ◌+◌, ◌<◌, ◌≤◌, List, [], ◌∷◌, ◌++◌, length, get_or, drop, refl, Bool, true, false, Option, Some, None, All, arith}
use Rattle.std.specs.Prelude.{cond}
use Rattle.std.specs.List.{flat_map, range_with_len}
use Rattle.std.proofs.lemmas.List.Elements.{All-nil, All-cons, All-head, All-tail, All-append, All-weaker}
use Rattle.sil_ast.specs.declared.place.ValueId.{ValueId}
use Rattle.ownership_kinds_chains.specs.OwnershipChains.Facts.{value_of}
use Rattle.ownership_kinds_chains.specs.declared.ownership_chains.facts.Facts.{Facts}
use Rattle.argument_conventions.specs.declared.row.AddressRow.{AddressRow}
use Rattle.memory_rules_accesses.specs.Locations.{location_of}
use Rattle.memory_rules_accesses.specs.Sources.{source_at}
use Rattle.memory_rules_accesses.specs.declared.location.Location.{Location}
use Rattle.memory_rules_accesses.specs.declared.source.Source.{Source}
use Rattle.memory_rules_accesses.specs.declared.source.Source.TheVariants as source
use Rattle.memory_rules_parts.specs.inner.Batches.{AreRising}
use Rattle.memory_rules_parts.specs.Parts.{address_parts, field_parts, is_scope, parts_at, parts_by, parts_of, scope_part, scope_parts, slot_part, slot_part_at, subject_of, whole_cell}
use Rattle.memory_rules_parts.specs.declared.part.Part.{Part}
use Rattle.memory_rules_parts.specs.declared.part.Part.TheVariants.{Contents, Allocation, Lent, Building, InScope, InSlot}

abbrev number : Part → ℕ
number p = (subject_of p).0

abbrev IsOf : ValueId → Part → Type 0
IsOf v p = number p ≡ v.0

one_of : (v : ValueId) (p : Part) → IsOf v p → All (IsOf v) (p ∷ [])
one_of v p e = All-cons (IsOf v) p [] e (All-nil (IsOf v))

scopes_of : (sources : List Source) (address : ValueId) (bases : List ValueId) → All (IsOf address) (scope_parts sources address bases)
scopes_of sources address [] = All-nil (IsOf address)
scopes_of sources address (b ∷ bases) = All-append (IsOf address) (scope_part sources address b) (scope_parts sources address bases) (one (is_scope sources b)) (scopes_of sources address bases)
  where
    one : (t : Bool) → All (IsOf address) (cond t (InScope address b ∷ []) [])
    one true = one_of address (InScope address b) refl
    one false = All-nil (IsOf address)

slot_of : (address root : ValueId) (s : Source) → All (IsOf address) (slot_part address root s)
slot_of address root (source.Slot trivial) = one_of address (InSlot address root) refl
slot_of address root (source.Argument row trivial) = All-nil (IsOf address)
slot_of address root (source.Object fields) = All-nil (IsOf address)
slot_of address root (source.Borrow of) = All-nil (IsOf address)
slot_of address root (source.Upcast of) = All-nil (IsOf address)
slot_of address root (source.Loan of) = All-nil (IsOf address)
slot_of address root (source.Field of k trivial) = All-nil (IsOf address)
slot_of address root (source.Part of k) = All-nil (IsOf address)
slot_of address root source.Other = All-nil (IsOf address)

slot_at_of : (sources : List Source) (address : ValueId) (l : Option Location) → All (IsOf address) (slot_part_at sources address l)
slot_at_of sources address None = All-nil (IsOf address)
slot_at_of sources address (Some l) = slot_of address l.root (source_at sources l.root)

address_of : (sources : List Source) (f : Facts) (address : ValueId) → All (IsOf address) (address_parts sources f address)
address_of sources f address =
    All-append (IsOf address) (scope_parts sources address f.bases) (slot_part_at sources address (location_of sources address)) (scopes_of sources address f.bases)
    (slot_at_of sources address (location_of sources address))

fields_of : (object : ValueId) (fields : List ℕ) → All (IsOf object) (flat_map (field_parts object) fields)
fields_of object [] = All-nil (IsOf object)
fields_of object (k ∷ fields) =
    All-cons (IsOf object) (Contents (record { subject = object; field = Some k }) false None) (Building object k ∷ flat_map (field_parts object) fields) refl
    (All-cons (IsOf object) (Building object k) (flat_map (field_parts object) fields) refl (fields_of object fields))

argument_of : (v : ValueId) (row : AddressRow) (trivial shared : Bool) → All (IsOf v) (cond shared [] (Contents (whole_cell v) trivial (Some row.after) ∷ []))
argument_of v row trivial true = All-nil (IsOf v)
argument_of v row trivial false = one_of v (Contents (whole_cell v) trivial (Some row.after)) refl

parts_by_of : (sources : List Source) (f : Facts) (v : ValueId) (s : Source) → All (IsOf v) (parts_by sources f v s)
parts_by_of sources f v (source.Slot trivial) =
    All-cons (IsOf v) (Contents (whole_cell v) trivial None) (Allocation v ∷ address_parts sources f v) refl
    (All-cons (IsOf v) (Allocation v) (address_parts sources f v) refl (address_of sources f v))
parts_by_of sources f v (source.Argument row trivial) = argument_of v row trivial row.shared
parts_by_of sources f v (source.Object fields) = fields_of v (range_with_len 0 fields)
parts_by_of sources f v (source.Borrow of) = All-nil (IsOf v)
parts_by_of sources f v (source.Upcast of) = All-nil (IsOf v)
parts_by_of sources f v (source.Loan of) = one_of v (Lent v of) refl
parts_by_of sources f v (source.Field of k trivial) = address_of sources f v
parts_by_of sources f v (source.Part of k) = address_of sources f v
parts_by_of sources f v source.Other = All-nil (IsOf v)

-- parts of one subject, and then parts of no lesser ones
rising_join : (v : ValueId) (xs ys : List Part) → All (IsOf v) xs → All (λ q. v.0 ≤ number q) ys → AreRising ys → AreRising (xs ++ ys)
rising_join v [] ys same behind rest = rest
rising_join v (x ∷ xs) ys same behind rest =
    let here : number x ≡ v.0 = All-head (IsOf v) x xs same in
    let more = All-tail (IsOf v) x xs same in (
      All-append (λ q. number x ≤ number q) xs ys (All-weaker (IsOf v) (λ q. number x ≤ number q) (λ q e. let there : number q ≡ v.0 = e in omega arith) xs more)
          (All-weaker (λ q. v.0 ≤ number q) (λ q. number x ≤ number q) (λ q e. omega arith) ys behind),
      rising_join v xs ys more behind rest,
    )

module _ (sources : List Source) (facts : ValueId → Facts) where
  from_of : (n count : ℕ) → All (λ q. n ≤ number q) (flat_map (parts_at sources facts) (range_with_len n count))
  from_of n zero = All-nil (λ q. n ≤ number q)
  from_of n (suc count) =
      let v = value_of n in
      All-append (λ q. n ≤ number q) (parts_at sources facts n) (flat_map (parts_at sources facts) (range_with_len (n + 1) count))
      (All-weaker (IsOf v) (λ q. n ≤ number q) (λ q e. let same : number q ≡ n = e in omega arith) (parts_at sources facts n) (parts_by_of sources (facts v) v (source_at sources v)))
      (All-weaker (λ q. n + 1 ≤ number q) (λ q. n ≤ number q) (λ q e. omega arith) (flat_map (parts_at sources facts) (range_with_len (n + 1) count)) (from_of (n + 1) count))

  rising_from : (n count : ℕ) → AreRising (flat_map (parts_at sources facts) (range_with_len n count))
  rising_from n zero = tt
  rising_from n (suc count) =
      let v = value_of n in
      rising_join v (parts_at sources facts n) (flat_map (parts_at sources facts) (range_with_len (n + 1) count)) (parts_by_of sources (facts v) v (source_at sources v))
      (All-weaker (λ q. n + 1 ≤ number q) (λ q. n ≤ number q) (λ q e. omega arith) (flat_map (parts_at sources facts) (range_with_len (n + 1) count)) (from_of (n + 1) count))
      (rising_from (n + 1) count)

  pub parts_rising : AreRising (parts_of sources facts)
  parts_rising = rising_from 0 (length sources)

-- behind a part there are no lesser subjects
pub rising_behind : (parts : List Part) (n : ℕ) (d : Part) → n < length parts → AreRising parts → All (λ q. (subject_of (get_or parts n d)).0 ≤ (subject_of q).0) (drop n parts)
rising_behind [] n d lt h = absurd (omega arith)
rising_behind (p ∷ parts) zero d lt h = All-cons (λ q. number p ≤ number q) p parts (omega arith) h.0
rising_behind (p ∷ parts) (suc n) d lt h = rising_behind parts n d (omega arith) h.1
