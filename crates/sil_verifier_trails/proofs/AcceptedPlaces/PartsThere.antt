-- Which parts a function has: those of each of its values.
use Rattle.std.proofs.Common.{◌≡◌, ◌⊎◌, inl, inr, ℕ, zero, suc, ◌+◌, ◌<◌, ◌≤◌, List, [], ◌∷◌, length, refl, sym, ap, ◌∙◌, subst, arith, Bool, true, false, Option, Some, None}
use Rattle.std.specs.Prelude.{cond, flat_map, unwrap_or}
use Rattle.std.specs.List.{range_with_len}
use Rattle.std.proofs.lemmas.Bool.{cases_lt}
use Rattle.std.proofs.lemmas.Option.{slice_get_past}
use Rattle.argument_conventions.specs.declared.row.AddressRow.{AddressRow}
use Rattle.argument_conventions.specs.declared.row.Content.{Content}
use Rattle.sil_verifier_values.specs.memory_rules_accesses.Locations.{location_of}
use Rattle.sil_verifier_values.specs.memory_rules_accesses.Sources.{is_slot, is_slot_source, source_at, sources_of}
use Rattle.sil_verifier_values.specs.memory_rules_accesses.declared.location.Cell.{Cell}
use Rattle.sil_verifier_values.specs.memory_rules_accesses.declared.location.Location.{Location}
use Rattle.sil_verifier_values.specs.memory_rules_accesses.declared.source.Source.{Source}
use Rattle.sil_verifier_values.specs.memory_rules_accesses.declared.source.Source.TheVariants as source
use Rattle.sil_verifier_values.specs.memory_rules_parts.Parts.{address_parts, argument_parts, field_parts, is_scope, parts_at, parts_by, parts_of, scope_part, scope_parts, slot_part, slot_part_at}
use Rattle.sil_verifier_values.specs.memory_rules_parts.Parts.{whole_cell}
use Rattle.sil_verifier_values.specs.memory_rules_parts.declared.part.Part.{Part}
use Rattle.sil_verifier_values.specs.memory_rules_parts.declared.part.Part.TheVariants.{Allocation, Building, Contents, InScope, InSlot, Lent}
use Rattle.sil_verifier_values.specs.ownership_kinds_origins.Facts.{facts_in}
use Rattle.sil_verifier_trails.specs.AcceptedMemory.inner.PartTrails.{IsPartOf}
use Rattle.sil_verifier_trails.proofs.AcceptedTrails.Tests.{each_of_both}
use Rattle.numbered_form.specs.Lists.{Each}
use Rattle.sil_verifier_values.specs.ownership_kinds_chains.OwnershipChains.Facts.{known_or, value_of}
use Rattle.sil_verifier_values.specs.ownership_kinds_chains.declared.ownership_chains.facts.Facts.{Facts}
use Rattle.numbered_form.proofs.PointChecks.Among.{Among, among_contained, among_flat, contained_among, flat_among}
use Rattle.sil_ast.specs.declared.function.Function.{Function}
use Rattle.sil_ast.specs.declared.place.ValueId.{ValueId}
use Rattle.sil_verifier_values.specs.sil_types_declarations.TypeDefinitions.Declarations.{Declarations}

pub in_range : (a n b : ℕ) → a ≤ b → b < a + n → Among b (range_with_len a n)
in_range a zero b le lt = absurd (omega arith)
in_range a (suc n) b le lt = at (λ more less. in_range (a + 1) n b more less) (cases_lt a b)
  where
    at : (a + 1 ≤ b → b < (a + 1) + n → Among b (range_with_len (a + 1) n)) → (a < b) ⊎ (b ≤ a) → Among b (range_with_len a (suc n))
    at further (inl less) = inr (further (omega arith) (omega arith))
    at further (inr not_less) = let same : b ≡ a = omega arith in inl same

-- a value that is something to memory has a row in the table
pub has_row : (sources : List Source) (v : ValueId) → (source_at sources v ≡ source.Other → ⊥) → v.0 < length sources
has_row sources v some = at (cases_lt v.0 (length sources))
  where
    at : (v.0 < length sources) ⊎ (length sources ≤ v.0) → v.0 < length sources
    at (inl lt) = lt
    at (inr le) = absurd (some (ap (λ o. unwrap_or o source.Other) (slice_get_past sources v.0 le)))

module _ (d : Declarations) (f : Function) where
  -- a part of a value is one of the function's
  pub part_there : (v : ValueId) (s : Source) → source_at (sources_of d f) v ≡ s → (s ≡ source.Other → ⊥) → (p : Part)
      → Among p (parts_by (sources_of d f) (known_or (facts_in d f) v) v s) → IsPartOf d f p
  part_there v s is some p among =
      contained_among p (parts_of (sources_of d f) (known_or (facts_in d f)))
      (among_flat (parts_at (sources_of d f) (known_or (facts_in d f))) p v.0 (range_with_len 0 (length (sources_of d f)))
      (in_range 0 (length (sources_of d f)) v.0 (omega arith) (let lt = has_row (sources_of d f) v (λ e. some (sym is ∙ e)) in omega arith))
      (subst (λ x. Among p (parts_by (sources_of d f) (known_or (facts_in d f) v) v x)) (sym is) among))

  allocation_by : (v : ValueId) (s : Source) → source_at (sources_of d f) v ≡ s → is_slot_source s ≡ true → IsPartOf d f (Allocation v)
  allocation_by v (source.Slot trivial) is e = part_there v (source.Slot trivial) is (λ x. cc) (Allocation v) (inr (inl refl))
  allocation_by v _ is e = absurd (cc)

  -- each slot is allocated or not
  pub allocation_there : (v : ValueId) → is_slot (sources_of d f) v ≡ true → IsPartOf d f (Allocation v)
  allocation_there v slot = allocation_by v (source_at (sources_of d f) v) refl slot

-- ---- what a part says of its value

abbrev pub CellFits : ValueId → Source → Cell → Bool → Option Content → Type 0
CellFits v (source.Slot t) cell trivial left = (cell ≡ whole_cell v) × (trivial ≡ t) × (left ≡ None)
CellFits v (source.Argument row t) cell trivial left = (cell ≡ whole_cell v) × (trivial ≡ t) × (left ≡ Some row.after) × (row.shared ≡ false)
CellFits v (source.Object n) cell trivial left =
    (k : ℕ) × (cell ≡ record { subject = v; field = Some k }) × (trivial ≡ false) × (left ≡ None) × (k < n)
CellFits v (source.Borrow of) cell trivial left = ⊥
CellFits v (source.Upcast of) cell trivial left = ⊥
CellFits v (source.Loan of) cell trivial left = ⊥
CellFits v (source.Field of k b) cell trivial left = ⊥
CellFits v (source.Part of k) cell trivial left = ⊥
CellFits v source.Other cell trivial left = ⊥

abbrev pub Fits : ValueId → Source → Part → Type 0
Fits v s (Contents cell trivial left) = CellFits v s cell trivial left
Fits v s (Allocation slot) = (slot ≡ v) × (is_slot_source s ≡ true)
Fits v s (Lent scope address) = (scope ≡ v) × (s ≡ source.Loan address)
Fits v s (Building object k) = (object ≡ v) × ((n : ℕ) × (s ≡ source.Object n) × (k < n))
Fits v s (InScope address scope) = address ≡ v
Fits v s (InSlot address slot) = address ≡ v

pub each_where_among : {A : Type 0} (P : A → Type 0) (xs : List A) (x : A) → Each P xs → Among x xs → P x
each_where_among P [] x h a = absurd a
each_where_among P (z ∷ xs) x h (inl e) = subst P (sym e) h.0
each_where_among P (z ∷ xs) x h (inr a) = each_where_among P xs x h.1 a

pub each_flat : {A B : Type 0} (P : B → Type 0) (g : A → List B) (xs : List A) → Each (λ x. Each P (g x)) xs → Each P (flat_map g xs)
each_flat P g [] h = tt
each_flat P g (x ∷ xs) h = each_of_both P (g x) (flat_map g xs) h.0 (each_flat P g xs h.1)

each_in_range : (P : ℕ → Type 0) (a n : ℕ) → ((k : ℕ) → k < a + n → P k) → Each P (range_with_len a n)
each_in_range P a zero h = tt
each_in_range P a (suc n) h = (h a (omega arith), each_in_range P (a + 1) n (λ k lt. h k (omega arith)))

module _ (sources : List Source) (v : ValueId) (s : Source) where
  scope_fits : (b : ValueId) → Each (Fits v s) (scope_part sources v b)
  scope_fits b = at (is_scope sources b)
    where
      at : (x : Bool) → Each (Fits v s) (cond x (InScope v b ∷ []) [])
      at true = (refl, tt)
      at false = tt

  scopes_fit : (bases : List ValueId) → Each (λ b. Each (Fits v s) (scope_part sources v b)) bases
  scopes_fit [] = tt
  scopes_fit (b ∷ bases) = (scope_fits b, scopes_fit bases)

  slot_fits : (root : ValueId) (x : Source) → Each (Fits v s) (slot_part v root x)
  slot_fits root (source.Slot trivial) = (refl, tt)
  slot_fits root (source.Argument row trivial) = tt
  slot_fits root (source.Object fields) = tt
  slot_fits root (source.Borrow of) = tt
  slot_fits root (source.Upcast of) = tt
  slot_fits root (source.Loan of) = tt
  slot_fits root (source.Field of k trivial) = tt
  slot_fits root (source.Part of k) = tt
  slot_fits root source.Other = tt

  slot_at_fits : (o : Option Location) → Each (Fits v s) (slot_part_at sources v o)
  slot_at_fits None = tt
  slot_at_fits (Some l) = slot_fits l.root (source_at sources l.root)

  address_fits : (f : Facts) → Each (Fits v s) (address_parts sources f v)
  address_fits f =
      each_of_both (Fits v s) (scope_parts sources v f.bases) (slot_part_at sources v (location_of sources v))
      (each_flat (Fits v s) (scope_part sources v) f.bases (scopes_fit f.bases)) (slot_at_fits (location_of sources v))

argument_fits : (v : ValueId) (row : AddressRow) (trivial : Bool) → Each (Fits v (source.Argument row trivial)) (argument_parts v row trivial)
argument_fits v row trivial = at row.shared refl
  where
    at : (b : Bool) → row.shared ≡ b → Each (Fits v (source.Argument row trivial)) (cond b [] (Contents (whole_cell v) trivial (Some row.after) ∷ []))
    at true is = tt
    at false is = ((refl, refl, refl, is), tt)

parts_fit : (sources : List Source) (f : Facts) (v : ValueId) (s : Source) → Each (Fits v s) (parts_by sources f v s)
parts_fit sources f v (source.Slot trivial) = ((refl, refl, refl), ((refl, refl), address_fits sources v (source.Slot trivial) f))
parts_fit sources f v (source.Argument row trivial) = argument_fits v row trivial
parts_fit sources f v (source.Object fields) =
    each_flat (Fits v (source.Object fields)) (field_parts v) (range_with_len 0 fields)
    (each_in_range (λ k. Each (Fits v (source.Object fields)) (field_parts v k)) 0 fields
    (λ k lt. let less : k < fields = omega arith in ((k, refl, refl, refl, less), ((refl, (fields, refl, less)), tt))))
parts_fit sources f v (source.Borrow of) = tt
parts_fit sources f v (source.Upcast of) = tt
parts_fit sources f v (source.Loan of) = ((refl, refl), tt)
parts_fit sources f v (source.Field of k trivial) = address_fits sources v (source.Field of k trivial) f
parts_fit sources f v (source.Part of k) = address_fits sources v (source.Part of k) f
parts_fit sources f v source.Other = tt

module _ (d : Declarations) (f : Function) where
  -- each part of the function is one of a value
  pub part_fits : (p : Part) → IsPartOf d f p → (v : ValueId) × Fits v (source_at (sources_of d f) v) p
  part_fits p there =
      let at = flat_among (parts_at (sources_of d f) (known_or (facts_in d f))) p (range_with_len 0 (length (sources_of d f)))
      (among_contained p (parts_of (sources_of d f) (known_or (facts_in d f))) there) in
      let v = value_of at.0 in (
        v,
        each_where_among (Fits v (source_at (sources_of d f) v)) (parts_by (sources_of d f) (known_or (facts_in d f) v) v (source_at (sources_of d f) v)) p
            (parts_fit (sources_of d f) (known_or (facts_in d f) v) v (source_at (sources_of d f) v)) at.2,
      )

  -- a field that is built is one of a new object
  pub built_object : (object : ValueId) (k : ℕ) → IsPartOf d f (Building object k)
      → (n : ℕ) × (source_at (sources_of d f) object ≡ source.Object n) × (k < n)
  built_object object k there =
      let fit = part_fits (Building object k) there in
      (fit.1.1.0, ap (source_at (sources_of d f)) fit.1.0 ∙ fit.1.1.1, fit.1.1.2)

  pub field_there : (object : ValueId) (k n : ℕ) → source_at (sources_of d f) object ≡ source.Object n → k < n → (p : Part) → Among p (field_parts object k)
      → IsPartOf d f p
  field_there object k n is lt p among =
      part_there d f object (source.Object n) is (λ x. cc) p (among_flat (field_parts object) p k (range_with_len 0 n) (in_range 0 n k (omega arith) (omega arith)) among)

  -- what a loan lends
  pub loan_source_of : (scope address : ValueId) → IsPartOf d f (Lent scope address) → source_at (sources_of d f) scope ≡ source.Loan address
  loan_source_of scope address there = let fit = part_fits (Lent scope address) there in ap (source_at (sources_of d f)) fit.1.0 ∙ fit.1.1
