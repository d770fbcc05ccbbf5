-- How a location is found step by step from its address.
use Rattle.std.proofs.Common.{◌≡◌, ℕ, zero, suc, ◌-◌, ◌<◌, ◌≤◌, List, [], ◌∷◌, ◌++◌, length, refl, sym, ap, ◌∙◌, arith, append_assoc, append-nil, map, Bool, Option, Some, None, ◌⊎◌, inl, inr, ◌+◌}
use Rattle.std.specs.Prelude.{option_map, reverse, slice_get, unwrap_or}
use Rattle.std.specs.List.{range_with_len}
use Rattle.std.proofs.lemmas.List.{reverse-append}
use Rattle.std.proofs.lemmas.List.FromFn.{get_or-map-range_with_len, length-map-range_with_len}
use Rattle.std.proofs.lemmas.Option.{slice_get_past, unwrap_or-slice_get}
use Rattle.std.proofs.lemmas.Bool.{cases_lt}
use Rattle.ownership_kinds_chains.specs.OwnershipChains.Facts.{value_of}
use Rattle.sil_ast.specs.declared.place.ValueId.{ValueId}
use Rattle.argument_conventions.specs.declared.row.AddressRow.{AddressRow}
use Rattle.memory_rules_accesses.specs.declared.location.Location.{Location}
use Rattle.memory_rules_accesses.specs.declared.source.Source.{Source}
use Rattle.memory_rules_accesses.specs.declared.source.Source.TheVariants.{Slot, Argument, Object, Borrow, Upcast, Loan, Field, Part, Other}
use Rattle.memory_rules_accesses.specs.inner.Kept.{behind, location_at, locations_of}
use Rattle.memory_rules_accesses.specs.Locations.{extended, locate, located_by, location_of, whole}
use Rattle.memory_rules_accesses.specs.Sources.{source_at}

behind_no_step : (o : Option Location) → o ≡ option_map (behind []) o
behind_no_step None = refl
behind_no_step (Some l) = ap (λ p. Some (record { root = l.root; path = p })) (sym (append-nil l.path))

one_behind : (k : ℕ) (steps : List ℕ) (l : Location) → behind steps (extended k l) ≡ behind (steps ++ k ∷ []) l
one_behind k steps l =
    ap (λ p. record { root = l.root; path = p })
    (append_assoc l.path (k ∷ []) (reverse steps) ∙ ap (λ r. l.path ++ r) (sym (reverse-append steps (k ∷ []))))

behind_one : (k : ℕ) (steps : List ℕ) (o : Option Location) → option_map (behind steps) (option_map (extended k) o) ≡ option_map (behind (steps ++ k ∷ [])) o
behind_one k steps None = refl
behind_one k steps (Some l) = ap (λ v. Some v) (one_behind k steps l)

pub start : (sources : List Source) (address : ValueId) (steps : List ℕ) → steps ≡ [] → location_of sources address ≡ option_map (behind steps) (locate sources (length sources - 0) address)
start sources address steps none =
    let same : length sources ≡ length sources - 0 = omega arith in
    behind_no_step (location_of sources address)
    ∙ ap (λ n. option_map (behind []) (locate sources n address)) same
    ∙ ap (λ s. option_map (behind s) (locate sources (length sources - 0) address)) (sym none)

-- as many steps as there are values led to no root
pub at_end : (sources : List Source) (address at : ValueId) (i : ℕ) (steps : List ℕ) → length sources ≤ i →
    location_of sources address ≡ option_map (behind steps) (locate sources (length sources - i) at) → None ≡ location_of sources address
at_end sources address at i steps le so_far =
    let none : length sources - i ≡ 0 = omega arith in
    sym (so_far ∙ ap (λ n. option_map (behind steps) (locate sources n at)) none)

module _ (sources : List Source) (address at : ValueId) (i : ℕ) (steps : List ℕ) (lt : i < length sources)
    (so_far : location_of sources address ≡ option_map (behind steps) (locate sources (length sources - i) at)) where
  left : length sources - i ≡ suc (length sources - (i + 1))
  left = omega arith

  here : location_of sources address ≡ option_map (behind steps) (located_by (locate sources (length sources - (i + 1))) at (source_at sources at))
  here = so_far ∙ ap (λ n. option_map (behind steps) (locate sources n at)) left

  -- what is behind a source that is known
  at_source : (source : Source) → source ≡ source_at sources at → location_of sources address ≡ option_map (behind steps) (located_by (locate sources (length sources - (i + 1))) at source)
  at_source source e = here ∙ ap (λ s. option_map (behind steps) (located_by (locate sources (length sources - (i + 1))) at s)) (sym e)

  -- one step nearer to the root
  pub nearer : (of : ValueId) (k : ℕ) (new : List ℕ) → Part of k ≡ source_at sources at → new ≡ steps ++ k ∷ [] →
      location_of sources address ≡ option_map (behind new) (locate sources (length sources - (i + 1)) of)
  nearer of k new e pushed =
      at_source (Part of k) e ∙ behind_one k steps (locate sources (length sources - (i + 1)) of)
      ∙ ap (λ s. option_map (behind s) (locate sources (length sources - (i + 1)) of)) (sym pushed)

  -- a root is reached
  pub at_root : (source : Source) → source ≡ source_at sources at →
      ((x : Bool) × (source ≡ Slot x)) ⊎ (((x : AddressRow) × (b : Bool) × (source ≡ Argument x b)) ⊎ ((x : ValueId) × (k : ℕ) × (b : Bool) × (source ≡ Field x k b))) →
      (found : Location) → found ≡ behind steps (whole at) → Some found ≡ location_of sources address
  at_root source e (inl w) found is = ap (λ l. Some l) is ∙ sym (at_source (Slot w.0) (sym w.1 ∙ e))
  at_root source e (inr (inl w)) found is = ap (λ l. Some l) is ∙ sym (at_source (Argument w.0 w.1) (sym w.2 ∙ e))
  at_root source e (inr (inr w)) found is = ap (λ l. Some l) is ∙ sym (at_source (Field w.0 w.1 w.2) (sym w.3 ∙ e))

  -- what is reached is no root, and no step leads on
  pub at_no_root : (source : Source) → source ≡ source_at sources at →
      ((x : ℕ) × (source ≡ Object x)) ⊎ (((x : ValueId) × (source ≡ Borrow x)) ⊎ (((x : ValueId) × (source ≡ Upcast x)) ⊎ (((x : ValueId) × (source ≡ Loan x)) ⊎ (source ≡ Other)))) →
      None ≡ location_of sources address
  at_no_root source e (inl w) = sym (at_source (Object w.0) (sym w.1 ∙ e))
  at_no_root source e (inr (inl w)) = sym (at_source (Borrow w.0) (sym w.1 ∙ e))
  at_no_root source e (inr (inr (inl w))) = sym (at_source (Upcast w.0) (sym w.1 ∙ e))
  at_no_root source e (inr (inr (inr (inl w)))) = sym (at_source (Loan w.0) (sym w.1 ∙ e))
  at_no_root source e (inr (inr (inr (inr same)))) = sym (at_source Other (sym same ∙ e))

get_mapped : {X : Type 0} (f : ℕ → Option X) (n i : ℕ) → ((k : ℕ) → n ≤ k → f k ≡ None) → unwrap_or (slice_get (map f (range_with_len 0 n)) i) None ≡ f i
get_mapped f n i past = at (cases_lt i n)
  where
    at : (i < n) ⊎ (n ≤ i) → unwrap_or (slice_get (map f (range_with_len 0 n)) i) None ≡ f i
    at (inl lt) =
        unwrap_or-slice_get (map f (range_with_len 0 n)) i None ∙ get_or-map-range_with_len f 0 n i i None lt (omega arith)
    at (inr le) =
        let long : length (map f (range_with_len 0 n)) ≡ n = length-map-range_with_len f 0 n in
        ap (λ o. unwrap_or o None) (slice_get_past (map f (range_with_len 0 n)) i (omega arith)) ∙ sym (past i le)

no_source : (sources : List Source) (n : ℕ) → length sources ≤ n → source_at sources (value_of n) ≡ Other
no_source sources n le = ap (λ o. unwrap_or o Other) (slice_get_past sources n le)

no_location : (sources : List Source) (m n : ℕ) → length sources ≤ n → locate sources m (value_of n) ≡ None
no_location sources zero n le = refl
no_location sources (suc m) n le = ap (λ s. located_by (locate sources m) (value_of n) s) (no_source sources n le)

-- the kept table has each location
pub location_kept : (sources : List Source) (address : ValueId) → location_at (locations_of sources) address ≡ location_of sources address
location_kept sources address = get_mapped (λ n. location_of sources (value_of n)) (length sources) address.0 (λ n le. no_location sources (length sources) n le)
