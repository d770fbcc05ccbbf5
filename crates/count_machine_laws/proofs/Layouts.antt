-- The regions of a frame: those of its values don't overlap, and each lies within it.
use Rattle.std.proofs.Common.{◌≡◌, ◌≢◌, ◌≤◌, ◌<◌, ◌+◌, ◌-◌, ◌⊎◌, inl, inr, ℕ, zero, suc, map, ap, arith}
use Rattle.std.specs.Prelude.{sum}
use Rattle.std.specs.List.{range_with_len}
use Rattle.std.proofs.Math.Decide.{dec_lt}
use Rattle.std.proofs.lemmas.List.FromFn.{sum_by-map-range_with_len_more}
use Rattle.count_machine_model.specs.ReadyCode.Layout.{addresses_before, addresses_in, leaves_before, leaves_in, local, local_address, value_number}
use Rattle.count_machine_model.specs.holder_model.RunTyping.Forms.{OfPlace, form_of}
use Rattle.holder_model_values.specs.RunValues.Shapes.{Shape}
use Rattle.sil_ast.specs.declared.function.Function.{Function}
use Rattle.sil_ast.specs.declared.place.ValueId.{ValueId}
use Rattle.sil_types_declarations.specs.TypeDefinitions.Declarations.{Declarations}

module _ (width : ℕ → ℕ) where
  abbrev before : ℕ → ℕ
  before n = sum (map width (range_with_len 0 n))

  before_next : (n : ℕ) → before (n + 1) ≡ before n + width n
  before_next n = sum_by-map-range_with_len_more (λ x. x) width 0 n n (omega arith)

  before_more : (n j : ℕ) → before n ≤ before (n + j)
  before_more n zero = let at : n + 0 ≡ n = omega arith in omega (arith, ap before at)
  before_more n (suc j) = let at : n + suc j ≡ n + j + 1 = omega arith in omega (arith, ap before at, before_next (n + j), before_more n j)

  region_within : (i n : ℕ) → i < n → before i + width i ≤ before n
  region_within i n lt =
      let at : i + 1 + (n - (i + 1)) ≡ n = omega (arith, lt) in
      omega (arith, ap before at, before_next i, before_more (i + 1) (n - (i + 1)))

  regions_apart : (i j : ℕ) → i ≢ j → (before i + width i ≤ before j) ⊎ (before j + width j ≤ before i)
  regions_apart i j ne = by_order (dec_lt i j)
    where
      by_order : Dec (i < j) → (before i + width i ≤ before j) ⊎ (before j + width j ≤ before i)
      by_order (yes lt) = inl (region_within i j lt)
      by_order (no ge) = inr (region_within j i (omega (arith, ge, ne)))

module _ (d : Declarations) (f : Function) where
  -- the leaves of a value

  pub local_within : (v : ValueId) (n : ℕ) → v.0 < n → (local d f v).at + (local d f v).size ≤ leaves_before d f n
  local_within v n lt = region_within (λ k. leaves_in (form_of d f (value_number k))) v.0 n lt

  -- of two values the leaves of one lie before those of the other
  pub locals_apart : (v w : ValueId) → v.0 ≢ w.0
      → ((local d f v).at + (local d f v).size ≤ (local d f w).at) ⊎ ((local d f w).at + (local d f w).size ≤ (local d f v).at)
  locals_apart v w ne = regions_apart (λ k. leaves_in (form_of d f (value_number k))) v.0 w.0 ne

  -- the address of a place

  pub address_within : (v : ValueId) (n : ℕ) (s : Shape) → form_of d f v ≡ OfPlace s → v.0 < n → (local_address d f v).at < addresses_before d f n
  address_within v n s form lt =
      omega (arith, region_within (λ k. addresses_in (form_of d f (value_number k))) v.0 n lt, ap addresses_in form)

  pub addresses_apart : (v w : ValueId) (s t : Shape) → form_of d f v ≡ OfPlace s → form_of d f w ≡ OfPlace t → v.0 ≢ w.0 → (local_address d f v).at ≢ (local_address d f w).at
  addresses_apart v w s t form other ne =
      let wide : addresses_in (form_of d f v) ≡ 1 = ap addresses_in form in
      let wide' : addresses_in (form_of d f w) ≡ 1 = ap addresses_in other in
      elim (regions_apart (λ k. addresses_in (form_of d f (value_number k))) v.0 w.0 ne) [ inl le ↦ omega (arith, le, wide) | inr le ↦ omega (arith, le, wide') ]
