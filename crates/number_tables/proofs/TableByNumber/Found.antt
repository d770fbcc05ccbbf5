-- The slot whose key is a number's.
use Rattle.std.proofs.Common.{◌≡◌, ℕ, ◌+◌, ◌-◌, ◌<◌, List, Option, Some, None, inl, inr, length, refl, sym, ap, ◌∙◌, arith}
use Rattle.std.specs.List.{position_or_len}
use Rattle.std.proofs.lemmas.Bool.{cases_lt, cond_above, cond_below, eq-eqb, eqb-true, false≢true}
use Rattle.std.proofs.lemmas.List.{get_or-drop, length-drop}
use Rattle.std.proofs.lemmas.List.Quantifiers.{position-Some}
use Rattle.std.proofs.lemmas.List.Sums.{fails_before_first, passes_at_first}
use Rattle.number_tables.specs.declared.table_by_number.entry.Entry.{Entry}
use Rattle.number_tables.specs.TableByNumber.inner.Chains.{IsAbsent, IsTaken}
use Rattle.number_tables.specs.TableByNumber.inner.Entries.{IsTable, has_key, key_at, no_entry, slot_entries, slot_with}
use Rattle.number_tables.proofs.TableByNumber.Walking.{has_place}

-- ---- in a list of slots

module _ (slots : List Entry) (n : ℕ) where
  pub found : (i : ℕ) → i < length slots → key_at slots i ≡ n + 1 → ((j : ℕ) → key_at slots j ≡ n + 1 → j ≡ i) → slot_with slots n ≡ Some i
  found i there is only =
      elim (cases_lt i (position_or_len (has_key (n + 1)) slots)) [
        | inl before ↦ absurd (false≢true (sym (fails_before_first (has_key (n + 1)) slots i no_entry before) ∙ eq-eqb (key_at slots i) (n + 1) is))
        | inr le ↦
            let within : position_or_len (has_key (n + 1)) slots < length slots = omega arith in
            let here = only (position_or_len (has_key (n + 1)) slots) (eqb-true _ _ (passes_at_first (has_key (n + 1)) slots no_entry within)) in
            sym (cond_below _ _ _ _ within) ∙ ap Some here
      ]

  pub not_found : ((j : ℕ) → key_at slots j ≡ n + 1 → ⊥) → slot_with slots n ≡ None
  not_found none =
      elim (cases_lt (position_or_len (has_key (n + 1)) slots) (length slots)) [
        | inl within ↦ absurd (none _ (eqb-true _ _ (passes_at_first (has_key (n + 1)) slots no_entry within)))
        | inr le ↦ sym (cond_above _ _ _ _ _ le refl)
      ]

  pub found_key : (i : ℕ) → slot_with slots n ≡ Some i → key_at slots i ≡ n + 1
  found_key i is = eqb-true _ _ (position-Some (has_key (n + 1)) slots i no_entry is).1

-- ---- in a table

module _ (mask : ℕ) (entries : List Entry) where
  pub slot_key : (i : ℕ) → key_at (slot_entries mask entries) i ≡ key_at entries (mask + 2 + i)
  slot_key i = ap (λ (x : Entry). x.key) (get_or-drop (mask + 2) entries i no_entry)

  pub slot_count : length (slot_entries mask entries) ≡ length entries - (mask + 2)
  slot_count = length-drop (mask + 2) entries

  -- a slot with the number's key, and no other one, has the number
  pub slot_is : IsTable mask entries → (n s : ℕ) → mask + 1 < s → key_at entries s ≡ n + 1 → slot_with (slot_entries mask entries) n ≡ Some (s - (mask + 2))
  slot_is table n s behind is =
      let back : mask + 2 + (s - (mask + 2)) ≡ s = omega arith in
      let there : s < length entries = has_place entries s (omega arith) in
      found (slot_entries mask entries) n (s - (mask + 2)) (omega (arith, slot_count)) (slot_key (s - (mask + 2)) ∙ ap (key_at entries) back ∙ is)
      (λ j same.
      let at_j : key_at entries (mask + 2 + j) ≡ n + 1 = sym (slot_key j) ∙ same in
      let taken_j : IsTaken mask (key_at entries) (mask + 2 + j) = (omega arith, omega arith) in
      let taken_s : IsTaken mask (key_at entries) s = (behind, omega arith) in
      let equal : mask + 2 + j ≡ s = table.chains.apart (mask + 2 + j) s taken_j taken_s (at_j ∙ sym is) in
      omega arith)

  pub slot_none : (n : ℕ) → IsAbsent mask (key_at entries) (n + 1) → slot_with (slot_entries mask entries) n ≡ None
  slot_none n absent = not_found (slot_entries mask entries) n (λ j is. absent (mask + 2 + j) (omega arith) (sym (slot_key j) ∙ is))

  pub key_of_slot : (n i : ℕ) → slot_with (slot_entries mask entries) n ≡ Some i → key_at entries (mask + 2 + i) ≡ n + 1
  key_of_slot n i is = sym (slot_key i) ∙ found_key (slot_entries mask entries) n i is

  pub is_present : (n i : ℕ) → slot_with (slot_entries mask entries) n ≡ Some i → IsAbsent mask (key_at entries) (n + 1) → ⊥
  is_present n i is absent = absent (mask + 2 + i) (omega arith) (key_of_slot n i is)

-- ---- the same slots in another table

module _ (mask : ℕ) (entries : List Entry) (table : IsTable mask entries) (wide : ℕ) (wider : List Entry) (other : IsTable wide wider) (n : ℕ) where
  pub slot_same : ((i : ℕ) → key_at entries (mask + 2 + i) ≡ n + 1 → key_at wider (wide + 2 + i) ≡ n + 1)
      → ((i : ℕ) → key_at wider (wide + 2 + i) ≡ n + 1 → key_at entries (mask + 2 + i) ≡ n + 1)
      → slot_with (slot_entries wide wider) n ≡ slot_with (slot_entries mask entries) n
  slot_same to from = by (slot_with (slot_entries mask entries) n) refl
    where
      by : (o : Option ℕ) → slot_with (slot_entries mask entries) n ≡ o → slot_with (slot_entries wide wider) n ≡ o
      by None is =
          slot_none wide wider n (λ s behind same.
          let back : wide + 2 + (s - (wide + 2)) ≡ s = omega arith in
          let key : key_at entries (mask + 2 + (s - (wide + 2))) ≡ n + 1 = from (s - (wide + 2)) (ap (key_at wider) back ∙ same) in
          let some = slot_is mask entries table n (mask + 2 + (s - (wide + 2))) (omega arith) key in
          let impossible : None ≡ Some (mask + 2 + (s - (wide + 2)) - (mask + 2)) = sym is ∙ some in cc)
      by (Some i) is =
          let key : key_at wider (wide + 2 + i) ≡ n + 1 = to i (key_of_slot mask entries n i is) in
          slot_is wide wider other n (wide + 2 + i) (omega arith) key ∙ ap Some (let same : wide + 2 + i - (wide + 2) ≡ i = omega arith in same)
