-- What contracts see of a table, through its calls.
use Rattle.std.proofs.Common.{◌≡◌, ℕ, zero, suc, ◌+◌, ◌-◌, ◌<◌, ◌≤◌, List, [], ◌∷◌, ◌++◌, true, false, cond, eqb, Option, Some, None, is_some, inl, inr, length, length-set, map, refl, sym, ap}
use Rattle.std.proofs.Common.{◌∙◌, arith}
use Rattle.std.specs.List.{range_with_len}
use Rattle.std.proofs.lemmas.Bool.{cases_eq, cases_lt, eq-eqb, ne_eqb}
use Rattle.std.proofs.lemmas.List.{ext_get_or, get_or-set_same, get_or-set_other, get_or_past}
use Rattle.std.proofs.lemmas.List.FromFn.{get_or-map-range_with_len, length-map-range_with_len, map-range_with_len_more}
use Rattle.number_tables.specs.TableByNumber.Numbers.{AreApart, IsFree, slot_in, with_next, without}
use Rattle.number_tables.specs.declared.table_by_number.entry.Entry.{Entry}
use Rattle.number_tables.specs.TableByNumber.inner.Chains.{IsAbsent}
use Rattle.number_tables.specs.TableByNumber.inner.Entries.{AreGiven, IsTable, key_at, numbers_in, slot_entries, slot_with}
use Rattle.number_tables.proofs.TableByNumber.Found.{is_present, key_of_slot, slot_count, slot_is, slot_none, slot_same}

pub same_each : {X : Type 0} (f g : ℕ → X) (a n : ℕ) → ((k : ℕ) → a ≤ k → k < a + n → f k ≡ g k) → map f (range_with_len a n) ≡ map g (range_with_len a n)
same_each f g a zero h = refl
same_each f g a (suc n) h =
    ap (λ x. x ∷ map f (range_with_len (a + 1) n)) (h a (omega arith) (omega arith))
    ∙ ap (λ xs. g a ∷ xs) (same_each f g (a + 1) n (λ k le lt. h k (omega arith) (omega arith)))

some_is : {X : Type 0} (o : Option X) → is_some o ≡ true → (x : X) × (o ≡ Some x)
some_is None e = absurd (let f : false ≡ true = e in cc)
some_is (Some x) e = (x, refl)

module _ (mask : ℕ) (entries : List Entry) (given : ℕ) where
  pub slot_given : (n : ℕ) → n < given → slot_in (numbers_in mask entries given) n ≡ slot_with (slot_entries mask entries) n
  slot_given n lt = get_or-map-range_with_len (slot_with (slot_entries mask entries)) 0 given n n None lt (omega arith)

  pub count_given : length (numbers_in mask entries given).places ≡ given
  count_given = length-map-range_with_len (slot_with (slot_entries mask entries)) 0 given

  pub slot_past : (n : ℕ) → given ≤ n → slot_in (numbers_in mask entries given) n ≡ None
  slot_past n le = get_or_past (numbers_in mask entries given).places n None (omega (arith, count_given))

  pub slot_told : (n slot : ℕ) → slot_in (numbers_in mask entries given) n ≡ Some slot → (n < given) × (slot_with (slot_entries mask entries) n ≡ Some slot)
  slot_told n slot is =
      elim (cases_lt n given) [
        | inl lt ↦ (lt, sym (slot_given n lt) ∙ is)
        | inr le ↦ let impossible : None ≡ Some slot = sym (slot_past n le) ∙ is in cc
      ]

  pub apart : AreApart (numbers_in mask entries given)
  apart n m slot is same =
      let a = key_of_slot mask entries n slot (slot_told n slot is).1 in
      let b = key_of_slot mask entries m slot (slot_told m slot same).1 in
      omega arith

  -- a number that wasn't taken out has a slot
  pub present : (n : ℕ) → is_some (slot_in (numbers_in mask entries given) n) ≡ true → (n < given) × (IsAbsent mask (key_at entries) (n + 1) → ⊥)
  present n some =
      let found = some_is (slot_in (numbers_in mask entries given) n) some in
      let told = slot_told n found.0 found.1 in
      (told.0, is_present mask entries n found.0 told.1)

  module _ (table : IsTable mask entries) where
    -- the slot of a look-up
    pub slot_found : (n s : ℕ) → n < given → mask + 1 < s → key_at entries s ≡ n + 1 → slot_in (numbers_in mask entries given) n ≡ Some (s - (mask + 2))
    slot_found n s lt behind is = slot_given n lt ∙ slot_is mask entries table n s behind is

    pub slot_absent : (n : ℕ) → IsAbsent mask (key_at entries) (n + 1) → slot_in (numbers_in mask entries given) n ≡ None
    slot_absent n absent =
        elim (cases_lt n given) [
          | inl lt ↦ slot_given n lt ∙ slot_none mask entries n absent
          | inr le ↦ slot_past n le
        ]

    -- ---- the next number is given

    module _ (are : AreGiven mask entries given) (slot : ℕ) (free : IsFree (numbers_in mask entries given) slot) where
      -- a slot without a number has no key
      pub free_key : key_at entries (mask + 2 + slot) ≡ 0
      free_key = by (key_at entries (mask + 2 + slot)) refl
        where
          by : (k : ℕ) → key_at entries (mask + 2 + slot) ≡ k → k ≡ 0
          by zero is = refl
          by (suc n) is =
              let low : key_at entries (mask + 2 + slot) ≤ given = are (mask + 2 + slot) (omega arith) in
              let key : key_at entries (mask + 2 + slot) ≡ n + 1 = omega arith in
              let back : mask + 2 + slot - (mask + 2) ≡ slot = omega arith in
              absurd (free n (slot_found n (mask + 2 + slot) (omega arith) (omega arith) key ∙ ap Some back))

      module _ (after : List Entry) (then : IsTable mask after) (kept : length after ≡ length entries)
          (keys : (e : ℕ) → key_at after e ≡ cond (eqb e (mask + 2 + slot)) (given + 1) (key_at entries e)) where
        key_new : key_at after (mask + 2 + slot) ≡ given + 1
        key_new = keys (mask + 2 + slot) ∙ ap (λ b. cond b (given + 1) (key_at entries (mask + 2 + slot))) (eq-eqb (mask + 2 + slot) (mask + 2 + slot) refl)

        key_kept : (e : ℕ) → (e ≡ mask + 2 + slot → ⊥) → key_at after e ≡ key_at entries e
        key_kept e differs = keys e ∙ ap (λ b. cond b (given + 1) (key_at entries e)) (ne_eqb e (mask + 2 + slot) differs)

        to : (n i : ℕ) → n < given → key_at entries (mask + 2 + i) ≡ n + 1 → key_at after (mask + 2 + i) ≡ n + 1
        to n i lt is = key_kept (mask + 2 + i) (λ same. let none : key_at entries (mask + 2 + i) ≡ 0 = ap (key_at entries) same ∙ free_key in omega arith) ∙ is

        from : (n i : ℕ) → n < given → key_at after (mask + 2 + i) ≡ n + 1 → key_at entries (mask + 2 + i) ≡ n + 1
        from n i lt is = sym (key_kept (mask + 2 + i) (λ same. let new : key_at after (mask + 2 + i) ≡ given + 1 = ap (key_at after) same ∙ key_new in omega arith)) ∙ is

        pub given_view : numbers_in mask after (given + 1) ≡ with_next (numbers_in mask entries given) slot
        given_view =
            let slots : length (slot_entries mask after) ≡ length (slot_entries mask entries) = slot_count mask after ∙ ap (λ n. n - (mask + 2)) kept ∙ sym (slot_count mask entries) in
            let back : mask + 2 + slot - (mask + 2) ≡ slot = omega arith in
            let last : slot_with (slot_entries mask after) given ≡ Some slot =
            slot_is mask after then given (mask + 2 + slot) (omega arith) key_new ∙ ap Some back in
            let front = same_each (slot_with (slot_entries mask after)) (slot_with (slot_entries mask entries)) 0 given
            (λ n _ lt. slot_same mask entries table mask after then n (λ i. to n i (omega arith)) (λ i. from n i (omega arith))) in
            let places : map (slot_with (slot_entries mask after)) (range_with_len 0 (given + 1)) ≡ map (slot_with (slot_entries mask entries)) (range_with_len 0 given) ++ Some slot ∷ [] =
            map-range_with_len_more (slot_with (slot_entries mask after)) 0 given given (omega arith) ∙ ap (λ xs. xs ++ slot_with (slot_entries mask after) given ∷ []) front
            ∙ ap (λ o. map (slot_with (slot_entries mask entries)) (range_with_len 0 given) ++ o ∷ []) last in
            ap (λ n. record { slots = n; places = map (slot_with (slot_entries mask after)) (range_with_len 0 (given + 1)) }) slots
            ∙ ap (λ xs. record { slots = length (slot_entries mask entries); places = xs }) places

        pub given_then : AreGiven mask after (given + 1)
        given_then s behind =
            elim (cases_eq s (mask + 2 + slot)) [
              | inl is ↦ let new : key_at after s ≡ given + 1 = ap (key_at after) is ∙ key_new in omega arith
              | inr differs ↦ let low : key_at entries s ≤ given = are s behind in omega (arith, key_kept s differs)
            ]

    -- ---- a number is taken out

    module _ (are : AreGiven mask entries given) (number s : ℕ) (behind : mask + 1 < s) (is_key : key_at entries s ≡ number + 1)
        (after : List Entry) (then : IsTable mask after) (kept : length after ≡ length entries)
        (keys : (e : ℕ) → key_at after e ≡ cond (eqb e s) 0 (key_at entries e)) where
      key_gone : key_at after s ≡ 0
      key_gone = keys s ∙ ap (λ b. cond b 0 (key_at entries s)) (eq-eqb s s refl)

      key_stays : (e : ℕ) → (e ≡ s → ⊥) → key_at after e ≡ key_at entries e
      key_stays e differs = keys e ∙ ap (λ b. cond b 0 (key_at entries e)) (ne_eqb e s differs)

      pub taken_then : AreGiven mask after given
      taken_then e there =
          elim (cases_eq e s) [
            | inl is ↦ let none : key_at after e ≡ 0 = ap (key_at after) is ∙ key_gone in omega arith
            | inr differs ↦ let low : key_at entries e ≤ given = are e there in omega (arith, key_stays e differs)
          ]

      gone : IsAbsent mask (key_at after) (number + 1)
      gone e there is =
          elim (cases_eq e s) [
            | inl same ↦ let none : key_at after e ≡ 0 = ap (key_at after) same ∙ key_gone in omega arith
            | inr differs ↦
                let key : key_at entries e ≡ number + 1 = sym (key_stays e differs) ∙ is in
                differs (table.chains.apart e s (there, omega arith) (behind, omega arith) (key ∙ sym is_key))
          ]

      others : (n : ℕ) → (n ≡ number → ⊥) → slot_with (slot_entries mask after) n ≡ slot_with (slot_entries mask entries) n
      others n differs =
          slot_same mask entries table mask after then n
          (λ i is. key_stays (mask + 2 + i) (λ same. let key : key_at entries (mask + 2 + i) ≡ number + 1 = ap (key_at entries) same ∙ is_key in differs (omega arith)) ∙ is)
          (λ i is. sym (key_stays (mask + 2 + i) (λ same. let none : key_at after (mask + 2 + i) ≡ 0 = ap (key_at after) same ∙ key_gone in omega arith)) ∙ is)

      places_then : (i : ℕ) → i < length (numbers_in mask after given).places
          → slot_in (numbers_in mask after given) i ≡ slot_in (without (numbers_in mask entries given) number) i
      places_then i lt =
          let within : i < given = omega (arith, count_given, length-map-range_with_len (slot_with (slot_entries mask after)) 0 given) in
          elim (cases_eq i number) [
            | inl is ↦
                get_or-map-range_with_len (slot_with (slot_entries mask after)) 0 given i i None within (omega arith)
                ∙ ap (slot_with (slot_entries mask after)) is ∙ slot_none mask after number gone
                ∙ sym (ap (slot_in (without (numbers_in mask entries given) number)) is ∙ get_or-set_same (numbers_in mask entries given).places number None None (omega (arith, count_given)))
            | inr differs ↦
                get_or-map-range_with_len (slot_with (slot_entries mask after)) 0 given i i None within (omega arith)
                ∙ others i differs ∙ sym (slot_given i within)
                ∙ sym (get_or-set_other (numbers_in mask entries given).places number i None None differs)
          ]

      pub taken_view : numbers_in mask after given ≡ without (numbers_in mask entries given) number
      taken_view =
          let slots : length (slot_entries mask after) ≡ length (slot_entries mask entries) = slot_count mask after ∙ ap (λ n. n - (mask + 2)) kept ∙ sym (slot_count mask entries) in
          let lengths : length (numbers_in mask after given).places ≡ length (without (numbers_in mask entries given) number).places =
          length-map-range_with_len (slot_with (slot_entries mask after)) 0 given ∙ sym (length-set (numbers_in mask entries given).places number None ∙ count_given) in
          let places = ext_get_or None (numbers_in mask after given).places (without (numbers_in mask entries given) number).places lengths places_then in
          ap (λ n. record { slots = n; places = (numbers_in mask after given).places }) slots ∙ ap (λ xs. record { slots = length (slot_entries mask entries); places = xs }) places

-- ---- the same numbers in other entries

module _ (mask : ℕ) (entries : List Entry) (table : IsTable mask entries) (wide : ℕ) (wider : List Entry) (other : IsTable wide wider) (given : ℕ) where
  module _ (keys : (i : ℕ) → key_at wider (wide + 2 + i) ≡ key_at entries (mask + 2 + i)) where
    pub places_same : (numbers_in wide wider given).places ≡ (numbers_in mask entries given).places
    places_same =
        same_each (slot_with (slot_entries wide wider)) (slot_with (slot_entries mask entries)) 0 given
        (λ n _ _. slot_same mask entries table wide wider other n (λ i is. keys i ∙ is) (λ i is. sym (keys i) ∙ is))

    pub wider_given : AreGiven mask entries given → AreGiven wide wider given
    wider_given are s behind =
        let place : s ≡ wide + 2 + (s - (wide + 2)) = omega arith in
        let low : key_at entries (mask + 2 + (s - (wide + 2))) ≤ given = are (mask + 2 + (s - (wide + 2))) (omega arith) in
        omega (arith, ap (key_at wider) place ∙ keys (s - (wide + 2)))

    pub wider_view : length wider + mask ≡ length entries + wide → numbers_in wide wider given ≡ numbers_in mask entries given
    wider_view size =
        let slots : length (slot_entries wide wider) ≡ length (slot_entries mask entries) = omega (arith, slot_count wide wider, slot_count mask entries, table.heads, other.heads) in
        ap (λ n. record { slots = n; places = (numbers_in wide wider given).places }) slots ∙ ap (λ xs. record { slots = length (slot_entries mask entries); places = xs }) places_same
