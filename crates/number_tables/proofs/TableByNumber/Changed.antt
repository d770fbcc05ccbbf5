-- The entries after a change of one slot.
use Rattle.std.proofs.Common.{◌≡◌, ℕ, ◌+◌, ◌<◌, ◌≤◌, List, inl, inr, length, length-set, refl, set, sym, ap, ◌∙◌, arith}
use Rattle.std.specs.Prelude.{bit_and}
use Rattle.std.proofs.lemmas.Bool.{cases_eq}
use Rattle.std.proofs.lemmas.List.{get_or-set_same, get_or-set_other}
use Rattle.number_tables.specs.declared.table_by_number.entry.Entry.{Entry}
use Rattle.number_tables.specs.TableByNumber.inner.Chains.{IsAbsent, IsBelow, IsInChain, IsTaken, TOP}
use Rattle.number_tables.specs.TableByNumber.inner.Entries.{IsTable, key_at, next_at, no_entry}
use Rattle.number_tables.proofs.TableByNumber.Inserted.{inserted}
use Rattle.number_tables.proofs.TableByNumber.Removed.{removed}
use Rattle.number_tables.proofs.TableByNumber.Walking.{in_chain_there}

abbrev key_of : Entry → ℕ
key_of e = e.key

abbrev next_of : Entry → ℕ
next_of e = e.next

module _ (entries : List Entry) (i : ℕ) (x : Entry) where
  key_same : i < length entries → key_at (set entries i x) i ≡ x.key
  key_same lt = ap key_of (get_or-set_same entries i x no_entry lt)

  key_other : (e : ℕ) → (e ≡ i → ⊥) → key_at (set entries i x) e ≡ key_at entries e
  key_other e differs = ap key_of (get_or-set_other entries i e x no_entry differs)

  next_same : i < length entries → next_at (set entries i x) i ≡ x.next
  next_same lt = ap next_of (get_or-set_same entries i x no_entry lt)

  next_other : (e : ℕ) → (e ≡ i → ⊥) → next_at (set entries i x) e ≡ next_at entries e
  next_other e differs = ap next_of (get_or-set_other entries i e x no_entry differs)

  -- where the key is as before
  key_kept : i < length entries → x.key ≡ key_at entries i → (e : ℕ) → key_at (set entries i x) e ≡ key_at entries e
  key_kept lt same e =
      elim (cases_eq e i) [
        | inl is ↦ ap (key_at (set entries i x)) is ∙ key_same lt ∙ same ∙ ap (key_at entries) (sym is)
        | inr differs ↦ key_other e differs
      ]

module _ (mask : ℕ) (entries : List Entry) (table : IsTable mask entries) (slot : ℕ) (there : slot < length entries) where
  module _ (k p : ℕ) (some : 1 ≤ k) (low : k < TOP) (absent : IsAbsent mask (key_at entries) k) (behind : mask + 1 < slot) (free : key_at entries slot ≡ 0)
      (chain : IsInChain mask (bit_and mask) (key_at entries) (bit_and mask k) p) (greater : k < key_at entries p)
      (last : key_at entries (next_at entries p) ≤ k) where
    abbrev with_slot : List Entry
    with_slot = set entries slot (record { key = k; next = next_at entries p })

    abbrev with_both : List Entry
    with_both = set with_slot p (record { key = key_at with_slot p; next = slot })

    p_there : p < length with_slot
    p_there = rw length-set (in_chain_there mask entries table (bit_and mask k) p chain)

    keys : (e : ℕ) → key_at with_both e ≡ key_at with_slot e
    keys e = key_kept with_slot p (record { key = key_at with_slot p; next = slot }) p_there refl e

    differ : slot ≡ p → ⊥
    differ is = let same : key_at entries slot ≡ key_at entries p = ap (key_at entries) is in omega arith

    pub inserted_table : IsTable mask with_both
    inserted_table = record {
      heads = rw (length-set, length-set) table.heads;
      few = rw (length-set, length-set) table.few;
      chains =
          inserted mask (bit_and mask) (key_at entries) (next_at entries) table.chains slot k p (key_at with_both) (next_at with_both)
          behind free some low absent chain greater last
          (keys slot ∙ key_same entries slot (record { key = k; next = next_at entries p }) there)
          (λ e other. keys e ∙ key_other entries slot (record { key = k; next = next_at entries p }) e other)
          (next_other with_slot p (record { key = key_at with_slot p; next = slot }) slot differ ∙ next_same entries slot (record { key = k; next = next_at entries p }) there)
          (next_same with_slot p (record { key = key_at with_slot p; next = slot }) p_there)
          (λ e other also. next_other with_slot p (record { key = key_at with_slot p; next = slot }) e also
          ∙ next_other entries slot (record { key = k; next = next_at entries p }) e other);
    }

  module _ (p : ℕ) (taken : IsTaken mask (key_at entries) slot)
      (chain : IsInChain mask (bit_and mask) (key_at entries) (bit_and mask (key_at entries slot)) p) (greater : key_at entries slot < key_at entries p)
      (last : key_at entries (next_at entries p) ≤ key_at entries slot) where
    abbrev without_link : List Entry
    without_link = set entries p (record { key = key_at entries p; next = next_at entries slot })

    abbrev without_both : List Entry
    without_both = set without_link slot (record { key = 0; next = next_at without_link slot })

    below : IsBelow mask (bit_and mask) (key_at entries) (bit_and mask (key_at entries slot)) (key_at entries p) (next_at entries p)
    below = table.chains.links (bit_and mask (key_at entries slot)) p chain

    -- the slot is what stands next
    link : next_at entries p ≡ slot
    link =
        let le : key_at entries slot ≤ key_at entries (next_at entries p) = below.greatest slot taken refl greater in
        let same : key_at entries (next_at entries p) ≡ key_at entries slot = omega arith in
        let some : 1 ≤ key_at entries (next_at entries p) = omega (arith, taken.1) in
        table.chains.apart (next_at entries p) slot ((below.inside some).0, some) taken same

    p_in : p < length entries
    p_in = in_chain_there mask entries table (bit_and mask (key_at entries slot)) p chain

    slot_there : slot < length without_link
    slot_there = rw length-set there

    link_keys : (e : ℕ) → key_at without_link e ≡ key_at entries e
    link_keys e = key_kept entries p (record { key = key_at entries p; next = next_at entries slot }) p_in refl e

    apart : p ≡ slot → ⊥
    apart is = let same : key_at entries p ≡ key_at entries slot = ap (key_at entries) is in omega arith

    -- the slot's own link stays
    next_kept : (e : ℕ) → next_at without_both e ≡ next_at without_link e
    next_kept e =
        elim (cases_eq e slot) [
          | inl is ↦ ap (next_at without_both) is ∙ next_same without_link slot (record { key = 0; next = next_at without_link slot }) slot_there ∙ ap (next_at without_link) (sym is)
          | inr other ↦ next_other without_link slot (record { key = 0; next = next_at without_link slot }) e other
        ]

    pub removed_table : IsTable mask without_both
    removed_table = record {
      heads = rw (length-set, length-set) table.heads;
      few = rw (length-set, length-set) table.few;
      chains =
          removed mask (bit_and mask) (key_at entries) (next_at entries) table.chains slot p (key_at without_both) (next_at without_both)
          taken (bit_and mask (key_at entries slot)) chain link
          (key_same without_link slot (record { key = 0; next = next_at without_link slot }) slot_there)
          (λ e other. key_other without_link slot (record { key = 0; next = next_at without_link slot }) e other ∙ link_keys e)
          (next_kept p ∙ next_same entries p (record { key = key_at entries p; next = next_at entries slot }) p_in)
          (λ e other. next_kept e ∙ next_other entries p (record { key = key_at entries p; next = next_at entries slot }) e other);
    }
