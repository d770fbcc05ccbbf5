-- How a chain is gone through.
use Rattle.std.proofs.Common.{◌≡◌, ℕ, ◌+◌, ◌<◌, ◌≤◌, List, inl, inr, length, sym, ap, subst, arith}
use Rattle.std.specs.Prelude.{bit_and}
use Rattle.std.proofs.lemmas.Bool.{cases_eq, cases_lt}
use Rattle.std.proofs.lemmas.List.{get_or_past}
use Rattle.std.proofs.lemmas.Nat.{and_le_l}
use Rattle.number_tables.specs.declared.table_by_number.entry.Entry.{Entry}
use Rattle.number_tables.specs.TableByNumber.inner.Chains.{IsAbsent, IsBelow, IsInChain, IsTaken, TOP}
use Rattle.number_tables.specs.TableByNumber.inner.Entries.{IsTable, key_at, next_at, no_entry}

-- an entry with a key is there
pub has_place : (entries : List Entry) (e : ℕ) → 1 ≤ key_at entries e → e < length entries
has_place entries e some =
    elim (cases_lt e (length entries)) [
      | inl lt ↦ lt
      | inr le ↦ let none : key_at entries e ≡ 0 = ap (λ (x : Entry). x.key) (get_or_past entries e no_entry le) in absurd (omega arith)
    ]

-- a slot with the key, if there is one, isn't above this entry of the key's chain, or its end
pub record Reaches (mask : ℕ) (entries : List Entry) (key at : ℕ) : Type 0 where
  pub reaches : (s : ℕ) → mask + 1 < s → key_at entries s ≡ key → key ≤ key_at entries at
  pub inside : 1 ≤ key_at entries at → (mask + 1 < at) × (bit_and mask (key_at entries at) ≡ bit_and mask key)
  pub ends : key_at entries at ≡ 0 → at ≡ 0

module _ (mask : ℕ) (entries : List Entry) (table : IsTable mask entries) where
  -- what stands next in a chain is there
  pub next_there : (b above t : ℕ) → IsBelow mask (bit_and mask) (key_at entries) b above t → t < length entries
  next_there b above t below =
      elim (cases_eq (key_at entries t) 0) [
        | inl none ↦ let end : t ≡ 0 = below.ends none in omega (arith, table.heads)
        | inr some ↦ has_place entries t (let h : 1 ≤ key_at entries t = omega arith in h)
      ]

  pub head_in_chain : (key : ℕ) → IsInChain mask (bit_and mask) (key_at entries) (bit_and mask key) (bit_and mask key + 1)
  head_in_chain key = inl (omega arith, and_le_l mask key)

  pub head_key : (key : ℕ) → key_at entries (bit_and mask key + 1) ≡ TOP
  head_key key = table.chains.heads (bit_and mask key + 1) (omega arith) (omega (arith, and_le_l mask key))

  module _ (key : ℕ) (some : 1 ≤ key) where
    below_reaches : (above t : ℕ) → IsBelow mask (bit_and mask) (key_at entries) (bit_and mask key) above t → ((s : ℕ) → mask + 1 < s → key_at entries s ≡ key → key < above)
        → Reaches mask entries key t
    below_reaches above t below under = record {
      reaches = λ s there is.
          let taken : IsTaken mask (key_at entries) s = (there, subst (λ n. 1 ≤ n) (sym is) some) in
          subst (λ n. n ≤ key_at entries t) is (below.greatest s taken (ap (bit_and mask) is) (subst (λ n. n < above) (sym is) (under s there is)));
      inside = below.inside;
      ends = below.ends;
    }

    pub reaches_first : Reaches mask entries key (next_at entries (bit_and mask key + 1))
    reaches_first =
        below_reaches (key_at entries (bit_and mask key + 1)) (next_at entries (bit_and mask key + 1)) (table.chains.links (bit_and mask key) (bit_and mask key + 1) (head_in_chain key))
        (λ s there is. let low : key_at entries s < TOP = table.chains.below_heads s there in omega (arith, head_key key))

    module _ (at : ℕ) (so_far : Reaches mask entries key at) where
      link : key < key_at entries at → IsBelow mask (bit_and mask) (key_at entries) (bit_and mask key) (key_at entries at) (next_at entries at)
      link less =
          let inside = so_far.inside (let h : 1 ≤ key_at entries at = omega arith in h) in
          table.chains.links (bit_and mask key) at (inr ((inside.0, let h : 1 ≤ key_at entries at = omega arith in h), inside.1))

      pub reaches_next : key < key_at entries at → Reaches mask entries key (next_at entries at)
      reaches_next less = below_reaches (key_at entries at) (next_at entries at) (link less) (λ _ _ _. less)

      pub falls_next : key < key_at entries at → key_at entries (next_at entries at) < key_at entries at
      falls_next less = (link less).falls

      pub absent_below : key_at entries at < key → IsAbsent mask (key_at entries) key
      absent_below less s there is = let le : key ≤ key_at entries at = so_far.reaches s there is in omega arith

      pub present_above : (IsAbsent mask (key_at entries) key → ⊥) → key ≤ key_at entries at
      present_above present =
          elim (cases_lt (key_at entries at) key) [
            | inl less ↦ absurd (present (absent_below less))
            | inr le ↦ le
          ]

  -- ---- the last entry with a greater key

  pub next_in_chain : (b at : ℕ) → IsInChain mask (bit_and mask) (key_at entries) b at → 1 ≤ key_at entries (next_at entries at)
      → IsInChain mask (bit_and mask) (key_at entries) b (next_at entries at)
  next_in_chain b at chain some =
      let inside = (table.chains.links b at chain).inside some in
      inr ((inside.0, some), inside.1)

  pub link_there : (b at : ℕ) → IsInChain mask (bit_and mask) (key_at entries) b at → next_at entries at < length entries
  link_there b at chain = next_there b (key_at entries at) (next_at entries at) (table.chains.links b at chain)

  pub in_chain_there : (b at : ℕ) → IsInChain mask (bit_and mask) (key_at entries) b at → at < length entries
  in_chain_there b at (inl h) = omega (arith, table.heads)
  in_chain_there b at (inr h) = has_place entries at h.0.1

  pub link_falls : (b at : ℕ) → IsInChain mask (bit_and mask) (key_at entries) b at → key_at entries (next_at entries at) < key_at entries at
  link_falls b at chain = (table.chains.links b at chain).falls
