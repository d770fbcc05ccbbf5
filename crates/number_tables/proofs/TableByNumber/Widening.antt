-- Slots that are copied into wider entries, one after another.
use Rattle.std.proofs.Common.{◌≡◌, ℕ, ◌+◌, ◌-◌, ◌<◌, ◌≤◌, List, cond, eqb, inl, inr, length, refl, sym, ap, ◌∙◌, arith}
use Rattle.std.proofs.lemmas.Bool.{cases_eq, cases_lt, eq-eqb, ne_eqb}
use Rattle.number_tables.specs.declared.table_by_number.entry.Entry.{Entry}
use Rattle.number_tables.specs.TableByNumber.inner.Chains.{IsAbsent, IsTaken}
use Rattle.number_tables.specs.TableByNumber.inner.Entries.{IsTable, key_at}

pub record IsCopied (mask : ℕ) (entries : List Entry) (wide : ℕ) (wider : List Entry) (count : ℕ) : Type 0 where
  pub table : IsTable wide wider
  pub size : length wider + mask ≡ length entries + wide
  pub copied : (i : ℕ) → i < count → key_at wider (wide + 2 + i) ≡ key_at entries (mask + 2 + i)
  pub free : (i : ℕ) → count ≤ i → key_at wider (wide + 2 + i) ≡ 0

module _ (mask : ℕ) (entries : List Entry) (table : IsTable mask entries) (wide : ℕ) (wider : List Entry) (s : ℕ) (so_far : IsCopied mask entries wide wider s) where
  key_of : (x : ℕ) → wide + 1 < x → key_at wider x ≡ key_at wider (wide + 2 + (x - (wide + 2)))
  key_of x lt = ap (key_at wider) (let same : x ≡ wide + 2 + (x - (wide + 2)) = omega arith in same)

  -- the next key isn't there yet
  pub key_absent : (k : ℕ) → key_at entries (mask + 2 + s) ≡ k → 1 ≤ k → IsAbsent wide (key_at wider) k
  key_absent k is some x behind same =
      let here : key_at wider (wide + 2 + (x - (wide + 2))) ≡ k = sym (key_of x behind) ∙ same in
      elim (cases_lt (x - (wide + 2)) s) [
        | inl lt ↦
            let key : key_at entries (mask + 2 + (x - (wide + 2))) ≡ k = sym (so_far.copied (x - (wide + 2)) lt) ∙ here in
            let taken : IsTaken mask (key_at entries) (mask + 2 + (x - (wide + 2))) = (omega arith, omega arith) in
            let taken_s : IsTaken mask (key_at entries) (mask + 2 + s) = (omega arith, omega arith) in
            let equal : mask + 2 + (x - (wide + 2)) ≡ mask + 2 + s = table.chains.apart (mask + 2 + (x - (wide + 2))) (mask + 2 + s) taken taken_s (key ∙ sym is) in
            omega arith
        | inr le ↦ let none : key_at wider (wide + 2 + (x - (wide + 2))) ≡ 0 = so_far.free (x - (wide + 2)) le in omega arith
      ]

  module _ (after : List Entry) (then : IsTable wide after) (kept : length after ≡ length wider)
      (keys : (e : ℕ) → key_at after e ≡ cond (eqb e (wide + 2 + s)) (key_at entries (mask + 2 + s)) (key_at wider e)) where
    key_kept : (i : ℕ) → (i ≡ s → ⊥) → key_at after (wide + 2 + i) ≡ key_at wider (wide + 2 + i)
    key_kept i differs =
        keys (wide + 2 + i) ∙ ap (λ b. cond b (key_at entries (mask + 2 + s)) (key_at wider (wide + 2 + i))) (ne_eqb (wide + 2 + i) (wide + 2 + s) (λ same. differs (omega arith)))

    pub copied_next : IsCopied mask entries wide after (s + 1)
    copied_next = record {
      table = then;
      size = omega (arith, so_far.size);
      copied = λ i lt. elim (cases_eq i s) [
        | inl is ↦
            ap (λ n. key_at after (wide + 2 + n)) is ∙ keys (wide + 2 + s)
            ∙ ap (λ b. cond b (key_at entries (mask + 2 + s)) (key_at wider (wide + 2 + s))) (eq-eqb (wide + 2 + s) (wide + 2 + s) refl)
            ∙ ap (λ n. key_at entries (mask + 2 + n)) (sym is)
        | inr differs ↦ key_kept i differs ∙ so_far.copied i (omega arith)
      ];
      free = λ i le. key_kept i (λ same. omega arith) ∙ so_far.free i (omega arith);
    }

  -- a free slot stays free
  pub copied_free : key_at entries (mask + 2 + s) ≡ 0 → IsCopied mask entries wide wider (s + 1)
  copied_free none = record {
    table = so_far.table;
    size = so_far.size;
    copied = λ i lt. elim (cases_eq i s) [
      | inl is ↦
          ap (λ n. key_at wider (wide + 2 + n)) is ∙ so_far.free s (omega arith) ∙ sym none ∙ ap (λ n. key_at entries (mask + 2 + n)) (sym is)
      | inr differs ↦ so_far.copied i (omega arith)
    ];
    free = λ i le. so_far.free i (omega arith);
  }
