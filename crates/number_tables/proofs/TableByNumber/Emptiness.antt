-- A table without numbers, and one free slot more.
use Rattle.std.proofs.Common.{◌≡◌, ℕ, zero, suc, ◌+◌, ◌-◌, ◌<◌, ◌≤◌, ◌^◌, List, [], ◌∷◌, ◌++◌, inl, inr, length, length-append, replicate, refl, sym, ap, ◌∙◌, subst, arith}
use Rattle.std.specs.Prelude.{bit_and}
use Rattle.std.proofs.lemmas.List.{length-replicate}
use Rattle.number_tables.specs.declared.table_by_number.entry.Entry.{Entry}
use Rattle.number_tables.specs.TableByNumber.inner.Chains.{AreChains, IsBelow, IsInChain, IsTaken, TOP}
use Rattle.number_tables.specs.TableByNumber.inner.Entries.{AreGiven, IsTable, empty_head, key_at, next_at, no_entry}
use Rattle.std.proofs.Math.Path.{fun_ext}

-- in free slots
free_at : (n i : ℕ) → key_at (replicate n no_entry) i ≡ 0
free_at zero i = refl
free_at (suc n) zero = refl
free_at (suc n) (suc i) = free_at n i

ends_at : (n i : ℕ) → next_at (replicate n no_entry) i ≡ 0
ends_at zero i = refl
ends_at (suc n) zero = refl
ends_at (suc n) (suc i) = ends_at n i

-- in heads and what stands behind them
head_at : (n : ℕ) (xs : List Entry) (i : ℕ) → i < n → key_at (replicate n empty_head ++ xs) i ≡ TOP
head_at zero xs i lt = absurd (omega arith)
head_at (suc n) xs zero lt = refl
head_at (suc n) xs (suc i) lt = head_at n xs i (omega arith)

behind_at : (n : ℕ) (xs : List Entry) (i : ℕ) → key_at (replicate n empty_head ++ xs) (n + i) ≡ key_at xs i
behind_at zero xs i = ap (key_at xs) (let same : 0 + i ≡ i = omega arith in same)
behind_at (suc n) xs i = ap (key_at (empty_head ∷ replicate n empty_head ++ xs)) (let same : suc n + i ≡ suc (n + i) = omega arith in same) ∙ behind_at n xs i

no_next : (n : ℕ) (xs : List Entry) → ((i : ℕ) → next_at xs i ≡ 0) → (i : ℕ) → next_at (replicate n empty_head ++ xs) i ≡ 0
no_next zero xs h i = h i
no_next (suc n) xs h zero = refl
no_next (suc n) xs h (suc i) = no_next n xs h i

module _ (mask slots : ℕ) (few : mask + 2 + slots ≤ 2 ^ 32) where
  abbrev behind : List Entry
  behind = replicate (mask + 1) empty_head ++ replicate slots no_entry

  abbrev pub empty_entries : List Entry
  empty_entries = no_entry ∷ behind

  pub empty_count : length empty_entries ≡ mask + 2 + slots
  empty_count =
      omega (arith, length-append (replicate (mask + 1) empty_head) (replicate slots no_entry), length-replicate (mask + 1) empty_head, length-replicate slots no_entry)

  heads : (p : ℕ) → 1 ≤ p → p ≤ mask + 1 → key_at empty_entries p ≡ TOP
  heads zero from to = absurd (omega arith)
  heads (suc p) from to = head_at (mask + 1) (replicate slots no_entry) p (omega arith)

  pub no_keys : (s : ℕ) → mask + 1 < s → key_at empty_entries s ≡ 0
  no_keys zero h = absurd (omega arith)
  no_keys (suc s) h =
      let place : s ≡ mask + 1 + (s - (mask + 1)) = omega arith in
      ap (key_at behind) place ∙ behind_at (mask + 1) (replicate slots no_entry) (s - (mask + 1)) ∙ free_at slots (s - (mask + 1))

  none : (s : ℕ) → IsTaken mask (key_at empty_entries) s → ⊥
  none s h = let no : key_at empty_entries s ≡ 0 = no_keys s h.0 in omega (arith, h.1)

  nexts : (p : ℕ) → next_at empty_entries p ≡ 0
  nexts zero = refl
  nexts (suc p) = no_next (mask + 1) (replicate slots no_entry) (ends_at slots) p

  below : (b above : ℕ) → 0 < above → IsBelow mask (bit_and mask) (key_at empty_entries) b above 0
  below b above some = record {
    falls = some;
    inside = λ key. absurd (omega arith);
    ends = λ _. refl;
    greatest = λ s taken _ _. absurd (none s taken);
  }

  links : (b p : ℕ) → IsInChain mask (bit_and mask) (key_at empty_entries) b p → IsBelow mask (bit_and mask) (key_at empty_entries) b (key_at empty_entries p) (next_at empty_entries p)
  links b p (inl h) =
      let top : key_at empty_entries p ≡ TOP = heads p (omega arith) (omega arith) in
      let some : 0 < key_at empty_entries p = omega arith in
      subst (λ t. IsBelow mask (bit_and mask) (key_at empty_entries) b (key_at empty_entries p) t) (sym (nexts p)) (below b (key_at empty_entries p) some)
  links b p (inr h) = absurd (none p h.0)

  pub empty_is_table : IsTable mask empty_entries
  empty_is_table = record {
    heads = omega (arith, empty_count);
    few = omega (arith, empty_count);
    chains = record {
      end = refl;
      heads = heads;
      below_heads = λ s behind. let no : key_at empty_entries s ≡ 0 = no_keys s behind in omega arith;
      apart = λ s t h _ _. absurd (none s h);
      links = links;
    };
  }

-- ---- a free slot more

key_more : (entries : List Entry) (e : ℕ) → key_at (entries ++ no_entry ∷ []) e ≡ key_at entries e
key_more [] zero = refl
key_more [] (suc e) = refl
key_more (x ∷ entries) zero = refl
key_more (x ∷ entries) (suc e) = key_more entries e

next_more : (entries : List Entry) (e : ℕ) → next_at (entries ++ no_entry ∷ []) e ≡ next_at entries e
next_more [] zero = refl
next_more [] (suc e) = refl
next_more (x ∷ entries) zero = refl
next_more (x ∷ entries) (suc e) = next_more entries e

module _ (mask : ℕ) (entries : List Entry) where
  pub more_is_table : IsTable mask entries → length entries < 2 ^ 32 → IsTable mask (entries ++ no_entry ∷ [])
  more_is_table table few = record {
    heads = omega (arith, length-append entries (no_entry ∷ []), table.heads);
    few = omega (arith, length-append entries (no_entry ∷ []));
    chains =
        subst (λ next. AreChains mask (bit_and mask) (key_at (entries ++ no_entry ∷ [])) next) (sym (fun_ext (next_more entries)))
        (subst (λ key. AreChains mask (bit_and mask) key (next_at entries)) (sym (fun_ext (key_more entries))) table.chains);
  }

  pub more_given : (given : ℕ) → AreGiven mask entries given → AreGiven mask (entries ++ no_entry ∷ []) given
  more_given given are s behind = subst (λ k. k ≤ given) (sym (key_more entries s)) (are s behind)
