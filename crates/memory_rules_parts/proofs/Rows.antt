-- Rows that numbers are added to.
use Rattle.std.proofs.Common.{◌≡◌, ℕ, zero, suc, ◌+◌, ◌<◌, ◌≤◌, ◌≢◌, get_or, List, [], ◌∷◌, ◌++◌, length, take, refl, sym, ap, ◌∙◌, subst, ◌⊎◌, inl, inr, arith, cond, All, Some, eq-eqb}
use Rattle.std.specs.Prelude.{◌==◌, Contains, eqb, slice_get}
use Rattle.std.specs.List.{dedup}
use Rattle.std.specs.List.Sorted.{IsPermutation, IsSorted, IsStrictlyIncreasing}
use Rattle.std.specs.Ordering.{nat_cmp}
use Rattle.std.specs.declared.alloc.Global.{Global}
use Rattle.std.specs.declared.vec.Vec.{Vec}
use Rattle.std.proofs.Math.ListN.{set}
use Rattle.std.proofs.lemmas.Bool.{cases_eq, cases_lt, ne_eqb}
use Rattle.std.proofs.lemmas.List.{append-nil}
use Rattle.std.proofs.lemmas.List.Elements.{All-more, All-weaker, Contains-append_left, Contains-append_right, Contains-push}
use Rattle.std.proofs.lemmas.List.Kept.{Contains-dedup_nat}
use Rattle.std.proofs.lemmas.List.Sorted.{Contains-permutation}
use Rattle.std.proofs.lemmas.Map.Keys.{IsStrictlyIncreasing-dedup}
use Rattle.std.proofs.lemmas.Option.{get_or_from_slice_get}
use Rattle.sil_cfg.proofs.Gets.{length_push}
use Rattle.reach_engine_marks.proofs.PathChecks.Accesses.{accesses_kept, accesses_last, accesses_past, accesses_there}
use Rattle.reach_engine_marks.specs.PathPatterns.inner.Reads.{accesses_at}
use Rattle.memory_rules_accesses.specs.declared.source.Source.{Source}
use Rattle.memory_rules_parts.specs.inner.Index.{HasAll, HasRows, row_at, row_of}
use Rattle.memory_rules_parts.specs.inner.Keys.{keys_of_part}
use Rattle.memory_rules_parts.specs.declared.key.Key.{Key}
use Rattle.memory_rules_parts.specs.declared.part.Part.{Part}

-- a row with nothing in it adds nothing
pub row_added : (rows : List (Vec ℕ Global)) (x : Vec ℕ Global) → x.items ≡ [] → (r : ℕ) → accesses_at (rows ++ x ∷ []) r ≡ accesses_at rows r
row_added rows x empty r = at (cases_lt r (length rows))
  where
    past : (r ≡ length rows) ⊎ (r ≢ length rows) → length rows ≤ r → accesses_at (rows ++ x ∷ []) r ≡ accesses_at rows r
    past (inl e) le = accesses_last rows x r e ∙ empty ∙ sym (accesses_past rows r le)
    past (inr ne) le = let more : length (rows ++ x ∷ []) ≡ length rows + 1 = length_push rows x in accesses_past (rows ++ x ∷ []) r (omega arith) ∙ sym (accesses_past rows r le)

    at : (r < length rows) ⊎ (length rows ≤ r) → accesses_at (rows ++ x ∷ []) r ≡ accesses_at rows r
    at (inl lt) = accesses_kept rows x r lt
    at (inr le) = past (cases_eq r (length rows)) le

set_same : (rows : List (Vec ℕ Global)) (row : ℕ) (y : Vec ℕ Global) → row < length rows → accesses_at (set rows row y) row ≡ y.items
set_same [] row y lt = absurd (omega arith)
set_same (x ∷ rows) zero y lt = refl
set_same (x ∷ rows) (suc row) y lt = set_same rows row y (omega arith)

set_other : (rows : List (Vec ℕ Global)) (row r : ℕ) (y : Vec ℕ Global) → (row ≡ r → ⊥) → accesses_at (set rows row y) r ≡ accesses_at rows r
set_other [] row r y ne = refl
set_other (x ∷ rows) zero zero y ne = absurd (ne refl)
set_other (x ∷ rows) zero (suc r) y ne = refl
set_other (x ∷ rows) (suc row) zero y ne = refl
set_other (x ∷ rows) (suc row) (suc r) y ne = set_other rows row r y (λ e. ne (ap suc e))

-- the number goes into one row, and into no other
pub row_set : (rows : List (Vec ℕ Global)) (row : ℕ) (x y : Vec ℕ Global) (n : ℕ) → row < length rows → x ≡ get_or rows row x → y.items ≡ x.items ++ n ∷ [] →
    (r : ℕ) → accesses_at (set rows row y) r ≡ accesses_at rows r ++ cond (row == r) (n ∷ []) []
row_set rows row x y n lt is new r = at (cases_eq row r)
  where
    at : (row ≡ r) ⊎ (row ≢ r) → accesses_at (set rows row y) r ≡ accesses_at rows r ++ cond (row == r) (n ∷ []) []
    at (inl e) =
        ap (accesses_at (set rows row y)) (sym e) ∙ set_same rows row y lt ∙ new ∙ ap (λ v. v ++ n ∷ []) (sym (accesses_there rows row x lt is))
        ∙ ap (λ i. accesses_at rows i ++ n ∷ []) e ∙ ap (λ q. accesses_at rows r ++ cond q (n ∷ []) []) (sym (eq-eqb row r e))
    at (inr ne) = set_other rows row r y ne ∙ sym (append-nil (accesses_at rows r)) ∙ ap (λ q. accesses_at rows r ++ cond q (n ∷ []) []) (sym (ne_eqb row r ne))

-- one key more
pub rows_more : (old before new : List (Vec ℕ Global)) (keys : List Key) (i : ℕ) (d : Key) (n : ℕ) → i < length keys → HasRows old before (take i keys) n →
    ((r : ℕ) → accesses_at new r ≡ accesses_at before r ++ cond (row_of (get_or keys i d) == r) (n ∷ []) []) → HasRows old new (take (i + 1) keys) n
rows_more old before new keys i d n lt has is = record {
  kept = λ r m c. stays r m (has.kept r m c);
  there = All-more (λ key. Contains (row_at new key) n) keys i d lt
      (All-weaker (λ key. Contains (row_at before key) n) (λ key. Contains (row_at new key) n) (λ key c. stays (row_of key) n c) (take i keys) has.there) put;
}
  where
    stays : (r m : ℕ) → Contains (accesses_at before r) m → Contains (accesses_at new r) m
    stays r m c = subst (λ v. Contains v m) (sym (is r)) (Contains-append_left (accesses_at before r) (cond (row_of (get_or keys i d) == r) (n ∷ []) []) m c)

    put : Contains (row_at new (get_or keys i d)) n
    put =
        let r = row_of (get_or keys i d) in
        subst (λ v. Contains v n) (sym (is r ∙ ap (λ q. accesses_at before r ++ cond q (n ∷ []) []) (eq-eqb r r refl))) (Contains-push (accesses_at before r) n)

-- what the rows of the keys have, one key more
pub all_more : (rows : List (Vec ℕ Global)) (keys : List Key) (i : ℕ) (d : Key) (old new : List ℕ) → i < length keys → HasAll rows (take i keys) old → new ≡ old ++ row_at rows (get_or keys i d)
    → HasAll rows (take (i + 1) keys) new
all_more rows keys i d old new lt has is n =
    All-more (λ key. Contains (row_at rows key) n → Contains new n) keys i d lt
    (All-weaker (λ key. Contains (row_at rows key) n → Contains old n) (λ key. Contains (row_at rows key) n → Contains new n)
    (λ key h c. subst (λ v. Contains v n) (sym is) (Contains-append_left old (row_at rows (get_or keys i d)) n (h c))) (take i keys) (has n))
    (λ c. subst (λ v. Contains v n) (sym is) (Contains-append_right old (row_at rows (get_or keys i d)) n c))

-- one part more
pub parts_more : (sources : List Source) (parts : List Part) (old new : List (Vec ℕ Global)) (n : ℕ) (d : Part) (none keys : List Key) → none ≡ [] →
    keys ≡ none ++ keys_of_part sources (get_or parts n d) →
    ((i : ℕ) (p : Part) → i < n → slice_get parts i ≡ Some p → All (λ key. Contains (row_at old key) i) (keys_of_part sources p)) → HasRows old new keys n →
    (i : ℕ) (p : Part) → i < n + 1 → slice_get parts i ≡ Some p → All (λ key. Contains (row_at new key) i) (keys_of_part sources p)
parts_more sources parts old new n d none keys empty are before has i p lt e = at (cases_eq i n)
  where
    at : (i ≡ n) ⊎ (i ≢ n) → All (λ key. Contains (row_at new key) i) (keys_of_part sources p)
    at (inl same) =
        let q : get_or parts n d ≡ p = get_or_from_slice_get parts n p d (ap (slice_get parts) (sym same) ∙ e) in
        let own : keys ≡ keys_of_part sources p = are ∙ ap (λ v. v ++ keys_of_part sources (get_or parts n d)) empty ∙ ap (keys_of_part sources) q in
        subst (λ j. All (λ key. Contains (row_at new key) j) (keys_of_part sources p)) (sym same) (subst (λ v. All (λ key. Contains (row_at new key) n) v) own has.there)
    at (inr ne) = All-weaker (λ key. Contains (row_at old key) i) (λ key. Contains (row_at new key) i) (λ key c. has.kept (row_of key) i c) (keys_of_part sources p) (before i p (omega arith) e)

-- sorted, and each but once
pub rising_sorted : (sorted out : List ℕ) → IsSorted nat_cmp sorted → out ≡ dedup eqb sorted → IsStrictlyIncreasing out
rising_sorted sorted out order is = subst IsStrictlyIncreasing (sym is) (IsStrictlyIncreasing-dedup sorted order)

pub all_sorted : (rows : List (Vec ℕ Global)) (keys : List Key) (numbers sorted out : List ℕ) → HasAll rows keys numbers → IsPermutation numbers sorted → out ≡ dedup eqb sorted → HasAll rows keys out
all_sorted rows keys numbers sorted out has moved is n =
    All-weaker (λ key. Contains (row_at rows key) n → Contains numbers n) (λ key. Contains (row_at rows key) n → Contains out n)
    (λ key h c. subst (λ v. Contains v n) (sym is) (Contains-dedup_nat sorted n (Contains-permutation numbers sorted n moved (h c)))) keys (has n)
