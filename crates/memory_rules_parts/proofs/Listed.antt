-- The entries of the parts that are listed by an access's keys are those of all parts.
use Rattle.std.proofs.Common.{◌≡◌, ℕ, zero, suc, ◌+◌, ◌<◌, ◌≤◌, List, [], ◌∷◌, ◌++◌, ◌-◌, length, get_or, map, take, append-nil}
use Rattle.std.proofs.Common.{append_assoc, refl, sym, ap, ap₂, ◌∙◌, subst, ◌⊎◌, inl, inr, All, Option, Some, None, arith}
use Rattle.std.specs.Prelude.{Contains, slice_get, unwrap_or, option_map}
use Rattle.std.specs.List.{AllPairs, flat_map}
use Rattle.std.specs.List.Sorted.{IsStrictlyIncreasing}
use Rattle.std.specs.declared.alloc.Global.{Global}
use Rattle.std.specs.declared.vec.Vec.{Vec}
use Rattle.std.proofs.lemmas.Bool.{cases_eq}
use Rattle.std.proofs.lemmas.Grind.{flat_map-append}
use Rattle.std.proofs.lemmas.List.{take_more}
use Rattle.std.proofs.lemmas.List.Elements.{All-contains, All-head, All-tail}
use Rattle.std.proofs.lemmas.List.Kept.{AllPairs-from_increasing}
use Rattle.std.proofs.lemmas.Option.{slice_get-map}
use Rattle.sil_ast.specs.declared.place.ValueId.{ValueId}
use Rattle.ownership_kinds_chains.specs.declared.ownership_chains.facts.Facts.{Facts}
use Rattle.reach_engine_marks.specs.PathChecks.inner.Shared.{entry_if, shared_from}
use Rattle.reach_engine_marks.specs.declared.path_checks.entry.Entry.{Entry}
use Rattle.reach_engine_marks.specs.declared.path_patterns.mark.Mark.{Mark}
use Rattle.memory_rules_accesses.specs.declared.access.Access.{Access}
use Rattle.memory_rules_accesses.specs.declared.source.Source.{Source}
use Rattle.memory_rules_parts.specs.inner.Batches.{entry_at, joint, means_at}
use Rattle.memory_rules_parts.specs.inner.Index.{HasAll, IsIndexOf, row_at}
use Rattle.memory_rules_parts.specs.inner.Keys.{keys_of_access, keys_of_part}
use Rattle.memory_rules_parts.specs.Parts.{means}
use Rattle.memory_rules_parts.specs.declared.part.Part.{Part}
use Rattle.memory_rules_parts.proofs.Reached.{unreached}

-- each is above the one before it, and the first not below a number
abbrev IsFrom : ℕ → List ℕ → Type 0
IsFrom low [] = Unit {0}
IsFrom low (n ∷ numbers) = (low ≤ n) × IsFrom (n + 1) numbers

rising_from : (low : ℕ) (numbers : List ℕ) → AllPairs (λ x y. x < y) numbers → All (λ n. low ≤ n) numbers → IsFrom low numbers
rising_from low [] pairs above = tt
rising_from low (n ∷ numbers) pairs above = (
  All-head (λ x. low ≤ x) n numbers above,
  rising_from (n + 1) numbers (λ i j d less lt. pairs (suc i) (suc j) d (omega arith) (omega arith)) (λ k d lt. let less = pairs 0 (suc k) d (omega arith) (omega arith) in omega arith),
)

is_from : (numbers : List ℕ) → IsStrictlyIncreasing numbers → IsFrom 0 numbers
is_from numbers rising = rising_from 0 numbers (AllPairs-from_increasing numbers rising) (λ k d lt. omega arith)

from_above : (low : ℕ) (numbers : List ℕ) → IsFrom low numbers → All (λ n. low ≤ n) numbers
from_above low [] from k d lt = absurd (omega arith)
from_above low (n ∷ numbers) from zero d lt = from.0
from_above low (n ∷ numbers) from (suc k) d lt =
    let here = from.0 in
    let more : n + 1 ≤ get_or numbers k d = from_above (n + 1) numbers from.1 k d (omega arith) in
    omega arith

tail_has : (x y : ℕ) (xs : List ℕ) → (x ≡ y → ⊥) → Contains (x ∷ xs) y → Contains xs y
tail_has x y xs ne (zero, lt, same) = absurd (ne same)
tail_has x y xs ne (suc k, lt, same) = (k, omega arith, same)

-- the entries of numbers from a first one on
module _ (e : ℕ → List Entry) where
  none_of : (numbers : List ℕ) → All (λ n. e n ≡ []) numbers → flat_map e numbers ≡ []
  none_of [] none = refl
  none_of (n ∷ numbers) none = ap₂ (λ u v. u ++ v) (All-head (λ x. e x ≡ []) n numbers none) (none_of numbers (All-tail (λ x. e x ≡ []) n numbers none))

  abbrev AreOf : ℕ → List (Option Mark) → Type 0
  AreOf low marks = (i : ℕ) → e (low + i) ≡ entry_if (low + i) (unwrap_or (slice_get marks i) None)

  abbrev HasRest : ℕ → List ℕ → Type 0
  HasRest low numbers = (n : ℕ) → low ≤ n → (Contains numbers n → ⊥) → e n ≡ []

  next : (low : ℕ) (mark : Option Mark) (marks : List (Option Mark)) → AreOf low (mark ∷ marks) → AreOf (low + 1) marks
  next low mark marks are i =
      let same : low + suc i ≡ (low + 1) + i = omega arith in
      subst (λ n. e n ≡ entry_if n (unwrap_or (slice_get marks i) None)) same (are (suc i))

  first : (low : ℕ) (mark : Option Mark) (marks : List (Option Mark)) → AreOf low (mark ∷ marks) → e low ≡ entry_if low mark
  first low mark marks are =
      let same : low + 0 ≡ low = omega arith in
      subst (λ n. e n ≡ entry_if n mark) same (are 0)

  past : (low : ℕ) (numbers : List ℕ) → AreOf low [] → IsFrom low numbers → All (λ n. e n ≡ []) numbers
  past low numbers are from k d lt =
      let above : low ≤ get_or numbers k d = from_above low numbers from k d lt in
      let same : low + (get_or numbers k d - low) ≡ get_or numbers k d = omega arith in
      subst (λ n. e n ≡ []) same (are (get_or numbers k d - low))

  -- one number more, where all from the next one on are so
  step : (mark : Option Mark) (marks : List (Option Mark)) (low n : ℕ) (numbers : List ℕ) → AreOf low (mark ∷ marks) → IsFrom low (n ∷ numbers) → HasRest low (n ∷ numbers) →
      ((rest : List ℕ) → IsFrom (low + 1) rest → HasRest (low + 1) rest → flat_map e rest ≡ shared_from (low + 1) marks) → (low ≡ n) ⊎ (low ≡ n → ⊥) →
      flat_map e (n ∷ numbers) ≡ entry_if low mark ++ shared_from (low + 1) marks
  step mark marks low n numbers are from rest behind (inl same) =
      ap₂ (λ u v. u ++ v) (ap e (sym same) ∙ first low mark marks are)
      (behind numbers (subst (λ i. IsFrom (i + 1) numbers) (sym same) from.1) (λ i le none. rest i (omega arith) (λ c. none (tail_has n i numbers (λ e2. omega arith) c))))
  step mark marks low n numbers are from rest behind (inr ne) =
      let above : low ≤ n = from.0 in
      let further : IsFrom (low + 1) (n ∷ numbers) = (omega arith, from.1) in
      let none : e low ≡ [] =
      rest low (omega arith) (λ c. let less : low + 1 ≤ low = All-contains (λ x. low + 1 ≤ x) (n ∷ numbers) low (from_above (low + 1) (n ∷ numbers) further) c in omega arith) in
      behind (n ∷ numbers) further (λ i le miss. rest i (omega arith) miss) ∙ ap (λ v. v ++ shared_from (low + 1) marks) (sym none ∙ first low mark marks are)

  pub listed_all : (marks : List (Option Mark)) (low : ℕ) (numbers : List ℕ) → AreOf low marks → IsFrom low numbers → HasRest low numbers → flat_map e numbers ≡ shared_from low marks
  listed_all [] low numbers are from rest = none_of numbers (past low numbers are from)
  listed_all (mark ∷ marks) low [] are from rest =
      ap₂ (λ u v. u ++ v) (sym (rest low (omega arith) (λ c. let lt : c.0 < length {A = ℕ} [] = c.1 in omega arith)) ∙ first low mark marks are)
      (listed_all marks (low + 1) [] (next low mark marks are) tt (λ n le none. rest n (omega arith) none))
  listed_all (mark ∷ marks) low (n ∷ numbers) are from rest =
      step mark marks low n numbers are from rest (λ more above has. listed_all marks (low + 1) more (next low mark marks are) above has) (cases_eq low n)

module _ (sources : List Source) (facts : ValueId → Facts) (parts : List Part) (a : Access) where
  entries_are : (i : ℕ) → entry_at sources facts parts a (0 + i) ≡ entry_if (0 + i) (unwrap_or (slice_get (map (λ p. means sources facts p a) parts) i) None)
  entries_are i =
      let same : 0 + i ≡ i = omega arith in
      subst (λ n. entry_at sources facts parts a n ≡ entry_if n (unwrap_or (slice_get (map (λ p. means sources facts p a) parts) i) None)) (sym same)
      (ap (entry_if i) (by (slice_get parts i) ∙ ap (λ o. unwrap_or o None) (sym (slice_get-map (λ p. means sources facts p a) parts i))))
    where
      by : (o : Option Part) → means_at sources facts a o ≡ unwrap_or (option_map (λ p. means sources facts p a) o) None
      by None = refl
      by (Some p) = refl

  -- a part that isn't listed by a key of the access has no entry
  pub unlisted : (rows : List (Vec ℕ Global)) (numbers : List ℕ) → IsIndexOf sources parts rows → HasAll rows (keys_of_access sources facts a) numbers →
      (n : ℕ) → (Contains numbers n → ⊥) → entry_at sources facts parts a n ≡ []
  unlisted rows numbers is all n none = ap (entry_if n) (at (slice_get parts n) refl)
    where
      at : (o : Option Part) → slice_get parts n ≡ o → means_at sources facts a o ≡ None
      at None e = refl
      at (Some p) e =
          unreached sources facts p a
          (λ key of_access of_part.
          none (All-contains (λ x. Contains (row_at rows x) n → Contains numbers n) (keys_of_access sources facts a) key (all n) of_access
          (All-contains (λ x. Contains (row_at rows x) n) (keys_of_part sources p) key (is n p e) of_part)))

  pub by_index : (rows : List (Vec ℕ Global)) (numbers : List ℕ) → IsIndexOf sources parts rows → IsStrictlyIncreasing numbers → HasAll rows (keys_of_access sources facts a) numbers →
      flat_map (entry_at sources facts parts a) numbers ≡ joint sources facts parts a
  by_index rows numbers is rising all =
      listed_all (entry_at sources facts parts a) (map (λ p. means sources facts p a) parts) 0 numbers entries_are (is_from numbers rising) (λ n le none. unlisted rows numbers is all n none)

-- the entry of one number more
pub each_more : (e : ℕ → List Entry) (numbers : List ℕ) (i d : ℕ) (initial old new : List Entry) → i < length numbers → old ≡ initial ++ flat_map e (take i numbers) →
    new ≡ old ++ e (get_or numbers i d) →
    new ≡ initial ++ flat_map e (take (i + 1) numbers)
each_more e numbers i d initial old new lt before more =
    more ∙ ap (λ v. v ++ e (get_or numbers i d)) before ∙ append_assoc initial (flat_map e (take i numbers)) (e (get_or numbers i d))
    ∙ ap (λ v. initial ++ v)
    (ap (λ v. flat_map e (take i numbers) ++ v) (sym (append-nil (e (get_or numbers i d)))) ∙ sym (flat_map-append e (take i numbers) (get_or numbers i d ∷ []))
    ∙ ap (flat_map e) (sym (take_more numbers i d lt)))
