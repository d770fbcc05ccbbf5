-- Places in ascending order.
use Rattle.std.proofs.Common.{◌≡◌, ℕ, ◌<◌, List, [], length, refl, sym, subst, All, arith}
use Rattle.std.specs.Prelude.{Contains, eqb}
use Rattle.std.specs.List.{dedup}
use Rattle.std.specs.List.Sorted.{IsPermutation, IsSorted, IsStrictlyIncreasing}
use Rattle.std.specs.Ordering.{nat_cmp}
use Rattle.std.proofs.lemmas.List.Elements.{All-nil, All-same}
use Rattle.std.proofs.lemmas.List.Filters.{All-dedup}
use Rattle.std.proofs.lemmas.List.Kept.{Contains-dedup_nat}
use Rattle.std.proofs.lemmas.List.Sorted.{Contains-permutation, All-permutation}
use Rattle.std.proofs.lemmas.Map.Keys.{IsStrictlyIncreasing-dedup}
use Rattle.memory_rules_slots.specs.inner.Touched.{IsRising}

pub rising_none : (count : ℕ) → IsRising count []
rising_none count = record { ascending = λ k lt. absurd (let n : length {A = ℕ} [] ≡ 0 = refl in omega arith); below = All-nil (λ u. u < count) }

-- sorted, and each but once
pub rising_sorted : (count : ℕ) (touched sorted out : List ℕ) → All (λ u. u < count) touched → IsPermutation touched sorted → IsSorted nat_cmp sorted → out ≡ dedup eqb sorted → IsRising count out
rising_sorted count touched sorted out below moved order is = record {
  ascending = subst IsStrictlyIncreasing (sym is) (IsStrictlyIncreasing-dedup sorted order);
  below = All-same (λ u. u < count) out (dedup eqb sorted) is (All-dedup eqb (λ u. u < count) sorted (All-permutation (λ u. u < count) touched sorted moved below));
}

pub contains_sorted : (touched sorted out : List ℕ) → IsPermutation touched sorted → out ≡ dedup eqb sorted → (u : ℕ) → Contains touched u → Contains out u
contains_sorted touched sorted out moved is u c = subst (λ v. Contains v u) (sym is) (Contains-dedup_nat sorted u (Contains-permutation touched sorted u moved c))
