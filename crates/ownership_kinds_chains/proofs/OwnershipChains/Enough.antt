-- A depth of as many steps as there are values tells all facts: each greater depth tells of one value more, or none does.
use Rattle.std.proofs.Common.{◌≡◌, ◌≢◌, ℕ, zero, suc, ◌+◌, ◌-◌, ◌<◌, ◌≤◌, List, length, refl, sym, ap, ◌∙◌, subst, arith, cond, ◌⊎◌, inl, inr, Option, Some, None}
use Rattle.std.specs.Prelude.{is_none, ◌↔◌}
use Rattle.std.proofs.lemmas.Bool.{cases_eq}
use Rattle.std.proofs.lemmas.Option.{none-some}
use Rattle.sil_ast.specs.declared.place.ValueId.{ValueId}
use Rattle.ownership_kinds_chains.specs.declared.ownership_chains.definition.Definition.{Definition}
use Rattle.ownership_kinds_chains.specs.declared.ownership_chains.facts.Facts.{Facts}
use Rattle.ownership_kinds_chains.specs.OwnershipChains.Chains.{IsInRange}
use Rattle.ownership_kinds_chains.specs.OwnershipChains.Facts.{AreFactsOf, value_of}
use Rattle.ownership_kinds_chains.specs.OwnershipChains.Steps.{told_in}
use Rattle.ownership_kinds_chains.specs.OwnershipChains.inner.Laws.{AreToldInTime}
use Rattle.ownership_kinds_chains.specs.OwnershipChains.inner.Outcome.{IsExact, IsTold}
use Rattle.ownership_kinds_chains.specs.OwnershipChains.inner.Settling.{IsBelow, AreStuck}
use Rattle.ownership_kinds_chains.proofs.OwnershipChains.Depths.{deeper, deeper_by, steps_sound, stuck_exact}

-- one where nothing is known
abbrev lack : Option Facts → ℕ
lack o = cond (is_none o) 1 0

-- how many values below a count nothing is known of
abbrev missing : (ValueId → Option Facts) → ℕ → ℕ
missing known zero = 0
missing known (suc k) = lack (known (value_of k)) + missing known k

missing_le : (known : ValueId → Option Facts) (k : ℕ) → missing known k ≤ k
missing_le known zero = omega arith
missing_le known (suc k) = at (known (value_of k)) (missing_le known k)
  where
    at : (o : Option Facts) → missing known k ≤ k → lack o + missing known k ≤ suc k
    at None h = omega arith
    at (Some f) h = omega arith

missing_none : (known : ValueId → Option Facts) (k : ℕ) → missing known k ≡ 0 → (v : ValueId) → v.0 < k → known v ≡ None → ⊥
missing_none known zero h v lt e = omega arith
missing_none known (suc k) h v lt e = at (cases_eq v.0 k) (missing_none known k rest v)
  where
    rest : missing known k ≡ 0
    rest = omega arith

    at : (v.0 ≡ k) ⊎ (v.0 ≢ k) → (v.0 < k → known v ≡ None → ⊥) → ⊥
    at (inl s) below =
        let one : lack (known (value_of k)) ≡ 1 = ap (λ n. lack (known (value_of n))) (sym s) ∙ ap lack e in
        omega arith
    at (inr n) below = below (omega arith) e

-- nothing new is known of the values below a count
abbrev Same : (ValueId → Option Facts) → (ValueId → Option Facts) → ℕ → Type 0
Same known more k = (v : ValueId) → v.0 < k → known v ≡ None → more v ≡ None

module _ (known more : ValueId → Option Facts) (below : IsBelow known more) where
  abbrev Fewer : ℕ → Type 0
  Fewer k = (missing more k < missing known k) ⊎ ((missing more k ≡ missing known k) × Same known more k)

  -- one value more is looked at, of which both know something or neither does
  alike : (k : ℕ) → lack (more (value_of k)) ≡ lack (known (value_of k)) → (known (value_of k) ≡ None → more (value_of k) ≡ None) → Fewer k → Fewer (suc k)
  alike k l here (inl lt) = inl (omega arith)
  alike k l here (inr s) = inr (let rest : missing more k ≡ missing known k = s.0 in omega arith, λ v lt e. at v lt e (cases_eq v.0 k))
    where
      at : (v : ValueId) → v.0 < suc k → known v ≡ None → (v.0 ≡ k) ⊎ (v.0 ≢ k) → more v ≡ None
      at v lt e (inl n) = ap (λ m. more (value_of m)) n ∙ here (ap (λ m. known (value_of m)) (sym n) ∙ e)
      at v lt e (inr n) = s.1 v (omega arith) e

  -- or of which only the other knows something
  gain : (k : ℕ) → lack (known (value_of k)) ≡ 1 → lack (more (value_of k)) ≡ 0 → Fewer k → Fewer (suc k)
  gain k one none (inl lt) = inl (omega arith)
  gain k one none (inr s) = inl (let rest : missing more k ≡ missing known k = s.0 in omega arith)

  fewer_or_same : (k : ℕ) → Fewer k
  fewer_or_same zero = inr (refl, λ v lt e. absurd (omega arith))
  fewer_or_same (suc k) = at (known (value_of k)) (more (value_of k)) refl refl (fewer_or_same k)
    where
      at : (o p : Option Facts) → known (value_of k) ≡ o → more (value_of k) ≡ p → Fewer k → Fewer (suc k)
      at None None e g rest = alike k (ap lack (g ∙ sym e)) (λ _. g) rest
      at None (Some f) e g rest = gain k (ap lack e) (ap lack g) rest
      at (Some f) None e g rest = absurd (none-some f (sym g ∙ below (value_of k) f e))
      at (Some f) (Some x) e g rest = alike k (ap lack g ∙ sym (ap lack e)) (λ n. absurd (none-some f (sym n ∙ e))) rest

-- within as many steps as there are values, nothing more can be found
still : (defs : List Definition) (n : ℕ) → (missing (told_in defs n) (length defs) + n ≤ length defs) ⊎ ((m : ℕ) × (m ≤ n) × AreStuck defs (told_in defs m) (length defs))
still defs zero = let le : missing (told_in defs zero) (length defs) ≤ length defs = missing_le (told_in defs zero) (length defs) in inl (omega arith)
still defs (suc n) = at (still defs n) (fewer_or_same (told_in defs n) (told_in defs (suc n)) (deeper defs n) (length defs))
  where
    at : (missing (told_in defs n) (length defs) + n ≤ length defs) ⊎ ((m : ℕ) × (m ≤ n) × AreStuck defs (told_in defs m) (length defs)) →
        Fewer (told_in defs n) (told_in defs (suc n)) (deeper defs n) (length defs) →
        (missing (told_in defs (suc n)) (length defs) + suc n ≤ length defs) ⊎ ((m : ℕ) × (m ≤ suc n) × AreStuck defs (told_in defs m) (length defs))
    at (inl h) (inl lt) = inl (omega arith)
    at (inl h) (inr s) = inr (n, omega arith, s.1)
    at (inr h) rest = inr (h.0, (let le : h.0 ≤ n = h.1 in omega arith), h.2)

stops : (defs : List Definition) → (m : ℕ) × (m ≤ length defs) × AreStuck defs (told_in defs m) (length defs)
stops defs = at (still defs (length defs))
  where
    at : (missing (told_in defs (length defs)) (length defs) + length defs ≤ length defs) ⊎ ((m : ℕ) × (m ≤ length defs) × AreStuck defs (told_in defs m) (length defs)) →
        (m : ℕ) × (m ≤ length defs) × AreStuck defs (told_in defs m) (length defs)
    at (inl h) =
        let all : missing (told_in defs (length defs)) (length defs) ≡ 0 = omega arith in
        (length defs, omega arith, λ v lt e. absurd (missing_none (told_in defs (length defs)) (length defs) all v lt e))
    at (inr h) = h

pub told_in_time : AreToldInTime
told_in_time defs v f range lt = (λ h. within (exact.1 h), steps_sound defs (length defs) v f)
  where
    exact : (told_in defs (stops defs).0 v ≡ Some f) ↔ AreFactsOf defs v f
    exact = stuck_exact defs (told_in defs (stops defs).0) range (steps_sound defs (stops defs).0) (stops defs).2 v f lt

    within : told_in defs (stops defs).0 v ≡ Some f → told_in defs (length defs) v ≡ Some f
    within h =
        let le : (stops defs).0 ≤ length defs = (stops defs).1 in
        let sum : (stops defs).0 + (length defs - (stops defs).0) ≡ length defs = omega arith in
        subst (λ n. told_in defs n v ≡ Some f) sum (deeper_by defs (stops defs).0 (length defs - (stops defs).0) v f h)

-- so what is known exactly is what that depth tells
pub exact_told : (defs : List Definition) (known : ValueId → Option Facts) → IsInRange defs → IsExact defs known → IsTold defs known
exact_told defs known range exact v lt = at (known v) (told_in defs (length defs) v) refl refl
  where
    at : (o p : Option Facts) → known v ≡ o → told_in defs (length defs) v ≡ p → known v ≡ told_in defs (length defs) v
    at None None e g = e ∙ sym g
    at o (Some f) e g = (exact v f lt).1 (steps_sound defs (length defs) v f g) ∙ sym g
    at (Some f) None e g = e ∙ sym ((told_in_time defs v f range lt).0 ((exact v f lt).0 e))
