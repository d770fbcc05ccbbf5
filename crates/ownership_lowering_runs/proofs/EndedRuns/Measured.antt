-- A run ends where each step lowers a number, or leaves it and lowers a second one.
use Rattle.std.proofs.Common.{◌≡◌, ◌⊎◌, inl, inr, ℕ, zero, suc, ◌<◌, ◌≤◌, arith, refl, ap, ◌∙◌, subst}
use Rattle.sil_verifier_runs.specs.holder_model.Outcomes.{run}
use Rattle.sil_verifier_runs.specs.holder_model.States.{Ending, Ends, Goes, Next, step_on}

-- where it goes on, P holds of the state
abbrev pub OnGoing : {X S : Type 0} → (S → Type 0) → Next X S → Type 0
OnGoing P (Goes s) = P s
OnGoing P (Ends e s) = Unit {0}

pub on_map : {X S : Type 0} (P Q : S → Type 0) → ((s : S) → P s → Q s) → (n : Next X S) → OnGoing P n → OnGoing Q n
on_map P Q f (Goes s) h = f s h
on_map P Q f (Ends e s) h = tt

pub going : {X S : Type 0} (P : S → Type 0) (n : Next X S) (s : S) → n ≡ Goes s → OnGoing P n → P s
going P n s is h = subst (OnGoing P) is h

-- some steps lead to an end
abbrev pub ComesToEnd : {X S : Type 0} → (S → Next X S) → S → Type 0
ComesToEnd {X} {S} step s = (steps : ℕ) × (ending : Ending X) × (last : S) × (run step steps s ≡ Ends ending last)

module _ {X S : Type 0} (step : S → Next X S) (first second : S → ℕ) where
  abbrev pub Falls : S → S → Type 0
  Falls s t = (first t < first s) ⊎ ((first t ≤ first s) × (second t < second s))

  -- a step, where the run from the state behind it comes to an end
  by_step : (s : S) → ((t : S) → Falls s t → ComesToEnd step t) → (n : Next X S) → step s ≡ n → OnGoing (Falls s) n → ComesToEnd step s
  by_step s on (Goes t) is less =
      let end = on t less in (suc end.0, end.1, end.2, ap (step_on (run step end.0)) is ∙ end.3)
  by_step s on (Ends e t) is less = (1, e, t, ap (step_on (run step 0)) is)

  -- runs from all states whose first number is below this one come to an end
  abbrev Below : ℕ → Type 0
  Below n = (t : S) → first t < n → ComesToEnd step t

  behind : (n : ℕ) → Below n → (s : S) → first s ≤ n → ((t : S) → first t ≤ n → second t < second s → ComesToEnd step t)
      → (t : S) → Falls s t → ComesToEnd step t
  behind n below s few fewer t (inl h) = below t (omega (arith, few, h))
  behind n below s few fewer t (inr h) = let same = h.0 in fewer t (omega (arith, few, same)) h.1

  module _ (falls : (s : S) → OnGoing (Falls s) (step s)) where
    by_second : (n : ℕ) → Below n → (k : ℕ) (s : S) → first s ≤ n → second s ≤ k → ComesToEnd step s
    by_second n below zero s few short =
        by_step s (behind n below s few (λ t less h. absurd (omega (arith, short, h)))) (step s) refl (falls s)
    by_second n below (suc k) s few short =
        by_step s (behind n below s few (λ t less h. by_second n below k t less (omega (arith, short, h)))) (step s) refl (falls s)

    by_first : (n : ℕ) → Below n
    by_first zero t h = absurd (omega (arith, h))
    by_first (suc n) t h = by_second n (λ u less. by_first n u less) (second t) t (omega (arith, h)) (omega arith)

    pub comes_to_end : (s : S) → ComesToEnd step s
    comes_to_end s = by_first (suc (first s)) s (omega arith)
