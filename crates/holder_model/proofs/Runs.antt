-- Runs of one step function from one state that both end have ended in one way, however many steps each was given.
use Rattle.std.proofs.Common.{◌≡◌, ℕ, zero, suc, Option, Some, None, refl, sym, ap, ◌∙◌}
use Rattle.std.specs.Prelude.{option_and_then}
use Rattle.holder_model.specs.Outcomes.{run}
use Rattle.holder_model.specs.States.{Ending, Ends, Goes, Next, step_on}

goes_on : {X S : Type 0} (s : S) (e : Ending X) (a : S) → Goes s ≡ Ends e a → ⊥
goes_on s e a h = cc

lacks : {A : Type 0} (a : A) → None ≡ Some a → ⊥
lacks a h = cc

within : {A : Type 0} (a b : A) → Some a ≡ Some b → a ≡ b
within a b h = cc

-- where both have ended, they are the same
abbrev Agree : {X S : Type 0} → Next X S → Next X S → Type 0
Agree {X} {S} x y = (e : Ending X) (a : S) (f : Ending X) (b : S) → x ≡ Ends e a → y ≡ Ends f b → x ≡ y

after : {X S : Type 0} (go on : S → Next X S) → ((s : S) → Agree (go s) (on s)) → (x : Next X S) → Agree (step_on go x) (step_on on x)
after go on agree (Goes s) = agree s
after go on agree (Ends g c) = λ e a f b h i. refl

agree : {X S : Type 0} (step : S → Next X S) (k n : ℕ) (s : S) → Agree (run step k s) (run step n s)
agree step zero n s = λ e a f b h i. absurd (goes_on s e a h)
agree step (suc k) zero s = λ e a f b h i. absurd (goes_on s f b i)
agree step (suc k) (suc n) s = after (run step k) (run step n) (agree step k n) (step s)

module _ {A X S : Type 0} (told : Next X S → Option A) (untold : (s : S) → told (Goes s) ≡ None) where
  of_ends : (x y : Next X S) → Agree x y → (a b : A) → told x ≡ Some a → told y ≡ Some b → a ≡ b
  of_ends (Goes s) y agree a b h i = absurd (lacks a (sym (untold s) ∙ h))
  of_ends (Ends e s) (Goes t) agree a b h i = absurd (lacks b (sym (untold t) ∙ i))
  of_ends (Ends e s) (Ends f t) agree a b h i = within a b (sym h ∙ ap told (agree e s f t refl refl) ∙ i)

  -- whatever is told of ended runs alone is told once, also where the state that they begin in is found first
  pub told_once : {F : Type 0} (step : S → Next X S) (begins : F → S) (found : Option F) (k n : ℕ) (a b : A)
      → option_and_then (λ f. told (run step k (begins f))) found ≡ Some a → option_and_then (λ f. told (run step n (begins f))) found ≡ Some b → a ≡ b
  told_once step begins None k n a b h i = absurd (lacks a h)
  told_once step begins (Some f) k n a b h i = of_ends (run step k (begins f)) (run step n (begins f)) (agree step k n (begins f)) a b h i
