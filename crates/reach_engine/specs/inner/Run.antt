-- Runs of an automaton over items.
use Rattle.std.specs.Prelude.{◌≡◌, ℕ, ◌<◌, List, ◌∷◌, ◌++◌, fold}
use Rattle.reach_engine.specs.declared.scan.Step.{Step}
use Rattle.reach_engine.specs.declared.scan.Step.TheVariants.{Go, Bad}
use Rattle.reach_engine.specs.declared.scan.Passed.{Passed}
use Rattle.reach_engine.specs.declared.scan.Passed.TheVariants.{Stays, Breaks}

-- one more item; a bad item is the last one read
abbrev pub after : {A : Type 0} → (ℕ → A → Step) → Step → A → Step
after f (Go s) x = f s x
after f (Bad c) x = Bad c

-- the items read one after another
abbrev pub run : {A : Type 0} → (ℕ → A → Step) → Step → List A → Step
run f r xs = fold (after f) r xs

abbrev pub StaysBelow : ℕ → Step → Type 0
StaysBelow n (Go s) = s < n
StaysBelow n (Bad c) = Unit {0}

-- from state s the items are read up to the item, which is the first bad one and gives the code
pub record BreaksAt (f : ℕ → ℕ → Step) (s : ℕ) (items : List ℕ) (code item : ℕ) : Type 0 where
  pub before : List ℕ
  pub behind : List ℕ
  pub state : ℕ
  pub parts : items ≡ before ++ item ∷ behind
  pub clean : run f (Go s) before ≡ Go state
  pub breaks : f state item ≡ Bad code

abbrev pub Passes : (ℕ → ℕ → Step) → ℕ → ℕ → List ℕ → Passed → Type 0
Passes f states s items (Stays t) = (run f (Go s) items ≡ Go t) × (t < states)
Passes f states s items (Breaks code item) = BreaksAt f s items code item
