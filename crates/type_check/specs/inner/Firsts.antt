-- The first rule that is broken at a place, and the first place in a list of places.
use Rattle.std.specs.Prelude.{◌≡◌, ◌⊎◌, ℕ, ◌+◌, ◌<◌, List, [], ◌∷◌, ⊤, Bool, Option, Some, None, slice_get, if◌then◌else◌}
use Rattle.std.specs.Option.{option_or}
use Rattle.sil_rules.specs.declared.rule.Rule.{Rule}

-- a rule, and whether it is broken
pub record Judged : Type 0 where
  pub rule : Rule
  pub broken : Bool

abbrev pub judged : Rule → Bool → Judged
judged r b = record { rule = r; broken = b }

abbrev pub rule_or : Judged → Option Rule → Option Rule
rule_or j rest = if j.broken then Some j.rule else rest

-- the first of the rules that is broken
abbrev pub first_broken : List Judged → Option Rule
first_broken [] = None
first_broken (j ∷ js) = rule_or j (first_broken js)

-- what is found first at some places, of which the first has the number n
abbrev pub first_from : {X A : Type 0} → (ℕ → X → Option A) → ℕ → List X → Option A
first_from find n [] = None
first_from find n (x ∷ xs) = option_or (find n x) (first_from find (n + 1) xs)

-- it is at one of these places, of which the first has the number n
pub record IsAtSome {X A : Type 0} (Is : ℕ → X → A → Type 0) (n : ℕ) (xs : List X) (a : A) : Type 0 where
  pub index : ℕ
  pub place : X
  pub there : slice_get xs index ≡ Some place
  pub is : Is (n + index) place a
