-- What the order of rules and of refusals keeps.
use Rattle.std.specs.Prelude.{◌≡◌, ◌⊎◌, ◌<◌, ℕ, List}
use Rattle.sil_rules.specs.Order.{NotAfter}
use Rattle.sil_rules.specs.Rules.{index_of, rule_at}
use Rattle.sil_rules.specs.declared.rule.Rule.{Rule}
use Rattle.sil_rules.specs.declared.rule.TheConstants.{RULE_COUNT}

-- lists of numbers are in one order
pub record AreOrdered : Type 0 where
  pub itself : (xs : List ℕ) → NotAfter xs xs
  pub through : (xs ys zs : List ℕ) → NotAfter xs ys → NotAfter ys zs → NotAfter xs zs
  pub either : (xs ys : List ℕ) → NotAfter xs ys ⊎ NotAfter ys xs
  pub both : (xs ys : List ℕ) → NotAfter xs ys → NotAfter ys xs → xs ≡ ys

-- each rule stands at its index
abbrev pub AreInPlace : Type 0
AreInPlace = (r : Rule) → (index_of r < RULE_COUNT) × (rule_at (index_of r) ≡ r)
