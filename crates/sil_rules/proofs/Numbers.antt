-- A rule is the one at its index, and numbers go up with indices.
use Rattle.std.proofs.Common.{◌≡◌, ℕ, zero, suc, ◌+◌, ◌-◌, ◌<◌, List, length, get_or, refl, sym, ap, ◌∙◌, subst, arith}
use Rattle.std.specs.List.Sorted.{IsStrictlyIncreasing}
use Rattle.sil_rules.specs.inner.Laws.{AreInPlace}
use Rattle.sil_rules.specs.Rules.{index_of, number_of, rule_at}
use Rattle.sil_rules.specs.declared.rule.Rule.{Rule}
use Rattle.sil_rules.specs.declared.rule.Rule.TheVariants as rule
use Rattle.sil_rules.specs.declared.rule.TheConstants.{NUMBERS, RULE_COUNT}
use Rattle.sil_rules.proofs.Rising.{increasing}

pub in_place : AreInPlace
in_place rule.UnknownType = (omega arith, refl)
in_place rule.InfiniteType = (omega arith, refl)
in_place rule.BadMember = (omega arith, refl)
in_place rule.WeakOrUnownedOutsideStorage = (omega arith, refl)
in_place rule.OperandType = (omega arith, refl)
in_place rule.ResultCount = (omega arith, refl)
in_place rule.EdgeArguments = (omega arith, refl)
in_place rule.Callee = (omega arith, refl)
in_place rule.External = (omega arith, refl)
in_place rule.Signature = (omega arith, refl)
in_place rule.MixedForms = (omega arith, refl)
in_place rule.DeinitSignature = (omega arith, refl)
in_place rule.SwitchCases = (omega arith, refl)
in_place rule.AddressEscapes = (omega arith, refl)
in_place rule.EntryHasPredecessor = (omega arith, refl)
in_place rule.Qualifier = (omega arith, refl)
in_place rule.Undefined = (omega arith, refl)
in_place rule.CyclicForwarding = (omega arith, refl)
in_place rule.MixedForwarding = (omega arith, refl)
in_place rule.KindMismatch = (omega arith, refl)
in_place rule.ArgumentKind = (omega arith, refl)
in_place rule.UseAfterConsume = (omega arith, refl)
in_place rule.DoubleConsume = (omega arith, refl)
in_place rule.Leak = (omega arith, refl)
in_place rule.Overwritten = (omega arith, refl)
in_place rule.UseOutsideScope = (omega arith, refl)
in_place rule.EndTwice = (omega arith, refl)
in_place rule.ScopeLeft = (omega arith, refl)
in_place rule.ConsumedWhileBorrowed = (omega arith, refl)
in_place rule.ScopeOverwritten = (omega arith, refl)
in_place rule.LoadUninitialised = (omega arith, refl)
in_place rule.InitTwice = (omega arith, refl)
in_place rule.LeftInitialised = (omega arith, refl)
in_place rule.StackOrder = (omega arith, refl)
in_place rule.StackLeft = (omega arith, refl)
in_place rule.WriteWhileBorrowed = (omega arith, refl)
in_place rule.FieldNotBuilt = (omega arith, refl)
in_place rule.InoutOverlap = (omega arith, refl)
in_place rule.InoutLeftUninitialised = (omega arith, refl)
in_place rule.AddressOutsideScope = (omega arith, refl)
in_place rule.PartialAccess = (omega arith, refl)

-- two rules with one index are the same
pub same_rule : (a b : Rule) → index_of a ≡ index_of b → a ≡ b
same_rule a b e = sym (in_place a).1 ∙ ap rule_at e ∙ (in_place b).1

module _ (xs : List ℕ) (up : IsStrictlyIncreasing xs) where
  rising : (k d : ℕ) → (k + d) + 1 < length xs → get_or xs k 0 < get_or xs ((k + d) + 1) 0
  rising k zero lt = let same : k + zero ≡ k = omega arith in subst (λ n. get_or xs k 0 < get_or xs (n + 1) 0) (sym same) (up k (omega arith))
  rising k (suc d) lt =
      let before : get_or xs k 0 < get_or xs ((k + d) + 1) 0 = rising k d (omega arith) in
      let same : (k + d) + 1 ≡ k + suc d = omega arith in
      let here : get_or xs (k + suc d) 0 < get_or xs ((k + suc d) + 1) 0 = up (k + suc d) lt in
      let moved : get_or xs k 0 < get_or xs (k + suc d) 0 = subst (λ n. get_or xs k 0 < get_or xs n 0) same before in
      omega arith

-- a rule with a lesser index has a lesser number
pub numbers_rise : (a b : Rule) → index_of a < index_of b → number_of a < number_of b
numbers_rise a b lt =
    let few : index_of b < RULE_COUNT = (in_place b).0 in
    let place : (index_of a + (index_of b - index_of a - 1)) + 1 ≡ index_of b = omega arith in
    subst (λ n. get_or NUMBERS (index_of a) 0 < get_or NUMBERS n 0) place
    (rising NUMBERS (increasing NUMBERS refl) (index_of a) (index_of b - index_of a - 1) (let size : length NUMBERS ≡ RULE_COUNT = refl in omega arith))
