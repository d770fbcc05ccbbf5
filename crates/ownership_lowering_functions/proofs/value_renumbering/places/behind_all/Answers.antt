use Rattle.std.proofs.Common.{◌<◌, ◌≤◌, arith, get_or, inl, inr, subst, sym}
use Rattle.std.proofs.lemmas.Bool.{cases_eq}
use Rattle.std.proofs.lemmas.Grind.{common_steps}
use Rattle.std.proofs.lemmas.List.{get_or_default}
use Rattle.ownership_lowering_functions.proofs.value_renumbering.places.behind_all.Goals as goal

higher : (c : goal.After-max-behind) → c.loop-value.behind ≤ c.max-behind.result
higher c = grind (arith, common_steps)

above : (c : goal.After-max-behind) → (get_or c.args.values.now c.loop-value.value-index record { 0 = 0 }).0 < c.max-behind.result
above c = grind (arith, common_steps)

pub loop-value-preserved : goal.loop-value-preserved
loop-value-preserved c k d low lt = elim (cases_eq k c.loop-value.value-index) [
  | inl same ↦
      let at = above c in
      let here = get_or_default c.args.values.now c.loop-value.value-index record { 0 = 0 } d c.loop-value-test.true in
      subst (λ i. (get_or c.args.values.now i d).0 < c.max-behind.result) (sym same) (subst (λ v. v.0 < c.max-behind.result) here at)
  | inr other ↦ let below = c.loop-value.invariant k d low (omega arith) in let up = higher c in omega arith
]

pub returns : goal.returns
returns c k d lt = c.loop-value.invariant k d (omega arith) (omega arith)
