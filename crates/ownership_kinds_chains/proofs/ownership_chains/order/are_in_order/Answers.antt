use Rattle.std.proofs.Common.{◌≡◌, ◌≢◌, ◌⊎◌, ◌<◌, ◌∙◌, arith, inl, inr, subst, sym}
use Rattle.std.specs.Prelude.{All}
use Rattle.std.proofs.lemmas.Bool.{cases_eq}
use Rattle.ownership_kinds_chains.specs.OwnershipChains.Chains.{operands_at}
use Rattle.ownership_kinds_chains.specs.OwnershipChains.Facts.{value_of}
use Rattle.ownership_kinds_chains.proofs.OwnershipChains.NumberLemmas.{operands_are}
use Rattle.ownership_kinds_chains.proofs.OwnershipChains.RingLemmas.{ordered_off}
use Rattle.ownership_kinds_chains.proofs.ownership_chains.order.are_in_order.Goals as goal

pub loop-number-preserved : goal.loop-number-preserved
loop-number-preserved c v lt = at (cases_eq v.0 c.loop-number.number)
  where
    here : All (λ w. w.0 < c.loop-number.number) (operands_at c.args.defs.now (value_of c.loop-number.number))
    here =
        let is = c.as_slice.ensures ∙ operands_are c.args.defs.now (value_of c.loop-number.number) c.index-defs-number.result c.loop-number-test.true in
        subst (All (λ w. w.0 < c.loop-number.number)) is c.if-not-are_before.ensures

    at : (v.0 ≡ c.loop-number.number) ⊎ (v.0 ≢ c.loop-number.number) → All (λ w. w.0 < v.0) (operands_at c.args.defs.now v)
    at (inl e) = subst (λ k. All (λ w. w.0 < k) (operands_at c.args.defs.now (value_of k))) (sym e) here
    at (inr n) = c.loop-number.invariant v (omega arith)

pub returns : goal.returns
returns c = ordered_off c.args.defs.now (λ v lt. c.loop-number.invariant v (omega arith))
