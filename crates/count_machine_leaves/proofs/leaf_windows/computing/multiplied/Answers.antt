use Rattle.std.proofs.Common.{◌≡◌, subst, sym, ◌∙◌, SFits, w64, ◌*ℤ◌}
use Rattle.std.specs.Int.{int_wrap}
use Rattle.std.proofs.lemmas.Int.{SFits-int_wrap, to_z-of_z, wrapping_mul_is}
use Rattle.count_machine_leaves.proofs.LeafWindows.Wrapping.{lost_is, wrap_is}
use Rattle.count_machine_leaves.proofs.leaf_windows.computing.multiplied.Goals as goal

pub returns : goal.returns
returns c =
    let a : SFits w64 c.args.a = c.ranges.a in
    let b : SFits w64 c.args.b = c.ranges.b in
    let n = c.args.a *ℤ c.args.b in
    let low = c.overflowing_mul-low.result.0 in
    let wraps : low ≡ int_wrap w64 n = simp to_z-of_z at c.overflowing_mul-low.ensures.value ∙ wrapping_mul_is w64 c.args.a c.args.b a b in
    let fits : SFits w64 low = subst (SFits w64) (sym wraps) (SFits-int_wrap w64 n) in
    let lost = simp to_z-of_z at c.overflowing_mul-low.ensures.overflow in
    c.overflowing.ensures n (to_z-of_z w64 low fits ∙ wraps ∙ wrap_is n) (lost_is c.overflowing_mul-low.result.1 n lost)
