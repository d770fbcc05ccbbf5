use Rattle.std.proofs.Common.{◌≡◌, ◌∙◌, SFits, w64, of_z, nat_eq}
use Rattle.std.specs.Prelude.{◌||◌, not}
use Rattle.std.proofs.lemmas.Int.{to_z-of_z}
use Rattle.count_machine_leaves.proofs.LeafWindows.Overflow.{leaves_told, width_has}
use Rattle.count_machine_leaves.proofs.leaf_windows.computing.overflowing.Goals as goal
use Rattle.count_machine_leaves.proofs.leaf_windows.computing.overflowing.Goals.{then-lost, else-lost}

pub returns : goal.returns
returns c =
    let w = width_has c.args.width in
    let fits : SFits w64 c.args.low = c.ranges.low in
    let fits' : SFits w64 c.narrow-short.result = record { sfits = c.narrow-short.type_inv } in
    let fits'' : SFits w64 c.bit.result = record { sfits = c.bit.type_inv } in
    let short = simp to_z-of_z at c.narrow-short.ensures in
    let wide : c.if-lost.bit ≡ c.args.lost || not (nat_eq (of_z w64 c.narrow-short.result) (of_z w64 c.args.low)) =
    elim c.if-lost.branch as (λ _. c.if-lost.bit ≡ c.args.lost || not (nat_eq (of_z w64 c.narrow-short.result) (of_z w64 c.args.low))) [
      | then-lost w ↦ rw w.if-lost.true (w.bit-is ∙ w.if-lost.true)
      | else-lost w ↦ rw w.if-lost.false w.bit-is
    ] in
    λ n low lost. simp to_z-of_z
    (leaves_told _ w.0 w.1 w.2 n c.args.low c.narrow-short.result fits fits' low short c.args.lost c.if-lost.bit c.bit.result lost wide c.bit.ensures)
