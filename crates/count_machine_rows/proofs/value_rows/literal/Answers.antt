use Rattle.std.proofs.Common.{SFits, w64}
use Rattle.std.proofs.lemmas.Int.{to_z-of_z}
use Rattle.count_machine_rows.proofs.value_rows.literal.Goals as goal

pub returns : goal.returns
returns c = let fits : SFits w64 c.args.number = c.ranges.number in λ ready bound. simp to_z-of_z at c.give_leaf.ensures
