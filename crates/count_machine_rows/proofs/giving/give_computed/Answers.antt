use Rattle.std.proofs.Common.{SFits, w64, rules}
use Rattle.std.proofs.lemmas.Int.{to_z-of_z}
use Rattle.count_machine_rows.proofs.giving.give_computed.Goals as goal

pub returns-in-One : goal.returns-in-One
returns-in-One c =
    let fits : SFits w64 c.in-One.number = search rules in
    rw c.in-One.is (simp to_z-of_z at c.give_leaf.ensures)

pub returns-in-Two : goal.returns-in-Two
returns-in-Two c =
    let fits : SFits w64 c.in-Two.first = search rules in
    let fits' : SFits w64 c.in-Two.second = search rules in
    rw c.in-Two.is (simp to_z-of_z at c.give_two.ensures)
