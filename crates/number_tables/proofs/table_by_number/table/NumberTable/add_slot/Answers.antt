use Rattle.std.proofs.Common.{◌<◌, ◌^◌, length, arith}
use Rattle.number_tables.proofs.TableByNumber.Emptiness.{more_given, more_is_table}
use Rattle.number_tables.proofs.table_by_number.table.NumberTable.add_slot.Goals as goal

pub invariant_of-self-2 : goal.invariant_of-self-2
invariant_of-self-2 c =
    let few : length c.self-2.inside.entries.items < 2 ^ 32 = omega arith in
    rw c.in_ok-push.ensures.items (
      more_is_table c.self-2.inside.mask c.self-2.inside.entries.items c.self-2.invariant.0 few,
      more_given c.self-2.inside.mask c.self-2.inside.entries.items
          c.self-2.inside.given c.self-2.invariant.1,
      c.self-2.invariant.2,
    )
