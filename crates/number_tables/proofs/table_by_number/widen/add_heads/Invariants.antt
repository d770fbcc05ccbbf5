use Rattle.std.proofs.Common.{◌≡◌, ◌++◌, replicate}
use Rattle.number_tables.specs.TableByNumber.inner.Entries.{empty_head}
use Rattle.number_tables.proofs.table_by_number.widen.add_heads.Given as goal

abbrev pub invariant-heads : goal.invariant-heads
invariant-heads l = l.entries.items ≡ l.fn.entries.items ++ replicate l.counter empty_head
