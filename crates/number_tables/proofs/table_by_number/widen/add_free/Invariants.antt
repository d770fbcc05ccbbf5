use Rattle.std.proofs.Common.{◌≡◌, ◌++◌, replicate}
use Rattle.number_tables.specs.TableByNumber.inner.Entries.{no_entry}
use Rattle.number_tables.proofs.table_by_number.widen.add_free.Given as goal

abbrev pub invariant-slots : goal.invariant-slots
invariant-slots l = l.entries.items ≡ l.fn.entries.items ++ replicate l.counter no_entry
