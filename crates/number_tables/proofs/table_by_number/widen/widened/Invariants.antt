use Rattle.number_tables.proofs.TableByNumber.Widening.{IsCopied}
use Rattle.number_tables.proofs.table_by_number.widen.widened.Given as goal

abbrev pub invariant-slots : goal.invariant-slots
invariant-slots l = IsCopied l.mask l.entries l.wide l.wider.items l.s
