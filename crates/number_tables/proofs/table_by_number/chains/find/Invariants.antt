use Rattle.number_tables.proofs.TableByNumber.Walking.{Reaches}
use Rattle.number_tables.specs.TableByNumber.inner.Entries.{key_at}
use Rattle.number_tables.proofs.table_by_number.chains.find.Given as goal

abbrev pub invariant-chain : goal.invariant-chain
invariant-chain l = Reaches l.mask l.entries l.key l.at

abbrev pub decreases-chain : goal.decreases-chain
decreases-chain l = key_at l.entries l.at
