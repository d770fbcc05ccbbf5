use Rattle.std.proofs.Common.{◌<◌}
use Rattle.std.specs.Prelude.{bit_and}
use Rattle.number_tables.specs.TableByNumber.inner.Chains.{IsInChain}
use Rattle.number_tables.specs.TableByNumber.inner.Entries.{key_at}
use Rattle.number_tables.proofs.table_by_number.chains.above.Given as goal

abbrev pub invariant-chain : goal.invariant-chain
invariant-chain l = IsInChain l.mask (bit_and l.mask) (key_at l.entries) (bit_and l.mask l.key) l.at × (l.key < key_at l.entries l.at)

abbrev pub decreases-chain : goal.decreases-chain
decreases-chain l = key_at l.entries l.at
