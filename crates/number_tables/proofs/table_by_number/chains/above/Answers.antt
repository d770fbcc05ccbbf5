use Rattle.std.proofs.Common.{◌≤◌, arith}
use Rattle.std.specs.Prelude.{bit_and}
use Rattle.number_tables.specs.TableByNumber.inner.Entries.{key_at, next_at}
use Rattle.number_tables.proofs.TableByNumber.Walking.{link_falls, link_there, next_in_chain}
use Rattle.number_tables.proofs.table_by_number.chains.above.Goals as goal

pub overflow_cast-next : goal.overflow_cast-next
overflow_cast-next c = omega (arith, link_there c.args.mask c.args.entries.now c.requires.table (bit_and c.args.mask c.args.key) c.chain.at c.chain.invariant.0, c.requires.table.few)

pub offset_bounds-entries-next : goal.offset_bounds-entries-next
offset_bounds-entries-next c = omega (arith, link_there c.args.mask c.args.entries.now c.requires.table (bit_and c.args.mask c.args.key) c.chain.at c.chain.invariant.0, c.requires.table.few)

pub bounds-entries-next : goal.bounds-entries-next
bounds-entries-next c = link_there c.args.mask c.args.entries.now c.requires.table (bit_and c.args.mask c.args.key) c.chain.at c.chain.invariant.0

pub chain-smaller : goal.chain-smaller
chain-smaller c = link_falls c.args.mask c.args.entries.now c.requires.table (bit_and c.args.mask c.args.key) c.chain.at c.chain.invariant.0

pub chain-preserved : goal.chain-preserved
chain-preserved c =
    let some : 1 ≤ key_at c.args.entries.now (next_at c.args.entries.now c.chain.at) = omega arith in
    (next_in_chain c.args.mask c.args.entries.now c.requires.table (bit_and c.args.mask c.args.key) c.chain.at c.chain.invariant.0 some, omega arith)
