use Rattle.std.proofs.Common.{◌<◌, subst, sym, arith}
use Rattle.number_tables.specs.TableByNumber.inner.Entries.{key_at, next_at}
use Rattle.number_tables.proofs.TableByNumber.Walking.{Reaches, falls_next, present_above, reaches_first, reaches_next}
use Rattle.number_tables.proofs.table_by_number.chains.find_present.Goals as goal

pub chain-init : goal.chain-init
chain-init c =
    subst (λ e. Reaches c.args.mask c.args.entries.now c.args.key (next_at c.args.entries.now e)) (sym c.head_of.ensures.head)
    (reaches_first c.args.mask c.args.entries.now c.requires.table c.args.key c.requires.some)

pub chain-smaller : goal.chain-smaller
chain-smaller c =
    let le = present_above c.args.mask c.args.entries.now c.requires.table c.args.key c.requires.some c.chain.at c.chain.invariant c.requires.present in
    let less : c.args.key < key_at c.args.entries.now c.chain.at = omega arith in
    falls_next c.args.mask c.args.entries.now c.requires.table c.args.key c.requires.some c.chain.at c.chain.invariant less

pub chain-preserved : goal.chain-preserved
chain-preserved c =
    let le = present_above c.args.mask c.args.entries.now c.requires.table c.args.key c.requires.some c.chain.at c.chain.invariant c.requires.present in
    let less : c.args.key < key_at c.args.entries.now c.chain.at = omega arith in
    reaches_next c.args.mask c.args.entries.now c.requires.table c.args.key c.requires.some c.chain.at c.chain.invariant less
