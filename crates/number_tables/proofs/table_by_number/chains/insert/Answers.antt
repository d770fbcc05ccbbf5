use Rattle.number_tables.proofs.TableByNumber.Changed.{inserted_table}
use Rattle.number_tables.proofs.table_by_number.chains.insert.Goals as goal

pub returns-clause-table : goal.returns-clause-table
returns-clause-table c =
    inserted_table c.args.mask c.args.entries.now c.requires.table c.args.slot c.requires.there c.args.key c.above-at.result
    c.requires.some c.requires.low c.requires.absent c.requires.behind c.requires.free c.above-at.ensures.chain c.above-at.ensures.greater c.above-at.ensures.last
