use Rattle.number_tables.proofs.TableByNumber.Changed.{removed_table}
use Rattle.number_tables.proofs.TableByNumber.Walking.{has_place}
use Rattle.number_tables.proofs.table_by_number.chains.remove.Goals as goal

pub returns-clause-table : goal.returns-clause-table
returns-clause-table c =
    removed_table c.args.mask c.args.entries.now c.requires.table c.args.slot (has_place c.args.entries.now c.args.slot c.requires.taken.1) c.above-at.result
    c.requires.taken c.above-at.ensures.chain c.above-at.ensures.greater c.above-at.ensures.last
