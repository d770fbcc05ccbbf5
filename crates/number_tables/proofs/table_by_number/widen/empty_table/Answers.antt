use Rattle.number_tables.proofs.TableByNumber.Emptiness.{empty_is_table}
use Rattle.number_tables.proofs.table_by_number.widen.empty_table.Goals as goal

pub returns-clause-table : goal.returns-clause-table
returns-clause-table c =
    let one = c.in_ok-push.ensures.items in
    let none = c.in_ok-entries.ensures.items in
    let all = c.in_ok-add_free.ensures in
    let heads = c.in_ok-add_heads.ensures in
    rw (c.in_ok-add_free.ensures, c.in_ok-add_heads.ensures, c.in_ok-push.ensures.items, c.in_ok-entries.ensures.items) (empty_is_table c.args.mask c.args.slots c.requires)
