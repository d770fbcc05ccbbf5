use Rattle.std.proofs.Common.{[], sym, ap, ap₂, ◌∙◌, arith}
use Rattle.std.specs.Prelude.{slice_range, unwrap_or}
use Rattle.number_tables.specs.PathLists.inner.Lists.{lists_of}
use Rattle.number_tables.proofs.PathLists.Ends.{count_is, list_there}
use Rattle.number_tables.proofs.PathLists.Items.{list_past}
use Rattle.number_tables.proofs.path_lists.lists.list_in.Goals as goal

pub returns-then-i-ends : goal.returns-then-i-ends
returns-then-i-ends g c =
    sym (ap (λ o. unwrap_or o []) (list_there 0 c.args.elements.now c.args.ends.now c.args.i c.if-i-ends.true)
    ∙ ap₂ (slice_range c.args.elements.now) (sym c.range_of-start.ensures.start) (sym c.range_of-start.ensures.end))

pub returns-else-i-ends : goal.returns-else-i-ends
returns-else-i-ends g c =
    let size = count_is 0 c.args.elements.now c.args.ends.now in
    sym (list_past (lists_of c.args.elements.now c.args.ends.now) c.args.i (omega arith))
