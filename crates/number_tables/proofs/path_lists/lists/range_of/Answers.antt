use Rattle.std.proofs.Common.{◌≤◌, subst, sym}
use Rattle.std.specs.Prelude.{slice_index_or}
use Rattle.number_tables.proofs.PathLists.Ends.{ends_rise, ends_within}
use Rattle.number_tables.proofs.path_lists.lists.range_of.Goals as goal

pub returns-clause-rises : goal.returns-clause-rises
returns-clause-rises c = subst (λ n. n ≤ slice_index_or c.args.ends.now c.args.i 0) (sym c.start_of.ensures) (ends_rise 0 c.args.ends.now c.args.count c.args.i c.requires.ends c.requires.item)

pub returns-clause-within : goal.returns-clause-within
returns-clause-within c = ends_within 0 c.args.ends.now c.args.count c.args.i c.requires.ends c.requires.item
