use Rattle.memory_rules.proofs.FirstOfAll.{walk_first}
use Rattle.memory_rules.proofs.walks.first_on_walks.Goals as goal

pub returns : goal.returns
returns c =
    walk_first c.args.m.now c.args.f.now c.args.g.now c.args.k.now c.in_ok-part.part c.in_ok-crossing.crossing c.earlier.result c.in_ok-part.ensures
    c.in_ok-crossing.ensures c.earlier.ensures
