use Rattle.ownership_kinds_chains.specs.OwnershipChains.Facts.{told_at}
use Rattle.ownership_kinds_chains.proofs.OwnershipChains.Depths.{stuck_exact}
use Rattle.ownership_kinds_chains.proofs.ownership_chains.settle.settle.Goals as goal

pub returns-clause-exact : goal.returns-clause-exact
returns-clause-exact c = stuck_exact c.args.defs.now (told_at c.loop-moved.table) c.requires.range c.loop-moved.invariant.0 (c.loop-moved.invariant.1 c.loop-moved-test.false)
