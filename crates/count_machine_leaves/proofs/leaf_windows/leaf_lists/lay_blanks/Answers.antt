use Rattle.std.proofs.Common.{◌∙◌, arith}
use Rattle.holder_model_values.specs.declared.run_values.leaf.Leaf.TheVariants.{Blank}
use Rattle.count_machine_leaves.proofs.LeafWindows.LaidOver.{laid_full, laid_same}
use Rattle.count_machine_leaves.proofs.leaf_windows.leaf_lists.lay_blanks.Goals as goal

pub returns-then-at-leaves : goal.returns-then-at-leaves
returns-then-at-leaves c =
    c.loop-i.invariant.1 ∙ laid_full c.args.from c.loop-i._i c.args.count Blank c.args.leaves.now (omega arith) (omega arith)

pub loop-i-preserved : goal.loop-i-preserved
loop-i-preserved c =
    (omega arith, rw (c.loop-i.invariant.0, c.loop-i.invariant.1) (laid_same c.args.from c.loop-i._i Blank c.args.leaves.now))
