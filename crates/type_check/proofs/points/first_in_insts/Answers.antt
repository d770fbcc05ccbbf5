use Rattle.std.proofs.Common.{ap, sym, ◌∙◌}
use Rattle.type_check_values.specs.TypingValues.inner.Given.{given_count}
use Rattle.type_check.proofs.Counts.{at_index}
use Rattle.type_check.proofs.points.first_in_insts.Goals as goal

pub fault_at-requires-clause-given : goal.fault_at-requires-clause-given
fault_at-requires-clause-given c =
    at_index (given_count c.args.body.now.table.now) c.args.given.now c.args.insts.now c.loop-inst.index c.loop-inst.inst-index c.inst-item.result
    c.loop-inst.invariant.0 c.loop-inst-test.true c.inst-item.is c.requires.given ∙ ap (given_count c.args.body.now.table.now) (sym c.get.ensures)
