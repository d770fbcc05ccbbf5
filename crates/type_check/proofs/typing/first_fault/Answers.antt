use Rattle.type_check.proofs.Ranges.{bodies_in_range}
use Rattle.type_check.proofs.typing.first_fault.Goals as goal

pub first_in_functions-requires-clause-bodies : goal.first_in_functions-requires-clause-bodies
first_in_functions-requires-clause-bodies c = bodies_in_range c.args.m.now c.requires.numbered
