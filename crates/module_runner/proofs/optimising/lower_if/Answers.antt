-- What is lowered where the module is optimised first.
use Rattle.module_runner.proofs.Stays.{lowered_left}
use Rattle.module_runner.proofs.optimising.lower_if.Goals as goal

pub returns : goal.returns
returns c =
    lowered_left c.args.optimise c.args.m.now c.optimize_in_place.new.m c.lower_in_place-2.new.m c.lower_in_place-2.result c.if-not-optimise.false
    c.in_ok-optimize_in_place.ensures.optimised c.lower_in_place-2.ensures.value c.lower_in_place-2.ensures.runnable c.lower_in_place-2.ensures.declarations
