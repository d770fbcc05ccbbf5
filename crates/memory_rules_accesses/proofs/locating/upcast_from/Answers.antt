use Rattle.std.proofs.Common.{sym, ◌∙◌}
use Rattle.memory_rules_accesses.proofs.Upcasting.{begun, further}
use Rattle.memory_rules_accesses.proofs.locating.upcast_from.Goals as goal

pub loop-init : goal.loop-init
loop-init c = begun c.args.sources.now c.args.value

pub loop-preserved : goal.loop-preserved
loop-preserved c =
    further c.args.sources.now c.args.value c.loop.at c.in-Upcast.of c.loop.counter c.loop-test.true
    (sym c.in-Upcast.is ∙ c.source_at.ensures) c.loop.invariant
