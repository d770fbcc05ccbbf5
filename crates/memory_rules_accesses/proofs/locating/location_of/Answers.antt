use Rattle.std.proofs.Common.{sym, ◌∙◌}
use Rattle.memory_rules_accesses.proofs.Following.{at_end, at_no_root, at_root, nearer, start}
use Rattle.memory_rules_accesses.proofs.locating.location_of.Goals as goal

pub loop-init : goal.loop-init
loop-init c = start c.args.sources.now c.args.address c.new-steps.result.items c.new-steps.ensures.items

pub returns-in-Slot : goal.returns-in-Slot
returns-in-Slot c =
    at_root c.args.sources.now c.args.address c.loop.at c.loop.counter c.loop.steps.items c.loop-test.true c.loop.invariant
    c.source_at.result c.source_at.ensures c.in-Slot.is c.location_behind.result c.location_behind.ensures

pub returns-in-Object : goal.returns-in-Object
returns-in-Object c =
    at_no_root c.args.sources.now c.args.address c.loop.at c.loop.counter c.loop.steps.items c.loop-test.true c.loop.invariant
    c.source_at.result c.source_at.ensures c.in-Object.is

pub loop-preserved : goal.loop-preserved
loop-preserved c =
    nearer c.args.sources.now c.args.address c.loop.at c.loop.counter c.loop.steps.items c.loop-test.true c.loop.invariant
    c.in-Part.of c.in-Part.index c.push.new.self.items (sym c.in-Part.is ∙ c.source_at.ensures) c.in_ok-push-in-Part.ensures.items

pub returns : goal.returns
returns c = at_end c.args.sources.now c.args.address c.loop.at c.loop.counter c.loop.steps.items c.loop-test.false c.loop.invariant
