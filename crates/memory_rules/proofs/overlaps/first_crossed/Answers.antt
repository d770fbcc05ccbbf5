use Rattle.std.proofs.Common.{◌+◌, ◌-◌, ◌∙◌, drop, length, sym, take, arith}
use Rattle.memory_rules.proofs.Crossed.{crossed_here, crossed_past, rest_from, some_address}
use Rattle.memory_rules.proofs.overlaps.first_crossed.Goals as goal

pub returns-then-is_some : goal.returns-then-is_some
returns-then-is_some c =
    let xs = c.args.addresses.now in
    let i = c.loop-i.i in
    crossed_here c.args.m.now c.args.subject xs (take (length xs - (i + 1)) (drop (i + 1) xs)) i some_address c.first_crossing-second.result c.loop-i-test.true
    (rest_from xs (i + 1) (omega arith)) c.first_crossing-second.ensures (sym c.is_some.ensures ∙ c.if-is_some.true) ∙ c.loop-i.invariant

pub loop-i-preserved : goal.loop-i-preserved
loop-i-preserved c =
    let xs = c.args.addresses.now in
    let i = c.loop-i.i in
    crossed_past c.args.m.now c.args.subject xs (take (length xs - (i + 1)) (drop (i + 1) xs)) i some_address c.first_crossing-second.result c.loop-i-test.true
    (rest_from xs (i + 1) (omega arith)) c.first_crossing-second.ensures (sym c.is_some.ensures ∙ c.if-is_some.false) ∙ c.loop-i.invariant
