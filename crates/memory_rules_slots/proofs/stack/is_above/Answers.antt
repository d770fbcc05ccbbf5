use Rattle.std.proofs.Common.{◌<◌, arith}
use Rattle.std.proofs.lemmas.Bool.{ltb-true}
use Rattle.memory_rules_slots.specs.inner.Nesting.{rank_at}
use Rattle.memory_rules_slots.proofs.StackTops.{above_all}
use Rattle.memory_rules_slots.proofs.stack.is_above.Goals as goal

pub returns-in-Some : goal.returns-in-Some
returns-in-Some c = λ told rising.
    let less = ltb-true c.rank_of.result c.rank_of-in-Some.result told in
    let below : rank_at c.args.ranks.now c.in-Some.top.now < rank_at c.args.ranks.now c.args.slot = omega (arith, less, c.rank_of.ensures, c.rank_of-in-Some.ensures) in
    above_all c.args.ranks.now c.args.stack.now c.in-Some.top.now c.args.slot c.in-Some.ensures.value below rising
