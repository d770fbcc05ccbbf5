use Rattle.std.proofs.Common.{List, take, sym, subst, arith}
use Rattle.std.proofs.lemmas.Grind.{take_at_read}
use Rattle.std.proofs.lemmas.List.{take_all}
use Rattle.sil_ast.specs.declared.place.ValueId.{ValueId}
use Rattle.memory_rules_slots.specs.inner.Nesting.{AreRising}
use Rattle.memory_rules_slots.proofs.StackTops.{rising_push}
use Rattle.memory_rules_slots.proofs.nested.are_rising.Goals as goal

pub loop-index-preserved : goal.loop-index-preserved
loop-index-preserved c =
    let stack = c.args.stack.now in
    let i = c.loop-index.index in
    let Rises : List ValueId → Type 0 = λ l. AreRising c.args.ranks.now l in
    let above = c.is_above.ensures c.if-not-is_above.false c.loop-index.invariant in
    subst Rises (sym (take_at_read stack i _ c.loop-index-test.true).1)
    (rising_push c.args.ranks.now (take i stack) _ c.loop-index.invariant above)

pub returns : goal.returns
returns c = λ told.
    let Rises : List ValueId → Type 0 = λ l. AreRising c.args.ranks.now l in
    subst Rises (take_all c.loop-index.index c.args.stack.now (omega arith)) c.loop-index.invariant
