use Rattle.std.proofs.Common.{◌-◌, List, length, take, sym, ap, ◌∙◌, subst}
use Rattle.sil_ast.specs.declared.place.ValueId.{ValueId}
use Rattle.memory_rules_slots.specs.inner.Followed.{IsTop, StandsAt}
use Rattle.memory_rules_slots.proofs.StackTops.{top_left, removed_left}
use Rattle.memory_rules_slots.proofs.stack.leave.Goals as goal

pub returns-then-is_top : goal.returns-then-is_top
returns-then-is_top c = λ sources ranks.
    top_left sources ranks c.args.slot c.args.stack.now.items c.pop.new.self.items c.args.doubts.now
    (subst (λ (l : List ValueId). IsTop l c.args.slot) c.as_slice.ensures.value (c.is_top.ensures c.if-is_top.true))
    (c.pop.ensures.rest ∙ ap (λ n. take (n - 1) c.args.stack.now.items) (sym c.as_slice.ensures.len ∙ ap length c.as_slice.ensures.value))

pub returns-in-Some : goal.returns-in-Some
returns-in-Some c = λ sources ranks.
    removed_left sources ranks c.args.slot c.args.stack.now.items c.remove.new.self.items c.in-Some.place c.args.doubts.now c.add.new.self c.add.ensures.keeps c.add.ensures.added
    (subst (λ (l : List ValueId). StandsAt l c.args.slot c.in-Some.place) c.as_slice-2.ensures.value c.in-Some.ensures) c.remove.ensures.items
