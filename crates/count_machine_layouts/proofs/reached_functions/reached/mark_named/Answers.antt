use Rattle.std.proofs.Common.{◌+◌, ap, sym, subst, arith, length, None, List, Bool}
use Rattle.count_machine_model.specs.ReadyCode.ReadyModules.{Reaches}
use Rattle.count_machine_layouts.specs.ReachedFunctions.inner.Reaching.{HoldsOfNamed, IsInside}
use Rattle.count_machine_layouts.proofs.ReachedFunctions.Reaching.{all_marked, goes_nowhere, marks_more, marks_same, named_stays}
use Rattle.count_machine_layouts.proofs.reached_functions.reached.mark_named.Goals as goal
use Rattle.count_machine_layouts.proofs.reached_functions.reached.mark_named.Goals.{in-Some+in_ok-mark, in_default}

pub mark-requires : goal.mark-requires
mark-requires c =
    let n = c.loop-function.function-index in
    let named = c.args.named.now in
    let inside = subst (HoldsOfNamed (IsInside (length c.args.reached.now))) c.in-Some.is (c.requires n None c.loop-function-test.true) in
    let size = c.loop-function.invariant.goes.size in
    omega arith

pub loop-function-preserved : goal.loop-function-preserved
loop-function-preserved c =
    let l = c.loop-function in
    let n = l.function-index in
    let named = c.args.named.now in
    let reached = c.args.reached.now in
    let waiting = c.args.waiting.now.items in
    let Has = λ (r : List Bool). HoldsOfNamed (Reaches r) in
    elim c.match-function.branch [
      | in-Some+in_ok-mark w ↦
          let r = w.mark.new.reached in
          marks_same Has named reached waiting (n + 1) _ _ _ _ w.reached-is (ap (λ v. v.items) w.waiting-is)
          (marks_more Has named reached waiting named_stays n None l.reached r l.waiting.items w.mark.new.waiting.items c.loop-function-test.true
          l.invariant w.in_ok-mark.ensures.goes (subst (Has r) (sym w.in-Some.is) w.in_ok-mark.ensures.marked))
      | in_default w ↦
          marks_same Has named reached waiting (n + 1) _ _ _ _ w.reached-is (ap (λ v. v.items) w.waiting-is)
          (marks_more Has named reached waiting named_stays n None l.reached l.reached l.waiting.items l.waiting.items c.loop-function-test.true
          l.invariant (goes_nowhere l.reached l.waiting.items) (subst (Has l.reached) (sym w.in_default.is) tt))
    ]

pub returns-clause-marked : goal.returns-clause-marked
returns-clause-marked c =
    let l = c.loop-function in
    all_marked (λ r. HoldsOfNamed (Reaches r)) c.args.named.now c.args.reached.now c.args.waiting.now.items l.function-index l.reached l.waiting.items
    c.loop-function-test.false l.invariant
