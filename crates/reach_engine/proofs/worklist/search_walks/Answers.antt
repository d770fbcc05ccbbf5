use Rattle.std.proofs.Common.{ℕ, ◌<◌, ◌≤◌, List, length, sym, subst, arith}
use Rattle.sil_cfg.specs.Flow.{numbered}
use Rattle.sil_ast.specs.declared.place.EdgeId.{EdgeId}
use Rattle.reach_engine.specs.inner.Reach.{ReachesFirst}
use Rattle.reach_engine.specs.inner.Search.{IsShortest}
use Rattle.reach_engine.proofs.ItemsInRange.{last_below}
use Rattle.reach_engine.specs.declared.frontier.Visit.{Visit}
use Rattle.reach_engine.specs.inner.Frontier.{ParentsFirst, IsFront, IsWalkOf}
use Rattle.reach_engine.proofs.AnswerIsExact.{parents_first, visit_within, end_clean, end_exact, end_fault, end_least, end_shortest}
use Rattle.reach_engine.proofs.worklist.search_walks.Goals as goal

pub loop-at-init : goal.loop-at-init
loop-at-init g c =
    let P : ℕ → Type 0 = λ n. IsFront (numbered c.args.g.now) (g.S.Scan.step_of c.args.scan.now) n c.in_ok-front.front.queue.items c.in_ok-front.front.seen.items c.in_ok-front.front.best 0 in
    subst P c.states-states.ensures (c.in_ok-front.ensures (g.S.Scan.step_of c.args.scan.now))

pub walk_of-requires-clause-at : goal.walk_of-requires-clause-at
walk_of-requires-clause-at g c =
    let P : List Visit → Type 0 = λ q. c.in-Some.fault.visit < length q in
    subst P (sym c.deref.ensures.value) (visit_within (numbered c.args.g.now) (g.S.Scan.step_of c.args.scan.now) (g.S.Scan.state_count c.args.scan.now) c.loop-at.front.queue.items
    c.loop-at.front.seen.items c.loop-at.front.best c.loop-at.at c.loop-at.invariant c.in-Some.fault c.in-Some.is)

pub walk_of-requires-clause-parents : goal.walk_of-requires-clause-parents
walk_of-requires-clause-parents g c =
    let P : List Visit → Type 0 = λ q. ParentsFirst q in
    subst P (sym c.deref.ensures.value) (parents_first (numbered c.args.g.now) (g.S.Scan.step_of c.args.scan.now) (g.S.Scan.state_count c.args.scan.now) c.loop-at.front.queue.items
    c.loop-at.front.seen.items c.loop-at.front.best c.loop-at.at c.loop-at.invariant)

pub returns-in-None-clause-clean : goal.returns-in-None-clause-clean
returns-in-None-clause-clean g c =
    let all : length c.loop-at.front.queue.items ≤ c.loop-at.at = omega (arith, c.loop-at.front.queue.ok.0, c.len.ensures, c.loop-at-test.false) in
    end_clean (numbered c.args.g.now) (g.S.Scan.step_of c.args.scan.now) (g.S.Scan.state_count c.args.scan.now) c.loop-at.front.queue.items c.loop-at.front.seen.items c.loop-at.front.best c.loop-at.at
    c.loop-at.invariant all c.in-None.is

pub returns-in-None-clause-map : goal.returns-in-None-clause-map
returns-in-None-clause-map g c =
    let all : length c.loop-at.front.queue.items ≤ c.loop-at.at = omega (arith, c.loop-at.front.queue.ok.0, c.len.ensures, c.loop-at-test.false) in
    end_exact (numbered c.args.g.now) (g.S.Scan.step_of c.args.scan.now) (g.S.Scan.state_count c.args.scan.now) c.loop-at.front.queue.items c.loop-at.front.seen.items c.loop-at.front.best
    c.loop-at.at c.loop-at.invariant all
    c.blocks-blocks.result c.states-states.result c.from_marks.result c.from_marks.ensures c.blocks-blocks.ensures.count c.states-states.ensures

pub returns-in_ok-walk-in-Some-clause-breaks : goal.returns-in_ok-walk-in-Some-clause-breaks
returns-in_ok-walk-in-Some-clause-breaks g c =
    let P : List Visit → Type 0 = λ q. IsWalkOf q c.in-Some.fault c.in_ok-walk-in-Some.walk.items in
    let Q : List EdgeId → Type 0 = λ w. ReachesFirst (numbered c.args.g.now) (g.S.Scan.step_of c.args.scan.now) w c.in-Some.fault.code c.in-Some.fault.item in
    subst Q (sym c.from_vec.ensures) (
    end_fault (numbered c.args.g.now) (g.S.Scan.step_of c.args.scan.now) (g.S.Scan.state_count c.args.scan.now) c.loop-at.front.queue.items c.loop-at.front.seen.items c.loop-at.front.best
    c.loop-at.at c.loop-at.invariant
    c.in-Some.fault c.in-Some.is c.in_ok-walk-in-Some.walk.items (subst P c.deref.ensures.value c.in_ok-walk-in-Some.ensures))

pub returns-in_ok-walk-in-Some-clause-within : goal.returns-in_ok-walk-in-Some-clause-within
returns-in_ok-walk-in-Some-clause-within g c =
    let P : List Visit → Type 0 = λ q. IsWalkOf q c.in-Some.fault c.in_ok-walk-in-Some.walk.items in
    let shown = end_fault (numbered c.args.g.now) (g.S.Scan.step_of c.args.scan.now) (g.S.Scan.state_count c.args.scan.now) c.loop-at.front.queue.items c.loop-at.front.seen.items c.loop-at.front.best
    c.loop-at.at c.loop-at.invariant
    c.in-Some.fault c.in-Some.is c.in_ok-walk-in-Some.walk.items (subst P c.deref.ensures.value c.in_ok-walk-in-Some.ensures) in
    last_below c.args.g.now c.blocks-blocks.ensures.sound c.in_ok-walk-in-Some.walk.items shown.before c.in-Some.fault.item shown.trail

pub returns-in_ok-walk-in-Some-clause-least : goal.returns-in_ok-walk-in-Some-clause-least
returns-in_ok-walk-in-Some-clause-least g c =
    let all : length c.loop-at.front.queue.items ≤ c.loop-at.at = omega (arith, c.loop-at.front.queue.ok.0, c.len.ensures, c.loop-at-test.false) in
    end_least (numbered c.args.g.now) (g.S.Scan.step_of c.args.scan.now) (g.S.Scan.state_count c.args.scan.now) c.loop-at.front.queue.items c.loop-at.front.seen.items c.loop-at.front.best c.loop-at.at
    c.loop-at.invariant all c.in-Some.fault c.in-Some.is

pub returns-in_ok-walk-in-Some-clause-shortest : goal.returns-in_ok-walk-in-Some-clause-shortest
returns-in_ok-walk-in-Some-clause-shortest g c =
    let all : length c.loop-at.front.queue.items ≤ c.loop-at.at = omega (arith, c.loop-at.front.queue.ok.0, c.len.ensures, c.loop-at-test.false) in
    let P : List Visit → Type 0 = λ q. IsWalkOf q c.in-Some.fault c.in_ok-walk-in-Some.walk.items in
    let Q : List EdgeId → Type 0 = λ w. IsShortest (numbered c.args.g.now) (g.S.Scan.step_of c.args.scan.now) c.in-Some.fault.code w in
    subst Q (sym c.from_vec.ensures) (
    end_shortest (numbered c.args.g.now) (g.S.Scan.step_of c.args.scan.now) (g.S.Scan.state_count c.args.scan.now) c.loop-at.front.queue.items c.loop-at.front.seen.items c.loop-at.front.best
    c.loop-at.at c.loop-at.invariant all
    c.in-Some.fault c.in-Some.is c.in_ok-walk-in-Some.walk.items (subst P c.deref.ensures.value c.in_ok-walk-in-Some.ensures))
