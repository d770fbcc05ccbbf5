use Rattle.std.proofs.Common.{◌≡◌, ◌≤◌, refl, subst, length, arith, ℕ, List, Some}
use Rattle.std.specs.List.{slice_get}
use Rattle.std.proofs.lemmas.Option.{slice_get_read}
use Rattle.sil_cfg.specs.Flow.{numbered, items_at, edge_count}
use Rattle.reach_engine.specs.inner.Run.{BreaksAt, run}
use Rattle.reach_engine.specs.declared.scan.Step.TheVariants.{Go}
use Rattle.reach_engine.proofs.EdgesFollowed.{fault_either, block_fault, visit_broken, visit_passed, done_more, kept_there}
use Rattle.reach_engine.proofs.FrontierKept.{front_note, front_next}
use Rattle.reach_engine.proofs.frontier.explore.Goals as goal

pub loop-index-preserved : goal.loop-index-preserved
loop-index-preserved g c = record {
  front = c.in_ok-follow-in-Stays.ensures.front;
  there = kept_there c.loop-index.front c.follow.new.front c.args.at c.index-visit.result.now c.in_ok-follow-in-Stays.ensures.grows c.loop-index.invariant.there;
  done = done_more (numbered c.args.g.now) (g.S.Scan.step_of c.args.scan.now) c.loop-index.front c.follow.new.front c.index-visit.result.now c.loop-index.index c.in_ok-follow-in-Stays.ensures.grows
      c.loop-index.invariant.done c.in_ok-follow-in-Stays.ensures.done;
}

pub returns-in-Breaks : goal.returns-in-Breaks
returns-in-Breaks g c =
    let there : slice_get c.args.front.now.queue.items c.args.at ≡ Some c.index-visit.result.now =
    slice_get_read c.args.front.now.queue.items (length c.args.front.now.queue.items) c.args.at c.index-visit.result.now refl c.requires.at c.index-visit.ensures in
    let P : List ℕ → Type 0 = λ xs. BreaksAt (g.S.Scan.step_of c.args.scan.now) c.index-visit.result.now.state xs c.in-Breaks.code c.in-Breaks.item in
    let breaks : BreaksAt (g.S.Scan.step_of c.args.scan.now) c.index-visit.result.now.state (items_at (numbered c.args.g.now) c.index-visit.result.now.block) c.in-Breaks.code c.in-Breaks.item =
    subst P c.items_of.ensures.items c.in-Breaks.ensures in
    front_next (numbered c.args.g.now) (g.S.Scan.step_of c.args.scan.now) (g.S.Scan.state_count c.args.scan.now) c.args.front.now.queue.items c.args.front.now.seen.items c.better-front.result
    c.args.at c.index-visit.result.now
    (front_note (numbered c.args.g.now) (g.S.Scan.step_of c.args.scan.now) (g.S.Scan.state_count c.args.scan.now) c.args.front.now.queue.items c.args.front.now.seen.items c.args.front.now.best
    c.better-front.result c.args.at
    c.requires.front c.better-front.ensures.kept
    (fault_either (numbered c.args.g.now) (g.S.Scan.step_of c.args.scan.now) c.args.front.now.queue.items c.args.front.now.best c.better-front.result _ c.requires.front.fault
    (block_fault (numbered c.args.g.now) (g.S.Scan.step_of c.args.scan.now) c.args.front.now.queue.items c.args.at c.index-visit.result.now there c.in-Breaks.code c.in-Breaks.item breaks)
    c.better-front.ensures.either))
    there
    (visit_broken (numbered c.args.g.now) (g.S.Scan.step_of c.args.scan.now) c.args.front.now.queue.items c.better-front.result c.index-visit.result.now c.in-Breaks.code c.in-Breaks.item breaks
    c.better-front.ensures.noted)

pub returns-after-loop-index : goal.returns-after-loop-index
returns-after-loop-index g c =
    let P : List ℕ → Type 0 = λ xs. run (g.S.Scan.step_of c.args.scan.now) (Go c.index-visit.result.now.state) xs ≡ Go c.in-Stays.state in
    let passed_is : run (g.S.Scan.step_of c.args.scan.now) (Go c.index-visit.result.now.state) (items_at (numbered c.args.g.now) c.index-visit.result.now.block) ≡ Go c.in-Stays.state =
    subst P c.items_of.ensures.items c.in-Stays.ensures.0 in
    let all : edge_count (numbered c.args.g.now) c.index-visit.result.now.block ≤ c.loop-index.index = omega arith in
    front_next (numbered c.args.g.now) (g.S.Scan.step_of c.args.scan.now) (g.S.Scan.state_count c.args.scan.now) c.loop-index.front.queue.items c.loop-index.front.seen.items c.loop-index.front.best
    c.args.at c.index-visit.result.now
    c.loop-index.invariant.front c.loop-index.invariant.there
    (visit_passed (numbered c.args.g.now) (g.S.Scan.step_of c.args.scan.now) c.loop-index.front.queue.items c.loop-index.front.best c.index-visit.result.now c.in-Stays.state c.loop-index.index
    passed_is all c.loop-index.invariant.done)
