use Rattle.std.proofs.Common.{◌+◌, ◌*◌, ◌<◌, ◌≤◌, sym, ap, ◌∙◌, length, get_or, arith}
use Rattle.std.proofs.lemmas.Option.{slice_get_within}
use Rattle.sil_cfg.specs.Flow.{numbered}
use Rattle.reach_engine.proofs.EdgesFollowed.{fault_either, edge_fault, edge_seen, edge_pushed, front_pushed}
use Rattle.reach_engine.proofs.FrontierKept.{front_note}
use Rattle.reach_engine.proofs.frontier.follow.Goals as goal

pub returns-then-index-clause-done : goal.returns-then-index-clause-done
returns-then-index-clause-done g c =
    edge_seen (numbered c.args.g.now) (g.S.Scan.step_of c.args.scan.now) c.args.front.now.queue.items c.args.at c.args.visit c.requires.visit c.args.edge c.requires.edge c.requires.from
    c.args.state c.requires.passed
    (g.S.Scan.state_count c.args.scan.now) c.args.front.now.seen.items c.args.front.now.best c.edge_to-block.result.0 c.in-Go.next
    (c.edge_to-block.result.0 * c.states.result + c.in-Go.next) c.index.result.now
    c.requires.front c.edge_to-block.ensures.to (ap (g.S.Scan.step_of c.args.scan.now c.args.state) (sym c.edge_item-item.ensures.item) ∙ sym c.in-Go.ensures.step)
    c.edge_to-block.ensures.below c.in-Go.ensures.stays
    (ap (λ n. c.edge_to-block.result.0 * n + c.in-Go.next) c.states.ensures) c.index.ensures c.if-index.true

pub overflow_add-visit : goal.overflow_add-visit
overflow_add-visit g c =
    let shallow : c.args.visit.depth ≤ c.args.at = c.requires.front.shallow c.args.at c.args.visit c.requires.visit in
    let within : c.args.at < length c.args.front.now.queue.items = slice_get_within c.args.front.now.queue.items c.args.at c.args.visit c.requires.visit in
    omega arith

pub returns-in-Bad-clause-front : goal.returns-in-Bad-clause-front
returns-in-Bad-clause-front g c =
    front_note (numbered c.args.g.now) (g.S.Scan.step_of c.args.scan.now) (g.S.Scan.state_count c.args.scan.now) c.args.front.now.queue.items c.args.front.now.seen.items c.args.front.now.best
    c.better-front.result c.args.at
    c.requires.front c.better-front.ensures.kept
    (fault_either (numbered c.args.g.now) (g.S.Scan.step_of c.args.scan.now) c.args.front.now.queue.items c.args.front.now.best c.better-front.result _ c.requires.front.fault
    (edge_fault (numbered c.args.g.now) (g.S.Scan.step_of c.args.scan.now) c.args.front.now.queue.items c.args.at c.args.visit c.requires.visit c.args.edge c.requires.edge c.requires.from
    c.args.state c.requires.passed
    c.in-Bad.code c.edge_item-item.result c.edge_item-item.ensures.item (sym c.in-Bad.ensures.step))
    c.better-front.ensures.either)

pub returns-in_ok-push-in-Go-clause-front : goal.returns-in_ok-push-in-Go-clause-front
returns-in_ok-push-in-Go-clause-front g c =
    front_pushed (numbered c.args.g.now) (g.S.Scan.step_of c.args.scan.now) c.args.front.now.queue.items c.args.at c.args.visit c.requires.visit c.args.edge c.requires.edge c.requires.from
    c.args.state c.requires.passed
    (g.S.Scan.state_count c.args.scan.now) c.args.front.now.seen.items c.args.front.now.best c.push.new.self.items c.edge_to-block.result.0 c.in-Go.next
    (c.edge_to-block.result.0 * c.states.result + c.in-Go.next)
    c.requires.front c.edge_to-block.ensures.to (ap (g.S.Scan.step_of c.args.scan.now c.args.state) (sym c.edge_item-item.ensures.item) ∙ sym c.in-Go.ensures.step)
    c.edge_to-block.ensures.below c.in-Go.ensures.stays
    (ap (λ n. c.edge_to-block.result.0 * n + c.in-Go.next) c.states.ensures)
    (ap (λ b. get_or c.args.front.now.seen.items (c.edge_to-block.result.0 * c.states.result + c.in-Go.next) b) (sym c.if-index.false) ∙ sym c.index.ensures ∙ c.if-index.false)
    c.in_ok-push-in-Go.ensures.items

pub returns-in_ok-push-in-Go-clause-done : goal.returns-in_ok-push-in-Go-clause-done
returns-in_ok-push-in-Go-clause-done g c =
    edge_pushed (numbered c.args.g.now) (g.S.Scan.step_of c.args.scan.now) c.args.front.now.queue.items c.args.at c.args.visit c.requires.visit c.args.edge c.requires.edge c.requires.from
    c.args.state c.requires.passed
    c.args.front.now.best c.push.new.self.items c.edge_to-block.result.0 c.in-Go.next c.edge_to-block.ensures.to
    (ap (g.S.Scan.step_of c.args.scan.now c.args.state) (sym c.edge_item-item.ensures.item) ∙ sym c.in-Go.ensures.step) c.in_ok-push-in-Go.ensures.items
