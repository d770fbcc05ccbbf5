use Rattle.ownership_kinds.specs.ownership_kinds_origins.Facts.{facts_in}
use Rattle.copy_pairing.proofs.Answered.{body_of_copy}
use Rattle.copy_pairing.proofs.TurnsThere.{turn_of_copy}
use Rattle.copy_pairing.proofs.turns.turn_in.Goals as goal

pub returns-in-None-clause-turn : goal.returns-in-None-clause-turn
returns-in-None-clause-turn c = λ v w copy. absurd (c.in-None.ensures.none v w copy)

pub kept_or_new-requires-clause-graph : goal.kept_or_new-requires-clause-graph
kept_or_new-requires-clause-graph c = c.requires.graph (body_of_copy c.args.f.now c.args.p c.in-Some.copied.value c.in-Some.copied.operand c.in-Some.ensures.some)

pub turn_by_notes-requires-clause-graph : goal.turn_by_notes-requires-clause-graph
turn_by_notes-requires-clause-graph c = c.requires.graph (body_of_copy c.args.f.now c.args.p c.in-Some.copied.value c.in-Some.copied.operand c.in-Some.ensures.some)

pub returns-in_ok-turn-in-Some-clause-turn : goal.returns-in_ok-turn-in-Some-clause-turn
returns-in_ok-turn-in-Some-clause-turn c =
    turn_of_copy (facts_in c.args.types.now c.args.f.now) c.args.f.now c.args.p c.in-Some.copied.value c.in-Some.copied.operand c.in-Some.ensures.some
    c.in_ok-turn-in-Some.turn c.in_ok-turn-in-Some.ensures.turn
