use Rattle.std.proofs.Common.{sym}
use Rattle.std.proofs.lemmas.Result.{IfOk-weaker}
use Rattle.sil_verifier.proofs.sil_verifier_accepted.TypedGraphLaws.Functions.{graphs_by_blocks}
use Rattle.copy_pairing.proofs.Answered.{contains_at}
use Rattle.copy_pairing.proofs.KeptNotes.{kept_in}
use Rattle.copy_pairing.proofs.TurnsThere.{no_turn, no_turn_there, turn_there, turns_there}
use Rattle.copy_pairing.proofs.passes.turn_at.Goals as goal

pub returns-in-None-clause-turn : goal.returns-in-None-clause-turn
returns-in-None-clause-turn c = no_turn c.args.m.now c.args.function c.args.p (sym c.in-None.ensures.value)

pub returns-in-None-clause-there : goal.returns-in-None-clause-there
returns-in-None-clause-there c = no_turn_there c.args.m.now c.args.types.now c.args.function c.args.p (sym c.in-None.ensures.value)

pub turn_in-requires-clause-of_module : goal.turn_in-requires-clause-of_module
turn_in-requires-clause-of_module c =
    (c.args.m.now, c.requires.verified.numbered, contains_at c.args.m.now.functions c.args.function c.in-Some.f.now (sym c.in-Some.ensures.value))

pub turn_in-requires-clause-graph : goal.turn_in-requires-clause-graph
turn_in-requires-clause-graph c = λ body.
    (graphs_by_blocks c.args.m.now c.args.function c.in-Some.f.now c.requires.verified.numbered c.requires.verified.accepted.types.typed (sym c.in-Some.ensures.value) body).graph

pub turn_in-requires-clause-kept : goal.turn_in-requires-clause-kept
turn_in-requires-clause-kept c = c.requires.kept c.in-Some.f.now (sym c.in-Some.ensures.value)

pub returns-in-Some-clause-turn : goal.returns-in-Some-clause-turn
returns-in-Some-clause-turn c = IfOk-weaker c.turn_in.result _ _
    (λ r h. turn_there c.args.m.now c.args.types.now c.args.function c.in-Some.f.now c.args.p r.0 c.requires.types (sym c.in-Some.ensures.value) h)
    c.turn_in.ensures.turn

pub returns-in-Some-clause-kept : goal.returns-in-Some-clause-kept
returns-in-Some-clause-kept c = IfOk-weaker c.turn_in.result _ _
    (λ r h. kept_in c.args.types.now c.args.m.now c.args.function c.in-Some.f.now r.1 (sym c.in-Some.ensures.value) h)
    c.turn_in.ensures.kept

pub returns-in-Some-clause-there : goal.returns-in-Some-clause-there
returns-in-Some-clause-there c = IfOk-weaker c.turn_in.result _ _
    (λ r h. turns_there c.args.m.now c.args.types.now c.args.function c.in-Some.f.now c.args.p r.0 (sym c.in-Some.ensures.value) h)
    c.turn_in.ensures.turn
