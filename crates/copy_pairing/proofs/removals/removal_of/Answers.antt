use Rattle.std.proofs.Common.{subst}
use Rattle.ownership_kinds.specs.ownership_kinds_origins.Facts.{facts_in}
use Rattle.copy_pairing.specs.inner.Turns.{IsTurnOf}
use Rattle.copy_pairing.proofs.TurnsThere.{lend_removal, move_removal, stay_removal}
use Rattle.copy_pairing.proofs.removals.removal_of.Goals as goal

pub returns-in-Stay : goal.returns-in-Stay
returns-in-Stay c = stay_removal (facts_in c.args.types.now c.args.f.now) c.args.f.now c.args.p c.args.copied.value c.args.copied.operand
    (subst (IsTurnOf (facts_in c.args.types.now c.args.f.now) c.args.f.now c.args.p c.args.copied.value c.args.copied.operand) c.in-Stay.is c.in_ok-turn.ensures.turn)

pub returns-in-Lend : goal.returns-in-Lend
returns-in-Lend c = lend_removal (facts_in c.args.types.now c.args.f.now) c.args.f.now c.args.p c.args.copied.value c.args.copied.operand _
    (subst (IsTurnOf (facts_in c.args.types.now c.args.f.now) c.args.f.now c.args.p c.args.copied.value c.args.copied.operand) c.in-Lend.is c.in_ok-turn.ensures.turn)

pub returns : goal.returns
returns c = move_removal (facts_in c.args.types.now c.args.f.now) c.args.f.now c.args.p c.args.copied.value c.args.copied.operand _ _
    (subst (IsTurnOf (facts_in c.args.types.now c.args.f.now) c.args.f.now c.args.p c.args.copied.value c.args.copied.operand) c.in-Move.is c.in_ok-turn.ensures.turn)
