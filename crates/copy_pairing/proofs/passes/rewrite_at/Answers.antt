use Rattle.std.proofs.Common.{sym, subst}
use Rattle.copy_pairing_model.specs.Rewritten.{lent, moved, with_function}
use Rattle.copy_pairing.specs.inner.Surveys.{IsKeptIn}
use Rattle.copy_pairing.specs.inner.Turns.{IsTurn, IsTurnThere, Turned, stays, turns}
use Rattle.copy_pairing.proofs.KeptNotes.{lent_kept, moved_kept}
use Rattle.copy_pairing.proofs.passes.rewrite_at.Goals as goal

pub returns-in-Stay-clause-turned : goal.returns-in-Stay-clause-turned
returns-in-Stay-clause-turned c = stays (subst (IsTurn c.args.m.now c.args.function c.args.p) c.in-Stay.is c.in_ok-turn.ensures.turn)

pub lend-requires : goal.lend-requires
lend-requires c = (subst (IsTurn c.args.m.now c.args.function c.args.p) c.in-Lend.is c.in_ok-turn.ensures.turn).0

pub returns-in_ok-lend-in-Lend-clause-turned : goal.returns-in_ok-lend-in-Lend-clause-turned
returns-in_ok-lend-in-Lend-clause-turned c =
    subst (Turned c.args.m.now c.args.function c.args.p) (sym c.in_ok-lend-in-Lend.ensures)
    (turns (with_function c.args.function (lent c.in-Lend.value) c.args.m.now) (subst (IsTurn c.args.m.now c.args.function c.args.p) c.in-Lend.is c.in_ok-turn.ensures.turn).1)

pub move_copy-requires-clause-behind : goal.move_copy-requires-clause-behind
move_copy-requires-clause-behind c = (subst (IsTurn c.args.m.now c.args.function c.args.p) c.in-Move.is c.in_ok-turn.ensures.turn).0.behind

pub move_copy-requires-clause-there : goal.move_copy-requires-clause-there
move_copy-requires-clause-there c = (subst (IsTurn c.args.m.now c.args.function c.args.p) c.in-Move.is c.in_ok-turn.ensures.turn).0.there

pub returns-in_ok-move_copy-in-Move-clause-turned : goal.returns-in_ok-move_copy-in-Move-clause-turned
returns-in_ok-move_copy-in-Move-clause-turned c =
    subst (Turned c.args.m.now c.args.function c.args.p) (sym c.in_ok-move_copy-in-Move.ensures)
    (turns (with_function c.args.function (moved c.args.p c.in-Move.last) c.args.m.now) (subst (IsTurn c.args.m.now c.args.function c.args.p) c.in-Move.is c.in_ok-turn.ensures.turn).1)

pub returns-in_ok-lend-in-Lend-clause-kept : goal.returns-in_ok-lend-in-Lend-clause-kept
returns-in_ok-lend-in-Lend-clause-kept c =
    subst (λ m. IsKeptIn c.args.types.now m c.args.function c.left_by_lending.result) (sym c.in_ok-lend-in-Lend.ensures)
    (lent_kept c.args.m.now c.args.types.now c.args.function c.args.p c.requires.verified c.requires.types c.in_ok-turn.kept c.left_by_lending.result
    c.lending_keeps_borrowable.ensures c.lending_makes_no_copy.ensures c.in-Lend.value
    (subst (IsTurnThere c.args.types.now c.args.m.now c.args.function c.args.p) c.in-Lend.is c.in_ok-turn.ensures.there) c.in_ok-turn.ensures.kept
    c.left_by_lending.ensures)

pub returns-in_ok-move_copy-in-Move-clause-kept : goal.returns-in_ok-move_copy-in-Move-clause-kept
returns-in_ok-move_copy-in-Move-clause-kept c =
    subst (λ m. IsKeptIn c.args.types.now m c.args.function c.left_by_move.result) (sym c.in_ok-move_copy-in-Move.ensures)
    (moved_kept c.args.m.now c.args.types.now c.args.function c.args.p c.requires.verified c.requires.types c.in_ok-turn.kept c.left_by_move.result
    c.moving_keeps_borrowable.ensures c.moving_lets_none_borrow.ensures c.moving_makes_no_copy.ensures c.moving_keeps_values.ensures c.in-Move.last c.in-Move.operand
    (subst (IsTurnThere c.args.types.now c.args.m.now c.args.function c.args.p) c.in-Move.is c.in_ok-turn.ensures.there) c.in_ok-turn.ensures.kept
    c.left_by_move.ensures)
