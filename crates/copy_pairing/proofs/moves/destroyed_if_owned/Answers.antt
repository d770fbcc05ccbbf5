use Rattle.std.proofs.Common.{◌≡◌, sym, ap, ◌∙◌, true, false}
use Rattle.std.proofs.lemmas.Result.{IfOk-weaker}
use Rattle.ownership_kinds_chains.specs.OwnershipChains.Facts.{is_owned}
use Rattle.copy_pairing.proofs.MovedCopies.{owned_none, owned_some}
use Rattle.copy_pairing.proofs.moves.destroyed_if_owned.Goals as goal

pub returns-then-not-is_owned-clause-none : goal.returns-then-not-is_owned-clause-none
returns-then-not-is_owned-clause-none c = λ last h.
    let so : true ≡ false = sym h.owned ∙ sym (c.is_owned.ensures ∙ ap is_owned c.kind.ensures) ∙ c.if-not-is_owned.true in
    cc

pub destroyed_next-requires-clause-owned : goal.destroyed_next-requires-clause-owned
destroyed_next-requires-clause-owned c = sym (c.is_owned.ensures ∙ ap is_owned c.kind.ensures) ∙ c.if-not-is_owned.false

pub returns-clause-some : goal.returns-clause-some
returns-clause-some c = IfOk-weaker c.destroyed_next.result _ _
    (λ o h. owned_some c.args.k.now c.args.f.now c.args.p c.args.copied.value c.args.copied.operand
    (sym (c.is_owned.ensures ∙ ap is_owned c.kind.ensures) ∙ c.if-not-is_owned.false) o h)
    c.destroyed_next.ensures.some

pub returns-clause-none : goal.returns-clause-none
returns-clause-none c = IfOk-weaker c.destroyed_next.result _ _
    (λ o h. owned_none c.args.k.now c.args.f.now c.args.p c.args.copied.value c.args.copied.operand o h)
    c.destroyed_next.ensures.none
