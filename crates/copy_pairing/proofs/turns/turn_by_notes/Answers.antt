use Rattle.std.proofs.Common.{◌≡◌, ℕ, refl, subst, true, false, Option}
use Rattle.std.specs.Prelude.{IfNone, IfSome}
use Rattle.ownership_kinds.specs.ownership_kinds_origins.Facts.{facts_in}
use Rattle.copy_pairing_model.specs.Removable.{IsMovable}
use Rattle.copy_pairing.specs.inner.Turns.{IsMovableTo}
use Rattle.copy_pairing.proofs.turns.turn_by_notes.Goals as goal

pub returns-then-borrowable-clause-turn : goal.returns-then-borrowable-clause-turn
returns-then-borrowable-clause-turn c = (refl, (c.in_ok-borrowable.ensures.borrowable c.args.p c.requires.copy).0 c.if-borrowable.true)

pub returns-in-Some-clause-turn : goal.returns-in-Some-clause-turn
returns-in-Some-clause-turn c = (
  refl,
  λ h.
      let so : c.in_ok-borrowable.borrowable ≡ true = (c.in_ok-borrowable.ensures.borrowable c.args.p c.requires.copy).1 h in
      let not_so : c.in_ok-borrowable.borrowable ≡ false = c.if-borrowable.false in
      cc,
  subst (λ (o : Option ℕ). IfSome o (IsMovableTo (facts_in c.args.types.now c.args.f.now) c.args.f.now c.args.p c.args.copied.value c.args.copied.operand)) c.in-Some.is
      c.in_ok-target.ensures.some,
)

pub returns-in-None-clause-turn : goal.returns-in-None-clause-turn
returns-in-None-clause-turn c = (
  λ h.
      let so : c.in_ok-borrowable.borrowable ≡ true = (c.in_ok-borrowable.ensures.borrowable c.args.p c.requires.copy).1 h in
      let not_so : c.in_ok-borrowable.borrowable ≡ false = c.if-borrowable.false in
      cc,
  subst (λ (o : Option ℕ). IfNone o (IsMovable (facts_in c.args.types.now c.args.f.now) c.args.f.now c.args.p c.args.copied.value c.args.copied.operand → ⊥)) c.in-None.is
      c.in_ok-target.ensures.none,
)
