use Rattle.std.proofs.Common.{◌≡◌, ◌+◌, refl, sym, ap, ◌∙◌, subst, arith, true, false, replicate}
use Rattle.reach_engine.specs.inner.Bits.{bit_in}
use Rattle.reach_engine.proofs.ColumnTaken.{Taking, take_yes, take_no, take_none}
use Rattle.reach_engine.proofs.RowsAreExact.{zero_bits}
use Rattle.reach_engine.proofs.bundle.take_column.Goals as goal
use Rattle.reach_engine.proofs.bundle.take_column.Goals.{then-has_bit, else-has_bit}

pub loop-state-init : goal.loop-state-init
loop-state-init c = record {
  taking = take_none c.args.states c.args.width c.args.subject c.args.bundle.now (replicate 4 0) refl;
  off = λ s le. zero_bits (replicate 4 0) 4 s refl;
}

pub loop-state-preserved : goal.loop-state-preserved
loop-state-preserved c = elim c.if-has_bit.branch [
  | then-has_bit w ↦ record {
    taking = subst (λ b. Taking c.args.states c.args.width c.args.subject c.args.bundle.now b c.if-has_bit.taken (c.loop-state.state + 1)) (sym w.bundle-is)
        (subst (λ t. Taking c.args.states c.args.width c.args.subject c.args.bundle.now w.clear_bit.new.words t (c.loop-state.state + 1)) (sym w.taken-is)
        (take_yes c.args.states c.args.width c.args.subject c.args.bundle.now c.loop-state.bundle w.clear_bit.new.words c.loop-state.taken w.set_bit.new.words c.loop-state.state c.requires.subject
        c.loop-state-test.true c.loop-state.invariant.taking
        (c.has_bit.ensures.0 w.if-has_bit.true) w.clear_bit.auto.words w.clear_bit.ensures.same w.clear_bit.ensures.others w.set_bit.auto.words w.set_bit.ensures.same w.set_bit.ensures.others));
    off = λ s le. ap (λ t. bit_in t s) w.taken-is ∙ w.set_bit.ensures.others s (omega arith) ∙ c.loop-state.invariant.off s (omega arith);
  }
  | else-has_bit w ↦ record {
    taking = subst (λ b. Taking c.args.states c.args.width c.args.subject c.args.bundle.now b c.if-has_bit.taken (c.loop-state.state + 1)) (sym w.bundle-is)
        (subst (λ t. Taking c.args.states c.args.width c.args.subject c.args.bundle.now c.loop-state.bundle t (c.loop-state.state + 1)) (sym w.taken-is)
        (take_no c.args.states c.args.width c.args.subject c.args.bundle.now c.loop-state.bundle c.loop-state.taken c.loop-state.state c.loop-state-test.true c.loop-state.invariant.taking
        (λ h. false_true (sym w.if-has_bit.false ∙ c.has_bit.ensures.1 h)) (c.loop-state.invariant.off c.loop-state.state (omega arith))));
    off = λ s le. ap (λ t. bit_in t s) w.taken-is ∙ c.loop-state.invariant.off s (omega arith);
  }
]
  where
    false_true : false ≡ true → ⊥
    false_true h = cc
