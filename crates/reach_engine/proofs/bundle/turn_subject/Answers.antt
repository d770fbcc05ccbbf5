use Rattle.std.proofs.Common.{◌≡◌, ◌+◌, ◌*◌, ◌<◌, ℕ, sym, subst, ◌∙◌, arith, true, false}
use Rattle.reach_engine.specs.declared.scan.Step.{Step}
use Rattle.reach_engine.specs.inner.Columns.{Has}
use Rattle.reach_engine.proofs.SubjectTurned.{Turning, turn_put, turn_skip}
use Rattle.reach_engine.proofs.bundle.turn_subject.Goals as goal
use Rattle.reach_engine.proofs.bundle.turn_subject.Goals.{then-has_bit, else-has_bit}

pub loop-state-preserved : goal.loop-state-preserved
loop-state-preserved g c =
    let f : ℕ → ℕ → Step = g.S.Scan.step_of c.args.scan.now in
    let states : ℕ = g.S.Scan.state_count c.args.scan.now in
    let lu : c.args.subject < 64 * c.args.width = c.requires.subject in
    let within : c.loop-state.state < c.states-states.result = c.loop-state-test.true in
    let taken = c.take_column-taken.ensures.taken c.loop-state.state within in
    elim c.if-has_bit.branch [
      | then-has_bit w ↦
          let put = turn_put f states c.args.width c.args.subject c.args.item lu c.args.bundle.now c.loop-state.bundle w.put.new.bundle c.args.bad.now c.loop-state.bad w.put.new.bad c.loop-state.state
          c.loop-state.invariant (taken.0 (c.has_bit.ensures.0 w.if-has_bit.true)) w.put.auto.bundle w.put.auto.bad w.put.ensures in
          subst (λ b. Turning f states c.args.width c.args.subject c.args.item c.args.bundle.now b c.args.bad.now c.if-has_bit.bad (c.loop-state.state + 1)) (sym w.bundle-is)
          (subst (λ d. Turning f states c.args.width c.args.subject c.args.item c.args.bundle.now w.put.new.bundle c.args.bad.now d (c.loop-state.state + 1)) (sym w.bad-is) put)
      | else-has_bit w ↦
          let none : Has c.args.bundle.now c.args.width c.loop-state.state c.args.subject → ⊥ = λ h. false_true (sym w.if-has_bit.false ∙ c.has_bit.ensures.1 (taken.1 h)) in
          let skip =
          turn_skip f states c.args.width c.args.subject c.args.item lu c.args.bundle.now c.loop-state.bundle c.args.bad.now c.loop-state.bad c.loop-state.state c.loop-state.invariant none in
          subst (λ b. Turning f states c.args.width c.args.subject c.args.item c.args.bundle.now b c.args.bad.now c.if-has_bit.bad (c.loop-state.state + 1)) (sym w.bundle-is)
          (subst (λ d. Turning f states c.args.width c.args.subject c.args.item c.args.bundle.now c.loop-state.bundle c.args.bad.now d (c.loop-state.state + 1)) (sym w.bad-is) skip)
    ]
  where
    false_true : false ≡ true → ⊥
    false_true h = cc

pub returns-clause-moved : goal.returns-clause-moved
returns-clause-moved g c =
    let kept = c.loop-state.invariant in
    record {
      from = λ t lt has. let came = kept.from t lt has in (came.0, omega (arith, came.1, c.loop-state.auto.state-end, c.states-states.ensures), came.2, came.3);
      to = λ s t ls had goes. kept.to s t (omega (arith, ls, c.loop-state-test.false, c.states-states.ensures)) had goes;
    }
