use Rattle.std.proofs.Common.{◌*◌, ◌<◌, List, ℕ, refl, arith, length, get_or}
use Rattle.reach_engine.proofs.SubjectsMoved.{turned_more, turned_all}
use Rattle.reach_engine.proofs.bundle.turn_touched.Goals as goal

pub loop-subject-preserved : goal.loop-subject-preserved
loop-subject-preserved g c =
    let ts : List ℕ = c.args.touched.now in
    let below : (i : ℕ) → i < length ts → get_or ts i 0 < 64 * c.args.width = λ i l. omega (arith, c.requires.below i 0 l, c.requires.fits) in
    turned_more (g.F.Family.step_of c.args.family.now) (g.F.Family.state_count c.args.family.now) c.args.width c.args.item ts c.args.bundle.now c.loop-subject.bundle c.turn_subject.new.bundle
    c.args.bad.now c.loop-subject.bad c.turn_subject.new.bad
    c.loop-subject.subject-index (get_or ts c.loop-subject.subject-index 0) refl c.requires.ascending c.loop-subject-test.true below c.turn_subject.auto.bundle c.turn_subject.auto.bad
    c.loop-subject.invariant c.turn_subject.ensures.moved c.turn_subject.ensures.others c.turn_subject.ensures.blamed c.turn_subject.ensures.innocent

pub returns : goal.returns
returns g c =
    let ts : List ℕ = c.args.touched.now in
    let below : (i : ℕ) → i < length ts → get_or ts i 0 < g.F.Family.subject_count c.args.family.now = λ i l. c.requires.below i 0 l in
    turned_all (g.F.Family.step_of c.args.family.now) (g.F.Family.state_count c.args.family.now) (g.F.Family.subject_count c.args.family.now) c.args.width c.args.item ts c.args.bundle.now
    c.loop-subject.bundle c.args.bad.now c.loop-subject.bad
    c.loop-subject.subject-index (omega arith) (omega arith) c.requires.fits below c.requires.others c.requires.size c.loop-subject.invariant
