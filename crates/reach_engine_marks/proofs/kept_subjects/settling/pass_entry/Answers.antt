use Rattle.std.proofs.Common.{◌≡◌, ◌+◌, ◌-◌, ◌<◌, ◌≤◌, arith}
use Rattle.reach_engine_marks.proofs.KeptSubjects.EntriesSettled.{passed_one, passed_other}
use Rattle.reach_engine_marks.proofs.kept_subjects.settling.pass_entry.Goals as goal

pub returns-then-subject-first : goal.returns-then-subject-first
returns-then-subject-first c =
    let less : c.args.entry.now.subject < c.args.first = c.if-subject-first.true in
    passed_other c.args.first c.args.count c.args.width c.args.entry.now c.args.bundle.now c.args.bad.now (λ u lu same. omega arith)

pub returns-then-distance-count : goal.returns-then-distance-count
returns-then-distance-count c =
    let there : c.args.first ≤ c.args.entry.now.subject = c.if-subject-first.false in
    let own : c.args.entry.now.subject ≡ c.args.first + (c.args.entry.now.subject - c.args.first) = omega arith in
    passed_one c.args.first c.args.count c.args.width c.args.entry.now (c.args.entry.now.subject - c.args.first) c.args.bundle.now c.turn_subject.new.bundle c.args.bad.now c.turn_subject.new.bad
    c.requires.fits c.if-distance-count.true own c.requires.size c.requires.bad c.turn_subject.auto.bundle c.turn_subject.auto.bad
    c.turn_subject.ensures.moved c.turn_subject.ensures.others c.turn_subject.ensures.blamed c.turn_subject.ensures.innocent

pub returns-else-distance-count : goal.returns-else-distance-count
returns-else-distance-count c =
    let there : c.args.first ≤ c.args.entry.now.subject = c.if-subject-first.false in
    let past : c.args.count ≤ c.args.entry.now.subject - c.args.first = c.if-distance-count.false in
    passed_other c.args.first c.args.count c.args.width c.args.entry.now c.args.bundle.now c.args.bad.now (λ u lu same. omega arith)
