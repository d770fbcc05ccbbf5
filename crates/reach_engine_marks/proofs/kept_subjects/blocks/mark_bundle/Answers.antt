use Rattle.std.proofs.Common.{◌≡◌, ℕ, ◌+◌, ◌<◌, ◌≤◌, List, length, refl, sym, ◌∙◌, subst, Bool, true, false, arith}
use Rattle.reach_engine.specs.inner.Columns.{Has}
use Rattle.reach_engine_marks.specs.KeptSubjects.inner.Broken.{AreMarked}
use Rattle.reach_engine_marks.proofs.KeptSubjects.Marked.{marked_no, marked_none, marked_yes}
use Rattle.reach_engine_marks.proofs.kept_subjects.blocks.mark_bundle.Goals as goal
use Rattle.reach_engine_marks.proofs.kept_subjects.blocks.mark_bundle.Goals.{then-has_bit, else-has_bit}

pub loop-u-init : goal.loop-u-init
loop-u-init c = record { size = refl; marked = marked_none c.args.first (Has c.args.bundle.now c.args.width 2) c.args.broken.now }

pub loop-u-preserved : goal.loop-u-preserved
loop-u-preserved c =
    let IsSo : ℕ → Type 0 = Has c.args.bundle.now c.args.width 2 in
    let P : List Bool → Type 0 = λ marked. AreMarked c.args.first (c.loop-u.u + 1) IsSo c.args.broken.now marked in
    let room : c.args.first + c.args.count ≤ length c.args.broken.now = c.requires.room in
    let same : length c.loop-u.broken ≡ length c.args.broken.now = c.loop-u.invariant.size in
    let lt : c.loop-u.u < c.args.count = c.loop-u-test.true in
    let within : c.args.first + c.loop-u.u < length c.loop-u.broken = omega arith in
    record {
      size = c.if-has_bit.auto.broken ∙ c.loop-u.invariant.size;
      marked = elim c.if-has_bit.branch [
        | then-has_bit w ↦ subst P (sym w.broken-is)
            (marked_yes c.args.first IsSo c.args.broken.now c.loop-u.u c.loop-u.broken c.loop-u.invariant.marked within (c.has_bit.ensures.0 w.if-has_bit.true))
        | else-has_bit w ↦ subst P (sym w.broken-is)
            (marked_no c.args.first IsSo c.args.broken.now c.loop-u.u c.loop-u.broken c.loop-u.invariant.marked
            (λ h. let so : c.has_bit.result ≡ true = c.has_bit.ensures.1 h in let not_so : c.has_bit.result ≡ false = w.if-has_bit.false in cc))
      ];
    }
