use Rattle.std.proofs.Common.{List, take, sym, ◌∙◌, subst}
use Rattle.std.proofs.lemmas.List.{take_more}
use Rattle.reach_engine_marks.specs.declared.path_checks.entry.Entry.{Entry}
use Rattle.reach_engine_marks.specs.KeptSubjects.inner.Settled.{ArePassed}
use Rattle.reach_engine_marks.proofs.KeptSubjects.EntriesSettled.{passed_then}
use Rattle.reach_engine_marks.proofs.kept_subjects.settling.pass_entries.Goals as goal

pub loop-entry-preserved : goal.loop-entry-preserved
loop-entry-preserved c = record {
  size = c.pass_entry.auto.bundle ∙ c.loop-entry.invariant.size;
  bad_size = c.pass_entry.auto.bad ∙ c.loop-entry.invariant.bad_size;
  passed =
      let P : List Entry → Type 0 = λ v. ArePassed c.args.first c.args.count c.args.width v c.args.bundle.now c.pass_entry.new.bundle c.args.bad.now c.pass_entry.new.bad in
      subst P (sym (take_more c.args.entries.now c.loop-entry.entry-index _ c.loop-entry-test.true))
      (passed_then c.args.first c.args.count c.args.width (take c.loop-entry.entry-index c.args.entries.now) _ c.args.bundle.now c.loop-entry.bundle c.pass_entry.new.bundle c.args.bad.now
      c.loop-entry.bad c.pass_entry.new.bad
      c.loop-entry.invariant.size c.loop-entry.invariant.passed c.pass_entry.ensures);
}
