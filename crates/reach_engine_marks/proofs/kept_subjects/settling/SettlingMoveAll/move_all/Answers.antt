use Rattle.std.proofs.Common.{ℕ, ◌+◌, List, [], ◌∷◌, ap}
use Rattle.reach_engine.specs.declared.scan.Step.{Step}
use Rattle.reach_engine.specs.declared.scan.Step.TheVariants.{Go}
use Rattle.reach_engine.specs.inner.Run.{run}
use Rattle.reach_engine.proofs.SubjectsMoved.{AllMoved_as}
use Rattle.number_tables.specs.PathLists.inner.Lists.{list_at}
use Rattle.reach_engine_marks.specs.PathPatterns.inner.Reads.{read_step}
use Rattle.reach_engine_marks.specs.declared.path_checks.entry.Entry.{Entry}
use Rattle.reach_engine_marks.specs.PathChecks.Entries.{means}
use Rattle.reach_engine_marks.specs.KeptSubjects.inner.Settled.{settled_step, subject_settled}
use Rattle.reach_engine_marks.proofs.kept_subjects.settling.SettlingMoveAll.move_all.Goals as goal

pub returns : goal.returns
returns c =
    let own : List Entry = c.at-own.result.now in
    let step : ℕ → ℕ → Entry → Step = λ u. read_step settled_step (means (c.args.self.now.first + u)) in
    AllMoved_as (λ u s _. run (step u) (Go s) own) (λ u. subject_settled (list_at c.args.self.now.entries.now) (c.args.self.now.first + u)) 3
    c.args.self.now.count c.args.width
    (0 ∷ []) (c.args.item ∷ []) c.args.bundle.now c.pass_entries.new.bundle c.args.bad.now c.pass_entries.new.bad
    (λ u s lu ls. ap (λ v. run (step u) (Go s) v) c.at-own.ensures) c.pass_entries.ensures
