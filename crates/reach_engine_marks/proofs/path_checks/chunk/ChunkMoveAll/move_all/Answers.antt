use Rattle.std.proofs.Common.{ℕ, ◌+◌, List, [], ◌∷◌, ◌++◌, ◌∙◌, ap₂}
use Rattle.reach_engine.specs.declared.scan.Step.{Step}
use Rattle.reach_engine.specs.declared.scan.Step.TheVariants.{Go}
use Rattle.reach_engine.specs.inner.Run.{run}
use Rattle.reach_engine.proofs.SubjectsMoved.{AllMoved_as}
use Rattle.reach_engine_marks.specs.PathPatterns.inner.Reads.{read_step}
use Rattle.reach_engine_marks.specs.PathPatterns.inner.Automaton.{mark_step}
use Rattle.reach_engine_marks.specs.declared.path_checks.entry.Entry.{Entry}
use Rattle.reach_engine_marks.specs.PathChecks.Entries.{means}
use Rattle.reach_engine_marks.specs.PathChecks.inner.Automata.{subject_step}
use Rattle.reach_engine_marks.specs.PathChecks.inner.Shared.{entries_among}
use Rattle.reach_engine_marks.proofs.PathChecks.EntriesPassed.{passed_then}
use Rattle.reach_engine_marks.proofs.path_checks.chunk.ChunkMoveAll.move_all.Goals as goal

pub returns : goal.returns
returns c =
    let own : List Entry = c.at-own.result.now in
    let shared : List Entry = c.shared_at-shared.result.now in
    let all : List Entry = own ++ shared in
    let step : ℕ → ℕ → Entry → Step = λ u. read_step mark_step (means (c.args.self.now.first + u)) in
    let passed = passed_then c.args.self.now.first c.args.self.now.count c.args.width own shared c.args.bundle.now c.pass_entries.new.bundle c.pass_entries-2.new.bundle c.args.bad.now
    c.pass_entries.new.bad c.pass_entries-2.new.bad
    (c.pass_entries.auto.bundle ∙ c.requires.size) c.pass_entries.ensures c.pass_entries-2.ensures in
    AllMoved_as (λ u s _. run (step u) (Go s) all) (λ u. subject_step (entries_among c.args.self.now.entries.now c.args.self.now.shared.now c.args.self.now.sharing.now) (c.args.self.now.first + u)) 2
    c.args.self.now.count c.args.width
    (0 ∷ []) (c.args.item ∷ []) c.args.bundle.now c.pass_entries-2.new.bundle c.args.bad.now c.pass_entries-2.new.bad
    (λ u s lu ls. ap₂ (λ v w. run (step u) (Go s) (v ++ w)) c.at-own.ensures c.shared_at-shared.ensures) passed
