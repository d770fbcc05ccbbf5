use Rattle.std.proofs.Common.{ℕ, ◌+◌, ◌++◌, List, sym, ap, ap₂, ◌∙◌}
use Rattle.reach_engine.specs.declared.scan.Step.{Step}
use Rattle.reach_engine.specs.declared.scan.Step.TheVariants.{Go}
use Rattle.reach_engine.specs.inner.Run.{run}
use Rattle.reach_engine.proofs.Runs.{run_join, run_end_bad}
use Rattle.reach_engine_marks.specs.PathPatterns.inner.Reads.{read_step}
use Rattle.reach_engine_marks.specs.PathPatterns.inner.Automaton.{mark_step}
use Rattle.reach_engine_marks.specs.declared.path_checks.entry.Entry.{Entry}
use Rattle.reach_engine_marks.specs.PathChecks.Entries.{means}
use Rattle.reach_engine_marks.specs.PathChecks.inner.Shared.{if_sharing, is_sharing}
use Rattle.reach_engine_marks.proofs.path_checks.chunk.ChunkFamily.step.Goals as goal

pub returns-in-Go-clause-step : goal.returns-in-Go-clause-step
returns-in-Go-clause-step c =
    let step : ℕ → Entry → Step = read_step mark_step (means (c.args.self.now.first + c.args.subject)) in
    sym (run_join step (Go c.args.state) c.at.result.now c.shared_at.result.now c.in-Go.next _ (sym c.in-Go.ensures.step) (sym c.step_all-in-Go.ensures.step))
    ∙ ap₂ (λ (v w : List Entry). run step (Go c.args.state) (v ++ w)) c.at.ensures c.shared_at.ensures

pub returns-in-Bad-clause-step : goal.returns-in-Bad-clause-step
returns-in-Bad-clause-step c =
    let step : ℕ → Entry → Step = read_step mark_step (means (c.args.self.now.first + c.args.subject)) in
    let shared : List Entry = if_sharing c.args.self.now.shared.now (is_sharing c.args.self.now.sharing.now c.args.item) in
    sym (run_end_bad step (Go c.args.state) c.at.result.now shared c.in-Bad.code (sym c.in-Bad.ensures.step)) ∙ ap (λ (v : List Entry). run step (Go c.args.state) (v ++ shared)) c.at.ensures
