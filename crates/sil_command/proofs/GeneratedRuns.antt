-- What is told of the runs of a generated module.
use Rattle.std.proofs.Common.{◌≡◌, ℕ, List, length, subst}
use Rattle.std.specs.Prelude.{codes, false, true, IfOk, Result, Ok, Err}
use Rattle.sil_verifier.specs.holder_model.Faults.{HolderFault}
use Rattle.sil_verifier.specs.holder_model.Outcomes.{EndsSo}
use Rattle.sil_verifier.specs.holder_model.States.{Faulted}
use Rattle.module_runner.specs.LoweredRuns.{LoweredNeverFaults}
use Rattle.module_runner.specs.module_runner_report.RunOutcomes.{ending_of}
use Rattle.module_runner.specs.module_runner_report.declared.outcome.Ending.{Ending as Reported}
use Rattle.module_runner.specs.module_runner_report.declared.outcome.Ending.TheVariants as reported
use Rattle.module_runner.specs.Optimising.{IsOptimisedIf}
use Rattle.module_runner.specs.declared.report.RunReport.{RunReport}
use Rattle.module_runner.specs.inner.RunReports.{TellsOfRun, outcome_of}
use Rattle.sil_ast.specs.declared.module.Module.{Module}
use Rattle.sil_command.specs.declared.run_words.TheConstants.{DEFAULT_TURNS}
use Rattle.sil_command.specs.declared.status.Status.TheVariants.{Done}
use Rattle.sil_command_lines.specs.declared.sums.Totals.{Totals}
use Rattle.sil_command.specs.Generated.{AnswersGenerated, Ran, RunsSo, both_ran, totals_of}
use Rattle.sil_command.specs.Statuses.{code_of}
use Rattle.sil_command_lines.specs.Summaries.{summary_text}
use Rattle.module_runner.specs.copy_pairing_model.Counts.{copies_of}

-- what is reported is no fault
no_fault : (e : Reported) (fault : HolderFault) → ending_of e ≡ Faulted fault → ⊥
no_fault (reported.Returned x) fault is = cc
no_fault (reported.Trap t) fault is = cc
no_fault reported.OutOfTurns fault is = cc

pub ran_so : (m : Module) (r : RunReport) → TellsOfRun m (codes "main") DEFAULT_TURNS false r → RunsSo m (outcome_of r)
ran_so m r tells = record {
  entry = tells.entry;
  function = tells.function;
  begins = tells.begins;
  ends = subst (λ k. EndsSo k tells.entry DEFAULT_TURNS (outcome_of r)) tells.tells.optimised tells.tells.ends;
  faultless = no_fault r.ending;
  lowered_faultless = subst (λ k. LoweredNeverFaults k tells.entry DEFAULT_TURNS) tells.tells.optimised tells.tells.never_faults;
}

-- what follows from two facts on a result
pub both_kept : {A E : Type 0} (r : Result A E) (P Q R : A → Type 0) → ((a : A) → P a → Q a → R a) → IfOk r P → IfOk r Q → IfOk r R
both_kept (Ok a) P Q R f p q = f a p q
both_kept (Err e) P Q R f p q = tt

-- the lines are those of the two runs
pub summed_up : (m k : Module) (x y : Ran) (functions before after : ℕ) (plain optimised : Totals) (text : List ℕ) → IsOptimisedIf true m k → RunsSo m x → RunsSo k y
    → functions ≡ length m.functions → before ≡ copies_of m → after ≡ copies_of k → plain ≡ totals_of x → optimised ≡ totals_of y
    → text ≡ summary_text functions before after plain optimised → AnswersGenerated m text (code_of Done)
summed_up m k x y functions before after plain optimised text left first second at_functions at_before at_after at_plain at_optimised is =
    rw (is, at_functions, at_before, at_after, at_plain, at_optimised) (both_ran k x y left first second)
