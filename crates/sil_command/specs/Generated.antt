-- What `generate` answers to an accepted module: five lines on the module, on the optimised one, and on the runs of both.
use Rattle.std.specs.Prelude.{◌≡◌, ℕ, List, length, codes, true}
use Rattle.module_runner.specs.Entries.{IsEntry}
use Rattle.module_runner.specs.LoweredRuns.{LoweredNeverFaults}
use Rattle.sil_verifier.specs.holder_model.Faults.{HolderFault}
use Rattle.module_runner.specs.Optimising.{IsOptimisedIf}
use Rattle.sil_verifier.specs.holder_model.Outcomes.{EndsSo, Outcome}
use Rattle.sil_verifier.specs.holder_model.States.{Faulted}
use Rattle.sil_ast.specs.declared.function.Function.{Function}
use Rattle.sil_ast.specs.declared.module.Module.{Module}
use Rattle.sil_ast.specs.declared.place.FuncId.{FuncId}
use Rattle.sil_command.specs.declared.run_words.TheConstants.{DEFAULT_TURNS}
use Rattle.sil_command.specs.declared.status.Status.TheVariants.{Done}
use Rattle.sil_command_lines.specs.declared.sums.Totals.{Totals}
use Rattle.sil_command.specs.Statuses.{code_of}
use Rattle.sil_command_lines.specs.Summaries.{summary_text}
use Rattle.module_runner.specs.copy_pairing_model.Counts.{copies_of}

-- a run by holders that ends with this outcome
abbrev pub Ran : Type 0
Ran = Outcome HolderFault

-- the run by holders of the module from `@main`, for the bound on turns that a run has where none is given, ends so. It doesn't end in a
-- fault, and neither does the lowered one
pub record RunsSo (m : Module) (x : Ran) : Type 0 where
  pub entry : FuncId
  pub function : Function
  pub begins : IsEntry m (codes "main") entry function
  pub ends : EndsSo m entry DEFAULT_TURNS x
  pub faultless : (fault : HolderFault) → x.ending ≡ Faulted fault → ⊥
  pub lowered_faultless : LoweredNeverFaults m entry DEFAULT_TURNS

-- what of it is summed up
abbrev pub totals_of : Ran → Totals
totals_of x = record { events = length x.events; retains = x.retains; releases = x.releases }

-- the lines on the module and its run, and on the optimised one and its run
abbrev pub lines_of : Module → Module → Ran → Ran → List ℕ
lines_of m k x y = summary_text (length m.functions) (copies_of m) (copies_of k) (totals_of x) (totals_of y)

-- both modules run
pub data AnswersGenerated (m : Module) : List ℕ → ℕ → Type 0 where
  both_ran : (k : Module) (x y : Ran) → IsOptimisedIf true m k → RunsSo m x → RunsSo k y → AnswersGenerated m (lines_of m k x y) (code_of Done)
