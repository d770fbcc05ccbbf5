-- The report of an outcome, as it is put together.
use Rattle.std.proofs.Common.{◌≡◌, ◌∙◌, ℕ, List, [], ◌++◌, refl, ap, ap₂}
use Rattle.std.specs.Prelude.{IfOk, Result, Ok, Err}
use Rattle.std.specs.List.{flat_map}
use Rattle.holder_model.specs.Faults.{HolderFault}
use Rattle.holder_model.specs.declared.left_object.LeftObject.{LeftObject}
use Rattle.holder_model.specs.RunReport.ReportLines.{count_line, ending_lines, event_line, report}
use Rattle.holder_model_values.specs.RunValues.Shapes.{shape_of}
use Rattle.sil_ast.specs.declared.module.Module.{Module}
use Rattle.sil_ast.specs.declared.type_name.TypeName.{TypeName}
use Rattle.sil_types_declarations.specs.TypeDefinitions.Declarations.{Declarations}
use Rattle.module_runner_report.specs.RunOutcomes.{ending_of, outcome_of}
use Rattle.module_runner_report.specs.declared.outcome.Ending.{Ending}
use Rattle.module_runner_report.specs.declared.outcome.Ending.TheVariants.{Returned, Trap, OutOfTurns}
use Rattle.module_runner_report.specs.declared.outcome.RunOutcome.{RunOutcome}
use Rattle.module_runner_report.specs.inner.Texts.{ending_text}

module _ (m : Module) (d : Declarations) (t : TypeName) where
  ending_is : (left : List LeftObject) (e : Ending) → ending_text d left t e ≡ ending_lines {X = HolderFault} m (shape_of d t) (ending_of e) left
  ending_is left (Returned v) = refl
  ending_is left (Trap reason) = refl
  ending_is left OutOfTurns = refl

  pub whole : {E : Type 0} (result : Result (List ℕ) E) (r : RunOutcome) (start told ended counted : List ℕ) → start ≡ []
      → told ≡ start ++ flat_map (event_line m) r.events.now → ended ≡ told ++ ending_text d r.left.now t r.ending.now
      → counted ≡ ended ++ count_line r.retains r.releases → IfOk result (λ text. text ≡ counted)
      → IfOk result (λ text. text ≡ report m (shape_of d t) (outcome_of r))
  whole (Ok text) r start told ended counted at_start at_told at_ended at_counted made =
      let events = flat_map (event_line m) r.events.now in
      let counts = count_line r.retains r.releases in
      made ∙ at_counted
      ∙ ap (λ l. l ++ counts) (at_ended ∙ ap₂ (λ a b. a ++ b) (at_told ∙ ap (λ l. l ++ events) at_start) (ending_is r.left.now r.ending.now))
  whole (Err e) r start told ended counted at_start at_told at_ended at_counted made = made
