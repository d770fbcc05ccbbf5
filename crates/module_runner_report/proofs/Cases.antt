-- The case that an enum is in.
use Rattle.std.proofs.Common.{◌≡◌, ◌∙◌, ℕ, List, [], Option, Some, None, map, slice_get, sym, ap}
use Rattle.std.specs.Prelude.{option_map}
use Rattle.std.proofs.lemmas.Option.{slice_get-map}
use Rattle.holder_model.specs.declared.left_object.LeftObject.{LeftObject}
use Rattle.holder_model.specs.RunReport.ValueTexts.{case_words, chosen_words}
use Rattle.holder_model_values.specs.RunValues.Layers.{CaseLayer}
use Rattle.holder_model_values.specs.RunValues.Values.{Value, case_of}
use Rattle.holder_model_values.specs.declared.run_values.value.Val.{Val}
use Rattle.holder_model_values.specs.declared.run_values.value.Val.TheVariants as val
use Rattle.sil_ast.specs.declared.type_name.TypeName.{TypeName}
use Rattle.sil_types_declarations.specs.TypeDefinitions.Declarations.{Declarations}
use Rattle.module_runner_report.specs.RunOutcomes.{value_of}
use Rattle.module_runner_report.specs.inner.Texts.{case_text, case_writer, chosen_text}
use Rattle.module_runner_report.proofs.Parts.{case-Chosen}

module _ (d : Declarations) (left : List LeftObject) (cases : List (CaseLayer TypeName)) (v : Val) (k : ℕ) (payload : Option Val) where
  abbrev told : Option Value
  told = option_map value_of payload

  by_place : v ≡ val.Chosen k payload → case_text d left cases (value_of v) ≡ case_words (option_map (case_writer d left) (slice_get cases k)) told
  by_place is =
      ap (λ c. chosen_words (map (case_writer d left) cases) c) (ap (λ x. case_of (value_of x)) is ∙ case-Chosen k payload)
      ∙ ap (λ c. case_words c told) (slice_get-map (case_writer d left) cases k)

  pub case_shown : (c : CaseLayer TypeName) → v ≡ val.Chosen k payload → Some c ≡ slice_get cases k → case_text d left cases (value_of v) ≡ chosen_text d left c told
  case_shown c is found = by_place is ∙ ap (λ o. case_words (option_map (case_writer d left) o) told) (sym found)

  pub case_not_shown : v ≡ val.Chosen k payload → None ≡ slice_get cases k → case_text d left cases (value_of v) ≡ []
  case_not_shown is found = by_place is ∙ ap (λ o. case_words (option_map (case_writer d left) o) told) (sym found)
