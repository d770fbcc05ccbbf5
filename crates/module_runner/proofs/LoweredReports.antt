-- A report names functions by their names and classes by those of objects, so that of a lowered module is that of the module itself.
use Rattle.std.proofs.Common.{◌≡◌, ◌∙◌, List, [], ◌∷◌, ◌++◌, Option, Some, None, option_map, slice_get, refl, ap, ap₂}
use Rattle.std.specs.Prelude.{codes, unwrap_or}
use Rattle.std.specs.Fmt.{signed_decimal}
use Rattle.std.specs.List.{flat_map}
use Rattle.std.proofs.lemmas.Option.{slice_get-map}
use Rattle.holder_model.specs.Faults.{HolderFault}
use Rattle.holder_model.specs.Outcomes.{Outcome}
use Rattle.holder_model.specs.States.{Ending, Faulted, OutOfTurns, Returned, Trapped}
use Rattle.holder_model.specs.declared.event.Event.{Event}
use Rattle.holder_model.specs.declared.event.Event.TheVariants as event
use Rattle.holder_model.specs.declared.left_object.LeftObject.{LeftObject}
use Rattle.numbered_form.specs.Names.{function_name}
use Rattle.ownership_lowering_model.specs.LoweredModules.{lowered, lowered_by, lowered_function}
use Rattle.holder_model.specs.RunReport.ReportLines.{count_line, ending_lines, event_line, name_of, report}
use Rattle.holder_model_values.specs.RunValues.Shapes.{Shape}
use Rattle.sil_ast.specs.declared.function.Form.{Form}
use Rattle.sil_ast.specs.declared.function.Form.TheVariants.{External, Lowered, Ossa}
use Rattle.sil_ast.specs.declared.function.Function.{Function}
use Rattle.sil_ast.specs.declared.module.Module.{Module}
use Rattle.sil_ast.specs.declared.place.FuncId.{FuncId}
use Rattle.sil_printer.specs.Words.{in_parens, line}
use Rattle.sil_types_declarations.specs.TypeDefinitions.Declarations.{Declarations, declarations_of}

name_by : (o : Form) (d : Declarations) (f : Function) → (lowered_by o d f).name ≡ f.name
name_by Ossa d f = refl
name_by Lowered d f = refl
name_by External d f = refl

module _ (m : Module) where
  name_found : (f : Option Function)
      → unwrap_or (option_map function_name (option_map (lowered_function (declarations_of m)) f)) [] ≡ unwrap_or (option_map function_name f) []
  name_found None = refl
  name_found (Some f) = name_by f.form (declarations_of m) f

  name_lowered : (g : FuncId) → name_of (lowered m) g ≡ name_of m g
  name_lowered g =
      ap (λ f. unwrap_or (option_map function_name f) []) (slice_get-map (lowered_function (declarations_of m)) m.functions g.0)
      ∙ name_found (slice_get m.functions g.0)

  event_lowered : (x : Event) → event_line (lowered m) x ≡ event_line m x
  event_lowered (event.Call g args) = ap (λ n. line (codes "call @" ++ n ++ in_parens signed_decimal args)) (name_lowered g)
  event_lowered (event.Deinit class o) = refl

  events_lowered : (xs : List Event) → flat_map (event_line (lowered m)) xs ≡ flat_map (event_line m) xs
  events_lowered [] = refl
  events_lowered (x ∷ xs) = ap₂ (λ a b. a ++ b) (event_lowered x) (events_lowered xs)

  ending_lowered : (S : Shape) (x : Ending HolderFault) (left : List LeftObject) → ending_lines (lowered m) S x left ≡ ending_lines m S x left
  ending_lowered S (Returned x) left = refl
  ending_lowered S (Trapped t) left = refl
  ending_lowered S OutOfTurns left = refl
  ending_lowered S (Faulted x) left = refl

  pub report_lowered : (S : Shape) (o : Outcome HolderFault) → report (lowered m) S o ≡ report m S o
  report_lowered S o =
      ap₂ (λ a b. a ++ b ++ count_line o.retains o.releases) (events_lowered o.events) (ending_lowered S o.ending o.left)
