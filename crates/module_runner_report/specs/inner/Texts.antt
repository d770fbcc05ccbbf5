-- The texts of values by their types, layer by layer.
use Rattle.std.specs.Prelude.{◌≡◌, ℕ, List, [], ◌++◌, Option, Some, None, map, option_map, codes}
use Rattle.holder_model.specs.declared.left_object.LeftObject.{LeftObject}
use Rattle.module_runner_report.specs.declared.layers.TypeLayer.{TypeLayer}
use Rattle.module_runner_report.specs.declared.layers.TypeLayer.TheVariants as layer
use Rattle.module_runner_report.specs.declared.outcome.Ending.{Ending}
use Rattle.module_runner_report.specs.declared.outcome.Ending.TheVariants.{Returned, Trap, OutOfTurns}
use Rattle.module_runner_report.specs.inner.Layers.{cases_in, types_in}
use Rattle.module_runner_report.specs.RunOutcomes.{value_of}
use Rattle.holder_model.specs.RunReport.ReportLines.{class_among, left_lines, trap_words}
use Rattle.holder_model.specs.RunReport.ValueTexts.{Writer, case_words, chosen_words, grouped, if_integer, if_object, payload_words, text_itself, texts_of}
use Rattle.holder_model.specs.RunReport.ValueTexts.{value_text}
use Rattle.holder_model.specs.RunTyping.Runnable.{IsRunnable}
use Rattle.holder_model_values.specs.RunValues.Layers.{CaseLayer}
use Rattle.holder_model_values.specs.RunValues.Shapes.{shape_of}
use Rattle.holder_model_values.specs.RunValues.Values.{Value, case_of, integer_of, members_of, object_of}
use Rattle.holder_model_values.specs.declared.run_values.value.Val.{Val}
use Rattle.sil_ast.specs.declared.module.Module.{Module}
use Rattle.sil_ast.specs.declared.type_name.TypeName.{TypeName}
use Rattle.sil_printer.specs.Words.{line, listed, separator_before}
use Rattle.sil_types_declarations.specs.TypeDefinitions.Declarations.{Declarations, declarations_of}

-- the declarations are those of a module that can be run
abbrev pub AreOfRunnable : Declarations → Type 0
AreOfRunnable d = (m : Module) × IsRunnable m × (d ≡ declarations_of m)

module _ (d : Declarations) (left : List LeftObject) where
  -- a value of the type
  abbrev pub text_of : TypeName → Writer
  text_of t = value_text (class_among left) (shape_of d t)

  -- members of these types, with a comma between two
  abbrev pub members_text : List TypeName → List Value → List ℕ
  members_text ts vs = listed text_itself (texts_of (map text_of ts) vs)

  -- the i-th member, if there is a type for it
  abbrev pub member_text : ℕ → Value → Option TypeName → List ℕ
  member_text i v None = []
  member_text i v (Some t) = separator_before (codes ", ") i ++ text_of t v

  -- the members of a value of these types
  abbrev pub group_text : List TypeName → Writer
  group_text ts v = grouped (map text_of ts) (members_of v)

  abbrev pub case_writer : CaseLayer TypeName → CaseLayer Writer
  case_writer c = record { name = c.name; payload = option_map text_of c.payload }

  -- a case with its payload, if it has one
  abbrev pub chosen_text : CaseLayer TypeName → Option Value → List ℕ
  chosen_text c payload = case_words (Some (case_writer c)) payload

  -- the payload of a case that has one of this type
  abbrev pub payload_text : TypeName → Option Value → List ℕ
  payload_text t payload = payload_words (Some (text_of t)) payload

  -- the case that a value is in, of an enum with these cases
  abbrev pub case_text : List (CaseLayer TypeName) → Writer
  case_text cases v = chosen_words (map case_writer cases) (case_of v)

  -- a value of a type with this layer outermost
  abbrev pub layer_text : TypeLayer → Writer
  layer_text layer.Integer v = if_integer (integer_of v)
  layer_text layer.Reference v = if_object (class_among left) (object_of v)
  layer_text (layer.Group name types) v = name.now ++ group_text (types_in types) v
  layer_text (layer.Enum name cases) v = name.now ++ case_text (cases_in cases) v
  layer_text layer.Unknown v = []

  -- the value that was returned, and the objects that are left
  abbrev pub returned_text : TypeName → Val → List ℕ
  returned_text t v = line (codes "returned " ++ text_of t (value_of v)) ++ left_lines left

  -- how the run ended
  abbrev pub ending_text : TypeName → Ending → List ℕ
  ending_text t (Returned v) = returned_text t v
  ending_text t (Trap reason) = line (codes "trap " ++ trap_words reason)
  ending_text t OutOfTurns = line (codes "out of turns")
