-- How a returned value is written, as a value of its shape.
use Rattle.std.specs.Prelude.{ℕ, ℤ, List, [], ◌∷◌, ◌++◌, Option, Some, None, codes, decimal, slice_get, unwrap_or}
use Rattle.std.specs.Fmt.{signed_decimal}
use Rattle.sil_ast.specs.declared.place.ObjectId.{ObjectId}
use Rattle.ownership_kinds_origins.specs.numbered_form.Names.{Name}
use Rattle.sil_printer.specs.Words.{in_parens}
use Rattle.holder_model_values.specs.RunValues.Layers.{CaseLayer, Layer, Integer, Reference, Struct, Tuple, Enum, Stored, Unknown}
use Rattle.holder_model_values.specs.RunValues.Shapes.{Shape, by_layers}
use Rattle.holder_model_values.specs.RunValues.Values.{ChosenCase, Value, case_of, integer_of, members_of, object_of}

-- how the values of a shape are written
abbrev pub Writer : Type 0
Writer = Value → List ℕ

-- `NAME#3`, by the class that was allocated
abbrev pub object_text : Name → ObjectId → List ℕ
object_text class o = class ++ codes "#" ++ decimal o.0

abbrev pub if_integer : Option ℤ → List ℕ
if_integer None = []
if_integer (Some n) = signed_decimal n

abbrev pub texts_of : List Writer → List Value → List (List ℕ)
texts_of [] vs = []
texts_of (w ∷ ws) [] = []
texts_of (w ∷ ws) (v ∷ vs) = w v ∷ texts_of ws vs

abbrev pub text_itself : List ℕ → List ℕ
text_itself text = text

-- `(1, 2)`
abbrev pub grouped : List Writer → Option (List Value) → List ℕ
grouped ws vs = in_parens text_itself (texts_of ws (unwrap_or vs []))

abbrev pub payload_words : Option Writer → Option Value → List ℕ
payload_words None v = []
payload_words (Some w) None = []
payload_words (Some w) (Some v) = codes "(" ++ w v ++ codes ")"

-- `.case`, or `.case(1)`
abbrev pub case_words : Option (CaseLayer Writer) → Option Value → List ℕ
case_words None v = []
case_words (Some c) v = codes "." ++ c.name ++ payload_words c.payload v

abbrev pub chosen_words : List (CaseLayer Writer) → Option ChosenCase → List ℕ
chosen_words cases None = []
chosen_words cases (Some c) = case_words (slice_get cases c.index) c.payload

module _ (class_of : ObjectId → Name) where
  abbrev pub if_object : Option ObjectId → List ℕ
  if_object None = []
  if_object (Some o) = object_text (class_of o) o

  abbrev pub text_layer : Layer Writer → Writer
  text_layer (Integer width) v = if_integer (integer_of v)
  text_layer (Reference class) v = if_object (object_of v)
  text_layer (Struct name fields) v = name ++ grouped fields (members_of v)
  text_layer (Tuple elements) v = grouped elements (members_of v)
  text_layer (Enum name cases) v = name ++ chosen_words cases (case_of v)
  text_layer (Stored storage inner) v = inner v
  text_layer Unknown v = []

  -- a value of the shape
  abbrev pub value_text : Shape → Value → List ℕ
  value_text s v = by_layers text_layer s v
