-- Whether a shape holds a reference.
use Rattle.std.specs.Prelude.{Bool, true, false, Option, Some, None}
use Rattle.std.specs.List.{list_all}
use Rattle.holder_model_values.specs.RunValues.Layers.{CaseLayer, Layer, Integer, Reference, Struct, Tuple, Enum, Stored, Unknown}
use Rattle.holder_model_values.specs.RunValues.Shapes.{Shape, by_layers}

abbrev pub itself : Bool → Bool
itself b = b

abbrev pub or_true : Option Bool → Bool
or_true None = true
or_true (Some b) = b

abbrev pub payload_is_trivial : CaseLayer Bool → Bool
payload_is_trivial c = or_true c.payload

abbrev pub trivial_layer : Layer Bool → Bool
trivial_layer (Integer width) = true
trivial_layer (Reference class) = false
trivial_layer (Struct name fields) = list_all itself fields
trivial_layer (Tuple elements) = list_all itself elements
trivial_layer (Enum name cases) = list_all payload_is_trivial cases
trivial_layer (Stored storage inner) = false
trivial_layer Unknown = true

-- the values of the shape hold no reference
abbrev pub is_trivial : Shape → Bool
is_trivial s = by_layers trivial_layer s
