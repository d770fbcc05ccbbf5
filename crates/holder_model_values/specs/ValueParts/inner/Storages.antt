-- Whether weak or unowned storage is in a shape.
use Rattle.std.specs.Prelude.{Bool, true, false}
use Rattle.std.specs.List.{list_all}
use Rattle.holder_model_values.specs.RunValues.Layers.{CaseLayer, Layer, Integer, Reference, Struct, Tuple, Enum, Stored, Unknown}
use Rattle.holder_model_values.specs.RunValues.Shapes.{Shape, by_layers}
use Rattle.holder_model_values.specs.RunValues.Trivial.{itself, or_true}

abbrev pub payload_holds_none : CaseLayer Bool → Bool
payload_holds_none c = or_true c.payload

abbrev pub no_storage_layer : Layer Bool → Bool
no_storage_layer (Integer width) = true
no_storage_layer (Reference class) = true
no_storage_layer (Struct name fields) = list_all itself fields
no_storage_layer (Tuple elements) = list_all itself elements
no_storage_layer (Enum name cases) = list_all payload_holds_none cases
no_storage_layer (Stored storage inner) = false
no_storage_layer Unknown = true

-- no storage is in the shape
abbrev pub holds_no_storage : Shape → Bool
holds_no_storage s = by_layers no_storage_layer s
