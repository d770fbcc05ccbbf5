-- Levels of a value: a part lies a level below the whole. And the types that can be read with so many levels.
use Rattle.std.specs.Prelude.{◌≡◌, ◌<◌, ◌≤◌, ◌+◌, ℕ, List, true}
use Rattle.std.specs.List.{flat_map}
use Rattle.std.specs.Option.{option_to_list}
use Rattle.holder_model.specs.RunTyping.Runnable.{IsRunnable}
use Rattle.holder_model_values.specs.RunValues.Layers.{CaseLayer, Layer, Integer, Reference, Struct, Tuple, Enum, Stored, Unknown, told}
use Rattle.holder_model_values.specs.RunValues.inner.Laws.{has_no_address}
use Rattle.sil_ast.specs.TypeName.{largest}
use Rattle.sil_ast.specs.declared.module.Module.{Module}
use Rattle.sil_ast.specs.declared.type_name.TypeName.{TypeName}
use Rattle.sil_rules.specs.declared.limits.TheConstants.{LEAVES}
use Rattle.sil_types_declarations.specs.TypeDefinitions.Declarations.{Declarations, declarations_of}
use Rattle.sil_types_declarations.specs.TypeDefinitions.Measures.{leaves_of}

abbrev pub payload_heights : CaseLayer ℕ → List ℕ
payload_heights c = option_to_list c.payload

abbrev pub height_layer : Layer ℕ → ℕ
height_layer (Integer width) = 1
height_layer (Reference class) = 1
height_layer (Struct name fields) = 1 + largest fields
height_layer (Tuple elements) = 1 + largest elements
height_layer (Enum name cases) = 1 + largest (flat_map payload_heights cases)
height_layer (Stored storage inner) = 1
height_layer Unknown = 0

-- how many levels the values of a type have
abbrev pub height_of : Declarations → TypeName → ℕ
height_of d t = told height_layer d t

-- a type of a runnable module whose values have fewer levels than so many
pub record IsReadable (d : Declarations) (levels : ℕ) (t : TypeName) : Type 0 where
  pub runnable : (m : Module) × IsRunnable m × (d ≡ declarations_of m)
  pub plain : has_no_address t ≡ true
  pub leaves : leaves_of d t ≤ LEAVES
  pub height : height_of d t < levels
