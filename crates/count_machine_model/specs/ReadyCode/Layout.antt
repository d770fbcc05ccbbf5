-- Where the values of a function stand in a frame: leaves and addresses side by side, in the order of the values' numbers.
use Rattle.std.specs.Prelude.{ℕ, List, [], ◌∷◌, ◌++◌, map, sum}
use Rattle.std.specs.List.{range_with_len}
use Rattle.holder_model.specs.holder_model_values.RunValues.Leaves.{in_leaves}
use Rattle.holder_model.specs.holder_model_values.RunValues.Shapes.{Shape}
use Rattle.sil_ast.specs.declared.function.Function.{Function}
use Rattle.sil_ast.specs.declared.place.ValueId.{ValueId}
use Rattle.holder_model.specs.sil_types_declarations.TypeDefinitions.Declarations.{Declarations}
use Rattle.holder_model.specs.RunTyping.Forms.{Form, OfFunction, OfNothing, OfPlace, OfValue, form_of}
use Rattle.count_machine_model.specs.declared.ready_code.local.Carry.{Carry}
use Rattle.count_machine_model.specs.declared.ready_code.local.CarryAddress.{CarryAddress}
use Rattle.count_machine_model.specs.declared.ready_code.local.Local.{Local}
use Rattle.count_machine_model.specs.declared.ready_code.local.LocalAddress.{LocalAddress}

abbrev pub size_of : Shape → ℕ
size_of s = (in_leaves s).size

abbrev pub leaves_in : Form → ℕ
leaves_in (OfValue s) = size_of s
leaves_in (OfPlace s) = 0
leaves_in (OfFunction g) = 0
leaves_in OfNothing = 0

abbrev pub addresses_in : Form → ℕ
addresses_in (OfValue s) = 0
addresses_in (OfPlace s) = 1
addresses_in (OfFunction g) = 0
addresses_in OfNothing = 0

abbrev pub value_number : ℕ → ValueId
value_number n = record { 0 = n }

module _ (d : Declarations) (f : Function) where
  -- of the first so many values
  abbrev pub leaves_before : ℕ → ℕ
  leaves_before n = sum (map (λ k. leaves_in (form_of d f (value_number k))) (range_with_len 0 n))

  abbrev pub addresses_before : ℕ → ℕ
  addresses_before n = sum (map (λ k. addresses_in (form_of d f (value_number k))) (range_with_len 0 n))

  abbrev pub local : ValueId → Local
  local v = record { value = v; at = leaves_before v.0; size = leaves_in (form_of d f v) }

  abbrev pub local_address : ValueId → LocalAddress
  local_address v = record { value = v; at = addresses_before v.0 }

-- of two lists of values of one length those that are carried: the values' leaves, and the addresses
module _ (d : Declarations) (f g : Function) where
  abbrev pub carry : ValueId → ValueId → Carry
  carry v w = record { from = local d f v; to = local d g w }

  abbrev pub carry_address : ValueId → ValueId → CarryAddress
  carry_address v w = record { from = local_address d f v; to = local_address d g w }

  abbrev pub value_carried : Form → Carry → List Carry
  value_carried (OfValue s) c = c ∷ []
  value_carried (OfPlace s) c = []
  value_carried (OfFunction h) c = []
  value_carried OfNothing c = []

  abbrev pub address_carried : Form → CarryAddress → List CarryAddress
  address_carried (OfValue s) c = []
  address_carried (OfPlace s) c = c ∷ []
  address_carried (OfFunction h) c = []
  address_carried OfNothing c = []

  abbrev pub values_carried : List ValueId → List ValueId → List Carry
  values_carried [] ws = []
  values_carried (v ∷ vs) [] = []
  values_carried (v ∷ vs) (w ∷ ws) = value_carried (form_of d f v) (carry v w) ++ values_carried vs ws

  abbrev pub addresses_carried : List ValueId → List ValueId → List CarryAddress
  addresses_carried [] ws = []
  addresses_carried (v ∷ vs) [] = []
  addresses_carried (v ∷ vs) (w ∷ ws) = address_carried (form_of d f v) (carry_address v w) ++ addresses_carried vs ws
