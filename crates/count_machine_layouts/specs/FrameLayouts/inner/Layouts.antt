-- What code keeps of where the values of a function stand.
use Rattle.std.specs.Prelude.{ℕ, ◌+◌, List, [], ◌∷◌, ◌++◌, Option, map, slice_get, sum, unwrap_or}
use Rattle.std.specs.List.{range_with_len}
use Rattle.holder_model_typing.specs.holder_model.Calling.{value_count}
use Rattle.holder_model_values.specs.RunValues.Shapes.{storage_in}
use Rattle.sil_ast.specs.declared.function.Function.{Function}
use Rattle.sil_ast.specs.declared.place.FuncId.{FuncId}
use Rattle.sil_ast.specs.declared.place.ValueId.{ValueId}
use Rattle.sil_ast.specs.declared.type_name.TypeName.{TypeName}
use Rattle.sil_types.specs.Typing.Values.{function_at, type_at, value_functions, value_types}
use Rattle.sil_types_declarations.specs.TypeDefinitions.Declarations.{Declarations}
use Rattle.holder_model_typing.specs.holder_model.RunTyping.Forms.{Form, OfFunction, OfNothing, OfPlace, OfValue, form_by}
use Rattle.count_machine_model.specs.declared.ready_code.local.Local.{Local}
use Rattle.count_machine_model.specs.declared.ready_code.local.LocalAddress.{LocalAddress}
use Rattle.count_machine_model.specs.ReadyCode.Layout.{addresses_in, leaves_in, size_of}
use Rattle.count_machine_layouts.specs.declared.frame_layouts.layout.Kept.{Kept}
use Rattle.count_machine_layouts.specs.declared.frame_layouts.layout.Kept.TheVariants as kept
use Rattle.count_machine_layouts.specs.declared.frame_layouts.layout.Layout.{Layout}
use Rattle.count_machine_layouts.specs.declared.frame_layouts.layout.Spot.{Spot}

abbrev pub kept_of : Form → Kept
kept_of (OfValue s) = kept.Leaves (size_of s)
kept_of (OfPlace s) = kept.Address (size_of s) (storage_in s)
kept_of (OfFunction g) = kept.Function g
kept_of OfNothing = kept.Nothing

abbrev pub leaves_kept : Kept → ℕ
leaves_kept (kept.Leaves n) = n
leaves_kept (kept.Address n s) = 0
leaves_kept (kept.Function g) = 0
leaves_kept kept.Nothing = 0

abbrev pub addresses_kept : Kept → ℕ
addresses_kept (kept.Leaves n) = 0
addresses_kept (kept.Address n s) = 1
addresses_kept (kept.Function g) = 0
addresses_kept kept.Nothing = 0

-- building a layout, value by value

abbrev pub no_layout : Layout
no_layout = record { spots = []; leaves = 0; addresses = 0 }

abbrev pub with_value : Layout → Kept → Layout
with_value l k = record {
  spots = l.spots ++ record { at = l.leaves; address_at = l.addresses; kept = k } ∷ [];
  leaves = l.leaves + leaves_kept k;
  addresses = l.addresses + addresses_kept k;
}

-- asking one

abbrev pub spot_in : Layout → ℕ → Spot
spot_in l n = unwrap_or (slice_get l.spots n) (record { at = l.leaves; address_at = l.addresses; kept = kept.Nothing })

abbrev pub kept_in : Layout → ValueId → Kept
kept_in l v = (spot_in l v.0).kept

abbrev pub local_in : Layout → ValueId → Local
local_in l v = record { value = v; at = (spot_in l v.0).at; size = leaves_kept (spot_in l v.0).kept }

abbrev pub address_in : Layout → ValueId → LocalAddress
address_in l v = record { value = v; at = (spot_in l v.0).address_at }

-- the layout of the first so many values, by the types of all and the functions that they stand for
module _ (d : Declarations) (types : List (Option TypeName)) (functions : List (Option FuncId)) where
  abbrev pub form_at : ℕ → Form
  form_at n = form_by d (type_at types n) (function_at functions n)

  abbrev pub leaves_to : ℕ → ℕ
  leaves_to n = sum (map (λ k. leaves_in (form_at k)) (range_with_len 0 n))

  abbrev pub addresses_to : ℕ → ℕ
  addresses_to n = sum (map (λ k. addresses_in (form_at k)) (range_with_len 0 n))

  abbrev pub spot_at : ℕ → Spot
  spot_at n = record { at = leaves_to n; address_at = addresses_to n; kept = kept_of (form_at n) }

  abbrev pub layout_to : ℕ → Layout
  layout_to n = record { spots = map spot_at (range_with_len 0 n); leaves = leaves_to n; addresses = addresses_to n }

abbrev pub layout_of : Declarations → Function → Layout
layout_of d f = layout_to d (value_types d f) (value_functions f) (value_count f)
