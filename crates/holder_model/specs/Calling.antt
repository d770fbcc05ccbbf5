-- Calls and returns in a run by holders: places that are lent, and how they are handed over and back.
use Rattle.std.specs.Prelude.{ℕ, List, [], ◌∷◌, ◌++◌, ◌&&◌, Bool, false, map, length, Option, Some, None, option_map}
use Rattle.std.specs.List.{list_all, list_any}
use Rattle.std.specs.Option.{option_to_list}
use Rattle.memory_rules_accesses.specs.argument_conventions.Arguments.{Told, arguments_of}
use Rattle.memory_rules_accesses.specs.argument_conventions.Rows.{address_row}
use Rattle.memory_rules_accesses.specs.argument_conventions.declared.row.AddressRow.{AddressRow}
use Rattle.memory_rules_accesses.specs.argument_conventions.declared.row.Content.{Content}
use Rattle.memory_rules_accesses.specs.argument_conventions.declared.row.Content.TheVariants as content
use Rattle.sil_ast.specs.declared.function.Function.{Function}
use Rattle.sil_ast.specs.declared.place.ValueId.{ValueId}
use Rattle.memory_rules_accesses.specs.sil_cfg_items.Items.{item_defined}
use Rattle.memory_rules_accesses.specs.sil_cfg_items.declared.taken.Taken.{Taken}
use Rattle.memory_rules_accesses.specs.sil_cfg.declared.item.Item.TheVariants as item
use Rattle.ownership_kinds_origins.specs.sil_types.Typing.Values.{value_functions}
use Rattle.holder_model_values.specs.RunValues.Memory.{Memory}
use Rattle.holder_model_values.specs.RunValues.Places.{Place, emptied, is_there_at}
use Rattle.holder_model.specs.Data.{AddressOf, Datum, FunctionOf, ValueOf, as_place}
use Rattle.holder_model.specs.Frames.{Entry, LentPlace, datum_in, entry_at, is_held}
use Rattle.holder_model.specs.MemoryEffects.{holds}

abbrev pub lent_by : AddressRow → Place → LentPlace
lent_by row p = record { place = p; row = row }

abbrev pub lent_with : Option AddressRow → Option Place → List LentPlace
lent_with None p = []
lent_with (Some row) p = option_to_list (option_map (lent_by row) p)

-- the places of the operands that are handed over by their addresses
abbrev pub lent_places : List Taken → List Datum → List LentPlace
lent_places [] xs = []
lent_places (t ∷ ts) [] = []
lent_places (t ∷ ts) (x ∷ xs) = lent_with t.handed (as_place x) ++ lent_places ts xs

-- its slot isn't gone, and it holds what is asked before the call
abbrev pub is_as_before : Memory → LentPlace → Bool
is_as_before m l = is_there_at m l.place && holds m l.row.before l.place

-- each place holds what its convention asks before the call
abbrev pub are_as_before : Memory → List LentPlace → Bool
are_as_before m ls = list_all (is_as_before m) ls

abbrev pub emptied_for : Memory → LentPlace → Content → Memory
emptied_for m l content.Empty = emptied m l.place
emptied_for m l content.Full = m

-- a place that the callee is to fill counts as empty at its entry, whatever it held
abbrev pub handed_over : Memory → List LentPlace → Memory
handed_over m [] = m
handed_over m (l ∷ ls) = handed_over (emptied_for m l l.row.before) ls

-- to the callee the place of an argument is a whole one, also where the caller hands over a part
abbrev pub as_argument : Datum → Datum
as_argument (ValueOf x) = ValueOf x
as_argument (AddressOf p) = AddressOf (record p { is_part = false })
as_argument (FunctionOf g) = FunctionOf g

-- how many values a function has
abbrev pub value_count : Function → ℕ
value_count f = length (value_functions f)

abbrev pub argument_data : List Entry → List ValueId → List (Option Datum)
argument_data entries vs = map (λ v. datum_in (entry_at entries v)) vs

abbrev pub place_in : Option Datum → Option Place
place_in None = None
place_in (Some x) = as_place x

abbrev pub given_places : List Told → List (Option Datum) → List LentPlace
given_places [] xs = []
given_places (a ∷ rest) [] = []
given_places (a ∷ rest) (x ∷ xs) = lent_with (address_row a.convention) (place_in x) ++ given_places rest xs

-- the places that a function was given, by its arguments
abbrev pub places_given : Function → List Entry → List LentPlace
places_given f entries = given_places (arguments_of f.signature) (argument_data entries (item_defined f item.Entry))

abbrev pub is_as_after : Memory → LentPlace → Bool
is_as_after m l = holds m l.row.after l.place

-- each place holds what its convention asks at the return
abbrev pub are_as_after : Memory → List LentPlace → Bool
are_as_after m ls = list_all (is_as_after m) ls

abbrev pub holds_something : List Entry → Bool
holds_something entries = list_any is_held entries
