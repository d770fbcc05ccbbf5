-- The new number of each value, by a table.
use Rattle.std.specs.Prelude.{List, Option, None, slice_index_or, unwrap_or}
use Rattle.sil_ast.specs.declared.place.ValueId.{ValueId}
use Rattle.ownership_lowering_functions.specs.declared.value_renumbering.new_numbers.NewNumbers.{NewNumbers}
use Rattle.ownership_lowering_functions.specs.declared.value_renumbering.new_numbers.Places.{Places}

-- the number of a value, names aside
abbrev pub place_in : Places → ValueId → ValueId
place_in places v = slice_index_or places.numbers v.0 places.others

-- the value for which one stands
abbrev pub name_in : List (Option ValueId) → ValueId → ValueId
name_in names v = unwrap_or (slice_index_or names v.0 None) v

-- the new number of a value
abbrev pub number_in : NewNumbers → ValueId → ValueId
number_in table v = place_in table.places (name_in table.names v)
