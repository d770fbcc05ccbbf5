-- The value that each value stands for in lowered code, through other names for values.
use Rattle.std.specs.Prelude.{ℕ, zero, suc, List, Bool, Option, Some, None, is_some, length, slice_get}
use Rattle.sil_ast.specs.declared.place.ValueId.{ValueId}
use Rattle.ownership_kinds_origins.specs.ownership_kinds_chains.OwnershipChains.Chains.{operands_at}
use Rattle.ownership_kinds_origins.specs.ownership_kinds_chains.declared.ownership_chains.definition.Definition.{Definition}

-- the value for which this one is another name, by the renamings of its function; none where it has a name of its own
abbrev pub renamed_from : List Definition → ValueId → Option ValueId
renamed_from renamings v = slice_get (operands_at renamings v) 0

-- the value is another name for one
abbrev pub is_other_name : List Definition → ValueId → Bool
is_other_name renamings v = is_some (renamed_from renamings v)

-- the value itself, unless it is another name: then what that leads to
abbrev pub unless_renamed : (ValueId → ValueId) → ValueId → Option ValueId → ValueId
unless_renamed further v None = v
unless_renamed further v (Some w) = further w

-- the value that this one stands for, through so many names at most
abbrev pub stands_within : List Definition → ℕ → ValueId → ValueId
stands_within renamings zero v = v
stands_within renamings (suc n) v = unless_renamed (stands_within renamings n) v (renamed_from renamings v)

-- the value that this one stands for, through any number of names: where none leads back to itself, there are fewer than values
abbrev pub stands_for : List Definition → ValueId → ValueId
stands_for renamings v = stands_within renamings (length renamings) v
