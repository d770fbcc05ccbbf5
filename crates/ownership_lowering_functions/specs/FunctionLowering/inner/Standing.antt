-- Notes of the values for which others stand.
use Rattle.std.specs.Prelude.{◌≡◌, List, Option, Some, None, IsSome, slice_index_or}
use Rattle.sil_ast.specs.declared.place.ValueId.{ValueId}
use Rattle.ownership_kinds_chains.specs.declared.ownership_chains.definition.Definition.{Definition}
use Rattle.ownership_lowering_model.specs.Names.{stands_for}

-- what is noted of a value
abbrev pub noted_at : List (Option ValueId) → ValueId → Option ValueId
noted_at noted v = slice_index_or noted v.0 None

abbrev pub IsNoted : List (Option ValueId) → ValueId → Type 0
IsNoted noted v = IsSome (noted_at noted v)

-- each note is the value for which the one stands where it is written
abbrev pub AreRight : List Definition → List (Option ValueId) → Type 0
AreRight renamings noted = (v end : ValueId) → noted_at noted v ≡ Some end → end ≡ stands_for renamings v

-- what was noted is noted now
abbrev pub AreStillNoted : List (Option ValueId) → List (Option ValueId) → Type 0
AreStillNoted old new = (v : ValueId) → IsNoted old v → IsNoted new v
