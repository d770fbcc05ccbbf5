-- When an access has a mark, and when its mark turns the switch on.
use Rattle.std.specs.Prelude.{Bool, false, ◌==◌, cond, unwrap_or, Option, Some, None}
use Rattle.sil_ast.specs.declared.place.ValueId.{ValueId}
use Rattle.reach_engine_marks.specs.declared.path_patterns.mark.Mark.{Mark}

abbrev pub when : Bool → Mark → Option Mark
when test m = cond test (Some m) None

abbrev pub is_turned_on : Option Mark → Bool
is_turned_on None = false
is_turned_on (Some m) = unwrap_or m.turns false

abbrev pub is_same : ValueId → ValueId → Bool
is_same a b = a.0 == b.0
