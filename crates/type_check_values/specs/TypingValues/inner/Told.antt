-- The types of values that views tell.
use Rattle.std.specs.Prelude.{List, Option, map, option_map}
use Rattle.sil_ast.specs.declared.type_name.TypeName.{TypeName}
use Rattle.type_check_rows.specs.inner.Views.{view_told}
use Rattle.type_check_rows.specs.declared.view.TypeView.{TypeView}

-- the type of each value that has one
abbrev pub types_told : List (Option TypeView) → List (Option TypeName)
types_told = map (option_map view_told)
