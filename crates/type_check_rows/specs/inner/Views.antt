-- What views tell: the types that they are put together to, and the types that a row gives.
use Rattle.std.specs.Prelude.{List, [], ◌∷◌, Option, Some, None, map}
use Rattle.sil_ast.specs.declared.type_name.TypeName.{TypeName}
use Rattle.sil_ast.specs.declared.type_name.TypeName.TheVariants as type
use Rattle.sil_types.specs.sil_types_declarations.TypeDefinitions.Mentions.{direct_type}
use Rattle.sil_types.specs.Typing.RowTypes.{all_written}
use Rattle.sil_types.specs.Typing.Shapes.{field_type}
use Rattle.type_check_rows.specs.declared.view.Made.{Made}
use Rattle.type_check_rows.specs.declared.view.Made.TheVariants.{Nothing, One, Fields, Elements}
use Rattle.type_check_rows.specs.declared.view.TypeView.{TypeView}
use Rattle.type_check_rows.specs.declared.view.TypeView.TheVariants.{Written, AddressOf, WeakAddress, UnownedAddress, TupleOf, GivenBy}
use Rattle.type_check_rows.specs.declared.written_types.NextWritten.{NextWritten}

-- the type that a view is put together to
abbrev pub view_told : TypeView → TypeName
view_told (Written t) = t.now
view_told (AddressOf t) = type.Address t.now
view_told (WeakAddress t) = type.Address (type.Weak t.now)
view_told (UnownedAddress t) = type.Address (type.Unowned t.now)
view_told (TupleOf operands) = type.Tuple (all_written operands.now)
view_told (GivenBy results) = direct_type results.now

-- the types of the results, in order
abbrev pub made_told : Made → List TypeName
made_told Nothing = []
made_told (One view) = view_told view ∷ []
made_told (Fields fields) = map field_type fields.now
made_told (Elements types) = types.now

-- the first of the written types, and those behind it
abbrev pub next_told : Option NextWritten → List TypeName
next_told None = []
next_told (Some next) = next.ty.now ∷ all_written next.rest.now
