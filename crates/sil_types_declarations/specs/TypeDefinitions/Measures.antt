-- Whether a type is trivial, how many leaves it has and how deep it is, through declarations.
-- All three are said of modules whose types are finite: no struct or enum holds itself there.
use Rattle.std.specs.Prelude.{ℕ, zero, suc, ◌+◌, ◌≤◌, List, [], ◌∷◌, Bool, true, false, map, sum, length, unwrap_or}
use Rattle.std.specs.List.{list_all}
use Rattle.sil_ast.specs.TypeName.{largest}
use Rattle.sil_ast.specs.declared.decl.Decl.{Decl}
use Rattle.sil_ast.specs.declared.decl.Decl.TheVariants.{Struct, Enum, Class}
use Rattle.sil_ast.specs.declared.type_name.TypeName.{TypeName, fold-TypeName}
use Rattle.sil_ast.specs.declared.type_name.TypeName.TheOpen.{TypeName-F, Int, Named, Optional, Tuple, Weak, Unowned, Address}
use Rattle.numbered_form.specs.Names.{Name}
use Rattle.sil_types_declarations.specs.declared.type_definitions.measure.Measure.{Measure}
use Rattle.sil_types_declarations.specs.TypeDefinitions.Contained.{held_types}
use Rattle.sil_types_declarations.specs.TypeDefinitions.Declarations.{Declarations, all_decls, all_names, at_place, place_of}

abbrev pub is_trivial_measure : Measure → Bool
is_trivial_measure m = m.trivial

abbrev pub leaves_in : Measure → ℕ
leaves_in m = m.leaves

abbrev pub depth_in : Measure → ℕ
depth_in m = m.depth

abbrev pub measured : Bool → ℕ → ℕ → Measure
measured trivial leaves depth = record { trivial = trivial; leaves = leaves; depth = depth }

abbrev pub all_trivial : List Measure → Bool
all_trivial ms = list_all is_trivial_measure ms

abbrev pub all_leaves : List Measure → ℕ
all_leaves ms = sum (map leaves_in ms)

abbrev pub most_leaves : List Measure → ℕ
most_leaves ms = largest (map leaves_in ms)

abbrev pub most_depth : List Measure → ℕ
most_depth ms = largest (map depth_in ms)

-- of a struct or a tuple, by its members
abbrev pub of_members : List Measure → Measure
of_members ms = measured (all_trivial ms) (all_leaves ms) (1 + most_depth ms)

-- of an enum, by its payloads
abbrev pub of_payloads : List Measure → Measure
of_payloads ms = measured (all_trivial ms) (1 + most_leaves ms) (1 + most_depth ms)

-- of a class reference
abbrev pub of_reference : Measure
of_reference = measured false 1 1

-- of weak or unowned storage of something
abbrev pub of_storage : Measure → Measure
of_storage m = measured false 1 (1 + m.depth)

-- of a name that isn't declared, or lies deeper than is looked
abbrev pub unmeasured : Measure
unmeasured = measured true 0 0

-- of what a name finds, by the measures of all declarations
abbrev pub measure_at : List Name → List Measure → Name → Measure
measure_at names known name = unwrap_or (at_place known (place_of names name)) unmeasured

-- a type by the measures of its parts, and a name by what is known of it
abbrev pub measure_over : (Name → Measure) → TypeName-F Measure → Measure
measure_over known (Int width) = measured true 1 1
measure_over known (Named name) = known name
measure_over known (Optional m) = of_payloads (m ∷ [])
measure_over known (Tuple ms) = of_members ms
measure_over known (Weak m) = of_storage m
measure_over known (Unowned m) = of_storage m
measure_over known (Address m) = m

abbrev pub measure_with : (Name → Measure) → TypeName → Measure
measure_with known = fold-TypeName Measure (measure_over known)

abbrev pub from_held : Decl → List Measure → Measure
from_held (Struct name fields) ms = of_members ms
from_held (Enum name cases) ms = of_payloads ms
from_held (Class name superclass fields) ms = of_reference

-- of a declared type, by what is known of the names in it
abbrev pub measure_decl : (Name → Measure) → Decl → Measure
measure_decl known d = from_held d (map (measure_with known) (held_types d))

-- the measures of all declarations, seen through at most this many of them: what lies deeper isn't counted
abbrev pub measures_within : Declarations → ℕ → List Measure
measures_within d zero = []
measures_within d (suc n) = map (measure_decl (measure_at (all_names d) (measures_within d n))) (all_decls d)

-- a finite type is seen whole through as many declarations as there are; `AreByParts` of `sil_types_items` says so of each table that is built
abbrev pub measures_of : Declarations → List Measure
measures_of d = measures_within d (length (all_decls d))

abbrev pub measure_of : Declarations → TypeName → Measure
measure_of d = measure_with (measure_at (all_names d) (measures_of d))

-- the type holds no reference
abbrev pub is_trivial : Declarations → TypeName → Bool
is_trivial d t = (measure_of d t).trivial

-- the integers, references and weak or unowned storage in a value, and for each enum in it one more that tells its case
abbrev pub leaves_of : Declarations → TypeName → ℕ
leaves_of d t = (measure_of d t).leaves

abbrev pub depth_of : Declarations → TypeName → ℕ
depth_of d t = (measure_of d t).depth
