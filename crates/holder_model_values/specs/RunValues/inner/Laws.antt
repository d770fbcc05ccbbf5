-- Laws of values: they come back from their leaves. And the size of a type's shape is the one measured on the type.
use Rattle.std.specs.Prelude.{◌≡◌, Bool, true, false, Some, length}
use Rattle.std.specs.List.{list_all}
use Rattle.sil_ast.specs.declared.decl.Decl.{Decl}
use Rattle.sil_ast.specs.declared.type_name.TypeName.{TypeName, fold-TypeName}
use Rattle.sil_ast.specs.declared.type_name.TypeName.TheOpen.{TypeName-F, Int, Named, Optional, Tuple, Weak, Unowned, Address}
use Rattle.sil_types_declarations.specs.TypeDefinitions.Contained.{held_types}
use Rattle.sil_types_declarations.specs.TypeDefinitions.Declarations.{Declarations, all_decls}
use Rattle.sil_types_declarations.specs.TypeDefinitions.Measures as measures
use Rattle.holder_model_values.specs.RunValues.inner.Fits.{fits}
use Rattle.holder_model_values.specs.RunValues.Leaves.{in_leaves, leaves_of, value_of}
use Rattle.holder_model_values.specs.RunValues.Shapes.{Shape, shape_of}
use Rattle.holder_model_values.specs.RunValues.Values.{Value}

-- a value of a shape has just as many leaves as the shape, and is the value that has them
abbrev pub LeavesComeBack : Type 0
LeavesComeBack = (s : Shape) (v : Value) → fits s v ≡ true → (value_of s (leaves_of s v) ≡ Some v) × (length (leaves_of s v) ≡ (in_leaves s).size)

abbrev pub has_no_address_over : TypeName-F Bool → Bool
has_no_address_over (Int width) = true
has_no_address_over (Named name) = true
has_no_address_over (Optional b) = b
has_no_address_over (Tuple bs) = list_all (λ b. b) bs
has_no_address_over (Weak b) = b
has_no_address_over (Unowned b) = b
has_no_address_over (Address b) = false

-- no address stands in the type
abbrev pub has_no_address : TypeName → Bool
has_no_address = fold-TypeName Bool has_no_address_over

abbrev pub holds_no_address : Decl → Bool
holds_no_address x = list_all has_no_address (held_types x)

-- where no address stands in declarations or in a type, the size of its shape is the number of leaves that is measured on it
abbrev pub AreMeasured : Type 0
AreMeasured = (d : Declarations) (t : TypeName) → list_all holds_no_address (all_decls d) ≡ true → has_no_address t ≡ true
    → (in_leaves (shape_of d t)).size ≡ measures.leaves_of d t
