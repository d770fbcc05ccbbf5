-- Which value is read from leaves, and of which types.
use Rattle.std.specs.Prelude.{◌≡◌, ◌≤◌, List, true, Some}
use Rattle.holder_model_values.specs.RunValues.Leaves.{value_of}
use Rattle.holder_model_values.specs.RunValues.Shapes.{Shape}
use Rattle.holder_model_values.specs.RunValues.Values.{Value, val_of}
use Rattle.holder_model_values.specs.declared.run_values.leaf.Leaf.{Leaf}
use Rattle.holder_model_values.specs.declared.run_values.value.Val.{Val}
use Rattle.holder_model_values.specs.RunValues.inner.Laws.{has_no_address}
use Rattle.sil_ast.specs.declared.type_name.TypeName.{TypeName}
use Rattle.sil_rules.specs.declared.limits.TheConstants.{DEPTH, LEAVES}
use Rattle.sil_types_declarations.specs.TypeDefinitions.Declarations.{Declarations}
use Rattle.sil_types_declarations.specs.TypeDefinitions.Measures.{depth_of, leaves_of}

-- the value is that of the shape with these leaves, where one has them
abbrev pub IsValueOf : Shape → List Leaf → Val → Type 0
IsValueOf s ls v = (x : Value) → value_of s ls ≡ Some x → v ≡ val_of x

-- no address stands in the type, and it is within the limits
pub record IsWithinLimits (d : Declarations) (t : TypeName) : Type 0 where
  pub plain : has_no_address t ≡ true
  pub depth : depth_of d t ≤ DEPTH
  pub leaves : leaves_of d t ≤ LEAVES
