-- Types whose leaves can be counted: no address stands in them, they are within the limit, and as many as their shapes have.
use Rattle.std.specs.Prelude.{◌≡◌, ◌≤◌, ℕ, List, true, Option, Some}
use Rattle.sil_ast.specs.declared.type_name.TypeName.{TypeName}
use Rattle.sil_rules.specs.declared.limits.TheConstants.{LEAVES}
use Rattle.holder_model_values.specs.RunValues.Shapes.{shape_of}
use Rattle.holder_model_values.specs.RunValues.inner.Laws.{has_no_address}
use Rattle.sil_types.specs.Typing.Values.{type_at}
use Rattle.sil_types_declarations.specs.TypeDefinitions.Declarations.{Declarations}
use Rattle.sil_types_declarations.specs.TypeDefinitions.Measures.{leaves_of}
use Rattle.sil_types_declarations.specs.TypeDefinitions.Mentions.{target_of}
use Rattle.count_machine_model.specs.ReadyCode.Layout.{size_of}

pub record HasSize (d : Declarations) (t : TypeName) : Type 0 where
  pub plain : has_no_address t ≡ true
  pub within : leaves_of d t ≤ LEAVES
  pub measured : size_of (shape_of d t) ≡ leaves_of d t

-- so has each of these types, an address by what it points to
abbrev pub HaveSizes : Declarations → List (Option TypeName) → Type 0
HaveSizes d types = (n : ℕ) (t : TypeName) → type_at types n ≡ Some t → HasSize d (target_of t)
