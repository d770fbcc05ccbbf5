-- The limits on fields, within which no class is too large to be laid out.
use Rattle.std.specs.Prelude.{◌≤◌, length}
use Rattle.sil_ast.specs.declared.decl.Field.{Field}
use Rattle.sil_rules.specs.declared.limits.TheConstants.{LEAVES, MEMBERS}
use Rattle.sil_types.specs.numbered_form.Lists.{Each}
use Rattle.sil_types.specs.numbered_form.Names.{Name}
use Rattle.sil_types.specs.sil_types_declarations.TypeDefinitions.Declarations.{Declarations}
use Rattle.sil_types.specs.sil_types_declarations.TypeDefinitions.Lookups.{own_fields}
use Rattle.count_heap.specs.HeapModel.HeapViews.{field_leaves}

abbrev pub IsFieldInLimits : Declarations → Field → Type 0
IsFieldInLimits d f = field_leaves d f ≤ LEAVES

-- each struct or class declares no more fields itself than the limit on members, and none of them has more leaves than the limit on those
pub record AreFieldsInLimits (d : Declarations) : Type 0 where
  pub members : (owner : Name) → length (own_fields d owner) ≤ MEMBERS
  pub leaves : (owner : Name) → Each (IsFieldInLimits d) (own_fields d owner)
