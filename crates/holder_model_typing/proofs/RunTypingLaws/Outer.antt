-- A type by its outermost layer.
use Rattle.std.proofs.Common.{◌≡◌, List, sym, ap, ◌∙◌}
use Rattle.sil_ast.specs.declared.type_name.TypeName.{TypeName, TypeName-F, out-TypeName, roll-TypeName, roll-out-TypeName}
use Rattle.sil_ast.specs.declared.type_name.TypeName.TheVariants as type
use Rattle.sil_ast.specs.declared.type_name.TypeName.TheVariants.{rolls-Named, rolls-Optional, rolls-Tuple}
use Rattle.numbered_form.specs.Names.{Name}

rolled : (t : TypeName) (layer : TypeName-F TypeName) → out-TypeName t ≡ layer → t ≡ roll-TypeName layer
rolled t layer e = sym (roll-out-TypeName t) ∙ ap roll-TypeName e

pub is_Named : (t : TypeName) (name : Name) → out-TypeName t ≡ TypeName-F.Named name → t ≡ type.Named name
is_Named t name e = rolled t (TypeName-F.Named name) e ∙ rolls-Named name

pub is_Optional : (t target : TypeName) → out-TypeName t ≡ TypeName-F.Optional target → t ≡ type.Optional target
is_Optional t target e = rolled t (TypeName-F.Optional target) e ∙ rolls-Optional target

pub is_Tuple : (t : TypeName) (parts : List TypeName) → out-TypeName t ≡ TypeName-F.Tuple parts → t ≡ type.Tuple parts
is_Tuple t parts e = rolled t (TypeName-F.Tuple parts) e ∙ rolls-Tuple parts
