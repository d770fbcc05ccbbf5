-- A struct holds its fields plainly: `weak` and `unowned` are for classes.
use Rattle.std.specs.Prelude.{◌≡◌, ⊤}
use Rattle.sil_ast.specs.declared.decl.Decl.{Decl}
use Rattle.sil_ast.specs.declared.decl.Decl.TheVariants.{Struct, Enum, Class}
use Rattle.sil_ast.specs.declared.decl.Field.{Field}
use Rattle.sil_ast.specs.declared.decl.Storage.TheVariants.{Strong}
use Rattle.sil_ast.specs.declared.module.Module.{Module}
use Rattle.numbered_form.specs.Lists.{Each}

abbrev pub IsStrong : Field → Type 0
IsStrong f = f.storage ≡ Strong

abbrev pub HasStrongFields : Decl → Type 0
HasStrongFields (Struct name fields) = Each IsStrong fields
HasStrongFields (Enum name cases) = ⊤
HasStrongFields (Class name superclass fields) = ⊤

abbrev pub AreStructFieldsStrong : Module → Type 0
AreStructFieldsStrong m = Each HasStrongFields m.decls
