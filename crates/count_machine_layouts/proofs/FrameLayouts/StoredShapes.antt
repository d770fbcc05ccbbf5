-- No name stands for weak or unowned storage.
use Rattle.std.proofs.Common.{◌≡◌, ℕ, zero, suc, sym, ap, ◌∙◌, refl, Option, Some, None}
use Rattle.std.specs.Prelude.{length}
use Rattle.sil_ast.specs.declared.decl.Decl.{Decl}
use Rattle.sil_ast.specs.declared.decl.Decl.TheVariants.{Struct, Enum, Class}
use Rattle.sil_ast.specs.declared.type_name.TypeName.{TypeName-F, fold-TypeName, fold-roll-TypeName}
use Rattle.sil_ast.specs.declared.type_name.TypeName.TheVariants as type
use Rattle.sil_ast.specs.declared.type_name.TypeName.TheVariants.{rolls-Named}
use Rattle.numbered_form.specs.Names.{Name}
use Rattle.sil_types_declarations.specs.TypeDefinitions.Declarations.{Declarations, all_decls, decl_of}
use Rattle.holder_model_values.specs.RunValues.Layers.{decl_with, named_within, over}
use Rattle.holder_model_values.specs.RunValues.Shapes.{Shape, shape_of, shape_with, storage_in}

module _ (d : Declarations) where
  found : (named : Name → Shape) (x : Option Decl) → storage_in (decl_with shape_with named x) ≡ None
  found named None = refl
  found named (Some (Struct name fields)) = refl
  found named (Some (Enum name cases)) = refl
  found named (Some (Class name superclass fields)) = refl

  within : (n : ℕ) (name : Name) → storage_in (named_within shape_with d n name) ≡ None
  within zero name = refl
  within (suc n) name = found (named_within shape_with d n) (decl_of d name)

  pub name_unstored : (name : Name) → storage_in (shape_of d (type.Named name)) ≡ None
  name_unstored name =
      let step = over shape_with (named_within shape_with d (length (all_decls d))) in
      ap storage_in (ap (fold-TypeName Shape step) (sym (rolls-Named name)) ∙ fold-roll-TypeName Shape step (TypeName-F.Named name))
      ∙ within (length (all_decls d)) name
