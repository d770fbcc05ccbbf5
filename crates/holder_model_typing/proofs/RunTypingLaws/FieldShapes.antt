-- The fields of a class are those of its shape.
use Rattle.std.proofs.Common.{◌≡◌, ℕ, zero, suc, List, [], ◌∷◌, ◌++◌, true, false, Option, Some, map, refl, ap, ◌∙◌, cond, append-nil}
use Rattle.std.specs.Prelude.{find, slice_get}
use Rattle.std.specs.List.{flat_map}
use Rattle.std.specs.Option.{option_to_list}
use Rattle.std.specs.Str.{bytes_eq}
use Rattle.sil_ast.specs.declared.decl.Decl.{Decl}
use Rattle.sil_ast.specs.declared.decl.Decl.TheVariants.{Struct, Enum, Class}
use Rattle.sil_ast.specs.declared.decl.Field.{Field}
use Rattle.sil_ast.specs.declared.module.Module.{Module}
use Rattle.numbered_form.specs.Names.{AreOnce, Name, decl_name}
use Rattle.holder_model.specs.ModuleShapes.{ClassShape, class_shape, field_shape, field_shapes, fields_in, shapes_of}
use Rattle.holder_model.specs.ModuleShapes.{is_class as is_named}
use Rattle.holder_model.specs.sil_types_declarations.TypeDefinitions.Declarations.{Declarations, declarations_of, is_class}
use Rattle.holder_model.specs.sil_types_declarations.TypeDefinitions.Lookups.{fields_of}
use Rattle.holder_model_typing.specs.RunTypingLaws.inner.WellTyped.{IsWellTyped}
use Rattle.holder_model_typing.proofs.RunTypingLaws.Found.{differs, other_name, same_name}
use Rattle.holder_model_typing.proofs.RunTypingLaws.TextClasses.{in_text, names_once}

module _ (d : Declarations) (class : Name) where
  abbrev its_shape : ClassShape
  its_shape = record { name = class; fields = map (field_shape d) (fields_of d class) }

  skips : (x : Decl) (rest : List ClassShape) → bytes_eq class (decl_name x) ≡ false → find (is_named class) (class_shape d x ++ rest) ≡ find (is_named class) rest
  skips (Struct name fields) rest e = refl
  skips (Enum name cases) rest e = refl
  skips (Class name superclass fields) rest e =
      ap (λ b. cond b (Some (record { name = name; fields = map (field_shape d) (fields_of d name) })) (find (is_named class) rest)) e

  found_shape : (decls : List Decl) (k : ℕ) (superclass : Option Name) (fields : List Field) → AreOnce (map decl_name decls)
      → slice_get decls k ≡ Some (Class class superclass fields) → find (is_named class) (flat_map (class_shape d) decls) ≡ Some its_shape
  found_shape [] k superclass fields once e = cc
  found_shape (x ∷ xs) zero superclass fields once e =
      let same : x ≡ Class class superclass fields = cc in
      let rest = flat_map (class_shape d) xs in
      ap (λ y. find (is_named class) (class_shape d y ++ rest)) same ∙ ap (λ b. cond b (Some its_shape) (find (is_named class) rest)) (same_name class)
  found_shape (x ∷ xs) (suc k) superclass fields once e =
      let other = other_name class (decl_name x) (differs decl_name x xs k (Class class superclass fields) once e) in
      skips x (flat_map (class_shape d) xs) other ∙ found_shape xs k superclass fields once.1 e

pub field_shapes_are : (m : Module) → IsWellTyped m → (class : Name) → is_class (declarations_of m) class ≡ true
    → field_shapes (shapes_of m) class ≡ map (field_shape (declarations_of m)) (fields_of (declarations_of m) class)
field_shapes_are m r class h =
    let d = declarations_of m in
    let t = in_text d class h in
    ap (λ o. flat_map fields_in (option_to_list o)) (found_shape d class m.decls t.place t.superclass t.fields (names_once m r) t.there)
    ∙ append-nil (map (field_shape d) (fields_of d class))
