-- The fields of a struct are found again by their names, since no declaration has two members of one name.
use Rattle.std.proofs.Common.{◌≡◌, ℕ, List, [], length, map, ap, ap₂, ◌∙◌, subst, arith, Bool, true, false, None, Some}
use Rattle.std.specs.Prelude.{◌+◌, ◌<◌, ◌&&◌, Contains, codes, is_some, option_and_then, option_map, slice_get, if◌then◌else◌}
use Rattle.sil_ast.specs.declared.decl.Decl.{Decl}
use Rattle.sil_ast.specs.declared.decl.Decl.TheVariants as decl
use Rattle.sil_ast.specs.declared.decl.Field.{Field}
use Rattle.sil_ast.specs.declared.module.Module.{Module}
use Rattle.sil_ast.specs.declared.type_name.TypeName.{TypeName, TypeName-F, out-TypeName}
use Rattle.numbered_form.specs.Lists.{Each}
use Rattle.numbered_form.specs.Names.{AreMembersOnce, AreOnce, Name, field_name}
use Rattle.numbered_form.specs.inner.NumberedForm.{IsNumbered}
use Rattle.sil_types_declarations.specs.TypeDefinitions.Declarations.{Declarations, decl_of, declarations_of, place_of, swift_structs}
use Rattle.sil_types_declarations.specs.TypeDefinitions.Lookups.{decl_fields, field_at_place, inherited_fields}
use Rattle.holder_model_typing.specs.sil_types.Typing.Shapes.{field_named, fields_of_struct, found_field, is_owner, is_owner_layer, name_in, struct_field, struct_fields}
use Rattle.ownership_lowering_model.specs.Extracts.{member_of}
use Rattle.ownership_lowering_laws.proofs.LoweringLaws.Structs.{IsStruct}
use Rattle.holder_model_typing.proofs.RunTypingLaws.Declared.{each_append, each_from, holds_of_found}
use Rattle.holder_model_typing.proofs.RunTypingLaws.Found.{place_once, same_name}

-- ---- no two members have one name: the structs of `Swift` have one each

none_there : (name : Name) → Contains [] name → ⊥
none_there name c = let lt : c.0 < 0 = c.1 in omega arith

swift_once : (swift : Bool) → Each AreMembersOnce (swift_structs swift)
swift_once true = ((none_there (codes "_value"), tt), ((none_there (codes "_value"), tt), tt))
swift_once false = tt

pub members_once : (m : Module) → IsNumbered m → (name : Name) (x : Decl) → decl_of (declarations_of m) name ≡ Some x → AreMembersOnce x
members_once m numbered =
    holds_of_found (declarations_of m) AreMembersOnce
    (each_append AreMembersOnce (swift_structs m.imports.swift) m.decls (swift_once m.imports.swift) numbered.once.members)

-- ---- the fields of a struct

own_named : (x : Decl) (fs : List Field) → struct_fields x ≡ Some fs → AreMembersOnce x → (decl_fields (Some x) ≡ fs) × AreOnce (map field_name fs)
own_named (decl.Struct n fields) fs e once = let same : fields ≡ fs = cc in (same, subst (λ xs. AreOnce (map field_name xs)) same once)
own_named (decl.Enum n cases) fs e once = cc
own_named (decl.Class n superclass fields) fs e once = cc

owner_named : (layer : TypeName-F TypeName) (name : Name) → name_in layer ≡ Some name → is_owner_layer name layer ≡ true
owner_named (TypeName-F.Named n) name e = let same : n ≡ name = cc in ap (λ x. is_owner_layer name (TypeName-F.Named x)) same ∙ same_name name
owner_named _ name e = cc

module _ (d : Declarations) (t : TypeName) (fs : List Field) (struct : IsStruct d t fs) where
  pub fields_are : fields_of_struct d t ≡ Some fs
  fields_are =
      ap (λ n. option_and_then struct_fields (option_and_then (decl_of d) n)) struct.is_name
      ∙ ap (option_and_then struct_fields) struct.is_declared ∙ struct.is_fields

  module _ (once : AreMembersOnce struct.declared) where
    found_again : (k : ℕ) (y : Field) → slice_get fs k ≡ Some y → struct_field d (member_of struct.name y) t ≡ Some y
    found_again k y there =
        let own = own_named struct.declared fs struct.is_fields once in
        let before = length (inherited_fields d struct.name) in
        let owner : is_owner (member_of struct.name y) t ≡ true = owner_named (out-TypeName t) struct.name struct.is_name in
        let place : place_of (map field_name fs) y.name ≡ Some k = place_once field_name fs k y own.1 there in
        ap₂ (λ a b. if a && is_some b then field_named d (member_of struct.name y) else None) owner fields_are
        ∙ ap (λ l. option_map found_field (field_at_place before l (place_of (map field_name l) y.name))) (ap decl_fields struct.is_declared ∙ own.0)
        ∙ ap (λ o. option_map found_field (field_at_place before fs o)) place
        ∙ ap (λ o. option_map found_field (option_map (λ g. record { place = before + k; field = g }) o)) there

    pub fields_again : Each (λ y. struct_field d (member_of struct.name y) t ≡ Some y) fs
    fields_again = each_from (λ y. struct_field d (member_of struct.name y) t ≡ Some y) fs found_again
