-- The members of a struct as extracts name them: each is spelled, its owner is declared, and it is a member of that.
use Rattle.std.proofs.Common.{◌≡◌, ℕ, zero, suc, ◌<◌, List, [], ◌∷◌, ◌++◌, map, refl, sym, ap, ◌∙◌, subst, arith, Bool, true, false, Some}
use Rattle.std.specs.Prelude.{◌&&◌, Contains, codes, is_some, not, option_map, slice_get, if◌then◌else◌}
use Rattle.std.specs.Str.{bytes_eq}
use Rattle.std.proofs.lemmas.Bool.{false≢true}
use Rattle.std.proofs.lemmas.Option.{slice_get-map}
use Rattle.sil_ast.specs.Imports.{swift_names}
use Rattle.sil_ast.specs.declared.decl.Decl.{Decl}
use Rattle.sil_ast.specs.declared.decl.Decl.TheVariants as decl
use Rattle.sil_ast.specs.declared.decl.Field.{Field}
use Rattle.sil_ast.specs.declared.member.Member.{Member}
use Rattle.sil_ast.specs.declared.module.Module.{Module}
use Rattle.sil_ast.specs.declared.type_name.TypeName.{TypeName, TypeName-F, out-TypeName}
use Rattle.ownership_lowering_model.specs.Extracts.{member_of}
use Rattle.numbered_form.specs.Lists.{Each}
use Rattle.numbered_form.specs.Names.{AreMembersOnce, AreOnce, IsDeclSpelled, IsMemberSpelled, IsWord, Name, decl_name, field_name, member_names}
use Rattle.numbered_form.specs.inner.NumberedForm.{IsNumbered}
use Rattle.numbered_form.specs.inner.Types.{IsPlacedType, is_placed_at, is_plain_type, is_written}
use Rattle.holder_model_typing.specs.sil_types.Typing.Shapes.{name_in, struct_fields}
use Rattle.sil_types_declarations.specs.TypeDefinitions.Declarations.{Declarations, all_decls, declarations_of, decl_of, has_name, integer_struct, is_swift_optional, members_of}
use Rattle.sil_types_declarations.specs.TypeDefinitions.Declarations.{optional_cases, swift_structs}
use Rattle.sil_types_declarations.specs.TypeDefinitions.Rules.{has_unknown_owner, is_no_member}
use Rattle.numbered_form.proofs.Lists.{contained, each_weaker}
use Rattle.ownership_lowering_laws.proofs.LoweringLaws.Structs.{IsStruct}
use Rattle.holder_model_typing.proofs.RunTypingLaws.Declared.{each_append, each_from, found_at, holds_of_found, named_so}
use Rattle.holder_model_typing.proofs.RunTypingLaws.Found.{name_is, place_once}
use Rattle.holder_model_typing.proofs.RunTypingLaws.ListFacts.{each_map}
use Rattle.holder_model_typing.proofs.RunTypingLaws.Opened.{fold-Named}
use Rattle.holder_model_typing.proofs.RunTypingLaws.Rows.Finding.{never_passes}
use Rattle.holder_model_typing.proofs.RunTypingLaws.Rows.Layers.{named_type}

-- the owner of a member is declared, and it is one of its members
abbrev pub IsNamed : Declarations → Member → Type 0
IsNamed d x = (has_unknown_owner d x ≡ false) × (is_no_member d x ≡ false)

-- ---- names

plain_at : (t : TypeName) (name : Name) (layer : TypeName-F TypeName) → name_in layer ≡ Some name → is_placed_at t layer ≡ true → is_plain_type t ≡ true
plain_at t name (TypeName-F.Named other) e h = h
plain_at t name _ e h = absurd (cc)

-- the name of a written type is a word
name_spelled : (t : TypeName) (name : Name) → name_in (out-TypeName t) ≡ Some name → IsPlacedType t → IsWord name
name_spelled t name e h =
    let plain : is_plain_type t ≡ true = plain_at t name (out-TypeName t) e h.written in
    sym (ap is_plain_type (named_type t name e) ∙ fold-Named Bool is_written name) ∙ plain

abbrev HasWords : Decl → Type 0
HasWords x = Each IsWord (member_names x)

-- the fields of a declaration that is a struct are its members
fields_are : (x : Decl) (fields : List Field) → struct_fields x ≡ Some fields → member_names x ≡ map field_name fields
fields_are (decl.Struct name fs) fields e = let same : fs ≡ fields = cc in ap (map field_name) same
fields_are (decl.Enum name cases) fields e = absurd (cc)
fields_are (decl.Class name superclass fs) fields e = absurd (cc)

each_field : (P : Name → Type 0) (fields : List Field) → Each P (map field_name fields) → Each (λ x. P x.name) fields
each_field P [] h = tt
each_field P (x ∷ fields) h = (h.0, each_field P fields h.1)

module _ (m : Module) (numbered : IsNumbered m) where
  abbrev d : Declarations
  d = declarations_of m

  swift_words : (swift : Bool) → Each HasWords (swift_structs swift)
  swift_words true = ((refl, tt), ((refl, tt), tt))
  swift_words false = tt

  all_words : Each HasWords (all_decls d)
  all_words =
      each_append HasWords (swift_structs m.imports.swift) m.decls (swift_words m.imports.swift)
      (each_weaker IsDeclSpelled HasWords (λ x h. h.members) m.decls numbered.names.declarations)

  pub members_spelled : (t : TypeName) (fields : List Field) (struct : IsStruct d t fields) → IsPlacedType t
      → Each IsMemberSpelled (map (member_of struct.name) fields)
  members_spelled t fields struct placed =
      let owner = name_spelled t struct.name struct.is_name placed in
      let words = subst (Each IsWord) (fields_are struct.declared fields struct.is_fields)
      (holds_of_found d HasWords all_words struct.name struct.declared struct.is_declared) in
      each_map (member_of struct.name) (λ x. IsWord x.name) IsMemberSpelled (λ x h. record { owner = owner; name = h }) fields (each_field IsWord fields words)

  -- ---- what the names find

  swift_once : (swift : Bool) → Each AreMembersOnce (swift_structs swift)
  swift_once true = ((none, tt), ((none, tt), tt))
    where
      none : Contains [] (codes "_value") → ⊥
      none c = let lt : c.0 < 0 = c.1 in omega arith
  swift_once false = tt

  all_once : Each AreMembersOnce (all_decls d)
  all_once = each_append AreMembersOnce (swift_structs m.imports.swift) m.decls (swift_once m.imports.swift) numbered.once.members

  -- no declaration is named `Optional` where `Swift` has it
  none_optional : (swift : Bool) → AreOnce (codes "Builtin" ∷ swift_names swift ++ map decl_name m.decls) → (w : ℕ) (x : Decl)
      → slice_get (swift_structs swift ++ m.decls) w ≡ Some x
      → (swift && bytes_eq (decl_name x) (codes "Optional")) ≡ true → ⊥
  none_optional false once w x e h = absurd (cc)
  none_optional true once zero x e h =
      let same : integer_struct (codes "Int") 64 ≡ x = cc in
      false≢true (subst (λ y. bytes_eq (decl_name y) (codes "Optional") ≡ true) (sym same) h)
  none_optional true once (suc zero) x e h =
      let same : integer_struct (codes "Bool") 1 ≡ x = cc in
      false≢true (subst (λ y. bytes_eq (decl_name y) (codes "Optional") ≡ true) (sym same) h)
  none_optional true once (suc (suc w)) x e h =
      once.1.1.1.0 (contained (map decl_name m.decls) w (codes "Optional")
      (slice_get-map decl_name m.decls w ∙ ap (option_map decl_name) e ∙ ap (λ name. Some name) (name_is (decl_name x) (codes "Optional") h)))

  module _ (t : TypeName) (fields : List Field) (struct : IsStruct d t fields) where
    not_optional : is_swift_optional d struct.name ≡ false
    not_optional = never_passes (is_swift_optional d struct.name) at
      where
        at : is_swift_optional d struct.name ≡ true → ⊥
        at h =
            let found = found_at d struct.name struct.declared struct.is_declared in
            let name : struct.name ≡ decl_name struct.declared = named_so d struct.name struct.declared struct.is_declared in
            none_optional m.imports.swift numbered.once.declarations found.0 struct.declared found.2 (subst (λ n. is_swift_optional d n ≡ true) name h)

    found_members : members_of d struct.name ≡ Some (map field_name fields)
    found_members =
        ap (λ b. if b then Some optional_cases else option_map member_names (decl_of d struct.name)) not_optional
        ∙ ap (option_map member_names) struct.is_declared
        ∙ ap (λ names. Some names) (fields_are struct.declared fields struct.is_fields)

    once : AreOnce (map field_name fields)
    once = subst AreOnce (fields_are struct.declared fields struct.is_fields)
        (holds_of_found d AreMembersOnce all_once struct.name struct.declared struct.is_declared)

    -- its owner is declared, and it is one of its members
    named : (i : ℕ) (x : Field) → slice_get fields i ≡ Some x → IsNamed d (member_of struct.name x)
    named i x e = (
      ap (λ o. not (is_some o)) found_members,
      ap (λ o. not (has_name x.name o)) found_members ∙ ap (λ o. not (is_some o)) (place_once field_name fields i x once e),
    )

    pub members_found : Each (IsNamed d) (map (member_of struct.name) fields)
    members_found =
        each_map (member_of struct.name) (λ x. IsNamed d (member_of struct.name x)) (IsNamed d) (λ x h. h) fields
        (each_from (λ x. IsNamed d (member_of struct.name x)) fields named)
