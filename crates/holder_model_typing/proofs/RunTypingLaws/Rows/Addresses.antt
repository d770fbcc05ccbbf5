-- No address stands in a field, in a payload or in an element.
use Rattle.std.proofs.Common.{◌≡◌, ℕ, List, [], ◌∷◌, ◌++◌, map, refl, sym, ap, ap₂, ◌∙◌, subst, Bool, true, false, Option, Some, None, cond}
use Rattle.std.specs.Prelude.{ℤ, pos, negsuc, ◌&&◌, ◌+◌, length, ◌==◌, IfSome, is_some, option_map, slice_get, if◌then◌else◌}
use Rattle.std.specs.List.{list_all}
use Rattle.std.proofs.lemmas.Bool.{and_parts}
use Rattle.std.proofs.lemmas.Option.{slice_get-map}
use Rattle.sil_ast.specs.declared.decl.Case.{Case}
use Rattle.sil_ast.specs.declared.decl.Decl.{Decl}
use Rattle.sil_ast.specs.declared.decl.Decl.TheVariants as decl
use Rattle.sil_ast.specs.declared.decl.Field.{Field}
use Rattle.sil_ast.specs.declared.member.Member.{Member}
use Rattle.sil_ast.specs.declared.module.Module.{Module}
use Rattle.sil_ast.specs.declared.type_name.TypeName.{TypeName, TypeName-F, fold-roll-TypeName, out-TypeName, roll-TypeName, roll-out-TypeName}
use Rattle.numbered_form.specs.Lists.{Each}
use Rattle.numbered_form.specs.Names.{Name, case_name, field_name}
use Rattle.numbered_form.specs.inner.Types.{HasDeclTypes, HasFieldType, HasPayloadType, IsPlainType, is_placed_at, is_placed_type, is_plain_type}
use Rattle.holder_model.specs.sil_types_declarations.TypeDefinitions.Declarations.{Declarations, decl_of, declarations_of, optional_cases, place_of, swift_structs}
use Rattle.holder_model.specs.sil_types_declarations.TypeDefinitions.Lookups.{FoundField, Payload, case_payload, decl_cases, decl_fields, field_at_place, field_of, inherited_fields, optional_payload}
use Rattle.holder_model.specs.sil_types_declarations.TypeDefinitions.Lookups.{own_fields}
use Rattle.holder_model.specs.sil_types_declarations.TypeDefinitions.Lookups.{payload_at, payload_in}
use Rattle.holder_model.specs.sil_types.Typing.Shapes.{case_in, decl_of_type, element_at, element_of, elements, elements_in, field_named, fields_of_struct, found_field}
use Rattle.holder_model.specs.sil_types.Typing.Shapes.{is_case_owner_layer, is_owner, is_owner_layer}
use Rattle.holder_model.specs.sil_types.Typing.Shapes.{name_in, struct_field, struct_fields, target, target_in}
use Rattle.holder_model.specs.holder_model_values.RunValues.inner.Laws.{has_no_address, has_no_address_over}
use Rattle.holder_model.specs.RunTyping.Forms.{OfValue}
use Rattle.holder_model_typing.specs.RunTypingLaws.inner.WellTyped.{IsWellTyped}
use Rattle.holder_model_typing.proofs.RunTypingLaws.Declared.{holds_of_found}
use Rattle.holder_model_typing.proofs.RunTypingLaws.Opened.{fold-Optional, fold-Tuple}
use Rattle.holder_model_typing.proofs.RunTypingLaws.ShapeFacts.{field_shape_of}
use Rattle.holder_model_typing.proofs.RunTypingLaws.Sizes.{plain_type}
use Rattle.holder_model_typing.proofs.RunTypingLaws.Rows.Finding.{each_at, found_behind, if_some, passes_at}
use Rattle.numbered_form.proofs.Lists.{mapped_from}
use Rattle.holder_model_typing.proofs.RunTypingLaws.Rows.Forms.{typed_form, value_form}
use Rattle.holder_model_typing.proofs.RunTypingLaws.Rows.Layers.{is_optional, target-Int, tuple_type}

-- ---- types

pub no_target : (t : TypeName) → has_no_address t ≡ true → target t ≡ None
no_target t e = at (out-TypeName t) refl
  where
    at : (layer : TypeName-F TypeName) → out-TypeName t ≡ layer → target_in layer ≡ None
    at (TypeName-F.Int w) o = refl
    at (TypeName-F.Named name) o = refl
    at (TypeName-F.Optional inner) o = refl
    at (TypeName-F.Tuple parts) o = refl
    at (TypeName-F.Weak inner) o = refl
    at (TypeName-F.Unowned inner) o = refl
    at (TypeName-F.Address inner) o =
        let same : has_no_address t ≡ false =
        ap has_no_address (sym (roll-out-TypeName t) ∙ ap roll-TypeName o) ∙ fold-roll-TypeName Bool has_no_address_over (TypeName-F.Address inner) in
        absurd (cc)

placed_tuple : (t : TypeName) (ts : List TypeName) → elements t ≡ Some ts → is_placed_type t ≡ true → is_plain_type t ≡ true
placed_tuple t ts e placed = at (out-TypeName t) e placed
  where
    at : (layer : TypeName-F TypeName) → elements_in layer ≡ Some ts → is_placed_at t layer ≡ true → is_plain_type t ≡ true
    at (TypeName-F.Int w) e h = absurd (cc)
    at (TypeName-F.Named name) e h = absurd (cc)
    at (TypeName-F.Optional inner) e h = absurd (cc)
    at (TypeName-F.Tuple parts) e h = h
    at (TypeName-F.Weak inner) e h = absurd (cc)
    at (TypeName-F.Unowned inner) e h = absurd (cc)
    at (TypeName-F.Address inner) e h = absurd (cc)

element_there : (ts : List TypeName) (number : Option ℤ) (u : TypeName) → element_at ts number ≡ Some u → (k : ℕ) × (slice_get ts k ≡ Some u)
element_there ts None u e = absurd (cc)
element_there ts (Some (pos k)) u e = (k, e)
element_there ts (Some (negsuc k)) u e = absurd (cc)

-- an element of a tuple that is written at an operand
pub element_target : (number : Option ℤ) (t u : TypeName) → is_placed_type t ≡ true → element_of number t ≡ Some u → target u ≡ None
element_target number t u placed e =
    let it = found_behind (λ ts. element_at ts number) (elements t) u e in
    let there = element_there it.0 number u it.2 in
    let whole = plain_type t (placed_tuple t it.0 it.1 placed) in
    let parts : list_all (λ b. b) (map has_no_address it.0) ≡ true = sym (fold-Tuple Bool has_no_address_over it.0) ∙ ap has_no_address (sym (tuple_type t it.0 it.1)) ∙ whole in
    no_target u (passes_at (λ b. b) (map has_no_address it.0) there.0 (has_no_address u) parts (slice_get-map has_no_address it.0 there.0 ∙ ap (option_map has_no_address) there.1))

-- ---- declarations

abbrev IsNoAddress : Field → Type 0
IsNoAddress f = target f.ty ≡ None

abbrev CarriesNone : Case → Type 0
CarriesNone c = IfSome c.payload (λ t. target t ≡ None)

record HasNone (x : Decl) : Type 0 where
  fields : Each IsNoAddress (decl_fields (Some x))
  cases : Each CarriesNone (decl_cases (Some x))

none_in_fields : (fields : List Field) → Each HasFieldType fields → Each IsNoAddress fields
none_in_fields [] h = tt
none_in_fields (f ∷ fields) h = (no_target f.ty (plain_type f.ty h.0.written), none_in_fields fields h.1)

none_carried : (t : Option TypeName) → IfSome t IsPlainType → IfSome t (λ u. target u ≡ None)
none_carried None h = tt
none_carried (Some t) h = no_target t (plain_type t h.written)

none_in_cases : (cases : List Case) → Each HasPayloadType cases → Each CarriesNone cases
none_in_cases [] h = tt
none_in_cases (c ∷ cases) h = (none_carried c.payload h.0, none_in_cases cases h.1)

none_in_decl : (x : Decl) → HasDeclTypes x → HasNone x
none_in_decl (decl.Struct name fields) h = record { fields = none_in_fields fields h; cases = tt }
none_in_decl (decl.Enum name cases) h = record { fields = tt; cases = none_in_cases cases h }
none_in_decl (decl.Class name superclass fields) h = record { fields = none_in_fields fields h; cases = tt }

none_in_decls : (xs : List Decl) → Each HasDeclTypes xs → Each HasNone xs
none_in_decls [] h = tt
none_in_decls (x ∷ xs) h = (none_in_decl x h.0, none_in_decls xs h.1)

none_with_swift : (swift : Bool) (xs : List Decl) → Each HasNone xs → Each HasNone (swift_structs swift ++ xs)
none_with_swift true xs h = (record { fields = (target-Int 64, tt); cases = tt }, (record { fields = (target-Int 1, tt); cases = tt }, h))
none_with_swift false xs h = h

module _ (m : Module) (r : IsWellTyped m) where
  abbrev d : Declarations
  d = declarations_of m

  has_none : (name : Name) (x : Decl) → decl_of d name ≡ Some x → HasNone x
  has_none = holds_of_found d HasNone (none_with_swift m.imports.swift m.decls (none_in_decls m.decls r.numbered.types.declarations))

  own_field : (owner : Name) (k : ℕ) (f : Field) → slice_get (own_fields d owner) k ≡ Some f → target f.ty ≡ None
  own_field owner k f e = at (decl_of d owner) refl e
    where
      at : (o : Option Decl) → decl_of d owner ≡ o → slice_get (decl_fields o) k ≡ Some f → target f.ty ≡ None
      at None is e = absurd (cc)
      at (Some x) is e = each_at IsNoAddress (decl_fields (Some x)) k f (has_none owner x is).fields e

  at_found_place : (before : ℕ) (own : List Field) (place : Option ℕ) (x : FoundField) → field_at_place before own place ≡ Some x → (k : ℕ) × (slice_get own k ≡ Some x.field)
  at_found_place before own None x e = absurd (cc)
  at_found_place before own (Some p) x e =
      let it = mapped_from (λ f. record { place = before + p; field = f }) (slice_get own p) x e in
      (p, it.1 ∙ ap (λ (y : FoundField). Some y.field) it.2)

  named_field : (named : Member) (f : Field) → field_named d named ≡ Some f → target f.ty ≡ None
  named_field named f e =
      let it = mapped_from found_field (field_of d named.owner named.name) f e in
      let own = own_fields d named.owner in
      let there = at_found_place (length (inherited_fields d named.owner)) own (place_of (map field_name own) named.name) it.0 it.1 in
      own_field named.owner there.0 f (there.1 ∙ ap Some it.2)

  -- a field of a struct, which is found by its name
  pub field_target : (named : Member) (t : TypeName) (f : Field) → struct_field d named t ≡ Some f → (target t ≡ None) × (target f.ty ≡ None)
  field_target named t f e =
      let it = where_true (is_owner named t && is_some (fields_of_struct d t)) (field_named d named) f e in
      (owner_target (out-TypeName t) (and_parts (is_owner named t) (is_some (fields_of_struct d t)) it.0).0, named_field named f it.1)
    where
      where_true : {A : Type 0} (b : Bool) (o : Option A) (x : A) → (if b then o else None) ≡ Some x → (b ≡ true) × (o ≡ Some x)
      where_true true o x e = (refl, e)
      where_true false o x e = absurd (cc)

      owner_target : (layer : TypeName-F TypeName) → is_owner_layer named.owner layer ≡ true → target_in layer ≡ None
      owner_target (TypeName-F.Int w) e = absurd (cc)
      owner_target (TypeName-F.Named name) e = refl
      owner_target (TypeName-F.Optional inner) e = absurd (cc)
      owner_target (TypeName-F.Tuple parts) e = absurd (cc)
      owner_target (TypeName-F.Weak inner) e = absurd (cc)
      owner_target (TypeName-F.Unowned inner) e = absurd (cc)
      owner_target (TypeName-F.Address inner) e = absurd (cc)

  field_forms : (fields : List Field) → Each IsNoAddress fields → map (typed_form d) (map (λ f. f.ty) fields) ≡ map OfValue (map (field_shape_of m) fields)
  field_forms [] h = refl
  field_forms (f ∷ fields) h = ap₂ (λ x y. x ∷ y) (value_form d f.ty h.0) (field_forms fields h.1)

  -- the fields of a struct are values
  pub struct_forms : (t : TypeName) (fields : List Field) → fields_of_struct d t ≡ Some fields → map (typed_form d) (map (λ f. f.ty) fields) ≡ map OfValue (map (field_shape_of m) fields)
  struct_forms t fields e =
      let it = found_behind struct_fields (decl_of_type d t) fields e in
      let named = found_behind (decl_of d) (name_in (out-TypeName t)) it.0 it.1 in
      field_forms fields (subst (Each IsNoAddress) (same it.0 it.2) (has_none named.0 it.0 named.2).fields)
    where
      same : (x : Decl) → struct_fields x ≡ Some fields → decl_fields (Some x) ≡ fields
      same (decl.Struct name fs) e = cc
      same (decl.Enum name cases) e = absurd (cc)
      same (decl.Class name superclass fs) e = absurd (cc)

  case_target : (cases : List Case) (place : Option ℕ) (p : Payload) (u : TypeName) → Each CarriesNone cases → payload_at cases place ≡ Some p → p.ty ≡ Some u → target u ≡ None
  case_target cases None p u h e ty = absurd (cc)
  case_target cases (Some k) p u h e ty =
      let it = mapped_from (λ c. record { place = k; ty = case_payload c }) (slice_get cases k) p e in
      if_some (λ t. target t ≡ None) it.0.payload u (ap (λ (x : Payload). x.ty) it.2 ∙ ty) (each_at CarriesNone cases k it.0 h it.1)

  optional_target : (inner : TypeName) (place : Option ℕ) (p : Payload) (u : TypeName) → optional_payload inner place ≡ Some p → p.ty ≡ Some u → u ≡ inner
  optional_target inner None p u e ty = absurd (cc)
  optional_target inner (Some k) p u e ty =
      let same : record { place = k; ty = cond (k == 0) None (Some inner) } ≡ p = cc in
      at (k == 0) (ap (λ (x : Payload). x.ty) same ∙ ty)
    where
      at : (b : Bool) → cond b None (Some inner) ≡ Some u → u ≡ inner
      at true e = absurd (cc)
      at false e = cc

  -- the payload of an enum's case is a value
  pub payload_target : (named : Member) (t : TypeName) (p : Payload) (u : TypeName) → has_no_address t ≡ true → case_in d named t ≡ Some p → p.ty ≡ Some u → target u ≡ None
  payload_target named t p u plain e ty = at (out-TypeName t) refl (behind_test (is_case_owner_layer named.owner (out-TypeName t)) e)
    where
      behind_test : (b : Bool) → (if b then payload_in d named.name (out-TypeName t) else None) ≡ Some p → payload_in d named.name (out-TypeName t) ≡ Some p
      behind_test true e = e
      behind_test false e = absurd (cc)

      of_decl : (owner : Name) (o : Option Decl) → decl_of d owner ≡ o → payload_at (decl_cases o) (place_of (map case_name (decl_cases o)) named.name) ≡ Some p → target u ≡ None
      of_decl owner None is e = case_target [] (place_of [] named.name) p u tt e ty
      of_decl owner (Some x) is e = case_target (decl_cases (Some x)) (place_of (map case_name (decl_cases (Some x))) named.name) p u (has_none owner x is).cases e ty

      at : (layer : TypeName-F TypeName) → out-TypeName t ≡ layer → payload_in d named.name layer ≡ Some p → target u ≡ None
      at (TypeName-F.Int w) is e = absurd (cc)
      at (TypeName-F.Named owner) is e = of_decl owner (decl_of d owner) refl e
      at (TypeName-F.Optional inner) is e =
          let same : u ≡ inner = optional_target inner (place_of optional_cases named.name) p u e ty in
          ap target same ∙ no_target inner (sym (fold-Optional Bool has_no_address_over inner) ∙ ap has_no_address (sym (is_optional t inner is)) ∙ plain)
      at (TypeName-F.Tuple parts) is e = absurd (cc)
      at (TypeName-F.Weak inner) is e = absurd (cc)
      at (TypeName-F.Unowned inner) is e = absurd (cc)
      at (TypeName-F.Address inner) is e = absurd (cc)
