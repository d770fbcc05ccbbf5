-- No address stands in a declaration, and so the size of a type's shape is the one that is measured on the type.
use Rattle.std.proofs.Common.{◌≡◌, List, [], ◌∷◌, ◌++◌, map, length, refl, sym, ap, ◌∙◌, Bool, true, false, Option, Some, None}
use Rattle.std.specs.Prelude.{◌&&◌, ◌==◌, IfSome, codes, not, nat_le}
use Rattle.std.specs.List.{flat_map, list_all}
use Rattle.std.specs.Option.{option_to_list}
use Rattle.std.proofs.lemmas.Bool.{and_parts, false≢true}
use Rattle.sil_ast.specs.declared.decl.Case.{Case}
use Rattle.sil_ast.specs.declared.decl.Decl.{Decl}
use Rattle.sil_ast.specs.declared.decl.Decl.TheVariants as decl
use Rattle.sil_ast.specs.declared.decl.Field.{Field}
use Rattle.sil_ast.specs.declared.module.Module.{Module}
use Rattle.sil_ast.specs.declared.type_name.TypeName.{TypeName, TypeName-F, fold-roll-TypeName, map-TypeName}
use Rattle.sil_rules.specs.declared.limits.TheConstants.{ARGUMENTS}
use Rattle.numbered_form.specs.Lists.{Each}
use Rattle.numbered_form.specs.inner.Types.{HasDeclTypes, HasFieldType, HasPayloadType, IsPlainType, is_plain_type, is_written, same}
use Rattle.holder_model.specs.sil_types_declarations.TypeDefinitions.Contained.{field_type, payload_types}
use Rattle.holder_model.specs.sil_types_declarations.TypeDefinitions.Declarations.{all_decls, declarations_of, integer_struct, swift_structs}
use Rattle.holder_model.specs.holder_model_values.RunValues.inner.Laws.{has_no_address, has_no_address_over, holds_no_address}
use Rattle.holder_model.specs.RunTyping.RunTyped.{SizesAreMeasured}
use Rattle.holder_model.proofs.holder_model_values.RunValues.Sizes.{are_measured}
use Rattle.holder_model_typing.specs.RunTypingLaws.inner.WellTyped.{IsWellTyped}
use Rattle.holder_model_typing.proofs.RunTypingLaws.Opened.{Proved, by_layer, fold-Int, type_in, types_in}

abbrev IsPlain : TypeName → Type 0
IsPlain t = is_plain_type t ≡ true → has_no_address t ≡ true

plain_parts : (ts : List (Proved IsPlain)) → list_all same (map is_plain_type (map (type_in IsPlain) ts)) ≡ true
    → list_all (λ b. b) (map has_no_address (map (type_in IsPlain) ts)) ≡ true
plain_parts [] e = refl
plain_parts (t ∷ ts) e =
    let parts = and_parts (is_plain_type t.0) (list_all same (map is_plain_type (map (type_in IsPlain) ts))) e in
    ap (λ b. b && list_all (λ b. b) (map has_no_address (map (type_in IsPlain) ts))) (t.1 parts.0) ∙ plain_parts ts parts.1

plain_tuple : (ts : List (Proved IsPlain)) → is_written (TypeName-F.Tuple (map is_plain_type (map (type_in IsPlain) ts))) ≡ true
    → list_all (λ b. b) (map has_no_address (map (type_in IsPlain) ts)) ≡ true
plain_tuple ts e =
    let elements = map is_plain_type (map (type_in IsPlain) ts) in
    plain_parts ts (and_parts (not (length elements == 1) && nat_le (length elements) ARGUMENTS) (list_all same elements) e).1

plain_layer : (x : TypeName-F (Proved IsPlain)) → is_written (map-TypeName TypeName Bool is_plain_type (types_in IsPlain x)) ≡ true
    → has_no_address_over (map-TypeName TypeName Bool has_no_address (types_in IsPlain x)) ≡ true
plain_layer (TypeName-F.Int width) e = refl
plain_layer (TypeName-F.Named name) e = refl
plain_layer (TypeName-F.Optional t) e = t.1 e
plain_layer (TypeName-F.Tuple ts) e = plain_tuple ts e
plain_layer (TypeName-F.Weak t) e = t.1 e
plain_layer (TypeName-F.Unowned t) e = t.1 e
plain_layer (TypeName-F.Address t) e = absurd (false≢true e)

-- a type that is written without `*` has no address in it
pub plain_type : (t : TypeName) → IsPlain t
plain_type = by_layer IsPlain (λ x e.
    fold-roll-TypeName Bool has_no_address_over (types_in IsPlain x)
    ∙ plain_layer x (sym (fold-roll-TypeName Bool is_written (types_in IsPlain x)) ∙ e))

plain_fields : (fields : List Field) → Each HasFieldType fields → list_all has_no_address (map field_type fields) ≡ true
plain_fields [] h = refl
plain_fields (x ∷ fields) h = ap (λ b. b && list_all has_no_address (map field_type fields)) (plain_type x.ty h.0.written) ∙ plain_fields fields h.1

plain_payload : (t : Option TypeName) (others : List TypeName) → IfSome t IsPlainType → list_all has_no_address others ≡ true → list_all has_no_address (option_to_list t ++ others) ≡ true
plain_payload None others h rest = rest
plain_payload (Some t) others h rest = ap (λ b. b && list_all has_no_address others) (plain_type t h.written) ∙ rest

plain_cases : (cases : List Case) → Each HasPayloadType cases → list_all has_no_address (flat_map payload_types cases) ≡ true
plain_cases [] h = refl
plain_cases (c ∷ cases) h = plain_payload c.payload (flat_map payload_types cases) h.0 (plain_cases cases h.1)

plain_decl : (x : Decl) → HasDeclTypes x → holds_no_address x ≡ true
plain_decl (decl.Struct name fields) h = plain_fields fields h
plain_decl (decl.Enum name cases) h = plain_cases cases h
plain_decl (decl.Class name superclass fields) h = refl

plain_decls : (xs : List Decl) → Each HasDeclTypes xs → list_all holds_no_address xs ≡ true
plain_decls [] h = refl
plain_decls (x ∷ xs) h = ap (λ b. b && list_all holds_no_address xs) (plain_decl x h.0) ∙ plain_decls xs h.1

with_swift : (swift : Bool) (xs : List Decl) → list_all holds_no_address xs ≡ true → list_all holds_no_address (swift_structs swift ++ xs) ≡ true
with_swift true xs h =
    ap (λ b. (b && true) && list_all holds_no_address (integer_struct (codes "Bool") 1 ∷ xs)) (fold-Int Bool has_no_address_over 64)
    ∙ ap (λ b. (b && true) && list_all holds_no_address xs) (fold-Int Bool has_no_address_over 1)
    ∙ h
with_swift false xs h = h

pub no_addresses : (m : Module) → IsWellTyped m → list_all holds_no_address (all_decls (declarations_of m)) ≡ true
no_addresses m r = with_swift m.imports.swift m.decls (plain_decls m.decls r.numbered.types.declarations)

pub sizes : (m : Module) → IsWellTyped m → SizesAreMeasured (declarations_of m)
sizes m r t plain = are_measured (declarations_of m) t (no_addresses m r) plain
