-- Weak and unowned storage stands in no declaration, and so in the shape of no type in which it isn't written.
use Rattle.std.proofs.Common.{◌≡◌, ℕ, zero, suc, List, [], ◌∷◌, ◌++◌, length, map, refl, sym, ap, ◌∙◌, subst, arith, Bool, true, false, Option, Some, None}
use Rattle.std.specs.Prelude.{All, ◌&&◌, ◌||◌, option_map, slice_get}
use Rattle.std.specs.List.{flat_map, list_all, list_any}
use Rattle.std.specs.Option.{option_to_list}
use Rattle.std.proofs.lemmas.Bool.{or_parts, true≢false}
use Rattle.sil_ast.specs.declared.decl.Case.{Case}
use Rattle.sil_ast.specs.declared.decl.Decl.{Decl}
use Rattle.sil_ast.specs.declared.decl.Decl.TheVariants as decl
use Rattle.sil_ast.specs.declared.decl.Field.{Field}
use Rattle.sil_ast.specs.declared.module.Module.{Module}
use Rattle.sil_ast.specs.declared.type_name.TypeName.{TypeName, TypeName-F, fold-roll-TypeName, map-TypeName}
use Rattle.numbered_form.specs.Lists.{Each}
use Rattle.numbered_form.specs.Names.{Name}
use Rattle.numbered_form.specs.inner.Fields.{HasStrongFields, IsStrong}
use Rattle.holder_model.specs.sil_types_declarations.TypeDefinitions.Contained.{field_type, held_types, payload_types}
use Rattle.holder_model.specs.sil_types_declarations.TypeDefinitions.Declarations.{Declarations, all_decls, declarations_of, decl_of, swift_structs}
use Rattle.holder_model.specs.sil_types_declarations.TypeDefinitions.Mentions.{Item, field_standing, if_there, in_case, in_field}
use Rattle.holder_model.specs.sil_types_declarations.TypeDefinitions.Mentions as item
use Rattle.holder_model.specs.sil_types_declarations.TypeDefinitions.Rules.{IsWellNamed, has_misplaced_storage, has_storage, has_storage_over, is_misplaced, is_misplaced_at}
use Rattle.holder_model.specs.sil_types_declarations.declared.type_definitions.standing.Standing.TheVariants.{Object}
use Rattle.holder_model.specs.holder_model_values.RunValues.Layers.{case_with, decl_with, field_with, named_within, over, type_with}
use Rattle.holder_model.specs.holder_model_values.RunValues.Shapes.{CaseShapes, Shape, cases_by_layers, cases_of, each_by_layers, members_of, shape_of, shape_with, with_case}
use Rattle.holder_model.specs.holder_model_values.RunValues.Trivial.{itself}
use Rattle.holder_model.specs.RunTyping.Forms.{has_no_storage}
use Rattle.holder_model.specs.holder_model_values.ValueParts.inner.Storages.{no_storage_layer, payload_holds_none}
use Rattle.holder_model_typing.specs.RunTypingLaws.inner.WellTyped.{IsWellTyped}
use Rattle.holder_model_typing.proofs.RunTypingLaws.Declared.{each_append, each_at, each_from, holds_of_found}
use Rattle.holder_model_typing.proofs.RunTypingLaws.Opened.{Proved, by_layer, fold-Int, type_in, types_in}

-- no type that the declaration holds has storage in it
abbrev HoldsNone : Decl → Type 0
HoldsNone x = list_any has_storage (held_types x) ≡ false

abbrev none_in_members : List Shape → Bool
none_in_members ss = list_all itself (each_by_layers no_storage_layer (members_of ss))

abbrev none_in_cases : CaseShapes → Bool
none_in_cases cs = list_all payload_holds_none (cases_by_layers no_storage_layer cs)

both : (a b : Bool) → a ≡ true → b ≡ true → (a && b) ≡ true
both a b p q = ap (λ x. x && b) p ∙ q

module _ (named : Name → Shape) (none : (name : Name) → has_no_storage (named name) ≡ true) where
  abbrev Keeps : TypeName → Type 0
  Keeps t = has_storage t ≡ false → has_no_storage (type_with shape_with named t) ≡ true

  of_parts : (ts : List (Proved Keeps)) → list_any (λ b. b) (map has_storage (map (type_in Keeps) ts)) ≡ false
      → none_in_members (map (type_with shape_with named) (map (type_in Keeps) ts)) ≡ true
  of_parts [] e = refl
  of_parts (t ∷ ts) e =
      let parts = or_parts (has_storage t.0) (list_any (λ b. b) (map has_storage (map (type_in Keeps) ts))) e in
      both (has_no_storage (type_with shape_with named t.0)) (none_in_members (map (type_with shape_with named) (map (type_in Keeps) ts)))
      (t.1 parts.0) (of_parts ts parts.1)

  of_layer : (x : TypeName-F (Proved Keeps)) → has_storage_over (map-TypeName TypeName Bool has_storage (types_in Keeps x)) ≡ false
      → has_no_storage (over shape_with named (map-TypeName TypeName Shape (type_with shape_with named) (types_in Keeps x))) ≡ true
  of_layer (TypeName-F.Int width) e = refl
  of_layer (TypeName-F.Named name) e = none name
  of_layer (TypeName-F.Optional t) e = both (has_no_storage (type_with shape_with named t.0)) true (t.1 e) refl
  of_layer (TypeName-F.Tuple ts) e = of_parts ts e
  of_layer (TypeName-F.Weak t) e = absurd (true≢false e)
  of_layer (TypeName-F.Unowned t) e = absurd (true≢false e)
  of_layer (TypeName-F.Address t) e = refl

  pub of_type : (t : TypeName) → Keeps t
  of_type = by_layer Keeps (λ x e.
      ap has_no_storage (fold-roll-TypeName Shape (over shape_with named) (types_in Keeps x))
      ∙ of_layer x (sym (fold-roll-TypeName Bool has_storage_over (types_in Keeps x)) ∙ e))

  of_fields : (fields : List Field) → list_any has_storage (map field_type fields) ≡ false → none_in_members (map (field_with shape_with named) fields) ≡ true
  of_fields [] e = refl
  of_fields (x ∷ fields) e =
      let parts = or_parts (has_storage x.ty) (list_any has_storage (map field_type fields)) e in
      both (has_no_storage (field_with shape_with named x)) (none_in_members (map (field_with shape_with named) fields)) (of_type x.ty parts.0) (of_fields fields parts.1)

  of_payload : (name : Name) (t : Option TypeName) (more : List TypeName) (others : CaseShapes) → list_any has_storage (option_to_list t ++ more) ≡ false
      → (list_any has_storage more ≡ false → none_in_cases others ≡ true) → none_in_cases (with_case name (option_map (type_with shape_with named) t) others) ≡ true
  of_payload name None more others e rest = rest e
  of_payload name (Some t) more others e rest =
      let parts = or_parts (has_storage t) (list_any has_storage more) e in
      both (has_no_storage (type_with shape_with named t)) (none_in_cases others) (of_type t parts.0) (rest parts.1)

  of_cases : (cases : List Case) → list_any has_storage (flat_map payload_types cases) ≡ false → none_in_cases (cases_of (map (case_with shape_with named) cases)) ≡ true
  of_cases [] e = refl
  of_cases (c ∷ cases) e = of_payload c.name c.payload (flat_map payload_types cases) (cases_of (map (case_with shape_with named) cases)) e (of_cases cases)

  of_decl : (x : Decl) → HoldsNone x → has_no_storage (decl_with shape_with named (Some x)) ≡ true
  of_decl (decl.Struct name fields) e = of_fields fields e
  of_decl (decl.Enum name cases) e = of_cases cases e
  of_decl (decl.Class name superclass fields) e = refl

of_name : (d : Declarations) → Each HoldsNone (all_decls d) → (k : ℕ) (name : Name) → has_no_storage (named_within shape_with d k name) ≡ true
of_name d each zero name = refl
of_name d each (suc k) name = at (decl_of d name) refl (of_name d each k)
  where
    at : (x : Option Decl) → decl_of d name ≡ x → ((n : Name) → has_no_storage (named_within shape_with d k n) ≡ true)
        → has_no_storage (decl_with shape_with (named_within shape_with d k) x) ≡ true
    at None e below = refl
    at (Some x) e below = of_decl (named_within shape_with d k) below x (holds_of_found d HoldsNone each name x e)

-- where nothing is misplaced, declarations hold none

fields_hold_none : (d : Declarations) (fields : List Field) → Each IsStrong fields → list_any (is_misplaced d) (map in_field fields) ≡ false
    → list_any has_storage (map field_type fields) ≡ false
fields_hold_none d [] strong e = refl
fields_hold_none d (x ∷ fields) strong e =
    let parts = or_parts (is_misplaced d (in_field x)) (list_any (is_misplaced d) (map in_field fields)) e in
    let here : has_storage x.ty ≡ false = sym (ap (λ s. is_misplaced_at d (field_standing s) x.ty) strong.0) ∙ parts.0 in
    ap (λ b. b || list_any has_storage (map field_type fields)) here ∙ fields_hold_none d fields strong.1 parts.1

payload_type_holds_none : (d : Declarations) (t : Option TypeName) (more : List item.Mention) (others : List TypeName) → list_any (is_misplaced d) (if_there Object t ++ more) ≡ false
    → (list_any (is_misplaced d) more ≡ false → list_any has_storage others ≡ false) → list_any has_storage (option_to_list t ++ others) ≡ false
payload_type_holds_none d None more others e rest = rest e
payload_type_holds_none d (Some t) more others e rest =
    let parts = or_parts (has_storage t) (list_any (is_misplaced d) more) e in
    ap (λ b. b || list_any has_storage others) parts.0 ∙ rest parts.1

cases_hold_none : (d : Declarations) (cases : List Case) → list_any (is_misplaced d) (flat_map in_case cases) ≡ false → list_any has_storage (flat_map payload_types cases) ≡ false
cases_hold_none d [] e = refl
cases_hold_none d (c ∷ cases) e = payload_type_holds_none d c.payload (flat_map in_case cases) (flat_map payload_types cases) e (cases_hold_none d cases)

holds_none : (d : Declarations) (x : Decl) → HasStrongFields x → has_misplaced_storage d (item.decl x) ≡ false → HoldsNone x
holds_none d (decl.Struct name fields) strong e = fields_hold_none d fields strong e
holds_none d (decl.Enum name cases) strong e = cases_hold_none d cases e
holds_none d (decl.Class name superclass fields) strong e = refl

swift_hold_none : (swift : Bool) → Each HoldsNone (swift_structs swift)
swift_hold_none true = (ap (λ b. b || false) (fold-Int Bool has_storage_over 64), (ap (λ b. b || false) (fold-Int Bool has_storage_over 1), tt))
swift_hold_none false = tt

-- what holds of all items holds of that of a declaration
decl_item : (P : Item → Type 0) (xs : List Decl) (more others : List Item) → All P (map item.decl xs ++ more ++ others) → (i : ℕ) (x : Decl) → slice_get xs i ≡ Some x → P (item.decl x)
decl_item P [] more others all i x e = cc
decl_item P (y ∷ ys) more others all zero x e = let same : y ≡ x = cc in subst (λ z. P (item.decl z)) same (all 0 (item.decl y) (omega arith))
decl_item P (y ∷ ys) more others all (suc i) x e = decl_item P ys more others (λ k z lt. all (suc k) z (omega arith)) i x e

pub declarations_hold_none : (m : Module) → IsWellTyped m → Each HoldsNone (all_decls (declarations_of m))
declarations_hold_none m r =
    each_append HoldsNone (swift_structs m.imports.swift) m.decls (swift_hold_none m.imports.swift) (each_from HoldsNone m.decls (λ i x e.
    holds_none (declarations_of m) x (each_at HasStrongFields m.decls i x r.numbered.fields e)
    (decl_item (IsWellNamed (declarations_of m)) m.decls (map item.function m.functions) (map item.vtable m.vtables) r.declared.items i x e).storage))

-- no storage is in the shape of a type in which none is written
pub no_storage_shape : (m : Module) → IsWellTyped m → (t : TypeName) → has_storage t ≡ false → has_no_storage (shape_of (declarations_of m) t) ≡ true
no_storage_shape m r t e =
    let d = declarations_of m in
    let n = length (all_decls d) in
    of_type (named_within shape_with d n) (of_name d (declarations_hold_none m r) n) t e
