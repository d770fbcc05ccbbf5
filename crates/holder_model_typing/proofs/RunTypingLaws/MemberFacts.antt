-- Members and cases in the shapes of types: what typing finds by a name stands at the same place in the shape.
use Rattle.std.proofs.Common.{◌≡◌, ◌+◌, ◌-◌, ◌<◌, ℕ, zero, suc, List, [], ◌∷◌, ◌++◌, Bool, true, false, Option, Some, None, map, length, refl, sym, ap, ◌∙◌, subst, arith}
use Rattle.std.specs.Prelude.{ℤ, pos, negsuc, ◌&&◌, codes, is_some, option_and_then, option_map, position, slice_get, if◌then◌else◌}
use Rattle.std.specs.Str.{bytes_eq}
use Rattle.std.proofs.lemmas.List.{length-map}
use Rattle.std.proofs.lemmas.List.Quantifiers.{position-Some}
use Rattle.std.proofs.lemmas.Option.{slice_get-map, slice_get_within}
use Rattle.sil_ast.specs.declared.decl.Case.{Case}
use Rattle.sil_ast.specs.declared.decl.Decl.{Decl}
use Rattle.sil_ast.specs.declared.decl.Decl.TheVariants as decl
use Rattle.sil_ast.specs.declared.decl.Field.{Field}
use Rattle.sil_ast.specs.declared.member.Member.{Member}
use Rattle.sil_ast.specs.declared.module.Module.{Module}
use Rattle.sil_ast.specs.declared.type_name.TypeName.{TypeName, TypeName-F, out-TypeName}
use Rattle.sil_ast.specs.declared.type_name.TypeName.TheVariants as type
use Rattle.numbered_form.specs.Names.{Name, case_name, field_name}
use Rattle.holder_model.specs.memory_rules_accesses.Sources.{element_place, member_place}
use Rattle.holder_model.specs.ModuleShapes.{case_place, field_shape, field_shapes, is_case, shapes_of}
use Rattle.holder_model.specs.holder_model_values.RunValues.Layers.{CaseLayer}
use Rattle.holder_model.specs.holder_model_values.RunValues.Shapes.{CaseShapes, Enum, Shape, case_shapes, cases_of, listed, listed_cases, member_shapes, members_of, shape_of, with_case}
use Rattle.holder_model.specs.sil_types.Typing.Shapes.{case_count, case_count_in, case_in, class_field, class_fields, declared_cases, element_at, element_of, elements_in, field_named, fields_of_class}
use Rattle.holder_model.specs.sil_types.Typing.Shapes.{fields_of_struct, found_field, is_case_owner_layer, is_enum, is_owner, is_owner_layer, name_in, struct_field, struct_fields}
use Rattle.holder_model.specs.sil_types_declarations.TypeDefinitions.Declarations.{Declarations, decl_of, declarations_of, is_class, is_class_found, optional_cases, place_of, superclass_found}
use Rattle.holder_model.specs.sil_types_declarations.TypeDefinitions.Lookups.{FoundField, Payload, case_payload, decl_cases, decl_fields, field_at_place, fields_of, inherited_fields, optional_payload}
use Rattle.holder_model.specs.sil_types_declarations.TypeDefinitions.Lookups.{own_fields, payload_at}
use Rattle.holder_model.specs.sil_types_declarations.TypeDefinitions.Lookups.{payload_in}
use Rattle.holder_model.specs.sil_types_declarations.TypeDefinitions.Lookups.{chain_fields}
use Rattle.holder_model.specs.RunTyping.RowForms.{IsEnum, IsGroup, enum, struct}
use Rattle.holder_model_typing.specs.RunTypingLaws.inner.WellTyped.{IsWellTyped}
use Rattle.holder_model_typing.proofs.RunTypingLaws.ClassChains.{no_ancestors}
use Rattle.holder_model_typing.proofs.RunTypingLaws.FieldShapes.{field_shapes_are}
use Rattle.holder_model_typing.proofs.RunTypingLaws.Found.{both_first, both_second, name_is, position-map}
use Rattle.holder_model_typing.proofs.RunTypingLaws.Outer.{is_Named, is_Optional, is_Tuple}
use Rattle.holder_model_typing.proofs.RunTypingLaws.ShapeFacts.{case_layer_of, enum_shape, field_shape_of, optional_shape, struct_shape, tuple_shape}
use Rattle.holder_model_typing.proofs.RunTypingLaws.TextClasses.{chains_end}

-- ---- lists of members and of cases

listed_all : (ss : List Shape) → listed (members_of ss) ≡ ss
listed_all [] = refl
listed_all (s ∷ ss) = ap (λ rest. s ∷ rest) (listed_all ss)

listed_one : (c : CaseLayer Shape) (others : CaseShapes) → listed_cases (with_case c.name c.payload others) ≡ c ∷ listed_cases others
listed_one c others = at c.payload refl
  where
    at : (o : Option Shape) → c.payload ≡ o → listed_cases (with_case c.name o others) ≡ c ∷ listed_cases others
    at None e = ap (λ o. record { name = c.name; payload = o } ∷ listed_cases others) (sym e)
    at (Some s) e = ap (λ o. record { name = c.name; payload = o } ∷ listed_cases others) (sym e)

listed_all_cases : (cs : List (CaseLayer Shape)) → listed_cases (cases_of cs) ≡ cs
listed_all_cases [] = refl
listed_all_cases (c ∷ cs) = listed_one c (cases_of cs) ∙ ap (λ rest. c ∷ rest) (listed_all_cases cs)

-- the element behind a list
behind : {A : Type 0} (xs ys : List A) (p k : ℕ) → k ≡ length xs + p → slice_get (xs ++ ys) k ≡ slice_get ys p
behind [] ys p k e = let same : k ≡ p = omega arith in ap (slice_get ys) same
behind (x ∷ xs) ys p zero e = absurd (omega arith)
behind (x ∷ xs) ys p (suc k) e = behind xs ys p k (omega arith)

mapped_at : {A B : Type 0} (f : A → B) (xs : List A) (k : ℕ) (x : A) → slice_get xs k ≡ Some x → slice_get (map f xs) k ≡ Some (f x)
mapped_at f xs k x e = slice_get-map f xs k ∙ ap (option_map f) e

where_true : {A : Type 0} (b : Bool) (o : Option A) (x : A) → (if b then o else None) ≡ Some x → (b ≡ true) × (o ≡ Some x)
where_true true o x e = (refl, e)
where_true false o x e = cc

-- ---- elements

number_at : (parts : List TypeName) (number : Option ℤ) (u : TypeName) → element_at parts number ≡ Some u
    → (k : ℕ) × (element_place number ≡ Some k) × (slice_get parts k ≡ Some u)
number_at parts None u e = cc
number_at parts (Some (pos n)) u e = (n, refl, e)
number_at parts (Some (negsuc n)) u e = cc

pub element_shape : (m : Module) (number : Option ℤ) (t u : TypeName) → element_of number t ≡ Some u
    → (k : ℕ) × (element_place number ≡ Some k) × (slice_get (member_shapes (shape_of (declarations_of m) t)) k ≡ Some (shape_of (declarations_of m) u))
element_shape m number t u e = at (out-TypeName t) refl e
  where
    at : (layer : TypeName-F TypeName) → out-TypeName t ≡ layer → option_and_then (λ ts. element_at ts number) (elements_in layer) ≡ Some u
        → (k : ℕ) × (element_place number ≡ Some k) × (slice_get (member_shapes (shape_of (declarations_of m) t)) k ≡ Some (shape_of (declarations_of m) u))
    at (TypeName-F.Tuple parts) is e =
        let shape = shape_of (declarations_of m) in
        let f = number_at parts number u e in
        let s = ap shape (is_Tuple t parts is) ∙ tuple_shape m parts in
        (f.0, f.1, ap (λ s. slice_get (member_shapes s) f.0) s ∙ ap (λ ss. slice_get ss f.0) (listed_all (map shape parts)) ∙ mapped_at shape parts f.0 u f.2)
    at _ is e = cc

-- ---- fields

among_own : (before : ℕ) (own : List Field) (o : Option ℕ) (f : Field) → option_map found_field (field_at_place before own o) ≡ Some f
    → (p : ℕ) × (option_map (λ g. g.place) (field_at_place before own o) ≡ Some (before + p)) × (slice_get own p ≡ Some f)
among_own before own None f e = cc
among_own before own (Some p) f e = at (slice_get own p) refl e
  where
    with_place : Field → FoundField
    with_place f = record { place = before + p; field = f }

    at : (x : Option Field) → slice_get own p ≡ x → option_map found_field (option_map with_place x) ≡ Some f
        → (p : ℕ) × (option_map (λ g. g.place) (option_map with_place x) ≡ Some (before + p)) × (slice_get own p ≡ Some f)
    at None is e = cc
    at (Some y) is e = (p, refl, is ∙ e)

module _ (m : Module) where
  abbrev d : Declarations
  d = declarations_of m

  -- the struct that a type is
  pub struct_named : (t : TypeName) (fields : List Field) → fields_of_struct d t ≡ Some fields
      → (name : Name) × (n : Name) × (out-TypeName t ≡ TypeName-F.Named name) × (decl_of d name ≡ Some (decl.Struct n fields))
  struct_named t fields e = at (out-TypeName t) refl e
    where
      by : (name : Name) (o : Option Decl) → decl_of d name ≡ o → option_and_then struct_fields o ≡ Some fields
          → (n : Name) × (decl_of d name ≡ Some (decl.Struct n fields))
      by name None is e = cc
      by name (Some (decl.Struct n fs)) is e = let same : fs ≡ fields = cc in (n, is ∙ ap (λ fs. Some (decl.Struct n fs)) same)
      by name (Some (decl.Enum n cases)) is e = cc
      by name (Some (decl.Class n superclass fs)) is e = cc

      at : (layer : TypeName-F TypeName) → out-TypeName t ≡ layer → option_and_then struct_fields (option_and_then (decl_of d) (name_in layer)) ≡ Some fields
          → (name : Name) × (n : Name) × (out-TypeName t ≡ TypeName-F.Named name) × (decl_of d name ≡ Some (decl.Struct n fields))
      at (TypeName-F.Named name) is e = let f = by name (decl_of d name) refl e in (name, f.0, is, f.1)
      at _ is e = cc

  -- the class that a type is
  class_named : (t : TypeName) → is_some (fields_of_class d t) ≡ true → (name : Name) × (out-TypeName t ≡ TypeName-F.Named name) × (is_class d name ≡ true)
  class_named t e = at (out-TypeName t) refl e
    where
      by : (o : Option Decl) → is_some (option_and_then class_fields o) ≡ true → is_class_found o ≡ true
      by None e = cc
      by (Some (decl.Struct n fields)) e = cc
      by (Some (decl.Enum n cases)) e = cc
      by (Some (decl.Class n superclass fields)) e = refl

      at : (layer : TypeName-F TypeName) → out-TypeName t ≡ layer → is_some (option_and_then class_fields (option_and_then (decl_of d) (name_in layer))) ≡ true
          → (name : Name) × (out-TypeName t ≡ TypeName-F.Named name) × (is_class d name ≡ true)
      at (TypeName-F.Named name) is e = (name, is, by (decl_of d name) e)
      at _ is e = cc

  owner_is : (named : Member) (t : TypeName) → is_owner named t ≡ true → out-TypeName t ≡ TypeName-F.Named named.owner
  owner_is named t e = at (out-TypeName t) refl e
    where
      at : (layer : TypeName-F TypeName) → out-TypeName t ≡ layer → is_owner_layer named.owner layer ≡ true → out-TypeName t ≡ TypeName-F.Named named.owner
      at (TypeName-F.Named name) is e = is ∙ ap TypeName-F.Named (name_is name named.owner e)
      at _ is e = cc

  -- a field that a name finds stands among its owner's own, behind the inherited ones
  field_found : (named : Member) (f : Field) → field_named d named ≡ Some f
      → (p : ℕ) × (member_place d (Some named) ≡ Some (length (inherited_fields d named.owner) + p)) × (slice_get (own_fields d named.owner) p ≡ Some f)
  field_found named f e =
      let own = own_fields d named.owner in
      among_own (length (inherited_fields d named.owner)) own (place_of (map field_name own) named.name) f e

-- ---- fields in shapes

module _ (m : Module) (r : IsWellTyped m) where
  pub struct_group : (t : TypeName) (fields : List Field) → fields_of_struct (declarations_of m) t ≡ Some fields
      → IsGroup (shape_of (declarations_of m) t) (map (field_shape_of m) fields)
  struct_group t fields e =
      let s = struct_named m t fields e in
      let is = ap (shape_of (declarations_of m)) (is_Named t s.0 s.2) ∙ struct_shape m r s.0 s.1 fields s.3 in
      subst (λ shape. IsGroup shape (map (field_shape_of m) fields)) (sym is) (struct s.1 (map (field_shape_of m) fields))

  pub struct_member : (named : Member) (t : TypeName) (f : Field) → struct_field (declarations_of m) named t ≡ Some f
      → (k : ℕ) × (member_place (declarations_of m) (Some named) ≡ Some k)
      × (slice_get (member_shapes (shape_of (declarations_of m) t)) k ≡ Some (shape_of (declarations_of m) f.ty))
  struct_member named t f e =
      let d = declarations_of m in
      let parts = where_true (is_owner named t && is_some (fields_of_struct d t)) (field_named d named) f e in
      let owned = owner_is m named t (both_first (is_owner named t) (is_some (fields_of_struct d t)) parts.0) in
      with_fields (fields_of_struct d t) refl (both_second (is_owner named t) (is_some (fields_of_struct d t)) parts.0) owned parts.1
    where
      with_fields : (o : Option (List Field)) → fields_of_struct (declarations_of m) t ≡ o → is_some o ≡ true
          → out-TypeName t ≡ TypeName-F.Named named.owner → field_named (declarations_of m) named ≡ Some f
          → (k : ℕ) × (member_place (declarations_of m) (Some named) ≡ Some k)
          × (slice_get (member_shapes (shape_of (declarations_of m) t)) k ≡ Some (shape_of (declarations_of m) f.ty))
      with_fields None is some owned e = cc
      with_fields (Some fields) is some owned e =
          let d = declarations_of m in
          let s = struct_named m t fields is in
          let same : s.0 ≡ named.owner = cc (s.2, owned) in
          let declared : decl_of d named.owner ≡ Some (decl.Struct s.1 fields) = ap (decl_of d) (sym same) ∙ s.3 in
          let none_above : inherited_fields d named.owner ≡ [] = ap (chain_fields d) (no_ancestors d (chains_end m r) named.owner (ap superclass_found declared)) in
          let found = field_found m named f e in
          let first : length (inherited_fields d named.owner) + found.0 ≡ found.0 = ap (λ fs. length fs + found.0) none_above ∙ (let none : 0 + found.0 ≡ found.0 = omega arith in none) in
          let own : slice_get fields found.0 ≡ Some f = ap (λ x. slice_get (decl_fields x) found.0) (sym declared) ∙ found.2 in
          let shape = ap (shape_of d) (is_Named t named.owner owned) ∙ struct_shape m r named.owner s.1 fields declared in (
            found.0,
            found.1 ∙ ap (λ k. Some k) first,
            ap (λ x. slice_get (member_shapes x) found.0) shape ∙ ap (λ ss. slice_get ss found.0) (listed_all (map (field_shape_of m) fields))
                ∙ mapped_at (field_shape_of m) fields found.0 f own,
          )

  -- the type is the class that owns the field, whose shape stands at its place among all fields
  pub class_member : (named : Member) (t : TypeName) (f : Field) → class_field (declarations_of m) named t ≡ Some f
      → (k : ℕ) × (t ≡ type.Named named.owner) × (is_class (declarations_of m) named.owner ≡ true) × (member_place (declarations_of m) (Some named) ≡ Some k)
      × (slice_get (field_shapes (shapes_of m) named.owner) k ≡ Some (field_shape (declarations_of m) f))
  class_member named t f e =
      let d = declarations_of m in
      let owns = is_owner named t in
      let is_some_class = is_some (fields_of_class d t) in
      let parts = where_true (owns && is_some_class) (field_named d named) f e in
      let owned = owner_is m named t (both_first owns is_some_class parts.0) in
      let c = class_named m t (both_second owns is_some_class parts.0) in
      let found = field_found m named f parts.1 in
      let inherited = inherited_fields d named.owner in
      let same : c.0 ≡ named.owner = cc (c.1, owned) in
      let class = subst (λ n. is_class d n ≡ true) same c.2 in (
        length inherited + found.0,
        is_Named t named.owner owned,
        class,
        found.1,
        ap (λ ss. slice_get ss (length inherited + found.0)) (field_shapes_are m r named.owner class)
            ∙ mapped_at (field_shape d) (fields_of d named.owner) (length inherited + found.0) f
            (behind inherited (own_fields d named.owner) found.0 (length inherited + found.0) refl ∙ found.2),
      )

-- ---- cases

-- the layers of the cases of an Optional
abbrev optional_layers : Shape → List (CaseLayer Shape)
optional_layers s = record { name = codes "none"; payload = None } ∷ record { name = codes "some"; payload = Some s } ∷ []

abbrev layer_name : CaseLayer Shape → Name
layer_name c = c.name

-- a shape of an enum with these cases
pub record HasCases (s : Shape) (layers : List (CaseLayer Shape)) : Type 0 where
  pub name : Name
  pub is : s ≡ Enum name (cases_of layers)

cases_are : (s : Shape) (layers : List (CaseLayer Shape)) → HasCases s layers → case_shapes s ≡ layers
cases_are s layers h = ap case_shapes h.is ∙ listed_all_cases layers

among_cases : (cases : List Case) (o : Option ℕ) (p : Payload) → payload_at cases o ≡ Some p → (c : Case) × (o ≡ Some p.place) × (slice_get cases p.place ≡ Some c) × (c.payload ≡ p.ty)
among_cases cases None p e = cc
among_cases cases (Some i) p e = at (slice_get cases i) refl e
  where
    with_place : Case → Payload
    with_place c = record { place = i; ty = case_payload c }

    at : (x : Option Case) → slice_get cases i ≡ x → option_map with_place x ≡ Some p
        → (c : Case) × (Some i ≡ Some p.place) × (slice_get cases p.place ≡ Some c) × (c.payload ≡ p.ty)
    at None is e = cc
    at (Some c) is e =
        let same : with_place c ≡ p = cc in
        let place = ap (λ q. q.place) same in
        (c, ap (λ k. Some k) place, ap (slice_get cases) (sym place) ∙ is, ap (λ q. q.ty) same)

no_case : {P : Type 0} (o : Option ℕ) (p : Payload) → payload_at [] o ≡ Some p → P
no_case o p e = let f = among_cases [] o p e in let none : None ≡ Some f.0 = f.2 in cc

same_names : (m : Module) (cases : List Case) → map layer_name (map (case_layer_of m) cases) ≡ map case_name cases
same_names m [] = refl
same_names m (c ∷ cases) = ap (λ names. c.name ∷ names) (same_names m cases)

module _ (m : Module) (r : IsWellTyped m) where
  optional_has : (t target : TypeName) → out-TypeName t ≡ TypeName-F.Optional target → HasCases (shape_of (declarations_of m) t) (optional_layers (shape_of (declarations_of m) target))
  optional_has t target e = record { name = codes "Optional"; is = ap (shape_of (declarations_of m)) (is_Optional t target e) ∙ optional_shape m target }

  enum_has : (t : TypeName) (name n : Name) (cases : List Case) → out-TypeName t ≡ TypeName-F.Named name → decl_of (declarations_of m) name ≡ Some (decl.Enum n cases)
      → HasCases (shape_of (declarations_of m) t) (map (case_layer_of m) cases)
  enum_has t name n cases e declared = record { name = n; is = ap (shape_of (declarations_of m)) (is_Named t name e) ∙ enum_shape m r name n cases declared }

  -- an enum has as many cases as its shape
  counted : (t : TypeName) (n : ℕ) → case_count (declarations_of m) t ≡ Some n → (layers : List (CaseLayer Shape)) × HasCases (shape_of (declarations_of m) t) layers × (length layers ≡ n)
  counted t n e = at (out-TypeName t) refl e
    where
      by : (name : Name) → out-TypeName t ≡ TypeName-F.Named name → (o : Option Decl) → decl_of (declarations_of m) name ≡ o → option_and_then declared_cases o ≡ Some n
          → (layers : List (CaseLayer Shape)) × HasCases (shape_of (declarations_of m) t) layers × (length layers ≡ n)
      by name is None declared e = cc
      by name is (Some (decl.Struct _ fields)) declared e = cc
      by name is (Some (decl.Enum k cases)) declared e =
          let same : length cases ≡ n = cc in
          (map (case_layer_of m) cases, enum_has t name k cases is declared, length-map cases (case_layer_of m) ∙ same)
      by name is (Some (decl.Class _ superclass fields)) declared e = cc

      at : (layer : TypeName-F TypeName) → out-TypeName t ≡ layer → case_count_in (declarations_of m) layer ≡ Some n
          → (layers : List (CaseLayer Shape)) × HasCases (shape_of (declarations_of m) t) layers × (length layers ≡ n)
      at (TypeName-F.Named name) is e = by name is (decl_of (declarations_of m) name) refl e
      at (TypeName-F.Optional target) is e =
          let same : 2 ≡ n = cc in
          (optional_layers (shape_of (declarations_of m) target), optional_has t target is, same)
      at _ is e = cc

  pub enum_is : (t : TypeName) → is_enum (declarations_of m) t ≡ true → IsEnum (shape_of (declarations_of m) t)
  enum_is t e = at (case_count (declarations_of m) t) refl e
    where
      at : (o : Option ℕ) → case_count (declarations_of m) t ≡ o → is_some o ≡ true → IsEnum (shape_of (declarations_of m) t)
      at None is e = cc
      at (Some n) is e = let c = counted t n is in subst IsEnum (sym c.1.is) (enum c.1.name (cases_of c.0))

  pub cases_counted : (t : TypeName) (n k : ℕ) (c : CaseLayer Shape) → case_count (declarations_of m) t ≡ Some n
      → slice_get (case_shapes (shape_of (declarations_of m) t)) k ≡ Some c → (before : ℕ) × (n ≡ suc (k + before))
  cases_counted t n k c e there =
      let x = counted t n e in
      let inside : k < length x.0 = slice_get_within x.0 k c (ap (λ cs. slice_get cs k) (sym (cases_are (shape_of (declarations_of m) t) x.0 x.1)) ∙ there) in
      let size : length x.0 ≡ n = x.2 in
      (n - suc k, omega arith)

  abbrev IsCaseAt : TypeName → Name → Payload → Type 0
  IsCaseAt t name p = (c : CaseLayer Shape) × (position (is_case name) (case_shapes (shape_of (declarations_of m) t)) ≡ Some p.place)
      × (slice_get (case_shapes (shape_of (declarations_of m) t)) p.place ≡ Some c) × (c.payload ≡ option_map (shape_of (declarations_of m)) p.ty)

  -- the case stands among the layers of the enum's cases
  placed : (t : TypeName) (name : Name) (p : Payload) (layers : List (CaseLayer Shape)) (c : CaseLayer Shape) → HasCases (shape_of (declarations_of m) t) layers
      → place_of (map layer_name layers) name ≡ Some p.place → slice_get layers p.place ≡ Some c → c.payload ≡ option_map (shape_of (declarations_of m)) p.ty → IsCaseAt t name p
  placed t name p layers c h place there payload =
      let same = cases_are (shape_of (declarations_of m) t) layers h in
      (c, ap (position (is_case name)) same ∙ sym (position-map (bytes_eq name) layer_name layers) ∙ place, ap (λ cs. slice_get cs p.place) same ∙ there, payload)

  in_enum : (t : TypeName) (owner name : Name) (p : Payload) → out-TypeName t ≡ TypeName-F.Named owner → (o : Option Decl) → decl_of (declarations_of m) owner ≡ o
      → payload_at (decl_cases o) (place_of (map case_name (decl_cases o)) name) ≡ Some p → IsCaseAt t name p
  in_enum t owner name p is None declared e = no_case (place_of [] name) p e
  in_enum t owner name p is (Some (decl.Struct _ fields)) declared e = no_case (place_of [] name) p e
  in_enum t owner name p is (Some (decl.Enum n cases)) declared e =
      let f = among_cases cases (place_of (map case_name cases) name) p e in
      placed t name p (map (case_layer_of m) cases) (case_layer_of m f.0) (enum_has t owner n cases is declared)
      (ap (λ names. place_of names name) (same_names m cases) ∙ f.1) (mapped_at (case_layer_of m) cases p.place f.0 f.2) (ap (option_map (shape_of (declarations_of m))) f.3)
  in_enum t owner name p is (Some (decl.Class _ superclass fields)) declared e = no_case (place_of [] name) p e

  in_optional : (t target : TypeName) (name : Name) (p : Payload) → out-TypeName t ≡ TypeName-F.Optional target → (o : Option ℕ) → place_of optional_cases name ≡ o
      → optional_payload target o ≡ Some p → IsCaseAt t name p
  in_optional t target name p is None found e = cc
  in_optional t target name p is (Some zero) found e =
      let same : record { place = 0; ty = None } ≡ p = cc in
      let layers = optional_layers (shape_of (declarations_of m) target) in
      subst (IsCaseAt t name) same (placed t name (record { place = 0; ty = None }) layers (record { name = codes "none"; payload = None }) (optional_has t target is) found refl refl)
  in_optional t target name p is (Some (suc zero)) found e =
      let shape = shape_of (declarations_of m) target in
      let same : record { place = 1; ty = Some target } ≡ p = cc in
      subst (IsCaseAt t name) same
      (placed t name (record { place = 1; ty = Some target }) (optional_layers shape) (record { name = codes "some"; payload = Some shape }) (optional_has t target is) found refl refl)
  in_optional t target name p is (Some (suc (suc i))) found e =
      let inside : suc (suc i) < length optional_cases = (position-Some (bytes_eq name) optional_cases (suc (suc i)) [] found).0 in absurd (omega arith)

  pub case_found : (named : Member) (t : TypeName) (p : Payload) → case_in (declarations_of m) named t ≡ Some p
      → (c : CaseLayer Shape) × (case_place (shape_of (declarations_of m) t) (Some named) ≡ Some p.place)
      × (slice_get (case_shapes (shape_of (declarations_of m) t)) p.place ≡ Some c) × (c.payload ≡ option_map (shape_of (declarations_of m)) p.ty)
  case_found named t p e =
      at (out-TypeName t) refl (where_true (is_case_owner_layer named.owner (out-TypeName t)) (payload_in (declarations_of m) named.name (out-TypeName t)) p e).1
    where
      at : (layer : TypeName-F TypeName) → out-TypeName t ≡ layer → payload_in (declarations_of m) named.name layer ≡ Some p → IsCaseAt t named.name p
      at (TypeName-F.Named owner) is e = in_enum t owner named.name p is (decl_of (declarations_of m) owner) refl e
      at (TypeName-F.Optional target) is e = in_optional t target named.name p is (place_of optional_cases named.name) refl e
      at _ is e = cc
