-- Where no address is, the size of a type's shape is the number of leaves that is measured on the type.
use Rattle.std.proofs.Common.{◌≡◌, ◌+◌, ◌++◌, ℕ, zero, suc, List, [], ◌∷◌, Option, Some, None, Bool, true, refl, sym, ap, ◌∙◌, subst}
use Rattle.std.specs.Prelude.{map, length, option_map, sum, unwrap_or}
use Rattle.std.specs.List.{flat_map, list_all}
use Rattle.std.specs.Option.{option_to_list}
use Rattle.std.proofs.lemmas.Bool.{and_parts, false≢true}
use Rattle.sil_ast.specs.TypeName.{largest}
use Rattle.sil_ast.specs.declared.decl.Case.{Case}
use Rattle.sil_ast.specs.declared.decl.Decl.{Decl}
use Rattle.sil_ast.specs.declared.decl.Decl.TheVariants as decl
use Rattle.sil_ast.specs.declared.decl.Field.{Field}
use Rattle.sil_ast.specs.declared.type_name.TypeName.{TypeName, TypeName-F, fold-roll-TypeName, ind-TypeName, map-TypeName, roll-TypeName}
use Rattle.sil_types_declarations.specs.numbered_form.Names.{Name}
use Rattle.sil_types_declarations.specs.TypeDefinitions.Contained.{field_type, payload_types}
use Rattle.sil_types_declarations.specs.TypeDefinitions.Declarations.{Declarations, all_decls, all_names, at_place, place_of}
use Rattle.sil_types_declarations.specs.TypeDefinitions.Measures.{leaves_in, measure_at, measure_decl, measure_over, measure_with, measures_within, unmeasured}
use Rattle.sil_types_declarations.specs.declared.type_definitions.measure.Measure.{Measure}
use Rattle.holder_model_values.specs.RunValues.Layers.{case_with, decl_with, field_with, named_within, over, type_with}
use Rattle.holder_model_values.specs.RunValues.Leaves.{in_leaves, leaves_layer, payload_sizes, size_of}
use Rattle.holder_model_values.specs.RunValues.Shapes.{CaseShapes, Shape, cases_by_layers, cases_of, each_by_layers, members_of, shape_with, with_case}
use Rattle.holder_model_values.specs.RunValues.inner.Laws.{AreMeasured, has_no_address, has_no_address_over, holds_no_address}

abbrev size : Shape → ℕ
size s = (in_leaves s).size

abbrev sizes : List Shape → List ℕ
sizes ss = map size_of (each_by_layers leaves_layer (members_of ss))

abbrev payload_sizes_in : CaseShapes → List ℕ
payload_sizes_in cs = flat_map payload_sizes (cases_by_layers leaves_layer cs)

module _ (a : Name → Shape) (b : Name → Measure) (same : (n : Name) → size (a n) ≡ (b n).leaves) where
  abbrev Agree : TypeName → Type 0
  Agree t = has_no_address t ≡ true → size (type_with shape_with a t) ≡ (measure_with b t).leaves

  module _ {X : Type 0} (type_of : X → TypeName) (agree : (x : X) → Agree (type_of x)) where
    each : (xs : List X) → list_all (λ p. p) (map has_no_address (map type_of xs)) ≡ true
        → sizes (map (type_with shape_with a) (map type_of xs)) ≡ map leaves_in (map (measure_with b) (map type_of xs))
    each [] h = refl
    each (x ∷ xs) h =
        let parts = and_parts (has_no_address (type_of x)) (list_all (λ p. p) (map has_no_address (map type_of xs))) h in
        let here = agree x parts.0 in
        let behind = each xs parts.1 in
        ap (λ n. n ∷ sizes (map (type_with shape_with a) (map type_of xs))) here ∙ ap (λ ns. (measure_with b (type_of x)).leaves ∷ ns) behind

    abbrev types_in : TypeName-F X → TypeName-F TypeName
    types_in = map-TypeName X TypeName type_of

    on_parts : (x : TypeName-F X) → has_no_address_over (map-TypeName TypeName Bool has_no_address (types_in x)) ≡ true
        → size (over shape_with a (map-TypeName TypeName Shape (type_with shape_with a) (types_in x)))
        ≡ (measure_over b (map-TypeName TypeName Measure (measure_with b) (types_in x))).leaves
    on_parts (TypeName-F.Int width) h = refl
    on_parts (TypeName-F.Named n) h = same n
    on_parts (TypeName-F.Optional x) h = ap (λ n. 1 + largest (n ∷ [])) (agree x h)
    on_parts (TypeName-F.Tuple xs) h = ap sum (each xs h)
    on_parts (TypeName-F.Weak x) h = refl
    on_parts (TypeName-F.Unowned x) h = refl
    on_parts (TypeName-F.Address x) h = absurd (false≢true h)

    on_layer : (x : TypeName-F X) → Agree (roll-TypeName (types_in x))
    on_layer x h =
        ap (λ s. size s) (fold-roll-TypeName Shape (over shape_with a) (types_in x))
        ∙ on_parts x (sym (fold-roll-TypeName Bool has_no_address_over (types_in x)) ∙ h)
        ∙ sym (ap leaves_in (fold-roll-TypeName Measure (measure_over b) (types_in x)))

  of_type : (t : TypeName) → Agree t
  of_type = ind-TypeName Agree (λ x y is. subst (λ z. Agree (roll-TypeName z)) is (on_layer (λ e. e.0) (λ e. e.1) y))

  of_fields : (fields : List Field) → list_all has_no_address (map field_type fields) ≡ true
      → sizes (map (field_with shape_with a) fields) ≡ map leaves_in (map (measure_with b) (map field_type fields))
  of_fields [] h = refl
  of_fields (x ∷ fields) h =
      let parts = and_parts (has_no_address x.ty) (list_all has_no_address (map field_type fields)) h in
      let here = of_type x.ty parts.0 in
      let behind = of_fields fields parts.1 in
      ap (λ n. n ∷ sizes (map (field_with shape_with a) fields)) here ∙ ap (λ ns. (measure_with b x.ty).leaves ∷ ns) behind

  of_payload : (name : Name) (t : Option TypeName) (more : List TypeName) (others : CaseShapes) → list_all has_no_address (option_to_list t ++ more) ≡ true
      → (list_all has_no_address more ≡ true → payload_sizes_in others ≡ map leaves_in (map (measure_with b) more))
      → payload_sizes_in (with_case name (option_map (type_with shape_with a) t) others) ≡ map leaves_in (map (measure_with b) (option_to_list t ++ more))
  of_payload name None more others h behind = behind h
  of_payload name (Some t) more others h behind =
      let parts = and_parts (has_no_address t) (list_all has_no_address more) h in
      ap (λ n. n ∷ payload_sizes_in others) (of_type t parts.0) ∙ ap (λ ns. (measure_with b t).leaves ∷ ns) (behind parts.1)

  of_cases : (cases : List Case) → list_all has_no_address (flat_map payload_types cases) ≡ true
      → payload_sizes_in (cases_of (map (case_with shape_with a) cases)) ≡ map leaves_in (map (measure_with b) (flat_map payload_types cases))
  of_cases [] h = refl
  of_cases (c ∷ cases) h =
      of_payload c.name c.payload (flat_map payload_types cases) (cases_of (map (case_with shape_with a) cases)) h (of_cases cases)

  of_decl : (x : Decl) → holds_no_address x ≡ true → size (decl_with shape_with a (Some x)) ≡ (measure_decl b x).leaves
  of_decl (decl.Struct name fields) h = ap sum (of_fields fields h)
  of_decl (decl.Enum name cases) h = ap (λ ns. 1 + largest ns) (of_cases cases h)
  of_decl (decl.Class name superclass fields) h = refl

  of_decls : (xs : List Decl) (place : Option ℕ) → list_all holds_no_address xs ≡ true
      → size (decl_with shape_with a (at_place xs place)) ≡ (unwrap_or (at_place (map (measure_decl b) xs) place) unmeasured).leaves
  of_decls xs None h = refl
  of_decls [] (Some i) h = refl
  of_decls (x ∷ xs) (Some zero) h = of_decl x (and_parts (holds_no_address x) (list_all holds_no_address xs) h).0
  of_decls (x ∷ xs) (Some (suc i)) h = of_decls xs (Some i) (and_parts (holds_no_address x) (list_all holds_no_address xs) h).1

nothing_known : (place : Option ℕ) → 0 ≡ (unwrap_or (at_place [] place) unmeasured).leaves
nothing_known None = refl
nothing_known (Some i) = refl

of_name : (d : Declarations) → list_all holds_no_address (all_decls d) ≡ true → (n : ℕ) (name : Name)
    → size (named_within shape_with d n name) ≡ (measure_at (all_names d) (measures_within d n) name).leaves
of_name d h zero name = nothing_known (place_of (all_names d) name)
of_name d h (suc n) name =
    of_decls (named_within shape_with d n) (measure_at (all_names d) (measures_within d n)) (of_name d h n) (all_decls d) (place_of (all_names d) name) h

pub are_measured : AreMeasured
are_measured d t h plain =
    let n = length (all_decls d) in
    of_type (named_within shape_with d n) (measure_at (all_names d) (measures_within d n)) (of_name d h n) t plain
