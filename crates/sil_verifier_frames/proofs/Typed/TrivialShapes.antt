-- The shape of a trivial type is trivial.
use Rattle.std.proofs.Common.{◌≡◌, ℕ, zero, suc, List, [], ◌∷◌, ◌++◌, length, map, refl, sym, ap, ◌∙◌, Bool, true, Option, Some, None}
use Rattle.std.specs.Prelude.{option_map, unwrap_or}
use Rattle.std.specs.List.{flat_map, list_all}
use Rattle.std.specs.Option.{option_to_list}
use Rattle.std.proofs.lemmas.Bool.{and_from, and_parts, false≢true}
use Rattle.sil_verifier_trails.proofs.holder_model_typing.RunTypingLaws.Opened.{Proved, by_layer, type_in, types_in}
use Rattle.numbered_form.specs.Names.{Name}
use Rattle.holder_model_values.specs.RunValues.Layers.{case_with, decl_with, field_with, named_within, over, type_with}
use Rattle.holder_model_values.specs.RunValues.Shapes.{CaseShapes, Shape, cases_by_layers, cases_of, each_by_layers, members_of, shape_of, shape_with, with_case}
use Rattle.holder_model_values.specs.RunValues.Trivial.{is_trivial, itself, payload_is_trivial, trivial_layer}
use Rattle.sil_ast.specs.declared.decl.Case.{Case}
use Rattle.sil_ast.specs.declared.decl.Decl.{Decl}
use Rattle.sil_ast.specs.declared.decl.Decl.TheVariants as decl
use Rattle.sil_ast.specs.declared.decl.Field.{Field}
use Rattle.sil_ast.specs.declared.type_name.TypeName.{TypeName, TypeName-F, fold-roll-TypeName, map-TypeName}
use Rattle.sil_types_declarations.specs.TypeDefinitions.Contained.{field_type, payload_types}
use Rattle.sil_types_declarations.specs.TypeDefinitions.Declarations.{Declarations, all_decls, all_names, at_place, place_of}
use Rattle.sil_types_declarations.specs.TypeDefinitions.Measures as measures
use Rattle.sil_types_declarations.specs.TypeDefinitions.Measures.{is_trivial_measure, measure_at, measure_decl, measure_over, measure_with, measures_within, unmeasured}
use Rattle.sil_types_declarations.specs.declared.type_definitions.measure.Measure.{Measure}

abbrev are_trivial : List Shape → Bool
are_trivial ss = list_all itself (each_by_layers trivial_layer (members_of ss))

abbrev are_trivial_cases : CaseShapes → Bool
are_trivial_cases cs = list_all payload_is_trivial (cases_by_layers trivial_layer cs)

module _ (a : Name → Shape) (b : Name → Measure) (named : (n : Name) → (b n).trivial ≡ true → is_trivial (a n) ≡ true) where
  abbrev shape : TypeName → Shape
  shape t = type_with shape_with a t

  abbrev all_measured : List TypeName → Bool
  all_measured ts = list_all is_trivial_measure (map (measure_with b) ts)

  abbrev Keeps : TypeName → Type 0
  Keeps t = (measure_with b t).trivial ≡ true → is_trivial (shape t) ≡ true

  of_parts : (ts : List (Proved Keeps)) → all_measured (map (type_in Keeps) ts) ≡ true → are_trivial (map shape (map (type_in Keeps) ts)) ≡ true
  of_parts [] h = refl
  of_parts (t ∷ ts) h =
      let parts = and_parts (measure_with b t.0).trivial (all_measured (map (type_in Keeps) ts)) h in
      and_from (is_trivial (shape t.0)) (are_trivial (map shape (map (type_in Keeps) ts))) (t.1 parts.0) (of_parts ts parts.1)

  of_layer : (x : TypeName-F (Proved Keeps)) → (measure_over b (map-TypeName TypeName Measure (measure_with b) (types_in Keeps x))).trivial ≡ true
      → is_trivial (over shape_with a (map-TypeName TypeName Shape shape (types_in Keeps x))) ≡ true
  of_layer (TypeName-F.Int width) h = refl
  of_layer (TypeName-F.Named name) h = named name h
  of_layer (TypeName-F.Optional t) h = and_from (is_trivial (shape t.0)) true (t.1 (and_parts (measure_with b t.0).trivial true h).0) refl
  of_layer (TypeName-F.Tuple ts) h = of_parts ts h
  of_layer (TypeName-F.Weak t) h = absurd (false≢true h)
  of_layer (TypeName-F.Unowned t) h = absurd (false≢true h)
  of_layer (TypeName-F.Address t) h = refl

  of_type : (t : TypeName) → Keeps t
  of_type = by_layer Keeps (λ x h.
      ap is_trivial (fold-roll-TypeName Shape (over shape_with a) (types_in Keeps x))
      ∙ of_layer x (sym (ap is_trivial_measure (fold-roll-TypeName Measure (measure_over b) (types_in Keeps x))) ∙ h))

  of_fields : (fields : List Field) → all_measured (map field_type fields) ≡ true → are_trivial (map (field_with shape_with a) fields) ≡ true
  of_fields [] h = refl
  of_fields (x ∷ fields) h =
      let parts = and_parts (measure_with b x.ty).trivial (all_measured (map field_type fields)) h in
      and_from (is_trivial (field_with shape_with a x)) (are_trivial (map (field_with shape_with a) fields)) (of_type x.ty parts.0) (of_fields fields parts.1)

  of_payload : (name : Name) (t : Option TypeName) (more : List TypeName) (others : CaseShapes) → all_measured (option_to_list t ++ more) ≡ true
      → (all_measured more ≡ true → are_trivial_cases others ≡ true) → are_trivial_cases (with_case name (option_map shape t) others) ≡ true
  of_payload name None more others h rest = rest h
  of_payload name (Some t) more others h rest =
      let parts = and_parts (measure_with b t).trivial (all_measured more) h in
      and_from (is_trivial (shape t)) (are_trivial_cases others) (of_type t parts.0) (rest parts.1)

  of_cases : (cases : List Case) → all_measured (flat_map payload_types cases) ≡ true → are_trivial_cases (cases_of (map (case_with shape_with a) cases)) ≡ true
  of_cases [] h = refl
  of_cases (c ∷ cases) h = of_payload c.name c.payload (flat_map payload_types cases) (cases_of (map (case_with shape_with a) cases)) h (of_cases cases)

  of_decl : (x : Decl) → (measure_decl b x).trivial ≡ true → is_trivial (decl_with shape_with a (Some x)) ≡ true
  of_decl (decl.Struct name fields) h = of_fields fields h
  of_decl (decl.Enum name cases) h = of_cases cases h
  of_decl (decl.Class name superclass fields) h = absurd (false≢true h)

  of_decls : (xs : List Decl) (place : Option ℕ) → (unwrap_or (at_place (map (measure_decl b) xs) place) unmeasured).trivial ≡ true
      → is_trivial (decl_with shape_with a (at_place xs place)) ≡ true
  of_decls xs None h = refl
  of_decls [] (Some i) h = refl
  of_decls (x ∷ xs) (Some zero) h = of_decl x h
  of_decls (x ∷ xs) (Some (suc i)) h = of_decls xs (Some i) h

of_name : (d : Declarations) (n : ℕ) (name : Name) → (measure_at (all_names d) (measures_within d n) name).trivial ≡ true → is_trivial (named_within shape_with d n name) ≡ true
of_name d zero name h = refl
of_name d (suc n) name h =
    of_decls (named_within shape_with d n) (measure_at (all_names d) (measures_within d n)) (of_name d n) (all_decls d) (place_of (all_names d) name) h

pub trivial_shape : (d : Declarations) (t : TypeName) → measures.is_trivial d t ≡ true → is_trivial (shape_of d t) ≡ true
trivial_shape d t h =
    let n = length (all_decls d) in
    of_type (named_within shape_with d n) (measure_at (all_names d) (measures_within d n)) (of_name d n) t h
