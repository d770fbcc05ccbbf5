-- Where no address stands in a type, its shape is trivial just where the type is.
use Rattle.std.proofs.Common.{◌≡◌, ℕ, zero, suc, List, [], ◌∷◌, ◌++◌, length, map, refl, sym, ap, ◌∙◌, Bool, true, Option, Some, None}
use Rattle.std.specs.Prelude.{◌&&◌, option_map, unwrap_or}
use Rattle.std.specs.List.{flat_map, list_all}
use Rattle.std.specs.Option.{option_to_list}
use Rattle.std.proofs.lemmas.Bool.{and_parts, false≢true}
use Rattle.std.proofs.lemmas.Option.{none-some}
use Rattle.sil_verifier_trails.proofs.holder_model_typing.RunTypingLaws.Opened.{Proved, by_layer, fold-Unowned, fold-Weak, type_in, types_in}
use Rattle.sil_verifier_trails.proofs.holder_model_typing.RunTypingLaws.Rows.Addresses.{no_target}
use Rattle.sil_verifier_trails.proofs.holder_model_typing.RunTypingLaws.Rows.Layers.{is_unowned, is_weak}
use Rattle.holder_model_laws.specs.sil_types.Typing.Shapes.{is_object, is_object_layer, is_trivial_object, target_in}
use Rattle.numbered_form.specs.Names.{Name}
use Rattle.holder_model_values.specs.RunValues.Layers.{case_with, decl_with, field_with, named_within, over, type_with}
use Rattle.holder_model_values.specs.RunValues.Shapes.{CaseShapes, Shape, cases_by_layers, cases_of, each_by_layers, members_of, shape_of, shape_with, with_case}
use Rattle.holder_model_values.specs.RunValues.Trivial.{is_trivial, itself, payload_is_trivial, trivial_layer}
use Rattle.holder_model_values.specs.RunValues.inner.Laws.{has_no_address, has_no_address_over, holds_no_address}
use Rattle.sil_ast.specs.declared.decl.Case.{Case}
use Rattle.sil_ast.specs.declared.decl.Decl.{Decl}
use Rattle.sil_ast.specs.declared.decl.Decl.TheVariants as decl
use Rattle.sil_ast.specs.declared.decl.Field.{Field}
use Rattle.sil_ast.specs.declared.type_name.TypeName.{TypeName, TypeName-F, fold-roll-TypeName, map-TypeName, out-TypeName}
use Rattle.sil_types_declarations.specs.TypeDefinitions.Contained.{field_type, payload_types}
use Rattle.sil_types_declarations.specs.TypeDefinitions.Declarations.{Declarations, all_decls, all_names, at_place, place_of}
use Rattle.sil_types_declarations.specs.TypeDefinitions.Measures as measures
use Rattle.sil_types_declarations.specs.TypeDefinitions.Measures.{is_trivial_measure, measure_at, measure_decl, measure_over, measure_with, measures_within, unmeasured}
use Rattle.sil_types_declarations.specs.declared.type_definitions.measure.Measure.{Measure}

abbrev are_trivial : List Shape → Bool
are_trivial ss = list_all itself (each_by_layers trivial_layer (members_of ss))

abbrev are_trivial_cases : CaseShapes → Bool
are_trivial_cases cs = list_all payload_is_trivial (cases_by_layers trivial_layer cs)

module _ (a : Name → Shape) (b : Name → Measure) (same : (n : Name) → is_trivial (a n) ≡ (b n).trivial) where
  abbrev shape : TypeName → Shape
  shape t = type_with shape_with a t

  abbrev all_measured : List TypeName → Bool
  all_measured ts = list_all is_trivial_measure (map (measure_with b) ts)

  abbrev Agrees : TypeName → Type 0
  Agrees t = has_no_address t ≡ true → is_trivial (shape t) ≡ (measure_with b t).trivial

  of_parts : (ts : List (Proved Agrees)) → list_all (λ p. p) (map has_no_address (map (type_in Agrees) ts)) ≡ true
      → are_trivial (map shape (map (type_in Agrees) ts)) ≡ all_measured (map (type_in Agrees) ts)
  of_parts [] h = refl
  of_parts (t ∷ ts) h =
      let parts = and_parts (has_no_address t.0) (list_all (λ p. p) (map has_no_address (map (type_in Agrees) ts))) h in
      ap (λ x. x && are_trivial (map shape (map (type_in Agrees) ts))) (t.1 parts.0)
      ∙ ap (λ x. (measure_with b t.0).trivial && x) (of_parts ts parts.1)

  of_layer : (x : TypeName-F (Proved Agrees)) → has_no_address_over (map-TypeName TypeName Bool has_no_address (types_in Agrees x)) ≡ true
      → is_trivial (over shape_with a (map-TypeName TypeName Shape shape (types_in Agrees x)))
      ≡ (measure_over b (map-TypeName TypeName Measure (measure_with b) (types_in Agrees x))).trivial
  of_layer (TypeName-F.Int width) h = refl
  of_layer (TypeName-F.Named name) h = same name
  of_layer (TypeName-F.Optional t) h = ap (λ x. x && true) (t.1 h)
  of_layer (TypeName-F.Tuple ts) h = of_parts ts h
  of_layer (TypeName-F.Weak t) h = refl
  of_layer (TypeName-F.Unowned t) h = refl
  of_layer (TypeName-F.Address t) h = absurd (false≢true h)

  of_type : (t : TypeName) → Agrees t
  of_type = by_layer Agrees (λ x h.
      ap is_trivial (fold-roll-TypeName Shape (over shape_with a) (types_in Agrees x))
      ∙ of_layer x (sym (fold-roll-TypeName Bool has_no_address_over (types_in Agrees x)) ∙ h)
      ∙ sym (ap is_trivial_measure (fold-roll-TypeName Measure (measure_over b) (types_in Agrees x))))

  of_fields : (fields : List Field) → list_all has_no_address (map field_type fields) ≡ true
      → are_trivial (map (field_with shape_with a) fields) ≡ all_measured (map field_type fields)
  of_fields [] h = refl
  of_fields (x ∷ fields) h =
      let parts = and_parts (has_no_address x.ty) (list_all has_no_address (map field_type fields)) h in
      ap (λ y. y && are_trivial (map (field_with shape_with a) fields)) (of_type x.ty parts.0)
      ∙ ap (λ y. (measure_with b x.ty).trivial && y) (of_fields fields parts.1)

  of_payload : (name : Name) (t : Option TypeName) (more : List TypeName) (others : CaseShapes) → list_all has_no_address (option_to_list t ++ more) ≡ true
      → (list_all has_no_address more ≡ true → are_trivial_cases others ≡ all_measured more)
      → are_trivial_cases (with_case name (option_map shape t) others) ≡ all_measured (option_to_list t ++ more)
  of_payload name None more others h rest = rest h
  of_payload name (Some t) more others h rest =
      let parts = and_parts (has_no_address t) (list_all has_no_address more) h in
      ap (λ y. y && are_trivial_cases others) (of_type t parts.0) ∙ ap (λ y. (measure_with b t).trivial && y) (rest parts.1)

  of_cases : (cases : List Case) → list_all has_no_address (flat_map payload_types cases) ≡ true
      → are_trivial_cases (cases_of (map (case_with shape_with a) cases)) ≡ all_measured (flat_map payload_types cases)
  of_cases [] h = refl
  of_cases (c ∷ cases) h = of_payload c.name c.payload (flat_map payload_types cases) (cases_of (map (case_with shape_with a) cases)) h (of_cases cases)

  of_decl : (x : Decl) → holds_no_address x ≡ true → is_trivial (decl_with shape_with a (Some x)) ≡ (measure_decl b x).trivial
  of_decl (decl.Struct name fields) h = of_fields fields h
  of_decl (decl.Enum name cases) h = of_cases cases h
  of_decl (decl.Class name superclass fields) h = refl

  of_decls : (xs : List Decl) → list_all holds_no_address xs ≡ true → (place : Option ℕ)
      → is_trivial (decl_with shape_with a (at_place xs place)) ≡ (unwrap_or (at_place (map (measure_decl b) xs) place) unmeasured).trivial
  of_decls xs h None = refl
  of_decls [] h (Some i) = refl
  of_decls (x ∷ xs) h (Some zero) = of_decl x (and_parts (holds_no_address x) (list_all holds_no_address xs) h).0
  of_decls (x ∷ xs) h (Some (suc i)) = of_decls xs (and_parts (holds_no_address x) (list_all holds_no_address xs) h).1 (Some i)

none_known : (place : Option ℕ) → true ≡ (unwrap_or (at_place [] place) unmeasured).trivial
none_known None = refl
none_known (Some i) = refl

of_name : (d : Declarations) → list_all holds_no_address (all_decls d) ≡ true → (n : ℕ) (name : Name)
    → is_trivial (named_within shape_with d n name) ≡ (measure_at (all_names d) (measures_within d n) name).trivial
of_name d h zero name = none_known (place_of (all_names d) name)
of_name d h (suc n) name =
    of_decls (named_within shape_with d n) (measure_at (all_names d) (measures_within d n)) (of_name d h n) (all_decls d) h (place_of (all_names d) name)

module _ (d : Declarations) (none : list_all holds_no_address (all_decls d) ≡ true) (t : TypeName) (plain : has_no_address t ≡ true) where
  measured_shape : is_trivial (shape_of d t) ≡ measures.is_trivial d t
  measured_shape =
      let n = length (all_decls d) in
      of_type (named_within shape_with d n) (measure_at (all_names d) (measures_within d n)) (of_name d none n) t plain

  -- that of storage isn't
  pub object_shape : is_trivial (shape_of d t) ≡ is_trivial_object d t
  object_shape = at (out-TypeName t) refl
    where
      at : (layer : TypeName-F TypeName) → out-TypeName t ≡ layer → is_trivial (shape_of d t) ≡ (is_object t && measures.is_trivial d t)
      at (TypeName-F.Int w) o = measured_shape ∙ ap (λ l. is_object_layer l && measures.is_trivial d t) (sym o)
      at (TypeName-F.Named name) o = measured_shape ∙ ap (λ l. is_object_layer l && measures.is_trivial d t) (sym o)
      at (TypeName-F.Optional inner) o = measured_shape ∙ ap (λ l. is_object_layer l && measures.is_trivial d t) (sym o)
      at (TypeName-F.Tuple parts) o = measured_shape ∙ ap (λ l. is_object_layer l && measures.is_trivial d t) (sym o)
      at (TypeName-F.Address inner) o = absurd (none-some inner (sym (no_target t plain) ∙ ap target_in o))
      at (TypeName-F.Weak inner) o =
          ap is_trivial (ap (shape_of d) (is_weak t inner o) ∙ fold-Weak Shape (over shape_with (named_within shape_with d (length (all_decls d)))) inner)
          ∙ ap (λ l. is_object_layer l && measures.is_trivial d t) (sym o)
      at (TypeName-F.Unowned inner) o =
          ap is_trivial (ap (shape_of d) (is_unowned t inner o) ∙ fold-Unowned Shape (over shape_with (named_within shape_with d (length (all_decls d)))) inner)
          ∙ ap (λ l. is_object_layer l && measures.is_trivial d t) (sym o)
