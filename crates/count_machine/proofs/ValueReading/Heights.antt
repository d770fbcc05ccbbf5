-- A value has no more levels than are measured on its type.
use Rattle.std.proofs.Common.{◌≤◌, ◌++◌, ℕ, zero, suc, List, [], ◌∷◌, Option, Some, None, map, length, ap, arith}
use Rattle.std.specs.Prelude.{option_map, unwrap_or}
use Rattle.std.specs.List.{flat_map}
use Rattle.std.specs.Option.{option_to_list}
use Rattle.numbered_form.specs.Names.{Name}
use Rattle.holder_model_typing.proofs.RunTypingLaws.Opened.{Proved, by_layer, type_in, types_in}
use Rattle.holder_model_values.specs.RunValues.Layers.{CaseLayer, case_with, decl_with, field_with, named_within, over, type_with}
use Rattle.sil_ast.specs.TypeName.{largest}
use Rattle.sil_ast.specs.declared.decl.Case.{Case}
use Rattle.sil_ast.specs.declared.decl.Decl.{Decl}
use Rattle.sil_ast.specs.declared.decl.Decl.TheVariants as decl
use Rattle.sil_ast.specs.declared.decl.Field.{Field}
use Rattle.sil_ast.specs.declared.type_name.TypeName.{TypeName, TypeName-F, fold-roll-TypeName, map-TypeName}
use Rattle.sil_types_declarations.specs.TypeDefinitions.Contained.{field_type, payload_types}
use Rattle.sil_types_declarations.specs.TypeDefinitions.Declarations.{Declarations, all_decls, all_names, at_place, place_of}
use Rattle.sil_types_declarations.specs.TypeDefinitions.Measures.{depth_in, depth_of, measure_at, measure_decl, measure_over, measure_with, measures_within, unmeasured}
use Rattle.sil_types_declarations.specs.declared.type_definitions.measure.Measure.{Measure}
use Rattle.count_machine.specs.ValueReading.inner.Levels.{height_layer, height_of, payload_heights}

module _ (a : Name → ℕ) (b : Name → Measure) (below : (n : Name) → a n ≤ (b n).depth) where
  abbrev IsBelow : TypeName → Type 0
  IsBelow t = type_with height_layer a t ≤ (measure_with b t).depth

  abbrev heights : List TypeName → ℕ
  heights ts = largest (map (type_with height_layer a) ts)

  abbrev depths : List TypeName → ℕ
  depths ts = largest (map depth_in (map (measure_with b) ts))

  each : (ts : List (Proved IsBelow)) → heights (map (type_in IsBelow) ts) ≤ depths (map (type_in IsBelow) ts)
  each [] = omega arith
  each (t ∷ ts) = let here = t.1 in let behind = each ts in omega arith

  on_parts : (x : TypeName-F (Proved IsBelow))
      → over height_layer a (map-TypeName TypeName ℕ (type_with height_layer a) (types_in IsBelow x))
      ≤ (measure_over b (map-TypeName TypeName Measure (measure_with b) (types_in IsBelow x))).depth
  on_parts (TypeName-F.Int width) = omega arith
  on_parts (TypeName-F.Named n) = below n
  on_parts (TypeName-F.Optional t) = let here = t.1 in omega arith
  on_parts (TypeName-F.Tuple ts) = let all = each ts in omega arith
  on_parts (TypeName-F.Weak t) = omega arith
  on_parts (TypeName-F.Unowned t) = omega arith
  on_parts (TypeName-F.Address t) = omega arith

  of_type : (t : TypeName) → IsBelow t
  of_type = by_layer IsBelow (λ x.
      let height = fold-roll-TypeName ℕ (over height_layer a) (types_in IsBelow x) in
      let depth = ap depth_in (fold-roll-TypeName Measure (measure_over b) (types_in IsBelow x)) in
      let parts = on_parts x in
      omega arith)

  of_fields : (fields : List Field) → largest (map (field_with height_layer a) fields) ≤ depths (map field_type fields)
  of_fields [] = omega arith
  of_fields (x ∷ fields) = let here = of_type x.ty in let behind = of_fields fields in omega arith

  abbrev cases_height : List (CaseLayer ℕ) → ℕ
  cases_height cs = largest (flat_map payload_heights cs)

  of_payload : (t : Option TypeName) (hs : List ℕ) (others : List TypeName) → largest hs ≤ depths others
      → largest (option_to_list (option_map (type_with height_layer a) t) ++ hs) ≤ depths (option_to_list t ++ others)
  of_payload None hs others behind = behind
  of_payload (Some t) hs others behind = let here = of_type t in omega arith

  of_cases : (cases : List Case) → cases_height (map (case_with height_layer a) cases) ≤ depths (flat_map payload_types cases)
  of_cases [] = omega arith
  of_cases (c ∷ cases) = of_payload c.payload (flat_map payload_heights (map (case_with height_layer a) cases)) (flat_map payload_types cases) (of_cases cases)

  of_decl : (x : Decl) → decl_with height_layer a (Some x) ≤ (measure_decl b x).depth
  of_decl (decl.Struct name fields) = let all = of_fields fields in omega arith
  of_decl (decl.Enum name cases) = let all = of_cases cases in omega arith
  of_decl (decl.Class name superclass fields) = omega arith

  of_decls : (xs : List Decl) (place : Option ℕ)
      → decl_with height_layer a (at_place xs place) ≤ (unwrap_or (at_place (map (measure_decl b) xs) place) unmeasured).depth
  of_decls xs None = omega arith
  of_decls [] (Some i) = omega arith
  of_decls (x ∷ xs) (Some zero) = of_decl x
  of_decls (x ∷ xs) (Some (suc i)) = of_decls xs (Some i)

of_name : (d : Declarations) (n : ℕ) (name : Name) → named_within height_layer d n name ≤ (measure_at (all_names d) (measures_within d n) name).depth
of_name d zero name = omega arith
of_name d (suc n) name =
    of_decls (named_within height_layer d n) (measure_at (all_names d) (measures_within d n)) (of_name d n) (all_decls d) (place_of (all_names d) name)

pub height_within : (d : Declarations) (t : TypeName) → height_of d t ≤ depth_of d t
height_within d t =
    let n = length (all_decls d) in
    of_type (named_within height_layer d n) (measure_at (all_names d) (measures_within d n)) (of_name d n) t
