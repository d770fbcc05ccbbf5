-- The cases of an enum: the place that is found for a name is that among the cases of its shape, and there are as many.
use Rattle.std.proofs.Common.{◌≡◌, ℕ, zero, suc, ◌<◌, List, [], ◌∷◌, length, map, refl, sym, ap, ◌∙◌, arith, true, Option}
use Rattle.std.proofs.Common.{Some, None}
use Rattle.std.specs.Prelude.{codes, is_some, option_and_then, option_map, position, slice_get, unwrap_or}
use Rattle.std.proofs.lemmas.Bool.{false≢true}
use Rattle.std.proofs.lemmas.List.{length-map}
use Rattle.std.proofs.lemmas.List.Quantifiers.{position-Some}
use Rattle.std.specs.Str.{bytes_eq}
use Rattle.holder_model.specs.ModuleShapes.{case_place, is_case}
use Rattle.numbered_form.specs.Names.{Name, case_name}
use Rattle.holder_model.specs.RunTyping.Runnable.{IsRunnable}
use Rattle.holder_model_values.specs.RunValues.Layers.{CaseLayer}
use Rattle.holder_model_values.specs.RunValues.Shapes.{Shape, case_shapes, cases_of, listed_cases, shape_of, with_case}
use Rattle.sil_ast.specs.declared.decl.Case.{Case}
use Rattle.sil_ast.specs.declared.decl.Decl.{Decl}
use Rattle.sil_ast.specs.declared.decl.Decl.TheVariants.{Class, Enum, Struct}
use Rattle.sil_ast.specs.declared.member.Member.{Member}
use Rattle.sil_ast.specs.declared.module.Module.{Module}
use Rattle.sil_ast.specs.declared.type_name.TypeName.{TypeName, TypeName-F, out-TypeName}
use Rattle.sil_types.specs.Typing.Shapes.{case_count, case_count_in, declared_cases, is_enum}
use Rattle.sil_types_declarations.specs.TypeDefinitions.Declarations.{Declarations, decl_of, declarations_of, optional_cases, place_of}
use Rattle.sil_types_declarations.specs.TypeDefinitions.Lookups.{Payload, case_payload, decl_cases, optional_payload, payload_at, payload_in, payload_of}
use Rattle.count_machine_layouts.proofs.holder_model_typing.RunTypingLaws.Found.{position-map}
use Rattle.count_machine_layouts.proofs.holder_model_typing.RunTypingLaws.Rows.Layers.{is_named, is_optional}
use Rattle.count_machine_layouts.proofs.holder_model_typing.RunTypingLaws.RunnableTyped.{well_typed}
use Rattle.count_machine_layouts.proofs.holder_model_typing.RunTypingLaws.ShapeFacts.{case_layer_of, enum_shape, optional_shape}

abbrev pub place_in : Payload → ℕ
place_in p = p.place

abbrev layer_name : CaseLayer Shape → Name
layer_name c = c.name

pub record HasCases (m : Module) (t : TypeName) : Type 0 where
  pub names : List Name
  pub layers : List (CaseLayer Shape)
  pub shapes : case_shapes (shape_of (declarations_of m) t) ≡ layers
  pub same : map layer_name layers ≡ names
  pub count : case_count (declarations_of m) t ≡ Some (length names)
  pub found : (name : Name) → option_map place_in (payload_of (declarations_of m) t name) ≡ place_of names name

listed_one : (name : Name) (o : Option Shape) (more : List (CaseLayer Shape))
    → listed_cases (with_case name o (cases_of more)) ≡ (let c : CaseLayer Shape = record { name = name; payload = o } in c) ∷ listed_cases (cases_of more)
listed_one name None more = refl
listed_one name (Some s) more = refl

listed_all : (cs : List (CaseLayer Shape)) → listed_cases (cases_of cs) ≡ cs
listed_all [] = refl
listed_all (c ∷ cs) = listed_one c.name c.payload cs ∙ ap (λ xs. c ∷ xs) (listed_all cs)

same_names : (m : Module) (cases : List Case) → map layer_name (map (case_layer_of m) cases) ≡ map case_name cases
same_names m [] = refl
same_names m (c ∷ cases) = ap (λ names. c.name ∷ names) (same_names m cases)

-- a place within the cases is that of the payload that is found there
place_kept : (cases : List Case) (o : Option ℕ) → ((i : ℕ) → o ≡ Some i → i < length cases) → option_map place_in (payload_at cases o) ≡ o
place_kept cases None h = refl
place_kept cases (Some i) h = at (slice_get cases i) refl
  where
    at : (x : Option Case) → slice_get cases i ≡ x
        → option_map place_in (option_map (λ (c : Case). let p : Payload = record { place = i; ty = case_payload c } in p) x) ≡ Some i
    at (Some c) is = refl
    at None is = absurd (never cases i (h i refl) is)
      where
        never : (xs : List Case) (k : ℕ) → k < length xs → slice_get xs k ≡ None → ⊥
        never [] k lt e = omega arith
        never (x ∷ xs) zero lt e = cc
        never (x ∷ xs) (suc k) lt e = never xs k (omega arith) e

optional_kept : (target : TypeName) (o : Option ℕ) → option_map place_in (optional_payload target o) ≡ o
optional_kept target None = refl
optional_kept target (Some i) = refl

module _ (m : Module) (r : IsRunnable m) where
  of_declared : (t : TypeName) (owner n : Name) (cases : List Case) → out-TypeName t ≡ TypeName-F.Named owner
      → decl_of (declarations_of m) owner ≡ Some (Enum n cases) → HasCases m t
  of_declared t owner n cases is there =
      let d = declarations_of m in
      record {
        names = map case_name cases;
        layers = map (case_layer_of m) cases;
        shapes = ap (λ u. case_shapes (shape_of d u)) (is_named t owner is) ∙ ap case_shapes (enum_shape m (well_typed m r) owner n cases there)
            ∙ listed_all (map (case_layer_of m) cases);
        same = same_names m cases;
        count = ap (case_count_in d) is ∙ ap (option_and_then declared_cases) there ∙ ap Some (sym (length-map cases case_name));
        found = λ name.
            ap (λ x. option_map place_in (payload_in d name x)) is
            ∙ ap (λ x. option_map place_in (payload_at (decl_cases x) (place_of (map case_name (decl_cases x)) name))) there
            ∙ place_kept cases (place_of (map case_name cases) name)
            (λ i e. let lt = (position-Some (bytes_eq name) (map case_name cases) i [] e).0 in let same = length-map cases case_name in omega arith);
      }

  of_optional : (t inner : TypeName) → out-TypeName t ≡ TypeName-F.Optional inner → HasCases m t
  of_optional t inner is =
      let d = declarations_of m in
      record {
        names = optional_cases;
        layers = record { name = codes "none"; payload = None } ∷ record { name = codes "some"; payload = Some (shape_of d inner) } ∷ [];
        shapes = ap (λ u. case_shapes (shape_of d u)) (is_optional t inner is) ∙ ap case_shapes (optional_shape m inner);
        same = refl;
        count = ap (case_count_in d) is;
        found = λ name. ap (λ x. option_map place_in (payload_in d name x)) is ∙ optional_kept inner (place_of optional_cases name);
      }

  pub has_cases : (t : TypeName) → is_enum (declarations_of m) t ≡ true → HasCases m t
  has_cases t e = at (out-TypeName t) refl e
    where
      by : (owner : Name) → out-TypeName t ≡ TypeName-F.Named owner → (x : Option Decl) → decl_of (declarations_of m) owner ≡ x
          → is_some (option_and_then declared_cases x) ≡ true → HasCases m t
      by owner is None there e = absurd (false≢true e)
      by owner is (Some (Struct n fields)) there e = absurd (false≢true e)
      by owner is (Some (Enum n cases)) there e = of_declared t owner n cases is there
      by owner is (Some (Class n superclass fields)) there e = absurd (false≢true e)

      at : (x : TypeName-F TypeName) → out-TypeName t ≡ x → is_some (case_count_in (declarations_of m) x) ≡ true → HasCases m t
      at (TypeName-F.Named owner) is e = by owner is (decl_of (declarations_of m) owner) refl e
      at (TypeName-F.Optional inner) is e = of_optional t inner is
      at _ is e = absurd (false≢true e)

  -- the place of a case by its name
  pub case_named : (t : TypeName) → is_enum (declarations_of m) t ≡ true → (named : Member)
      → option_map place_in (payload_of (declarations_of m) t named.name) ≡ case_place (shape_of (declarations_of m) t) (Some named)
  case_named t e named =
      let has = has_cases t e in
      has.found named.name
      ∙ ap (λ names. place_of names named.name) (sym has.same)
      ∙ position-map (bytes_eq named.name) layer_name has.layers
      ∙ ap (position (is_case named.name)) (sym has.shapes)

  pub cases_counted : (t : TypeName) → is_enum (declarations_of m) t ≡ true
      → case_count (declarations_of m) t ≡ Some (length (case_shapes (shape_of (declarations_of m) t)))
  cases_counted t e =
      let has = has_cases t e in
      has.count ∙ ap (λ names. Some (length names)) (sym has.same) ∙ ap Some (length-map has.layers layer_name) ∙ ap (λ ls. Some (length ls)) (sym has.shapes)

  -- as it is counted in a table of the module's declarations
  pub count_is : (d : Declarations) → d ≡ declarations_of m → (t : TypeName) → is_enum (declarations_of m) t ≡ true → (found : Option ℕ) (count : ℕ)
      → found ≡ case_count d t → count ≡ unwrap_or found 0 → count ≡ length (case_shapes (shape_of (declarations_of m) t))
  count_is d of_it t e found count is counted =
      counted ∙ ap (λ o. unwrap_or o 0) is ∙ ap (λ x. unwrap_or (case_count x t) 0) of_it ∙ ap (λ o. unwrap_or o 0) (cases_counted t e)
