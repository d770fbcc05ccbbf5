-- Where no struct or enum holds itself, what is told of a name is told of its declaration, however few declarations were looked through to tell it.
use Rattle.std.proofs.Common.{◌≡◌, ℕ, zero, suc, ◌+◌, ◌<◌, ◌≤◌, List, [], ◌∷◌, ◌++◌, length, map, Contains, refl, sym, ap, ◌∙◌, subst, arith, Bool, true, false, Option, Some, None}
use Rattle.std.proofs.Common.{◌⊎◌, inl, inr}
use Rattle.std.specs.Prelude.{option_map, slice_get}
use Rattle.std.specs.List.{flat_map}
use Rattle.std.specs.Option.{option_to_list}
use Rattle.std.proofs.lemmas.Bool.{cases_lt, leb-true}
use Rattle.std.proofs.lemmas.List.{length-map}
use Rattle.std.proofs.lemmas.List.Elements.{All-contains, Contains-append_left, Contains-append_right}
use Rattle.std.proofs.lemmas.List.Sums.{AllPass-from_list_all}
use Rattle.std.proofs.lemmas.Option.{get_or_from_slice_get, slice_get_past, slice_get_within}
use Rattle.number_tables.specs.ContainmentOrder.Chains.{Chain, one, more, HasNoRing, IsCyclic, parts_of}
use Rattle.sil_ast.specs.declared.decl.Case.{Case}
use Rattle.sil_ast.specs.declared.decl.Decl.{Decl}
use Rattle.sil_ast.specs.declared.decl.Decl.TheVariants as decl
use Rattle.sil_ast.specs.declared.decl.Field.{Field}
use Rattle.sil_ast.specs.declared.decl.Storage.TheVariants as storage
use Rattle.sil_ast.specs.declared.module.Module.{Module}
use Rattle.sil_ast.specs.declared.type_name.TypeName.{TypeName, TypeName-F, fold-roll-TypeName, map-TypeName}
use Rattle.sil_ast.specs.declared.type_name.TypeName.TheVariants as type
use Rattle.numbered_form.specs.Names.{Name}
use Rattle.holder_model.specs.sil_types_declarations.TypeDefinitions.Contained.{containment, field_type, held_names, held_places, itself, lower_places, names_in, names_over, payload_types, place_list}
use Rattle.holder_model.specs.sil_types_declarations.TypeDefinitions.Declarations.{Declarations, all_decls, all_names, at_place, decl_of, declarations_of, place_of, swift_structs}
use Rattle.holder_model.specs.sil_types_declarations.TypeDefinitions.Rules.{Declared}
use Rattle.holder_model.proofs.sil_types_items.TypeMeasures.Agreement.{names-Int}
use Rattle.holder_model.proofs.sil_types_items.TypeMeasures.Ordered.{held_at, held_part}
use Rattle.holder_model.specs.holder_model_values.RunValues.Layers.{Layer, Unknown, case_with, decl_with, field_with, named_within, optional_layer, over, told, type_with}
use Rattle.holder_model.specs.holder_model_values.RunValues.Layers as layer
use Rattle.holder_model_typing.proofs.RunTypingLaws.Finite.{all_seen, is_seen}
use Rattle.holder_model_typing.proofs.RunTypingLaws.Opened.{Proved, by_layer, fold-Named, type_in, types_in}

-- no declaration is on a ring: the structs of `Swift` hold none

no_swift_parts : (d : Declarations) (swift : Bool) (decls : List Decl) (v : ℕ) → v < length (swift_structs swift) → parts_of (map (lower_places d) (swift_structs swift ++ decls)) v ≡ []
no_swift_parts d false decls v lt = absurd (omega arith)
no_swift_parts d true decls zero lt = ap (λ ns. flat_map (place_list (all_names d)) (ns ++ [])) (names-Int 64)
no_swift_parts d true decls (suc zero) lt = ap (λ ns. flat_map (place_list (all_names d)) (ns ++ [])) (names-Int 1)
no_swift_parts d true decls (suc (suc v)) lt = absurd (omega arith)

no_chain : (graph : List (List ℕ)) (v w : ℕ) → parts_of graph v ≡ [] → Chain graph v w → ⊥
no_chain graph v w e (one _ _ c) = let none : Contains [] w = subst (λ xs. Contains xs w) e c in let lt : none.0 < 0 = none.1 in omega arith
no_chain graph v w e (more _ u _ c h) = let none : Contains [] u = subst (λ xs. Contains xs u) e c in let lt : none.0 < 0 = none.1 in omega arith

pub no_ring : (m : Module) → Declared m → HasNoRing (containment (declarations_of m))
no_ring m declared v ring = at (cases_lt v (length (swift_structs m.imports.swift)))
  where
    behind : (offset : ℕ) → offset ≤ v → (n : ℕ) × (v ≡ offset + n)
    behind zero le = (v, omega arith)
    behind (suc offset) le = let rest = behind offset (omega arith) in before rest.0 rest.1
      where
        before : (n : ℕ) → v ≡ offset + n → (n : ℕ) × (v ≡ suc offset + n)
        before zero e = absurd (omega arith)
        before (suc n) e = (n, omega arith)

    at : (v < length (swift_structs m.imports.swift)) ⊎ (length (swift_structs m.imports.swift) ≤ v) → ⊥
    at (inl lt) = no_chain (containment (declarations_of m)) v v (no_swift_parts (declarations_of m) m.imports.swift m.decls v lt) ring
    at (inr le) = let there = behind (length (swift_structs m.imports.swift)) le in
        declared.finite there.0 (subst (IsCyclic (containment (declarations_of m))) there.1 ring)

module _ {A : Type 0} (tell : Layer A → A) where
  -- by what is told of the names in a type
  module _ (a b : Name → A) where
    abbrev Agree : List Name → Type 0
    Agree names = (n : Name) → Contains names n → a n ≡ b n

    abbrev AgreeOn : TypeName → Type 0
    AgreeOn t = Agree (names_in t) → type_with tell a t ≡ type_with tell b t

    all_agree : (ts : List (Proved AgreeOn)) → Agree (flat_map itself (map names_in (map (type_in AgreeOn) ts)))
        → map (type_with tell a) (map (type_in AgreeOn) ts) ≡ map (type_with tell b) (map (type_in AgreeOn) ts)
    all_agree [] agree = refl
    all_agree (t ∷ ts) agree =
        let behind = flat_map itself (map names_in (map (type_in AgreeOn) ts)) in
        ap (λ x. x ∷ map (type_with tell a) (map (type_in AgreeOn) ts)) (t.1 (λ n c. agree n (Contains-append_left (names_in t.0) behind n c)))
        ∙ ap (λ xs. type_with tell b t.0 ∷ xs) (all_agree ts (λ n c. agree n (Contains-append_right (names_in t.0) behind n c)))

    on_parts : (x : TypeName-F (Proved AgreeOn)) → Agree (names_over (map-TypeName TypeName (List Name) names_in (types_in AgreeOn x)))
        → over tell a (map-TypeName TypeName A (type_with tell a) (types_in AgreeOn x)) ≡ over tell b (map-TypeName TypeName A (type_with tell b) (types_in AgreeOn x))
    on_parts (TypeName-F.Int width) agree = refl
    on_parts (TypeName-F.Named n) agree = agree n (0, omega arith, refl)
    on_parts (TypeName-F.Optional t) agree = ap (λ x. tell (optional_layer tell x)) (t.1 agree)
    on_parts (TypeName-F.Tuple ts) agree = ap (λ xs. tell (layer.Tuple xs)) (all_agree ts agree)
    on_parts (TypeName-F.Weak t) agree = ap (λ x. tell (layer.Stored storage.Weak x)) (t.1 agree)
    on_parts (TypeName-F.Unowned t) agree = ap (λ x. tell (layer.Stored storage.Unowned x)) (t.1 agree)
    on_parts (TypeName-F.Address t) agree = refl

    of_type : (t : TypeName) → AgreeOn t
    of_type = by_layer AgreeOn (λ x agree.
        fold-roll-TypeName A (over tell a) (types_in AgreeOn x)
        ∙ on_parts x (subst Agree (fold-roll-TypeName (List Name) names_over (types_in AgreeOn x)) agree)
        ∙ sym (fold-roll-TypeName A (over tell b) (types_in AgreeOn x)))

    of_fields : (fields : List Field) → Agree (flat_map names_in (map field_type fields)) → map (field_with tell a) fields ≡ map (field_with tell b) fields
    of_fields [] agree = refl
    of_fields (x ∷ fields) agree =
        let behind = flat_map names_in (map field_type fields) in
        ap (λ y. y ∷ map (field_with tell a) fields) (of_type x.ty (λ n c. agree n (Contains-append_left (names_in x.ty) behind n c)))
        ∙ ap (λ ys. field_with tell b x ∷ ys) (of_fields fields (λ n c. agree n (Contains-append_right (names_in x.ty) behind n c)))

    of_payload : (t : Option TypeName) (others : List TypeName) → Agree (flat_map names_in (option_to_list t ++ others))
        → (option_map (type_with tell a) t ≡ option_map (type_with tell b) t) × Agree (flat_map names_in others)
    of_payload None others agree = (refl, agree)
    of_payload (Some t) others agree =
        let behind = flat_map names_in others in
        (ap Some (of_type t (λ n c. agree n (Contains-append_left (names_in t) behind n c))), λ n c. agree n (Contains-append_right (names_in t) behind n c))

    of_cases : (cases : List Case) → Agree (flat_map names_in (flat_map payload_types cases)) → map (case_with tell a) cases ≡ map (case_with tell b) cases
    of_cases [] agree = refl
    of_cases (c ∷ cases) agree =
        let parts = of_payload c.payload (flat_map payload_types cases) agree in
        ap (λ (x : Option A). record { name = c.name; payload = x } ∷ map (case_with tell a) cases) parts.0
        ∙ ap (λ ys. case_with tell b c ∷ ys) (of_cases cases parts.1)

    of_decl : (x : Decl) → Agree (held_names x) → decl_with tell a (Some x) ≡ decl_with tell b (Some x)
    of_decl (decl.Struct name fields) agree = ap (λ xs. tell (layer.Struct name xs)) (of_fields fields agree)
    of_decl (decl.Enum name cases) agree = ap (λ xs. tell (layer.Enum name xs)) (of_cases cases agree)
    of_decl (decl.Class name superclass fields) agree = refl

  module _ (d : Declarations) where
    undeclared : (k : ℕ) (name : Name) → decl_of d name ≡ None → named_within tell d k name ≡ tell Unknown
    undeclared zero name e = refl
    undeclared (suc k) name e = ap (decl_with tell (named_within tell d k)) e

    -- what is seen within some steps is told alike through as many declarations or more
    settled : (k w : ℕ) → is_seen (containment d) k w ≡ true → (name : Name) → place_of (all_names d) name ≡ Some w → (i j : ℕ) → k ≤ i → k ≤ j
        → named_within tell d i name ≡ named_within tell d j name
    settled zero w seen name is i j far too =
        let many : length (containment d) ≡ length (all_decls d) = length-map (all_decls d) (lower_places d) in
        let past : length (all_decls d) ≤ w = omega (arith, leb-true (length (containment d)) w seen) in
        let none : decl_of d name ≡ None = ap (at_place (all_decls d)) is ∙ slice_get_past (all_decls d) w past in
        undeclared i name none ∙ sym (undeclared j name none)
    settled (suc k) w seen name is zero j far too = absurd (omega arith)
    settled (suc k) w seen name is (suc i) zero far too = absurd (omega arith)
    settled (suc k) w seen name is (suc i) (suc j) far too =
        at (slice_get (all_decls d) w) refl (λ u e n there. settled k u e n there i j (omega arith) (omega arith))
      where
        at : (x : Option Decl) → slice_get (all_decls d) w ≡ x
            → ((u : ℕ) → is_seen (containment d) k u ≡ true → (n : Name) → place_of (all_names d) n ≡ Some u → named_within tell d i n ≡ named_within tell d j n)
            → named_within tell d (suc i) name ≡ named_within tell d (suc j) name
        at None e below = let none : decl_of d name ≡ None = ap (at_place (all_decls d)) is ∙ e in undeclared (suc i) name none ∙ sym (undeclared (suc j) name none)
        at (Some x) e below =
            let found : decl_of d name ≡ Some x = ap (at_place (all_decls d)) is ∙ e in
            ap (decl_with tell (named_within tell d i)) found
            ∙ of_decl (named_within tell d i) (named_within tell d j) x agree
            ∙ sym (ap (decl_with tell (named_within tell d j)) found)
          where
            part : (u : ℕ) → Contains (held_places (all_names d) x) u → is_seen (containment d) k u ≡ true
            part u c = All-contains (λ v. is_seen (containment d) k v ≡ true) (parts_of (containment d) w) u (AllPass-from_list_all (is_seen (containment d) k) (parts_of (containment d) w) seen)
                (held_part d w x (slice_get_within (all_decls d) w x e) (sym (get_or_from_slice_get (all_decls d) w x x e)) u c)

            agree : (n : Name) → Contains (held_names x) n → named_within tell d i n ≡ named_within tell d j n
            agree n c = by (place_of (all_names d) n) refl
              where
                by : (o : Option ℕ) → place_of (all_names d) n ≡ o → named_within tell d i n ≡ named_within tell d j n
                by None none = let no_decl : decl_of d n ≡ None = ap (at_place (all_decls d)) none in undeclared i n no_decl ∙ sym (undeclared j n no_decl)
                by (Some u) there = below u (part u (held_at (all_names d) (held_names x) n u there c)) n there

    module _ (none : HasNoRing (containment d)) where
      -- one declaration more tells nothing else
      once_more : (name : Name) → named_within tell d (length (all_decls d)) name ≡ named_within tell d (suc (length (all_decls d))) name
      once_more name = at (place_of (all_names d) name) refl
        where
          at : (o : Option ℕ) → place_of (all_names d) name ≡ o → named_within tell d (length (all_decls d)) name ≡ named_within tell d (suc (length (all_decls d))) name
          at None e = let no_decl : decl_of d name ≡ None = ap (at_place (all_decls d)) e in
              undeclared (length (all_decls d)) name no_decl ∙ sym (undeclared (suc (length (all_decls d))) name no_decl)
          at (Some w) e =
              let many : length (containment d) ≡ length (all_decls d) = length-map (all_decls d) (lower_places d) in
              settled (length (containment d)) w (all_seen (containment d) none w) name e (length (all_decls d)) (suc (length (all_decls d))) (omega arith) (omega arith)

      -- a name is told as its declaration is, by what is told of the types in that
      pub told_named : (name : Name) → told tell d (type.Named name) ≡ decl_with tell (named_within tell d (length (all_decls d))) (decl_of d name)
      told_named name = fold-Named A (over tell (named_within tell d (length (all_decls d)))) name ∙ once_more name
