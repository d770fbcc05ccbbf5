-- Where parts can be put before wholes, the measures of declarations don't change once enough declarations are looked through.
use Rattle.std.proofs.Common.{◌≡◌, ℕ, zero, suc, ◌<◌, ◌≤◌, List, [], length, get_or, take, Contains, refl, sym, ap, ◌∙◌, subst, arith}
use Rattle.std.specs.Prelude.{Option, Some, None, option_map, slice_get, unwrap_or}
use Rattle.std.proofs.lemmas.List.{length-map, get_or-take, ext_get_or}
use Rattle.std.proofs.lemmas.List.Elements.{All-contains}
use Rattle.std.proofs.lemmas.Option.{slice_get-map}
use Rattle.sil_types_declarations.specs.number_tables.ContainmentOrder.Chains.{parts_of}
use Rattle.sil_types_declarations.specs.number_tables.ContainmentOrder.inner.Order.{IsOrder}
use Rattle.sil_ast.specs.declared.decl.Decl.{Decl}
use Rattle.sil_ast.specs.declared.decl.Decl.TheVariants as decl
use Rattle.sil_types_declarations.specs.numbered_form.Names.{Name}
use Rattle.sil_types_declarations.specs.TypeDefinitions.Contained.{containment, held_names, held_places, lower_places}
use Rattle.sil_types_declarations.specs.TypeDefinitions.Declarations.{Declarations, all_decls, all_names, at_place, place_of}
use Rattle.sil_types_declarations.specs.TypeDefinitions.Measures.{measure_at, measure_decl, measures_of, measures_within, unmeasured}
use Rattle.sil_types_items.specs.TypeMeasures.inner.ByParts.{AreByParts}
use Rattle.sil_types_items.specs.TypeMeasures.inner.Gathered.{known_at}
use Rattle.sil_types_items.proofs.TypeMeasures.Agreement.{decl_agrees, exactly, itself_seen, measure-Named}
use Rattle.sil_types_items.proofs.TypeMeasures.Ordered.{held_at, known_is, length_of, length_within, other_default, held_part, take_short, within_next}

no_decl : Decl
no_decl = decl.Struct [] []

module _ (d : Declarations) (order : List ℕ) (o : IsOrder (containment d) order) where
  many : length (containment d) ≡ length (all_decls d)
  many = length-map (all_decls d) (lower_places d)

  -- what stands at this place of the order has one measure, whichever number of declarations is looked through, if it is enough
  abbrev IsSettled : ℕ → Type 0
  IsSettled i = (k l : ℕ) → i < k → i < l → known_at (measures_within d k) (get_or order i 0) ≡ known_at (measures_within d l) (get_or order i 0)

  module _ (i : ℕ) (here : i < length order) (before : (j : ℕ) → j < i → IsSettled j) (x : Decl) (inside : get_or order i 0 < length (all_decls d))
      (is : x ≡ get_or (all_decls d) (get_or order i 0) x) (k l : ℕ) (far : i ≤ k) (too : i ≤ l) where
    same_part : (w : ℕ) → Contains (held_places (all_names d) x) w → known_at (measures_within d k) w ≡ known_at (measures_within d l) w
    same_part w c = at (All-contains (Contains (take i order)) (parts_of (containment d) (get_or order i 0)) w (o.parts i here)
        (held_part d (get_or order i 0) x inside is w c))
      where
        at : Contains (take i order) w → known_at (measures_within d k) w ≡ known_at (measures_within d l) w
        at (j, lt, e) =
            let short : length (take i order) ≤ i = take_short i order in
            let earlier : j < i = omega arith in
            let same : get_or order j 0 ≡ w = other_default order j 0 w (omega arith) ∙ sym (get_or-take i order j w earlier) ∙ e in
            subst (λ v. known_at (measures_within d k) v ≡ known_at (measures_within d l) v) same (before j earlier k l (omega arith) (omega arith))

    same_name : (n : Name) → Contains (held_names x) n → measure_at (all_names d) (measures_within d k) n ≡ measure_at (all_names d) (measures_within d l) n
    same_name n c = at (place_of (all_names d) n) refl
      where
        at : (p : Option ℕ) → place_of (all_names d) n ≡ p → unwrap_or (at_place (measures_within d k) p) unmeasured ≡ unwrap_or (at_place (measures_within d l) p) unmeasured
        at None e = refl
        at (Some w) e = same_part w (held_at (all_names d) (held_names x) n w e c)

    next : known_at (measures_within d (suc k)) (get_or order i 0) ≡ known_at (measures_within d (suc l)) (get_or order i 0)
    next =
        within_next d (get_or order i 0) k x inside is
        ∙ decl_agrees itself_seen exactly (measure_at (all_names d) (measures_within d k)) (measure_at (all_names d) (measures_within d l)) x same_name
        ∙ sym (within_next d (get_or order i 0) l x inside is)

  settled : (n i : ℕ) → i < n → i < length order → IsSettled i
  settled zero i lt here k l far too = absurd (omega arith)
  settled (suc n) i lt here zero l far too = absurd (omega arith)
  settled (suc n) i lt here (suc k) zero far too = absurd (omega arith)
  settled (suc n) i lt here (suc k) (suc l) far too =
      let within : get_or order i 0 < length (containment d) = o.inside i 0 here in
      let inside : get_or order i 0 < length (all_decls d) = omega (arith, many) in
      let x = get_or (all_decls d) (get_or order i 0) no_decl in
      next i here (λ j h. settled n j (omega arith) (omega arith)) x inside (other_default (all_decls d) (get_or order i 0) no_decl x inside) k l (omega arith) (omega arith)

  enough : (v : ℕ) → v < length (all_decls d) → known_at (measures_of d) v ≡ known_at (measures_within d (suc (length (all_decls d)))) v
  enough v lt = at (o.all v (omega (arith, many)))
    where
      at : Contains order v → known_at (measures_of d) v ≡ known_at (measures_within d (suc (length (all_decls d)))) v
      at (j, inside, e) =
          let same : get_or order j 0 ≡ v = other_default order j 0 v inside ∙ e in
          let few : length order ≤ length (containment d) = o.once in
          subst (λ w. known_at (measures_of d) w ≡ known_at (measures_within d (suc (length (all_decls d)))) w) same
          (settled (suc j) j (omega arith) inside (length (all_decls d)) (suc (length (all_decls d))) (omega (arith, many)) (omega (arith, many)))

  -- one declaration more changes nothing
  same_again : measures_of d ≡ measures_within d (suc (length (all_decls d)))
  same_again =
      let all : length (measures_of d) ≡ length (all_decls d) = length_of d in
      let more : length (measures_within d (suc (length (all_decls d)))) ≡ length (all_decls d) = length_within d (suc (length (all_decls d))) (omega arith) in
      ext_get_or unmeasured (measures_of d) (measures_within d (suc (length (all_decls d)))) (omega arith)
      (λ v lt. sym (known_is (measures_of d) v) ∙ enough v (omega (arith, all)) ∙ known_is (measures_within d (suc (length (all_decls d)))) v)

  pub by_parts : AreByParts d
  by_parts name x found = measure-Named (measure_at (all_names d) (measures_of d)) name ∙ at (place_of (all_names d) name) found
    where
      at : (p : Option ℕ) → at_place (all_decls d) p ≡ Some x →
          unwrap_or (at_place (measures_of d) p) unmeasured ≡ measure_decl (measure_at (all_names d) (measures_of d)) x
      at None e = cc
      at (Some w) e =
          ap (λ ms. unwrap_or (slice_get ms w) unmeasured) same_again
          ∙ ap (λ m. unwrap_or m unmeasured) (slice_get-map (measure_decl (measure_at (all_names d) (measures_of d))) (all_decls d) w)
          ∙ ap (λ y. unwrap_or (option_map (measure_decl (measure_at (all_names d) (measures_of d))) y) unmeasured) e
