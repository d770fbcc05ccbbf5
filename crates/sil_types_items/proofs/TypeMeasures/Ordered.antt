-- In an order in which parts stand before wholes, each declaration gets its measure from those before it.
use Rattle.std.proofs.Common.{◌≡◌, ℕ, zero, suc, ◌+◌, ◌<◌, ◌≤◌, List, [], ◌∷◌, length, get_or, set, map, take, Contains}
use Rattle.std.proofs.Common.{refl, sym, ap, ◌∙◌, subst, arith, inl, inr, get_or-set_same, get_or-set_other}
use Rattle.std.specs.Prelude.{◌⊎◌, Option, Some, None, unwrap_or}
use Rattle.std.specs.List.{flat_map}
use Rattle.std.specs.Option.{option_to_list}
use Rattle.std.proofs.lemmas.Bool.{cases_lt, cases_eq}
use Rattle.std.proofs.lemmas.List.{length-map, get_or-map, get_or-take, ext_get_or}
use Rattle.std.proofs.lemmas.Option.{unwrap_or-slice_get}
use Rattle.std.proofs.lemmas.List.Elements.{All-contains, Contains-append_left, Contains-append_right}
use Rattle.sil_types_declarations.specs.number_tables.ContainmentOrder.Chains.{parts_of}
use Rattle.sil_types_declarations.specs.number_tables.ContainmentOrder.inner.Order.{ArePartsBefore, IsOrder}
use Rattle.sil_ast.specs.declared.decl.Decl.{Decl}
use Rattle.sil_types_declarations.specs.numbered_form.Names.{Name}
use Rattle.sil_types_declarations.specs.TypeDefinitions.Contained.{containment, held_names, held_places, lower_places, place_list, superclass_places}
use Rattle.sil_types_declarations.specs.TypeDefinitions.Declarations.{Declarations, all_decls, all_names, at_place, place_of}
use Rattle.sil_types_declarations.specs.TypeDefinitions.Measures.{measure_at, measure_decl, measure_of, measure_with, measures_of, measures_within, unmeasured}
use Rattle.sil_types_declarations.specs.declared.type_definitions.measure.Measure.{Measure}
use Rattle.sil_ast.specs.declared.type_name.TypeName.{TypeName}
use Rattle.sil_types_items.specs.TypeMeasures.inner.Gathered.{capped, known_at}
use Rattle.sil_types_items.specs.TypeMeasures.inner.Ordered.{AreMeasuredUpTo}
use Rattle.sil_types_items.proofs.TypeMeasures.Agreement.{decl_agrees, past_limits, type_agrees}
use Rattle.sil_types_items.proofs.TypeMeasures.Gathering.{capped_twice}

pub known_is : (ms : List Measure) (v : ℕ) → known_at ms v ≡ get_or ms v unmeasured
known_is ms v = unwrap_or-slice_get ms v unmeasured

pub other_default : {X : Type 0} (xs : List X) (i : ℕ) (d e : X) → i < length xs → get_or xs i d ≡ get_or xs i e
other_default [] i d e lt = absurd (omega arith)
other_default (x ∷ xs) zero d e lt = refl
other_default (x ∷ xs) (suc i) d e lt = other_default xs i d e (omega arith)

pub take_short : (i : ℕ) (xs : List ℕ) → length (take i xs) ≤ i
take_short zero xs = omega arith
take_short (suc i) [] = omega arith
take_short (suc i) (x ∷ xs) = omega (arith, take_short i xs)

-- a name that a declaration holds, by its place
pub held_at : (names ns : List Name) (n : Name) (w : ℕ) → place_of names n ≡ Some w → Contains ns n → Contains (flat_map (place_list names) ns) w
held_at names [] n w e (k, lt, is) = absurd (omega arith)
held_at names (x ∷ ns) n w e (zero, lt, is) =
    Contains-append_left (place_list names x) (flat_map (place_list names) ns) w (subst (λ o. Contains (option_to_list o) w) (sym (ap (place_of names) is ∙ e)) (0, omega arith, refl))
held_at names (x ∷ ns) n w e (suc k, lt, is) = Contains-append_right (place_list names x) (flat_map (place_list names) ns) w (held_at names ns n w e (k, omega arith, is))

-- what a declaration holds is among its parts
pub held_part : (d : Declarations) (v : ℕ) (x : Decl) → v < length (all_decls d) → x ≡ get_or (all_decls d) v x
    → (w : ℕ) → Contains (held_places (all_names d) x) w → Contains (parts_of (containment d) v) w
held_part d v x lt is w c =
    let parts_are : parts_of (containment d) v ≡ lower_places d x = get_or-map (lower_places d) (all_decls d) v x [] lt ∙ ap (lower_places d) (sym is) in
    subst (λ ps. Contains ps w) (sym parts_are) (Contains-append_right (superclass_places d x) (held_places (all_names d) x) w c)

-- one declaration more is looked through
pub within_next : (d : Declarations) (v k : ℕ) (x : Decl) → v < length (all_decls d) → x ≡ get_or (all_decls d) v x →
    known_at (measures_within d (suc k)) v ≡ measure_decl (measure_at (all_names d) (measures_within d k)) x
within_next d v k x inside is =
    known_is (measures_within d (suc k)) v
    ∙ get_or-map (measure_decl (measure_at (all_names d) (measures_within d k))) (all_decls d) v x unmeasured inside
    ∙ ap (measure_decl (measure_at (all_names d) (measures_within d k))) (sym is)

module _ (d : Declarations) (order : List ℕ) (parts : ArePartsBefore (containment d) order) where
  -- what is known of the names that a declaration holds is right, where the declarations before it are measured
  module _ (ms : List Measure) (i : ℕ) (here : i < length order) (up_to : AreMeasuredUpTo d order ms i) (x : Decl) (inside : get_or order i 0 < length (all_decls d))
      (is : x ≡ get_or (all_decls d) (get_or order i 0) x) (k : ℕ) (far : i ≤ k) where
    known_part : (w : ℕ) → Contains (held_places (all_names d) x) w → capped (known_at ms w) ≡ capped (known_at (measures_within d k) w)
    known_part w c = at (All-contains (Contains (take i order)) (parts_of (containment d) (get_or order i 0)) w (parts i here)
        (held_part d (get_or order i 0) x inside is w c))
      where
        at : Contains (take i order) w → capped (known_at ms w) ≡ capped (known_at (measures_within d k) w)
        at (j, lt, e) =
            let short : length (take i order) ≤ i = take_short i order in
            let before : j < i = omega arith in
            let same : get_or order j 0 ≡ w = other_default order j 0 w (omega arith) ∙ sym (get_or-take i order j w before) ∙ e in
            subst (λ v. capped (known_at ms v) ≡ capped (known_at (measures_within d k) v)) same
            (ap capped (up_to j before k (omega arith)) ∙ capped_twice (known_at (measures_within d k) (get_or order j 0)))

    agree : (n : Name) → Contains (held_names x) n → capped (measure_at (all_names d) ms n) ≡ capped (measure_at (all_names d) (measures_within d k) n)
    agree n c = at (place_of (all_names d) n) refl
      where
        at : (o : Option ℕ) → place_of (all_names d) n ≡ o → capped (unwrap_or (at_place ms o) unmeasured) ≡ capped (unwrap_or (at_place (measures_within d k) o) unmeasured)
        at None e = refl
        at (Some w) e = known_part w (held_at (all_names d) (held_names x) n w e c)

    right_next : capped (measure_decl (measure_at (all_names d) ms) x) ≡ capped (known_at (measures_within d (suc k)) (get_or order i 0))
    right_next = decl_agrees capped past_limits (measure_at (all_names d) ms) (measure_at (all_names d) (measures_within d k)) x agree
        ∙ sym (ap capped (within_next d (get_or order i 0) k x inside is))

  -- one declaration more
  module _ (ms : List Measure) (i : ℕ) (here : i < length order) (up_to : AreMeasuredUpTo d order ms i) (size : length ms ≡ length (all_decls d)) (x : Decl)
      (inside : get_or order i 0 < length (all_decls d)) (is : x ≡ get_or (all_decls d) (get_or order i 0) x) (m : Measure) (right : m ≡ capped (measure_decl (measure_at (all_names d) ms) x)) where
    at_place_of : (j : ℕ) → j < i + 1 → get_or order j 0 ≡ get_or order i 0 → (k : ℕ) → j < k
        → known_at (set ms (get_or order i 0) m) (get_or order j 0) ≡ capped (known_at (measures_within d k) (get_or order j 0))
    at_place_of j lt same zero far = absurd (omega arith)
    at_place_of j lt same (suc k) far =
        ap (known_at (set ms (get_or order i 0) m)) same
        ∙ known_is (set ms (get_or order i 0) m) (get_or order i 0)
        ∙ get_or-set_same ms (get_or order i 0) m unmeasured (omega arith)
        ∙ right
        ∙ right_next ms j (omega arith) (λ p h. up_to p (omega arith)) x (subst (λ v. v < length (all_decls d)) (sym same) inside)
        (subst (λ v. x ≡ get_or (all_decls d) v x) (sym same) is) k (omega arith)

    elsewhere : (j : ℕ) → j < i + 1 → (get_or order j 0 ≡ get_or order i 0 → ⊥) → (k : ℕ) → j < k
        → known_at (set ms (get_or order i 0) m) (get_or order j 0) ≡ capped (known_at (measures_within d k) (get_or order j 0))
    elsewhere j lt other k far = at (cases_lt j i)
      where
        at : (j < i) ⊎ (i ≤ j) → known_at (set ms (get_or order i 0) m) (get_or order j 0) ≡ capped (known_at (measures_within d k) (get_or order j 0))
        at (inl before) =
            known_is (set ms (get_or order i 0) m) (get_or order j 0)
            ∙ get_or-set_other ms (get_or order i 0) (get_or order j 0) m unmeasured other
            ∙ sym (known_is ms (get_or order j 0))
            ∙ up_to j before k far
        at (inr behind) = let same : j ≡ i = omega arith in absurd (other (ap (λ p. get_or order p 0) same))

    pub up_to_next : AreMeasuredUpTo d order (set ms (get_or order i 0) m) (i + 1)
    up_to_next j lt k far = at (cases_eq (get_or order j 0) (get_or order i 0))
      where
        at : (get_or order j 0 ≡ get_or order i 0) ⊎ (get_or order j 0 ≡ get_or order i 0 → ⊥)
            → known_at (set ms (get_or order i 0) m) (get_or order j 0) ≡ capped (known_at (measures_within d k) (get_or order j 0))
        at (inl same) = at_place_of j lt same k far
        at (inr other) = elsewhere j lt other k far

pub length_within : (d : Declarations) (n : ℕ) → 0 < n → length (measures_within d n) ≡ length (all_decls d)
length_within d zero h = absurd (omega arith)
length_within d (suc n) h = length-map (all_decls d) (measure_decl (measure_at (all_names d) (measures_within d n)))

pub length_of : (d : Declarations) → length (measures_of d) ≡ length (all_decls d)
length_of d = at (length (all_decls d)) refl
  where
    at : (n : ℕ) → length (all_decls d) ≡ n → length (measures_within d n) ≡ length (all_decls d)
    at zero e = sym e
    at (suc n) e = length_within d (suc n) (omega arith)

-- once all are measured
pub all_measured : (d : Declarations) (order : List ℕ) (ms : List Measure) → IsOrder (containment d) order → length ms ≡ length (all_decls d) → AreMeasuredUpTo d order ms (length order)
    → ms ≡ map capped (measures_of d)
all_measured d order ms o size up_to =
    let long : length (map capped (measures_of d)) ≡ length (measures_of d) = length-map (measures_of d) capped in
    let all : length (measures_of d) ≡ length (all_decls d) = length_of d in
    ext_get_or unmeasured ms (map capped (measures_of d)) (omega arith) (λ v lt. sym (known_is ms v) ∙ each v lt ∙ ap capped (known_is (measures_of d) v)
    ∙ sym (get_or-map capped (measures_of d) v unmeasured unmeasured (omega arith)))
  where
    each : (v : ℕ) → v < length ms → known_at ms v ≡ capped (known_at (measures_of d) v)
    each v lt = at (o.all v (let many : length (containment d) ≡ length (all_decls d) = length-map (all_decls d) (lower_places d) in omega arith))
      where
        at : Contains order v → known_at ms v ≡ capped (known_at (measures_of d) v)
        at (j, inside, e) =
            let same : get_or order j 0 ≡ v = other_default order j 0 v inside ∙ e in
            let many : length (containment d) ≡ length (all_decls d) = length-map (all_decls d) (lower_places d) in
            let few : length order ≤ length (containment d) = o.once in
            subst (λ w. known_at ms w ≡ capped (known_at (measures_of d) w)) same (up_to j inside (length (all_decls d)) (omega arith))

-- a kept table serves as the exact one, just past the limits
pub kept_serves : (d : Declarations) (ms : List Measure) (t : TypeName) → ms ≡ map capped (measures_of d) → capped (measure_with (measure_at (all_names d) ms) t) ≡ capped (measure_of d t)
kept_serves d ms t e =
    ap (λ xs. capped (measure_with (measure_at (all_names d) xs) t)) e
    ∙ type_agrees capped past_limits (measure_at (all_names d) (map capped (measures_of d))) (measure_at (all_names d) (measures_of d)) t (λ n c. by_name n)
  where
    known_capped : (xs : List Measure) (w : ℕ) → known_at (map capped xs) w ≡ capped (known_at xs w)
    known_capped [] w = refl
    known_capped (x ∷ xs) zero = refl
    known_capped (x ∷ xs) (suc w) = known_capped xs w

    by_name : (n : Name) → capped (measure_at (all_names d) (map capped (measures_of d)) n) ≡ capped (measure_at (all_names d) (measures_of d) n)
    by_name n = at (place_of (all_names d) n)
      where
        at : (o : Option ℕ) → capped (unwrap_or (at_place (map capped (measures_of d)) o) unmeasured) ≡ capped (unwrap_or (at_place (measures_of d) o) unmeasured)
        at None = refl
        at (Some w) = ap capped (known_capped (measures_of d) w) ∙ capped_twice (known_at (measures_of d) w)
