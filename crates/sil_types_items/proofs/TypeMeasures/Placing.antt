-- The places of the names of some types together.
use Rattle.std.proofs.Common.{◌≡◌, ℕ, zero, suc, ◌+◌, ◌<◌, List, [], ◌∷◌, ◌++◌, map, length, take, get_or, refl, sym, ap, ◌∙◌, subst, arith, append_assoc}
use Rattle.std.specs.Prelude.{Some, None, All, Bool, true, false, cond, nat_lt}
use Rattle.std.specs.List.{position_or_len}
use Rattle.std.specs.Option.{option_to_list}
use Rattle.std.proofs.lemmas.List.Elements.{All-append}
use Rattle.std.specs.Str.{bytes_eq}
use Rattle.std.proofs.lemmas.List.{append-nil, take_more, length-map}
use Rattle.std.proofs.lemmas.Bool.{ltb-true}
use Rattle.sil_types_declarations.specs.number_tables.ContainmentOrder.Chains.{IsInRange, parts_of}
use Rattle.sil_ast.specs.declared.decl.Decl.{Decl}
use Rattle.std.specs.List.{flat_map}
use Rattle.sil_ast.specs.declared.type_name.TypeName.{TypeName}
use Rattle.sil_types_declarations.specs.numbered_form.Names.{Name, decl_name, superclass_in}
use Rattle.sil_types_declarations.specs.TypeDefinitions.Contained.{class_list, containment, names_in, place_list, itself, held_places, held_names, lower_places, superclass_places}
use Rattle.sil_types_declarations.specs.TypeDefinitions.Declarations.{Declarations, all_decls, all_names, is_class}
use Rattle.sil_types_items.specs.TypeMeasures.inner.Places.{places_in}
use Rattle.sil_types_items.proofs.TypeMeasures.Agreement.{names-Tuple}
use Rattle.sil_ast.specs.declared.type_name.TypeName.TheVariants.{Tuple}

pub flat_map-append : {X Y : Type 0} (f : X → List Y) (xs ys : List X) → flat_map f (xs ++ ys) ≡ flat_map f xs ++ flat_map f ys
flat_map-append f [] ys = refl
flat_map-append f (x ∷ xs) ys = ap (λ r. f x ++ r) (flat_map-append f xs ys) ∙ sym (append_assoc (f x) (flat_map f xs) (flat_map f ys))

flat_itself : (f : TypeName → List Name) (ts : List TypeName) → flat_map itself (map f ts) ≡ flat_map f ts
flat_itself f [] = refl
flat_itself f (t ∷ ts) = ap (λ r. f t ++ r) (flat_itself f ts)

-- by the names of all, or of each
pub places_of_all : (names : List Name) (ts : List TypeName) → flat_map (place_list names) (flat_map names_in ts) ≡ flat_map (places_in names) ts
places_of_all names [] = refl
places_of_all names (t ∷ ts) = flat_map-append (place_list names) (names_in t) (flat_map names_in ts) ∙ ap (λ r. places_in names t ++ r) (places_of_all names ts)

pub places-Tuple : (names : List Name) (ts : List TypeName) → places_in names (Tuple ts) ≡ flat_map (places_in names) ts
places-Tuple names ts = ap (flat_map (place_list names)) (names-Tuple ts ∙ flat_itself names_in ts) ∙ places_of_all names ts

pub ruleset by_form = (places-Tuple)

-- the places of the types so far, and of those of one part more
pub places_next : {X : Type 0} (types : X → List TypeName) (names : List Name) (xs : List X) (i : ℕ) (x : X) → i < length xs → x ≡ get_or xs i x →
    flat_map (place_list names) (flat_map names_in (flat_map types (take (i + 1) xs)))
    ≡ flat_map (place_list names) (flat_map names_in (flat_map types (take i xs))) ++ flat_map (places_in names) (types x)
places_next types names xs i x lt is =
    ap (λ ts. flat_map (place_list names) (flat_map names_in ts)) (ap (flat_map types) (take_more xs i x lt) ∙ flat_map-append types (take i xs) (get_or xs i x ∷ [])
    ∙ ap (λ y. flat_map types (take i xs) ++ (types y ++ [])) (sym is))
    ∙ ap (flat_map (place_list names)) (flat_map-append names_in (flat_map types (take i xs)) (types x ++ []))
    ∙ flat_map-append (place_list names) (flat_map names_in (flat_map types (take i xs))) (flat_map names_in (types x ++ []))
    ∙ ap (λ r. flat_map (place_list names) (flat_map names_in (flat_map types (take i xs))) ++ r) (places_of_all names (types x ++ []) ∙ ap (flat_map (places_in names)) (append-nil (types x)))

flat_alone : {X Y : Type 0} (f : X → Y) (xs : List X) → flat_map (λ x. f x ∷ []) xs ≡ map f xs
flat_alone f [] = refl
flat_alone f (x ∷ xs) = ap (λ r. f x ∷ r) (flat_alone f xs)

pub places_next_by : {X : Type 0} (type_of : X → TypeName) (names : List Name) (xs : List X) (i : ℕ) (x : X) (new old : List ℕ) → i < length xs → x ≡ get_or xs i x →
    old ≡ flat_map (place_list names) (flat_map names_in (map type_of (take i xs))) → new ≡ old ++ places_in names (type_of x)
    → new ≡ flat_map (place_list names) (flat_map names_in (map type_of (take (i + 1) xs)))
places_next_by type_of names xs i x new old lt is so_far more =
    let whole : (ys : List _) → flat_map (place_list names) (flat_map names_in (flat_map (λ y. type_of y ∷ []) ys)) ≡ flat_map (place_list names) (flat_map names_in (map type_of ys)) =
    λ ys. ap (λ ts. flat_map (place_list names) (flat_map names_in ts)) (flat_alone type_of ys) in
    more ∙ ap (λ ps. ps ++ places_in names (type_of x)) (so_far ∙ sym (whole (take i xs)))
    ∙ ap (λ r. flat_map (place_list names) (flat_map names_in (flat_map (λ y. type_of y ∷ []) (take i xs))) ++ r) (sym (append-nil (places_in names (type_of x))))
    ∙ sym (places_next (λ y. type_of y ∷ []) names xs i x lt is) ∙ whole (take (i + 1) xs)

place_inside : (names : List Name) (n : Name) → All (λ w. w < length names) (place_list names n)
place_inside names n = by (nat_lt (position_or_len (bytes_eq n) names) (length names)) refl
  where
    by : (b : Bool) → nat_lt (position_or_len (bytes_eq n) names) (length names) ≡ b → All (λ w. w < length names) (option_to_list (cond b (Some (position_or_len (bytes_eq n) names)) None))
    by true e = All-one (λ w. w < length names) (position_or_len (bytes_eq n) names) (ltb-true (position_or_len (bytes_eq n) names) (length names) e)
      where
        All-one : (P : ℕ → Type 0) (x : ℕ) → P x → All P (x ∷ [])
        All-one P x h zero d lt = h
        All-one P x h (suc k) d lt = absurd (omega arith)
    by false e = λ k d lt. absurd (omega arith)

places_inside : (names ns : List Name) → All (λ w. w < length names) (flat_map (place_list names) ns)
places_inside names [] = λ k d lt. absurd (omega arith)
places_inside names (n ∷ ns) = All-append (λ w. w < length names) (place_list names n) (flat_map (place_list names) ns) (place_inside names n) (places_inside names ns)

class_inside : (d : Declarations) (n : Name) → All (λ w. w < length (all_names d)) (class_list d n)
class_inside d n = by (is_class d n)
  where
    by : (b : Bool) → All (λ w. w < length (all_names d)) (cond b (place_list (all_names d) n) [])
    by true = place_inside (all_names d) n
    by false = λ k e lt. absurd (omega arith)

classes_inside : (d : Declarations) (ns : List Name) → All (λ w. w < length (all_names d)) (flat_map (class_list d) ns)
classes_inside d [] = λ k e lt. absurd (omega arith)
classes_inside d (n ∷ ns) = All-append (λ w. w < length (all_names d)) (class_list d n) (flat_map (class_list d) ns) (class_inside d n) (classes_inside d ns)

-- what declarations hold, and what classes inherit from, are declarations
pub graph_in_range : (d : Declarations) → IsInRange (containment d)
graph_in_range d v lt =
    let same : length (all_names d) ≡ length (all_decls d) = length-map (all_decls d) decl_name in
    let inside : length (containment d) ≡ length (all_decls d) = length-map (all_decls d) (lower_places d) in
    subst (λ n. All (λ w. w < n) (parts_of (containment d) v)) (same ∙ sym inside) (part (all_decls d) v (omega arith))
  where
    part : (ds : List Decl) (i : ℕ) → i < length ds → All (λ w. w < length (all_names d)) (parts_of (map (lower_places d) ds) i)
    part [] i h = absurd (omega arith)
    part (x ∷ ds) zero h =
        All-append (λ w. w < length (all_names d)) (superclass_places d x) (held_places (all_names d) x)
        (classes_inside d (option_to_list (superclass_in x))) (places_inside (all_names d) (held_names x))
    part (x ∷ ds) (suc i) h = part ds i (omega arith)
