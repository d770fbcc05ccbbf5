-- A search among places that stand in parts, one part after the other.
use Rattle.std.proofs.Common.{◌≡◌, ℕ, zero, suc, ◌+◌, ◌≤◌, List, [], ◌∷◌, ◌++◌, length, drop, map, true, false, if◌then◌else◌, refl, ap, sym, subst, ◌∙◌, arith, length-append}
use Rattle.std.specs.Prelude.{Some, filter, Bool}
use Rattle.std.proofs.lemmas.List.{drop_all, map-append}
use Rattle.std.specs.List.{flat_map, slice_get}
use Rattle.sil_ast.specs.declared.place.Place.{Place}
use Rattle.sil_grammar_declarations.specs.declared.found.Found.{Found}
use Rattle.sil_grammar_declarations.specs.declared.found.Found.TheVariants.{At, Past}
use Rattle.sil_grammar_tree.specs.declared.written_tree.written_declarations.WrittenToken.{WrittenToken}
use Rattle.sil_grammar_tree.specs.declared.written_tree.written_module.WrittenItem.{WrittenItem}
use Rattle.sil_grammar_declarations.specs.inner.Found.{Finds, decl_places, function_places, kept_places}
use Rattle.sil_grammar_tree.specs.WrittenTree.Places.{attribute_places, decl_names, function_names, is_kept, token_place}

pub get-append_in : {A : Type 0} (xs ys : List A) (i : ℕ) (x : A) → slice_get xs i ≡ Some x → slice_get (xs ++ ys) i ≡ Some x
get-append_in [] ys i x h = cc
get-append_in (y ∷ xs) ys zero x h = h
get-append_in (y ∷ xs) ys (suc i) x h = get-append_in xs ys i x h

pub get-append_past : {A : Type 0} (xs ys : List A) (n : ℕ) → slice_get (xs ++ ys) (length xs + n) ≡ slice_get ys n
get-append_past [] ys n = let e : 0 + n ≡ n = omega arith in ap (slice_get ys) e
get-append_past (x ∷ xs) ys n =
    let e : suc (length xs) + n ≡ suc (length xs + n) = omega arith in
    ap (slice_get (x ∷ xs ++ ys)) e ∙ get-append_past xs ys n

-- what is past the first places is searched in the others
pub finds_past : (xs ys : List Place) (i n : ℕ) (r : Found) → length xs + n ≡ i → Finds ys n r → Finds (xs ++ ys) i r
finds_past xs ys i n (At place) e h = rw (← e) (get-append_past xs ys n ∙ h)
finds_past xs ys i n (Past rest) e h = omega (arith, length-append xs ys)

-- the places of a part stand before those of the parts behind it
pub held_next : {X A : Type 0} (f : X → List A) (xs : List X) (k : ℕ) (x : X) → slice_get xs k ≡ Some x → flat_map f (drop k xs) ≡ f x ++ flat_map f (drop (k + 1) xs)
held_next f [] k x h = cc
held_next f (y ∷ xs) zero x h = let e : y ≡ x = cc in rw e refl
held_next f (y ∷ xs) (suc k) x h = let e : suc k + 1 ≡ suc (k + 1) = omega arith in rw e (held_next f xs k x h)

map-flat_map : {A B C : Type 0} (g : B → C) (f : A → List B) (xs : List A) → map g (flat_map f xs) ≡ flat_map (λ x. map g (f x)) xs
map-flat_map g f [] = refl
map-flat_map g f (x ∷ xs) = map-append g (f x) (flat_map f xs) ∙ ap (λ ys. map g (f x) ++ ys) (map-flat_map g f xs)

-- one step of a search over parts: in the part at k, or past it
pub found_here : {X A : Type 0} (f : X → List A) (xs : List X) (k left i : ℕ) (x : X) (a : A) → slice_get xs k ≡ Some x
    → slice_get (flat_map f (drop k xs)) left ≡ slice_get (flat_map f xs) i → slice_get (f x) left ≡ Some a → Some a ≡ slice_get (flat_map f xs) i
found_here f xs k left i x a at same here =
    sym (get-append_in (f x) (flat_map f (drop (k + 1) xs)) left a here) ∙ (ap (λ ys. slice_get ys left) (sym (held_next f xs k x at)) ∙ same)

pub found_past : {X A : Type 0} (f : X → List A) (xs : List X) (k left rest i : ℕ) (x : X) → slice_get xs k ≡ Some x
    → slice_get (flat_map f (drop k xs)) left ≡ slice_get (flat_map f xs) i → length (f x) + rest ≡ left
    → slice_get (flat_map f (drop (k + 1) xs)) rest ≡ slice_get (flat_map f xs) i
found_past f xs k left rest i x at same past =
    let behind = flat_map f (drop (k + 1) xs) in
    sym (get-append_past (f x) behind rest)
    ∙ (ap (slice_get (f x ++ behind)) past ∙ (ap (λ ys. slice_get ys left) (sym (held_next f xs k x at)) ∙ same))

-- the same of searches
pub finds_here : {X : Type 0} (f : X → List Place) (xs : List X) (k left : ℕ) (x : X) (place : Place) → slice_get xs k ≡ Some x
    → slice_get (f x) left ≡ Some place → slice_get (flat_map f (drop k xs)) left ≡ Some place
finds_here f xs k left x place at here =
    ap (λ ys. slice_get ys left) (held_next f xs k x at) ∙ get-append_in (f x) (flat_map f (drop (k + 1) xs)) left place here

pub finds_behind : {X : Type 0} (f : X → List Place) (xs : List X) (k left rest : ℕ) (x : X) (r : Found) → slice_get xs k ≡ Some x
    → length (f x) + rest ≡ left → Finds (flat_map f (drop (k + 1) xs)) rest r → Finds (flat_map f (drop k xs)) left r
finds_behind f xs k left rest x r at past found =
    subst (λ ys. Finds ys left r) (sym (held_next f xs k x at)) (finds_past (f x) (flat_map f (drop (k + 1) xs)) left rest r past found)

pub finds_none : {X : Type 0} (f : X → List Place) (xs : List X) (k left : ℕ) → length xs ≤ k → Finds (flat_map f (drop k xs)) left (Past left)
finds_none f xs k left all = rw (drop_all k xs all) (omega arith)

kept_step : (keep : Bool) (word : WrittenToken) (words : List WrittenToken) (places : List Place) → map token_place words ≡ places
    → map token_place (if keep then word ∷ words else words) ≡ (if keep then word.place ∷ [] else []) ++ places
kept_step true word words places are = ap (λ ps. word.place ∷ ps) are
kept_step false word words places are = are

-- the attributes that are kept, one after the other
pub kept_one_by_one : (words : List WrittenToken) → attribute_places words ≡ flat_map kept_places words
kept_one_by_one [] = refl
kept_one_by_one (word ∷ words) = kept_step (is_kept word) word (filter is_kept words) (flat_map kept_places words) (kept_one_by_one words)

-- the names of declarations and of functions, item by item
pub decls_one_by_one : (items : List WrittenItem) → map token_place (flat_map decl_names items) ≡ flat_map decl_places items
decls_one_by_one items = map-flat_map token_place decl_names items

pub functions_one_by_one : (items : List WrittenItem) → map token_place (flat_map function_names items) ≡ flat_map function_places items
functions_one_by_one items = map-flat_map token_place function_names items
