-- What a name finds stands at its place and has this name; and what holds of all elements of a list holds of the one at a place.
use Rattle.std.proofs.Common.{◌≡◌, ℕ, zero, suc, ◌+◌, ◌<◌, List, [], ◌∷◌, Bool, true, false, Option, Some, None, map, length, get_or, refl, sym, ap, ◌∙◌, subst, arith, cond}
use Rattle.std.specs.Prelude.{◌&&◌, ◌||◌, All, Contains, not, option_map, position, slice_get}
use Rattle.std.specs.List.{list_any, position_from}
use Rattle.std.proofs.lemmas.Iterator.Adapters.{position_from-zero}
use Rattle.std.proofs.lemmas.List.Quantifiers.{position-Some}
use Rattle.std.proofs.lemmas.Option.{get_or_from_slice_get, slice_get-map, slice_get_within}
use Rattle.std.proofs.lemmas.Slice.Eq.{bytes_eq-Decides}
use Rattle.std.specs.Str.{bytes_eq}
use Rattle.sil_ast.specs.declared.decl.Decl.{Decl}
use Rattle.numbered_form.specs.Lists.{Each}
use Rattle.numbered_form.specs.Names.{AreOnce, Name, decl_name}
use Rattle.holder_model.specs.sil_types_declarations.TypeDefinitions.Declarations.{Declarations, all_decls, all_names, at_place, decl_of, place_of}

-- ---- tests

pub same_name : (name : Name) → bytes_eq name name ≡ true
same_name name = (bytes_eq-Decides name name).1 refl

pub name_is : (a b : Name) → bytes_eq a b ≡ true → a ≡ b
name_is a b e = (bytes_eq-Decides a b).0 e

pub other_name : (a b : Name) → (a ≡ b → ⊥) → bytes_eq a b ≡ false
other_name a b differ = at (bytes_eq a b) refl
  where
    at : (t : Bool) → bytes_eq a b ≡ t → t ≡ false
    at true e = absurd (differ (name_is a b e))
    at false e = refl

pub neither_first : (a b : Bool) → (a || b) ≡ false → a ≡ false
neither_first true b e = e
neither_first false b e = refl

pub neither_second : (a b : Bool) → (a || b) ≡ false → b ≡ false
neither_second true b e = cc
neither_second false b e = e

pub both_first : (a b : Bool) → (a && b) ≡ true → a ≡ true
both_first true b e = refl
both_first false b e = cc

pub both_second : (a b : Bool) → (a && b) ≡ true → b ≡ true
both_second true b e = e
both_second false b e = cc

pub not_false : (b : Bool) → not b ≡ false → b ≡ true
not_false true e = refl
not_false false e = sym e

-- ---- lists

pub fails_at : {A : Type 0} (test : A → Bool) (xs : List A) (i : ℕ) (x : A) → list_any test xs ≡ false → slice_get xs i ≡ Some x → test x ≡ false
fails_at test [] i x h e = cc
fails_at test (y ∷ ys) zero x h e = let same : y ≡ x = cc in subst (λ z. test z ≡ false) same (neither_first (test y) (list_any test ys) h)
fails_at test (y ∷ ys) (suc i) x h e = fails_at test ys i x (neither_second (test y) (list_any test ys) h) e

module _ {A : Type 0} (P : A → Type 0) where
  pub each_at : (xs : List A) (i : ℕ) (x : A) → Each P xs → slice_get xs i ≡ Some x → P x
  each_at [] i x h e = cc
  each_at (y ∷ ys) zero x h e = let same : y ≡ x = cc in subst P same h.0
  each_at (y ∷ ys) (suc i) x h e = each_at ys i x h.1 e

  pub all_at : (xs : List A) (i : ℕ) (x : A) → All P xs → slice_get xs i ≡ Some x → P x
  all_at xs i x h e = subst P (get_or_from_slice_get xs i x x e) (h i x (slice_get_within xs i x e))

-- ---- names

module _ {X : Type 0} (f : X → Name) where
  pub named_at : (xs : List X) (name : Name) (i : ℕ) (x : X) → place_of (map f xs) name ≡ Some i → slice_get xs i ≡ Some x → f x ≡ name
  named_at xs name i x e there =
      let at = get_or_from_slice_get (map f xs) i (f x) [] (slice_get-map f xs i ∙ ap (option_map f) there) in
      sym (name_is name (get_or (map f xs) i []) (position-Some (bytes_eq name) (map f xs) i [] e).1 ∙ at)

  contains_at : (xs : List X) (i : ℕ) (x : X) → slice_get xs i ≡ Some x → Contains (map f xs) (f x)
  contains_at [] i x e = cc
  contains_at (y ∷ ys) zero x e = let same : y ≡ x = cc in (0, omega arith, ap f same)
  contains_at (y ∷ ys) (suc i) x e = let rest = contains_at ys i x e in let inside : rest.0 < length (map f ys) = rest.1 in (suc rest.0, omega arith, rest.2)

  -- another element behind the first has another name
  pub differs : (y : X) (ys : List X) (i : ℕ) (x : X) → AreOnce (f y ∷ map f ys) → slice_get ys i ≡ Some x → f x ≡ f y → ⊥
  differs y ys i x once e same = once.0 (subst (Contains (map f ys)) same (contains_at ys i x e))

  from_at : (n : ℕ) (xs : List X) (i : ℕ) (x : X) → AreOnce (map f xs) → slice_get xs i ≡ Some x → position_from (bytes_eq (f x)) n (map f xs) ≡ Some (n + i)
  from_at n [] i x once e = cc
  from_at n (y ∷ ys) zero x once e =
      let same : y ≡ x = cc in
      let here : n ≡ n + 0 = omega arith in
      ap (λ b. cond b (Some n) (position_from (bytes_eq (f x)) (n + 1) (map f ys))) (ap (λ z. bytes_eq (f x) (f z)) same ∙ same_name (f x)) ∙ ap (λ k. Some k) here
  from_at n (y ∷ ys) (suc i) x once e =
      let here : (n + 1) + i ≡ n + suc i = omega arith in
      ap (λ b. cond b (Some n) (position_from (bytes_eq (f x)) (n + 1) (map f ys))) (other_name (f x) (f y) (differs y ys i x once e))
      ∙ from_at (n + 1) ys i x once.1 e ∙ ap (λ k. Some k) here

  -- where no name stands twice, each finds its own place
  pub place_once : (xs : List X) (i : ℕ) (x : X) → AreOnce (map f xs) → slice_get xs i ≡ Some x → place_of (map f xs) (f x) ≡ Some i
  place_once xs i x once e =
      let none : 0 + i ≡ i = omega arith in
      position_from-zero (bytes_eq (f x)) (map f xs) ∙ from_at 0 xs i x once e ∙ ap (λ k. Some k) none

-- ---- positions

from-map : {X Y : Type 0} (test : Y → Bool) (f : X → Y) (n : ℕ) (xs : List X) → position_from test n (map f xs) ≡ position_from (λ x. test (f x)) n xs
from-map test f n [] = refl
from-map test f n (x ∷ xs) = ap (cond (test (f x)) (Some n)) (from-map test f (n + 1) xs)

pub position-map : {X Y : Type 0} (test : Y → Bool) (f : X → Y) (xs : List X) → position test (map f xs) ≡ position (λ x. test (f x)) xs
position-map test f xs = position_from-zero test (map f xs) ∙ from-map test f 0 xs ∙ sym (position_from-zero (λ x. test (f x)) xs)

-- ---- declarations

-- what a name finds among declarations
pub record IsFound (d : Declarations) (name : Name) (x : Decl) : Type 0 where
  pub place : ℕ
  pub is_place : place_of (all_names d) name ≡ Some place
  pub there : slice_get (all_decls d) place ≡ Some x
  pub named : decl_name x ≡ name

pub found : (d : Declarations) (name : Name) (x : Decl) → decl_of d name ≡ Some x → IsFound d name x
found d name x e = at (place_of (all_names d) name) refl e
  where
    at : (o : Option ℕ) → place_of (all_names d) name ≡ o → at_place (all_decls d) o ≡ Some x → IsFound d name x
    at None is there = cc
    at (Some i) is there = record { place = i; is_place = is; there = there; named = named_at decl_name (all_decls d) name i x is there }
