-- Names that differ: none stands before its place, and a new one goes to the end.
use Rattle.std.proofs.Common.{◌≡◌, ℕ, zero, suc, ◌<◌, List, [], ◌∷◌, ◌++◌, length, get_or, take, map, Contains, refl, sym, ap, ◌∙◌, subst, arith, Bool, true, false}
use Rattle.std.specs.Prelude.{◌⊎◌, if◌then◌else◌, drop, slice_get, ◌+◌}
use Rattle.std.specs.List.{list_any}
use Rattle.std.specs.Str.{bytes_eq}
use Rattle.std.specs.Cmp.Lexicographic.{bytes_decides}
use Rattle.std.proofs.lemmas.Map.Views.{Contains-from_any}
use Rattle.indexmap.specs.IndexSet.{insert_key}
use Rattle.std.specs.Prelude.{codes}
use Rattle.sil_ast.specs.declared.decl.Decl.{Decl}
use Rattle.numbered_form.specs.Names.{Name, AreOnce, decl_name}
use Rattle.sil_ast.specs.Imports.{swift_names}
use Rattle.sil_types_declarations.specs.TypeDefinitions.Declarations.{swift_structs}

-- a name that isn't there goes to the end
pub inserted_new : (names : List Name) (name : Name) → (Contains names name → ⊥) → insert_key bytes_eq names name ≡ names ++ name ∷ []
inserted_new names name absent = by (list_any (bytes_eq name) names) refl
  where
    by : (b : Bool) → list_any (bytes_eq name) names ≡ b → (if b then names else names ++ name ∷ []) ≡ names ++ name ∷ []
    by true e = absurd (absent (Contains-from_any (λ x y. (bytes_decides x y).0) name names e))
    by false e = refl

at_place_in : {X : Type 0} (f : X → Name) (xs : List X) (i : ℕ) (x : X) → i < length xs → x ≡ get_or xs i x → Contains (map f xs) (f x)
at_place_in f [] i x lt is = absurd (omega arith)
at_place_in f (y ∷ ys) zero x lt is = (0, omega arith, ap f (sym is))
at_place_in f (y ∷ ys) (suc i) x lt is = let rest = at_place_in f ys i x (omega arith) is in let inside : rest.0 < length (map f ys) = rest.1 in (suc rest.0, omega arith, rest.2)

pub once_before : {X : Type 0} (f : X → Name) (xs : List X) (i : ℕ) (x : X) → AreOnce (map f xs) → i < length xs → x ≡ get_or xs i x → Contains (map f (take i xs)) (f x) → ⊥
once_before f [] i x once lt is c = absurd (omega arith)
once_before f (y ∷ ys) zero x once lt is c = let none : c.0 < 0 = c.1 in omega arith
once_before f (y ∷ ys) (suc i) x once lt is (zero, inside, e) = once.0 (subst (Contains (map f ys)) (sym e) (at_place_in f ys i x (omega arith) is))
once_before f (y ∷ ys) (suc i) x once lt is (suc k, inside, e) = once_before f ys i x once.1 (omega arith) is (k, omega arith, e)

further : (a b x : Name) (names : List Name) → Contains (a ∷ names) x → Contains (a ∷ b ∷ names) x
further a b x names (zero, inside, e) = (zero, omega arith, e)
further a b x names (suc k, inside, e) = (suc (suc k), omega arith, e)

behind : (a x : Name) (names : List Name) → Contains names x → Contains (a ∷ names) x
behind a x names (k, inside, e) = (suc k, omega arith, e)

-- the names of `Swift` and those of the text differ, where no name is given twice
pub names_once : (swift : Bool) (decls : List Decl) → AreOnce ((codes "Builtin" ∷ swift_names swift) ++ map decl_name decls) → AreOnce (map decl_name (swift_structs swift ++ decls))
names_once false decls h = h.1
names_once true decls h =
    (λ c. h.1.0 (further (codes "Bool") (codes "Optional") (codes "Int") (map decl_name decls) c), (λ c. h.1.1.0 (behind (codes "Optional") (codes "Bool") (map decl_name decls) c), h.1.1.1.1))

pub slice_get_drop : {X : Type 0} (xs : List X) (n i : ℕ) → slice_get (drop n xs) i ≡ slice_get xs (i + n)
slice_get_drop xs zero i = ap (slice_get xs) (let same : i ≡ i + 0 = omega arith in same)
slice_get_drop [] (suc n) i = refl
slice_get_drop (x ∷ xs) (suc n) i = slice_get_drop xs n i ∙ ap (slice_get (x ∷ xs)) (let same : suc (i + n) ≡ i + suc n = omega arith in same)
