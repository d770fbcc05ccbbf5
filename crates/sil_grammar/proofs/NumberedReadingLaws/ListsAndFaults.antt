-- Facts of lists, tests and faults.
use Rattle.std.proofs.Common.{if◌then◌else◌, ◌≡◌, ℕ, ◌≤◌, zero, suc, List, [], ◌∷◌, ◌++◌, length, map, slice_get, Option, Some, None, Bool, true, false, ◌&&◌, ◌||◌, not, sym, refl, arith, flat_map}
use Rattle.std.specs.List.{list_all}
use Rattle.std.specs.Option.{option_map}
use Rattle.std.proofs.lemmas.List.{length-map}
use Rattle.sil_ast.specs.declared.place.Place.{Place}
use Rattle.sil_rules.specs.declared.limit_word.LimitWord.{LimitWord}
use Rattle.sil_grammar_tree.specs.declared.written_tree.fault.FaultKind.TheVariants.{Limit}
use Rattle.sil_grammar_tree.specs.WrittenTree.Faults.{fault, passed}
use Rattle.sil_grammar_tree.specs.declared.written_tree.fault.Fault.{Fault}
use Rattle.numbered_form.specs.Lists.{Each}

pub both : (a b : Bool) → a ≡ true → b ≡ true → (a && b) ≡ true
both true b e f = f
both false b e f = e

pub either_first : (a b : Bool) → a ≡ true → (a || b) ≡ true
either_first true b e = refl
either_first false b e = cc

pub either_second : (a b : Bool) → b ≡ true → (a || b) ≡ true
either_second true b e = refl
either_second false b e = e

pub implied : (a b : Bool) → a ≡ true → (not a || b) ≡ true → b ≡ true
implied true b e f = f
implied false b e f = cc

pub not_true : (b : Bool) → not b ≡ true → b ≡ false
not_true true e = sym e
not_true false e = refl

-- elements one by one

pub Each-map : {A B : Type 0} (f : A → B) (P : A → Type 0) (Q : B → Type 0) → ((x : A) → P x → Q (f x)) → (xs : List A) → Each P xs → Each Q (map f xs)
Each-map f P Q h [] e = tt
Each-map f P Q h (x ∷ xs) e = (h x e.0, Each-map f P Q h xs e.1)

pub Each-weaker : {A : Type 0} (P Q : A → Type 0) → ((x : A) → P x → Q x) → (xs : List A) → Each P xs → Each Q xs
Each-weaker P Q h [] e = tt
Each-weaker P Q h (x ∷ xs) e = (h x e.0, Each-weaker P Q h xs e.1)

pub Each-append : {A : Type 0} (P : A → Type 0) (xs ys : List A) → Each P xs → Each P ys → Each P (xs ++ ys)
Each-append P [] ys e f = f
Each-append P (x ∷ xs) ys e f = (e.0, Each-append P xs ys e.1 f)

pub Each-flat_map : {A B : Type 0} (f : A → List B) (P : A → Type 0) (Q : B → Type 0) → ((x : A) → P x → Each Q (f x)) → (xs : List A) → Each P xs → Each Q (flat_map f xs)
Each-flat_map f P Q h [] e = tt
Each-flat_map f P Q h (x ∷ xs) e = Each-append Q (f x) (flat_map f xs) (h x e.0) (Each-flat_map f P Q h xs e.1)

pub all_each : {A : Type 0} (test : A → Bool) (xs : List A) → Each (λ x. test x ≡ true) xs → list_all test xs ≡ true
all_each test [] e = refl
all_each test (x ∷ xs) e = both (test x) (list_all test xs) e.0 (all_each test xs e.1)

-- faults

-- a fault that is there where a test is true
pub not_there : (test : Bool) (f : Fault) → (if test then Some f else None) ≡ None → test ≡ false
not_there true f e = cc
not_there false f e = refl

-- a list is no longer than the place at which it has nothing
short : {A : Type 0} (xs : List A) (n : ℕ) → slice_get xs n ≡ None → length xs ≤ n
short [] n e = omega arith
short (x ∷ xs) zero e = absurd (cc)
short (x ∷ xs) (suc n) e = omega (arith, short xs n e)

unmapped : {A B : Type 0} (f : A → B) (o : Option A) → option_map f o ≡ None → o ≡ None
unmapped f None e = refl
unmapped f (Some a) e = absurd (cc)

-- where no token passes the limit, there are no more than it allows
pub not_passed : (what : LimitWord) (most : ℕ) (places : List Place) → passed what most places ≡ None → length places ≤ most
not_passed what most places e = short places most (unmapped (fault (Limit what)) (slice_get places most) e)

pub not_passed-map : {A : Type 0} (place : A → Place) (what : LimitWord) (most : ℕ) (xs : List A) → passed what most (map place xs) ≡ None → length xs ≤ most
not_passed-map place what most xs e = let h : length (map place xs) ≤ most = not_passed what most (map place xs) e in rw length-map at h
