-- What there is where a look-up, a test or a row finds something, and what holds at one place of a list.
use Rattle.std.proofs.Common.{◌≡◌, ℕ, zero, suc, List, [], ◌∷◌, ◌++◌, refl, sym, subst, Bool, true, false, not, Option, Some, None}
use Rattle.std.specs.Prelude.{◌||◌, All, IfSome, is_some, option_map, option_and_then, slice_get, if◌then◌else◌}
use Rattle.std.specs.List.{list_all, list_any, flat_map, AllByRecursion}
use Rattle.std.proofs.lemmas.Bool.{and_parts, or_parts}
use Rattle.std.proofs.lemmas.List.Elements.{All-from_recursion, recursion_from_All}
use Rattle.numbered_form.specs.Lists.{Each}
use Rattle.holder_model.specs.sil_types.Typing.RowTypes.{passes}
use Rattle.holder_model.specs.sil_types.Typing.Shapes.{where_it}

-- ---- tests

pub never_fails : (b : Bool) → (not b ≡ true → ⊥) → b ≡ true
never_fails true h = refl
never_fails false h = absurd (h refl)

pub never_passes : (b : Bool) → (b ≡ true → ⊥) → b ≡ false
never_passes true h = absurd (h refl)
never_passes false h = refl

pub or_first : (a b : Bool) → b ≡ false → (a || b) ≡ true → a ≡ true
or_first true b f e = refl
or_first false b f e = cc

-- ---- look-ups

pub some_of : {A : Type 0} (o : Option A) → is_some o ≡ true → (x : A) × (o ≡ Some x)
some_of None e = absurd (cc)
some_of (Some x) e = (x, refl)

pub none_of : {A : Type 0} (o : Option A) → is_some o ≡ false → o ≡ None
none_of None e = refl
none_of (Some x) e = absurd (cc)

pub found_behind : {A B : Type 0} (g : A → Option B) (o : Option A) (y : B) → option_and_then g o ≡ Some y → (x : A) × (o ≡ Some x) × (g x ≡ Some y)
found_behind g None y e = absurd (cc)
found_behind g (Some x) y e = (x, refl, e)

-- there is something where something is made of it
pub mapped_some : {A B : Type 0} (g : A → B) (o : Option A) → is_some (option_map g o) ≡ true → (x : A) × (o ≡ Some x)
mapped_some g None e = absurd (cc)
mapped_some g (Some x) e = (x, refl)

pub passed : {A : Type 0} (test : A → Bool) (o : Option A) → passes test o ≡ true → (x : A) × (o ≡ Some x) × (test x ≡ true)
passed test None e = absurd (cc)
passed test (Some x) e = (x, refl, e)

pub where_found : {A : Type 0} (test : A → Bool) (o : Option A) (x : A) → where_it test o ≡ Some x → (o ≡ Some x) × (test x ≡ true)
where_found test None x e = absurd (cc)
where_found {A} test (Some y) x e = at (test y) refl e
  where
    at : (b : Bool) → test y ≡ b → (if b then Some y else None) ≡ Some x → (Some y ≡ Some x) × (test x ≡ true)
    at true t e = let same : y ≡ x = cc in (e, subst (λ z. test z ≡ true) same t)
    at false t e = absurd (cc)

pub if_some : {A : Type 0} (P : A → Type 0) (o : Option A) (x : A) → o ≡ Some x → IfSome o P → P x
if_some {A} P o x e h = subst (λ (z : Option A). IfSome z P) e h

-- ---- lists

pub each_at : {A : Type 0} (P : A → Type 0) (xs : List A) (i : ℕ) (x : A) → Each P xs → slice_get xs i ≡ Some x → P x
each_at P [] i x h e = absurd (cc)
each_at P (y ∷ ys) zero x h e = let same : y ≡ x = cc in subst P same h.0
each_at P (y ∷ ys) (suc i) x h e = each_at P ys i x h.1 e

pub passes_at : {A : Type 0} (test : A → Bool) (xs : List A) (i : ℕ) (x : A) → list_all test xs ≡ true → slice_get xs i ≡ Some x → test x ≡ true
passes_at test [] i x h e = absurd (cc)
passes_at test (y ∷ ys) zero x h e = let same : y ≡ x = cc in subst (λ z. test z ≡ true) same (and_parts (test y) (list_all test ys) h).0
passes_at test (y ∷ ys) (suc i) x h e = passes_at test ys i x (and_parts (test y) (list_all test ys) h).1 e

pub fails_at : {A : Type 0} (test : A → Bool) (xs : List A) (i : ℕ) (x : A) → list_any test xs ≡ false → slice_get xs i ≡ Some x → test x ≡ false
fails_at test [] i x h e = absurd (cc)
fails_at test (y ∷ ys) zero x h e = let same : y ≡ x = cc in subst (λ z. test z ≡ false) same (or_parts (test y) (list_any test ys) h).0
fails_at test (y ∷ ys) (suc i) x h e = fails_at test ys i x (or_parts (test y) (list_any test ys) h).1 e

pub none_in_both : {A : Type 0} (test : A → Bool) (xs ys : List A) → list_any test (xs ++ ys) ≡ false → (list_any test xs ≡ false) × (list_any test ys ≡ false)
none_in_both test [] ys h = (refl, h)
none_in_both test (x ∷ xs) ys h =
    let here = or_parts (test x) (list_any test (xs ++ ys)) h in
    let rest = none_in_both test xs ys here.1 in
    (subst (λ b. (b || list_any test xs) ≡ false) (sym here.0) rest.0, rest.1)

pub none_in_any : {A B : Type 0} (test : B → Bool) (g : A → List B) (xs : List A) (i : ℕ) (x : A) → list_any test (flat_map g xs) ≡ false
    → slice_get xs i ≡ Some x → list_any test (g x) ≡ false
none_in_any test g [] i x h e = absurd (cc)
none_in_any test g (y ∷ ys) zero x h e = let same : y ≡ x = cc in subst (λ z. list_any test (g z) ≡ false) same (none_in_both test (g y) (flat_map g ys) h).0
none_in_any test g (y ∷ ys) (suc i) x h e = none_in_any test g ys i x (none_in_both test (g y) (flat_map g ys) h).1 e

-- what holds of all elements holds of each
pub all_at : {A : Type 0} (P : A → Type 0) (xs : List A) (i : ℕ) (x : A) → All P xs → slice_get xs i ≡ Some x → P x
all_at {A} P xs i x h e = at xs i e (recursion_from_All P xs h)
  where
    at : (xs : List A) (i : ℕ) → slice_get xs i ≡ Some x → AllByRecursion P xs → P x
    at [] i e h = absurd (cc)
    at (y ∷ ys) zero e h = let same : y ≡ x = cc in subst P same h.0
    at (y ∷ ys) (suc i) e h = at ys i e h.1

pub all_of_both : {A : Type 0} (P : A → Type 0) (xs ys : List A) → All P (xs ++ ys) → All P xs × All P ys
all_of_both {A} P xs ys h = let both = at xs (recursion_from_All P (xs ++ ys) h) in (All-from_recursion P xs both.0, All-from_recursion P ys both.1)
  where
    at : (xs : List A) → AllByRecursion P (xs ++ ys) → AllByRecursion P xs × AllByRecursion P ys
    at [] h = (tt, h)
    at (x ∷ zs) h = let rest = at zs h.1 in ((h.0, rest.0), rest.1)
