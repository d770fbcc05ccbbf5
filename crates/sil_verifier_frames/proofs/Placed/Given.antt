-- The places that a function was given, by its arguments: which argument has which, and that those of two arguments are apart.
use Rattle.std.proofs.Common.{◌≡◌, ⊎_elim, inl, inr, ◌&&◌, ◌++◌, ◌==◌, ◌<◌, ℕ, zero, suc, List, [], ◌∷◌}
use Rattle.std.proofs.Common.{Bool, true, false, Option, Some, None, refl, sym, ap, ◌∙◌, subst, arith, map, slice_get, eq-eqb}
use Rattle.std.specs.List.{list_any}
use Rattle.std.proofs.lemmas.Bool.{or_left, or_right, true≢false}
use Rattle.std.proofs.lemmas.Option.{none-some, same_Some}
use Rattle.holder_model_laws.specs.holder_model.Calling.{given_places, lent_by, lent_with, place_in}
use Rattle.holder_model_laws.specs.holder_model.Data.{AddressOf, Datum, FunctionOf, ValueOf}
use Rattle.holder_model_laws.specs.holder_model.Frames.{LentPlace}
use Rattle.argument_conventions.specs.Arguments.{Told}
use Rattle.argument_conventions.specs.Rows.{address_row}
use Rattle.argument_conventions.specs.declared.row.AddressRow.{AddressRow}
use Rattle.holder_model_laws.specs.HolderLaws.inner.Cells.Cells.{AreApart}
use Rattle.holder_model_laws.proofs.HolderLaws.Cells.PlaceCells.{not_cell}
use Rattle.holder_model_laws.specs.ownership_kinds_chains.OwnershipChains.Facts.{has}
use Rattle.numbered_form.proofs.PointChecks.Among.{Among, among_either, among_left, among_right}
use Rattle.holder_model_values.specs.RunValues.Places.{Place}
use Rattle.sil_ast.specs.declared.place.ValueId.{ValueId}
use Rattle.sil_verifier_frames.specs.inner.Placed.PlaceStates.{as_given}

-- ---- lists

pub get_mapped : {A B : Type 0} (g : A → B) (xs : List A) (k : ℕ) (x : A) → slice_get xs k ≡ Some x → slice_get (map g xs) k ≡ Some (g x)
get_mapped g [] k x e = absurd (none-some x e)
get_mapped g (y ∷ ys) zero x e = ap (λ z. Some (g z)) (same_Some y x e)
get_mapped g (y ∷ ys) (suc k) x e = get_mapped g ys k x e

pub mapped_get : {A B : Type 0} (g : A → B) (xs : List A) (k : ℕ) (y : B) → slice_get (map g xs) k ≡ Some y → (x : A) × (slice_get xs k ≡ Some x) × (g x ≡ y)
mapped_get g [] k y e = absurd (none-some y e)
mapped_get g (x ∷ xs) zero y e = (x, refl, same_Some (g x) y e)
mapped_get g (x ∷ xs) (suc k) y e = mapped_get g xs k y e

pub has_at : (vs : List ValueId) (k : ℕ) (v : ValueId) → slice_get vs k ≡ Some v → has vs v.0 ≡ true
has_at [] k v e = absurd (none-some v e)
has_at (w ∷ vs) zero v e = or_left (w.0 == v.0) (has vs v.0) (eq-eqb w.0 v.0 (ap (λ u. u.0) (same_Some w v e)))
has_at (w ∷ vs) (suc k) v e = or_right (w.0 == v.0) (has vs v.0) (has_at vs k v e)

pub any_among : {A : Type 0} (test : A → Bool) (xs : List A) (x : A) → Among x xs → test x ≡ true → list_any test xs ≡ true
any_among test [] x c e = absurd c
any_among test (y ∷ xs) x c e = ⊎_elim
    (λ (here : x ≡ y). or_left (test y) (list_any test xs) (subst (λ z. test z ≡ true) here e))
    (λ (later : Among x xs). or_right (test y) (list_any test xs) (any_among test xs x later e))
    c

-- ---- pairs that are apart

pub apart_turned : (p q : Place) → AreApart p q → AreApart q p
apart_turned p q h n has = not_cell p n (λ inside. true≢false (sym has ∙ h n inside))

-- of each two, in order, that aren't both shared, the places are apart
abbrev pub IsApartFrom : LentPlace → LentPlace → Type 0
IsApartFrom l k = (l.row.shared && k.row.shared) ≡ false → AreApart l.place k.place

abbrev pub ArePairsApart : List LentPlace → Type 0
ArePairsApart [] = Unit {0}
ArePairsApart (l ∷ ls) = ((k : LentPlace) → Among k ls → IsApartFrom l k) × ArePairsApart ls

pub pairs_cross : (xs ys : List LentPlace) → ArePairsApart (xs ++ ys) → (l k : LentPlace) → Among l xs → Among k ys → IsApartFrom l k
pairs_cross [] ys h l k a b = absurd a
pairs_cross (x ∷ xs) ys h l k a b = ⊎_elim
    (λ (here : l ≡ x). subst (λ z. IsApartFrom z k) (sym here) (h.0 k (among_right k xs ys b)))
    (λ (later : Among l xs). pairs_cross xs ys h.1 l k later b)
    a

pub pairs_behind : (xs ys : List LentPlace) → ArePairsApart (xs ++ ys) → ArePairsApart ys
pairs_behind [] ys h = h
pairs_behind (x ∷ xs) ys h = pairs_behind xs ys h.1

both_turned : (l k : LentPlace) → (k.row.shared && l.row.shared) ≡ false → (l.row.shared && k.row.shared) ≡ false
both_turned l k e = at l.row.shared k.row.shared e
  where
    at : (a b : Bool) → (b && a) ≡ false → (a && b) ≡ false
    at true b e = turned b e
      where
        turned : (b : Bool) → (b && true) ≡ false → b ≡ false
        turned true e = e
        turned false e = refl
    at false b e = refl

-- two different ones
pub two_apart : (ls : List LentPlace) → ArePairsApart ls → (l k : LentPlace) → Among l ls → Among k ls → (l ≡ k → ⊥) → IsApartFrom l k
two_apart [] h l k a b other = absurd a
two_apart (x ∷ ls) h l k a b other = ⊎_elim
    (λ (here : l ≡ x). ⊎_elim
    (λ (too : k ≡ x). absurd (other (here ∙ sym too)))
    (λ (later : Among k ls). subst (λ z. IsApartFrom z k) (sym here) (h.0 k later))
    b)
    (λ (later : Among l ls). ⊎_elim
    (λ (here : k ≡ x). λ own. apart_turned k.place l.place (subst (λ z. IsApartFrom z l) (sym here) (h.0 l later) (both_turned k l own)))
    (λ (too : Among k ls). two_apart ls h.1 l k later too other)
    b)
    a

pub pairs_given : (ls : List LentPlace) → ArePairsApart ls → ArePairsApart (map as_given ls)
pairs_given [] h = tt
pairs_given (l ∷ ls) h = (λ k c. each k ls h.0 c, pairs_given ls h.1)
  where
    each : (k : LentPlace) (ls : List LentPlace) → ((k : LentPlace) → Among k ls → IsApartFrom l k) → Among k (map as_given ls) → IsApartFrom (as_given l) k
    each k [] h c = absurd c
    each k (x ∷ ls) h c = ⊎_elim
        (λ (here : k ≡ as_given x). subst (λ z. IsApartFrom (as_given l) z) (sym here) (h x (inl refl)))
        (λ (later : Among k (map as_given ls)). each k ls (λ z d. h z (inr d)) later)
        c

-- ---- given places

abbrev One : AddressRow → Place → List LentPlace
One row p = lent_by row p ∷ []

head_given : (a : Told) (x : Option Datum) (row : AddressRow) (p : Place) → address_row a.convention ≡ Some row → x ≡ Some (AddressOf p)
    → lent_with (address_row a.convention) (place_in x) ≡ One row p
head_given a x row p is e = ap (λ r. lent_with r (place_in x)) is ∙ ap (λ y. lent_with (Some row) (place_in y)) e

-- the place of the argument with this number is among the given ones
pub given_has : (told : List Told) (xs : List (Option Datum)) (k : ℕ) (a : Told) (row : AddressRow) (p : Place) → slice_get told k ≡ Some a
    → address_row a.convention ≡ Some row → slice_get xs k ≡ Some (Some (AddressOf p)) → Among (lent_by row p) (given_places told xs)
given_has [] xs k a row p e is g = absurd (none-some a e)
given_has (b ∷ told) [] k a row p e is g = absurd (none-some _ g)
given_has (b ∷ told) (x ∷ xs) zero a row p e is g =
    among_left (lent_by row p) (lent_with (address_row b.convention) (place_in x)) (given_places told xs)
    (subst (Among (lent_by row p)) (sym (head_given b x row p (ap (λ z. address_row z.convention) (same_Some b a e) ∙ is) (same_Some x (Some (AddressOf p)) g))) (inl refl))
given_has (b ∷ told) (x ∷ xs) (suc k) a row p e is g =
    among_right (lent_by row p) (lent_with (address_row b.convention) (place_in x)) (given_places told xs) (given_has told xs k a row p e is g)

-- each given place is an argument's
pub record IsGivenBy (told : List Told) (xs : List (Option Datum)) (l : LentPlace) : Type 0 where
  pub number : ℕ
  pub by : Told
  pub is : slice_get told number ≡ Some by
  pub row_is : address_row by.convention ≡ Some l.row
  pub holds : slice_get xs number ≡ Some (Some (AddressOf l.place))

from_head : (a : Told) (x : Option Datum) (l : LentPlace) → Among l (lent_with (address_row a.convention) (place_in x))
    → (address_row a.convention ≡ Some l.row) × (x ≡ Some (AddressOf l.place))
from_head a x l c = at (address_row a.convention) refl x c
  where
    at : (r : Option AddressRow) → address_row a.convention ≡ r → (x : Option Datum) → Among l (lent_with r (place_in x)) → (address_row a.convention ≡ Some l.row) × (x ≡ Some (AddressOf l.place))
    at None e x c = absurd c
    at (Some row) e None c = absurd c
    at (Some row) e (Some (ValueOf v)) c = absurd c
    at (Some row) e (Some (FunctionOf g)) c = absurd c
    at (Some row) e (Some (AddressOf p)) c = ⊎_elim
        (λ (here : l ≡ lent_by row p). (e ∙ ap (λ z. Some z.row) (sym here), ap (λ z. Some (AddressOf z.place)) (sym here)))
        (λ (later : ⊥). absurd later)
        c

pub given_from : (told : List Told) (xs : List (Option Datum)) (l : LentPlace) → Among l (given_places told xs) → IsGivenBy told xs l
given_from [] xs l c = absurd c
given_from (a ∷ told) [] l c = absurd c
given_from (a ∷ told) (x ∷ xs) l c = ⊎_elim
    (λ (here : Among l (lent_with (address_row a.convention) (place_in x))).
    let h = from_head a x l here in
    record { number = 0; by = a; is = refl; row_is = h.0; holds = ap Some h.1 })
    (λ (later : Among l (given_places told xs)).
    let h = given_from told xs l later in
    record { number = suc h.number; by = h.by; is = h.is; row_is = h.row_is; holds = h.holds })
    (among_either l (lent_with (address_row a.convention) (place_in x)) (given_places told xs) c)

-- those of two arguments are apart
pub given_apart : (told : List Told) (xs : List (Option Datum)) → ArePairsApart (given_places told xs) → (j k : ℕ) → j < k → (a b : Told) (one other : AddressRow) (p q : Place)
    → slice_get told j ≡ Some a → slice_get told k ≡ Some b → address_row a.convention ≡ Some one → address_row b.convention ≡ Some other
    → slice_get xs j ≡ Some (Some (AddressOf p)) → slice_get xs k ≡ Some (Some (AddressOf q)) → IsApartFrom (lent_by one p) (lent_by other q)
given_apart [] xs h j k lt a b one other p q ja kb oa ob xp xq = absurd (none-some a ja)
given_apart (c ∷ told) [] h j k lt a b one other p q ja kb oa ob xp xq = absurd (none-some _ xp)
given_apart (c ∷ told) (x ∷ xs) h zero zero lt a b one other p q ja kb oa ob xp xq = absurd (omega (arith, lt))
given_apart (c ∷ told) (x ∷ xs) h zero (suc k) lt a b one other p q ja kb oa ob xp xq =
    pairs_cross (lent_with (address_row c.convention) (place_in x)) (given_places told xs) h (lent_by one p) (lent_by other q)
    (subst (Among (lent_by one p)) (sym (head_given c x one p (ap (λ z. address_row z.convention) (same_Some c a ja) ∙ oa) (same_Some x (Some (AddressOf p)) xp))) (inl refl))
    (given_has told xs k b other q kb ob xq)
given_apart (c ∷ told) (x ∷ xs) h (suc j) zero lt a b one other p q ja kb oa ob xp xq = absurd (omega (arith, lt))
given_apart (c ∷ told) (x ∷ xs) h (suc j) (suc k) lt a b one other p q ja kb oa ob xp xq =
    given_apart told xs (pairs_behind (lent_with (address_row c.convention) (place_in x)) (given_places told xs) h) j k (omega (arith, lt)) a b one other p q ja kb oa ob xp xq
