-- The members of structs and tuples: what is told of shapes one by one, and the value that has given members.
use Rattle.std.proofs.Common.{◌≡◌, ℕ, zero, suc, List, [], ◌∷◌, Option, Some, None, true, map, refl, sym, ap, ◌∙◌}
use Rattle.std.specs.Prelude.{option_and_then, option_map, set, slice_get, unwrap_or}
use Rattle.std.proofs.lemmas.Bool.{and_from, and_parts, false≢true}
use Rattle.std.proofs.lemmas.Option.{none-some, same_Some}
use Rattle.holder_model_values.specs.RunValues.inner.Fits.{are_members, fit_each}
use Rattle.holder_model_values.specs.RunValues.Layers.{Layer}
use Rattle.holder_model_values.specs.RunValues.Shapes.{Shape, Shapes, NoMember, Member, by_layers, each_by_layers, listed, member_shapes}
use Rattle.holder_model_values.specs.RunValues.Shapes.{Integer, Reference, Struct, Tuple, Enum, Stored, Unknown}
use Rattle.holder_model_values.specs.RunValues.Values.{Value, Values, NoValue, More, Group, grouped, members_of, values_of}
use Rattle.holder_model_values.specs.RunValues.Values as value
use Rattle.holder_model_values.specs.ValueParts.inner.Paths.{all_members, member_at, with_member_at}
use Rattle.holder_model_values.specs.ValueParts.inner.Suits.{ClassTest, suits, suits_layer}

pub each_told : {A : Type 0} (tell : Layer A → A) (ss : Shapes) → each_by_layers tell ss ≡ map (by_layers tell) (listed ss)
each_told tell NoMember = refl
each_told tell (Member s ss) = ap (λ xs. by_layers tell s ∷ xs) (each_told tell ss)

pub values_again : (vs : Values) → values_of (value.listed vs) ≡ vs
values_again NoValue = refl
values_again (More v vs) = ap (More v) (values_again vs)

pub listed_again : (vs : List Value) → value.listed (values_of vs) ≡ vs
listed_again [] = refl
listed_again (v ∷ vs) = ap (λ xs. v ∷ xs) (listed_again vs)

pub group_again : (vs : Values) → grouped (value.listed vs) ≡ Group vs
group_again vs = ap Group (values_again vs)

pub all_members_with : (v : Value) (k : ℕ) (x : Value) → all_members (with_member_at v k x) ≡ set (all_members v) k x
all_members_with (Group vs) k x = listed_again (set (value.listed vs) k x)
all_members_with v k x = refl

members_with : (v : Value) (k : ℕ) (x : Value) → members_of (with_member_at v k x) ≡ option_map (λ vs. set vs k x) (members_of v)
members_with (Group vs) k x = ap Some (listed_again (set (value.listed vs) k x))
members_with v k x = refl

set_same : {A : Type 0} (xs : List A) (k : ℕ) (x : A) → slice_get xs k ≡ Some x → set xs k x ≡ xs
set_same [] k x e = refl
set_same (y ∷ xs) zero x e = ap (λ z. z ∷ xs) (sym (same_Some y x e))
set_same (y ∷ xs) (suc k) x e = ap (λ zs. y ∷ zs) (set_same xs k x e)

-- with the member that it has, a value is the same
pub with_same_member : (v : Value) (k : ℕ) (x : Value) → member_at v k ≡ Some x → with_member_at v k x ≡ v
with_same_member (Group vs) k x e = ap grouped (set_same (value.listed vs) k x e) ∙ group_again vs
with_same_member v k x e = refl

-- a value suits a struct or a tuple where its members suit the shapes of members

module _ (test : ClassTest) where
  suits_by_members : (s t : Shape) (k : ℕ) (v : Value) → slice_get (member_shapes s) k ≡ Some t → suits test s v ≡ are_members (map (suits test) (member_shapes s)) (members_of v)
  suits_by_members (Integer width) t k v e = cc
  suits_by_members (Reference class) t k v e = cc
  suits_by_members (Struct name fields) t k v e = ap (λ ts. are_members ts (members_of v)) (each_told (suits_layer test) fields)
  suits_by_members (Tuple elements) t k v e = ap (λ ts. are_members ts (members_of v)) (each_told (suits_layer test) elements)
  suits_by_members (Enum name cases) t k v e = cc
  suits_by_members (Stored storage inner) t k v e = cc
  suits_by_members Unknown t k v e = cc

  -- each value suits the shape in its place
  pub each_suits : (ss : List Shape) (vs : List Value) (k : ℕ) (t : Shape) → fit_each (map (suits test) ss) vs ≡ true → slice_get ss k ≡ Some t
      → (x : Value) × (slice_get vs k ≡ Some x) × (suits test t x ≡ true)
  each_suits [] vs k t h e = absurd (none-some t e)
  each_suits (s ∷ ss) [] k t h e = absurd (false≢true h)
  each_suits (s ∷ ss) (v ∷ vs) zero t h e = (v, refl, ap (λ u. suits test u v) (sym (same_Some s t e)) ∙ (and_parts (suits test s v) (fit_each (map (suits test) ss) vs) h).0)
  each_suits (s ∷ ss) (v ∷ vs) (suc k) t h e = each_suits ss vs k t (and_parts (suits test s v) (fit_each (map (suits test) ss) vs) h).1 e

  among_members : (ss : List Shape) (vs : Option (List Value)) (k : ℕ) (t : Shape) → are_members (map (suits test) ss) vs ≡ true → slice_get ss k ≡ Some t
      → (x : Value) × (option_and_then (λ xs. slice_get xs k) vs ≡ Some x) × (suits test t x ≡ true)
  among_members ss None k t h e = absurd (false≢true h)
  among_members ss (Some vs) k t h e = each_suits ss vs k t h e

  -- a suiting value has each member, which suits too
  pub has_member : (s t : Shape) (k : ℕ) (v : Value) → slice_get (member_shapes s) k ≡ Some t → suits test s v ≡ true
      → (x : Value) × (member_at v k ≡ Some x) × (suits test t x ≡ true)
  has_member s t k v e h = among_members (member_shapes s) (members_of v) k t (sym (suits_by_members s t k v e) ∙ h) e

  each_with : (ss : List Shape) (vs : List Value) (k : ℕ) (t : Shape) (x : Value) → fit_each (map (suits test) ss) vs ≡ true → slice_get ss k ≡ Some t → suits test t x ≡ true
      → fit_each (map (suits test) ss) (set vs k x) ≡ true
  each_with [] vs k t x h e good = absurd (none-some t e)
  each_with (s ∷ ss) [] k t x h e good = absurd (false≢true h)
  each_with (s ∷ ss) (v ∷ vs) zero t x h e good =
      let parts = and_parts (suits test s v) (fit_each (map (suits test) ss) vs) h in
      and_from (suits test s x) (fit_each (map (suits test) ss) vs) (ap (λ u. suits test u x) (same_Some s t e) ∙ good) parts.1
  each_with (s ∷ ss) (v ∷ vs) (suc k) t x h e good =
      let parts = and_parts (suits test s v) (fit_each (map (suits test) ss) vs) h in
      and_from (suits test s v) (fit_each (map (suits test) ss) (set vs k x)) parts.0 (each_with ss vs k t x parts.1 e good)

  members_suit_with : (ss : List Shape) (vs : Option (List Value)) (k : ℕ) (t : Shape) (x : Value) → are_members (map (suits test) ss) vs ≡ true → slice_get ss k ≡ Some t
      → suits test t x ≡ true → are_members (map (suits test) ss) (option_map (λ ws. set ws k x) vs) ≡ true
  members_suit_with ss None k t x h e good = absurd (false≢true h)
  members_suit_with ss (Some vs) k t x h e good = each_with ss vs k t x h e good

  -- with another suiting member it still suits
  pub suits_with_member : (s t : Shape) (k : ℕ) (v x : Value) → slice_get (member_shapes s) k ≡ Some t → suits test s v ≡ true → suits test t x ≡ true
      → suits test s (with_member_at v k x) ≡ true
  suits_with_member s t k v x e h good =
      suits_by_members s t k (with_member_at v k x) e
      ∙ ap (are_members (map (suits test) (member_shapes s))) (members_with v k x)
      ∙ members_suit_with (member_shapes s) (members_of v) k t x (sym (suits_by_members s t k v e) ∙ h) e good

  each_from : (ss : List Shape) (vs : Option (List Value)) → are_members (map (suits test) ss) vs ≡ true → fit_each (map (suits test) ss) (unwrap_or vs []) ≡ true
  each_from ss None h = absurd (false≢true h)
  each_from ss (Some vs) h = h

  pub members_suit : (s t : Shape) (k : ℕ) (v : Value) → slice_get (member_shapes s) k ≡ Some t → suits test s v ≡ true → fit_each (map (suits test) (member_shapes s)) (all_members v) ≡ true
  members_suit s t k v e h = each_from (member_shapes s) (members_of v) (sym (suits_by_members s t k v e) ∙ h)
