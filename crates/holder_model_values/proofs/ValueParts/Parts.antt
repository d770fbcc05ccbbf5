-- The parts of a value that suits a shape: there is one at each path, it suits, and another that suits may take its place.
use Rattle.std.proofs.Common.{◌≡◌, ℕ, List, [], ◌∷◌, Option, Some, None, true, refl, sym, ap, ◌∙◌}
use Rattle.std.specs.Prelude.{option_and_then, unwrap_or}
use Rattle.std.proofs.lemmas.Option.{none-some, same_Some}
use Rattle.holder_model_values.specs.RunValues.Shapes.{Shape}
use Rattle.holder_model_values.specs.RunValues.Values.{Value}
use Rattle.holder_model_values.specs.ValueParts.inner.Paths.{IsPart, here, inside, member_at, part_at, with_member_at, with_part_at}
use Rattle.holder_model_values.specs.ValueParts.inner.Suits.{ClassTest, suits}
use Rattle.holder_model_values.proofs.ValueParts.Members.{has_member, suits_with_member, with_same_member}

part_inside : (v x : Value) (k : ℕ) (path : List ℕ) → member_at v k ≡ Some x → part_at v (k ∷ path) ≡ part_at x path
part_inside v x k path e = ap (option_and_then (λ y. part_at y path)) e

pub with_inside : (v x : Value) (k : ℕ) (path : List ℕ) (w : Value) → member_at v k ≡ Some x → with_part_at v (k ∷ path) w ≡ with_member_at v k (with_part_at x path w)
with_inside v x k path w e = ap (λ o. with_member_at v k (with_part_at (unwrap_or o v) path w)) e

with_same_inside : (v : Value) (k : ℕ) (path : List ℕ) (w : Value) (o : Option Value) → member_at v k ≡ o → option_and_then (λ x. part_at x path) o ≡ Some w
    → ((x : Value) → part_at x path ≡ Some w → with_part_at x path w ≡ x) → with_part_at v (k ∷ path) w ≡ v
with_same_inside v k path w None e h within = absurd (none-some w h)
with_same_inside v k path w (Some x) e h within = with_inside v x k path w e ∙ ap (with_member_at v k) (within x h) ∙ with_same_member v k x e

-- with the part that it has, a value is the same
pub with_same_part : (path : List ℕ) (v w : Value) → part_at v path ≡ Some w → with_part_at v path w ≡ v
with_same_part [] v w h = sym (same_Some v w h)
with_same_part (k ∷ path) v w h = with_same_inside v k path w (member_at v k) refl h (λ x. with_same_part path x w)

module _ (test : ClassTest) where
  pub has_part : {s u : Shape} {path : List ℕ} → IsPart s path u → (v : Value) → suits test s v ≡ true → (w : Value) × (part_at v path ≡ Some w) × (suits test u w ≡ true)
  has_part here v h = (v, refl, h)
  has_part (inside {s = s} {t = t} {k = k} {path = path} e part) v h =
      let member = has_member test s t k v e h in
      let deeper = has_part part member.0 member.2 in
      (deeper.0, part_inside v member.0 k path member.1 ∙ deeper.1, deeper.2)

  pub part_suits : {s u : Shape} {path : List ℕ} → IsPart s path u → (v w : Value) → suits test s v ≡ true → part_at v path ≡ Some w → suits test u w ≡ true
  part_suits {u = u} part v w h is =
      let found = has_part part v h in
      ap (suits test u) (same_Some w found.0 (sym is ∙ found.1)) ∙ found.2

  pub with_part_suits : {s u : Shape} {path : List ℕ} → IsPart s path u → (v w : Value) → suits test s v ≡ true → suits test u w ≡ true → suits test s (with_part_at v path w) ≡ true
  with_part_suits here v w h good = good
  with_part_suits (inside {s = s} {t = t} {k = k} {path = path} e part) v w h good =
      let member = has_member test s t k v e h in
      ap (suits test s) (with_inside v member.0 k path w member.1)
      ∙ suits_with_member test s t k v (with_part_at member.0 path w) e h (with_part_suits part member.0 w member.2 good)
