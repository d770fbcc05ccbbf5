-- What weak and unowned storage keeps, and its one leaf.
use Rattle.std.proofs.Common.{◌≡◌, ℕ, Bool, true, false, ◌&&◌, ◌==◌, cond, refl, sym, subst}
use Rattle.std.proofs.lemmas.Bool.{and_parts, eqb-true, false≢true}
use Rattle.sil_ast.specs.declared.decl.Storage.{Storage}
use Rattle.sil_ast.specs.declared.decl.Storage.TheVariants as storage
use Rattle.holder_model_values.specs.RunValues.inner.Fits.{is_name}
use Rattle.holder_model_values.specs.RunValues.Shapes.{Shape, Stored}
use Rattle.holder_model_values.specs.RunValues.Values.{Value, Int, Object, Group, Case, Full}
use Rattle.holder_model_values.specs.ValueParts.inner.StoredNames.{IsUnownedName, IsWeakName}
use Rattle.holder_model_values.specs.ValueParts.inner.Suits.{ClassTest, suits}

empty_case : (a b : Bool) → cond a true (b && false) ≡ true → a ≡ true
empty_case true b h = refl
empty_case false true h = absurd (false≢true h)
empty_case false false h = absurd (false≢true h)

full_case : (a b c : Bool) → cond a false (b && c) ≡ true → (b ≡ true) × (c ≡ true)
full_case true b c h = absurd (false≢true h)
full_case false b c h = and_parts b c h

weak_payload : (k : ℕ) (x : Value) → is_name storage.Weak (Full k x) ≡ true → IsWeakName (Full k x)
weak_payload k (Object o) h =
    let first : k ≡ 1 = eqb-true k 1 (full_case (k == 0) (k == 1) true h).0 in
    subst (λ n. IsWeakName (Full n (Object o))) (sym first) (IsWeakName.names o)
weak_payload k (Int n) h = absurd (false≢true (full_case (k == 0) (k == 1) false h).1)
weak_payload k (Group members) h = absurd (false≢true (full_case (k == 0) (k == 1) false h).1)
weak_payload k (Case index) h = absurd (false≢true (full_case (k == 0) (k == 1) false h).1)
weak_payload k (Full index payload) h = absurd (false≢true (full_case (k == 0) (k == 1) false h).1)

pub is_weak_name : (v : Value) → is_name storage.Weak v ≡ true → IsWeakName v
is_weak_name (Case k) h = subst (λ n. IsWeakName (Case n)) (sym (eqb-true k 0 (empty_case (k == 0) (k == 1) h))) IsWeakName.none
is_weak_name (Full k x) h = weak_payload k x h
is_weak_name v h = absurd (false≢true h)

pub is_unowned_name : (v : Value) → is_name storage.Unowned v ≡ true → IsUnownedName v
is_unowned_name (Object o) h = IsUnownedName.names o
is_unowned_name v h = absurd (false≢true h)

-- what suits storage is a name in it, and suits what is stored

module _ (test : ClassTest) (s : Storage) (inner : Shape) (v : Value) where
  pub stored_name : suits test (Stored s inner) v ≡ true → is_name s v ≡ true
  stored_name h = (and_parts (is_name s v) (suits test inner v) h).0

  pub stored_inner : suits test (Stored s inner) v ≡ true → suits test inner v ≡ true
  stored_inner h = (and_parts (is_name s v) (suits test inner v) h).1
