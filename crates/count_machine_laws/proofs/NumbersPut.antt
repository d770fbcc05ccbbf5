-- Objects agree where one of them, its numbers or what the heap has of it is put in its place.
use Rattle.std.proofs.Common.{◌≡◌, ◌⊎◌, inl, inr, ℕ, zero, suc, List, [], ◌∷◌, true, Option, Some, None, length, refl, sym, ap, ◌∙◌, subst, arith}
use Rattle.std.specs.Prelude.{set, slice_get, unwrap_or}
use Rattle.std.proofs.lemmas.Bool.{cases_eq}
use Rattle.std.proofs.lemmas.List.{length-set}
use Rattle.std.proofs.lemmas.Option.{none-some, same_Some}
use Rattle.count_heap.specs.HeapModel.HeapViews.{HeapObject}
use Rattle.count_machine_model.specs.holder_model.Outcomes.{Numbers}
use Rattle.count_machine_model.specs.holder_model.LoweredRun.Stored.{no_numbers}
use Rattle.holder_model_values.specs.RunValues.Memory.{Object}
use Rattle.sil_ast.specs.declared.module.Module.{Module}
use Rattle.sil_types_declarations.specs.TypeDefinitions.Declarations.{declarations_of, is_class}
use Rattle.holder_model_values.specs.ValueParts.inner.Suits.{ClassTest}
use Rattle.count_machine_laws.proofs.Objects.{ObjectAgrees, ObjectsAgree}

-- lists with one element put in place

pub get_put_other : {A : Type 0} (xs : List A) (k j : ℕ) (y : A) → (k ≡ j → ⊥) → slice_get (set xs k y) j ≡ slice_get xs j
get_put_other [] k j y ne = refl
get_put_other (x ∷ xs) zero zero y ne = absurd (ne refl)
get_put_other (x ∷ xs) zero (suc j) y ne = refl
get_put_other (x ∷ xs) (suc k) zero y ne = refl
get_put_other (x ∷ xs) (suc k) (suc j) y ne = get_put_other xs k j y (λ e. ne (ap suc e))

pub get_put_same : {A : Type 0} (xs : List A) (k : ℕ) (y z : A) → slice_get (set xs k y) k ≡ Some z → y ≡ z
get_put_same [] k y z e = absurd (none-some z e)
get_put_same (x ∷ xs) zero y z e = same_Some y z e
get_put_same (x ∷ xs) (suc k) y z e = get_put_same xs k y z e

-- lists of the same length have elements at the same places

also_there : {A B : Type 0} (xs : List A) (ys : List B) (k : ℕ) (x : A) → length ys ≡ length xs → slice_get xs k ≡ Some x → (y : B) × (slice_get ys k ≡ Some y)
also_there [] ys k x e h = absurd (none-some x h)
also_there (z ∷ xs) [] k x e h = absurd (omega arith)
also_there (z ∷ xs) (y ∷ ys) zero x e h = (y, refl)
also_there (z ∷ xs) (y ∷ ys) (suc k) x e h = also_there xs ys k x (omega arith) h

also_missing : {A B : Type 0} (xs : List A) (ys : List B) (k : ℕ) → length ys ≡ length xs → slice_get xs k ≡ None → slice_get ys k ≡ None
also_missing xs [] k e h = refl
also_missing [] (y ∷ ys) k e h = absurd (omega arith)
also_missing (z ∷ xs) (y ∷ ys) zero e h = absurd (none-some z (sym h))
also_missing (z ∷ xs) (y ∷ ys) (suc k) e h = also_missing xs ys k (omega arith) h

-- what holds of each element, and of the new one, holds of each behind it
get_put_each : {A : Type 0} (P : A → Type 0) (xs : List A) (k : ℕ) (y : A) → ((j : ℕ) (x : A) → slice_get xs j ≡ Some x → P x) → P y
    → (j : ℕ) (x : A) → slice_get (set xs k y) j ≡ Some x → P x
get_put_each P xs k y each here j x e = at (cases_eq k j)
  where
    at : (k ≡ j) ⊎ (k ≡ j → ⊥) → P x
    at (inl same) = subst P (get_put_same xs k y x (subst (λ n. slice_get (set xs k y) n ≡ Some x) (sym same) e)) here
    at (inr other) = each j x (sym (get_put_other xs k j y other) ∙ e)

-- objects

module _ (m : Module) (test : ClassTest) (xs : List Object) (ns : List Numbers) (hs : List (Option HeapObject)) (a : ObjectsAgree m test xs ns hs) (k : ℕ) where
  -- its numbers, and what the heap has of it
  pub counts_put : (n : Numbers) (h : Option HeapObject) → ((x : Object) → slice_get xs k ≡ Some x → ObjectAgrees m test x n h) → ObjectsAgree m test xs (set ns k n) (set hs k h)
  counts_put n h here = record {
    numbered = length-set ns k n ∙ a.numbered;
    kept = length-set hs k h ∙ a.kept;
    classes = a.classes;
    each = λ j x n' h' ex en eh. at j x n' h' ex en eh (cases_eq k j);
  }
    where
      at : (j : ℕ) (x : Object) (n' : Numbers) (h' : Option HeapObject) → slice_get xs j ≡ Some x → slice_get (set ns k n) j ≡ Some n' → slice_get (set hs k h) j ≡ Some h'
          → (k ≡ j) ⊎ (k ≡ j → ⊥) → ObjectAgrees m test x n' h'
      at j x n' h' ex en eh (inl same) =
          let e = sym same in
          let there : slice_get xs k ≡ Some x = subst (λ i. slice_get xs i ≡ Some x) e ex in
          let as_n : n ≡ n' = get_put_same ns k n n' (subst (λ i. slice_get (set ns k n) i ≡ Some n') e en) in
          let as_h : h ≡ h' = get_put_same hs k h h' (subst (λ i. slice_get (set hs k h) i ≡ Some h') e eh) in
          subst (λ z. ObjectAgrees m test x z h') as_n (subst (λ z. ObjectAgrees m test x n z) as_h (here x there))
      at j x n' h' ex en eh (inr other) = a.each j x n' h' ex (sym (get_put_other ns k j n other) ∙ en) (sym (get_put_other hs k j h other) ∙ eh)

  -- the object, and what the heap has of it
  pub object_put : (x : Object) (h : Option HeapObject) → is_class (declarations_of m) x.class ≡ true
      → ((n : Numbers) → slice_get ns k ≡ Some n → ObjectAgrees m test x n h) → ObjectsAgree m test (set xs k x) ns (set hs k h)
  object_put x h class here = record {
    numbered = a.numbered ∙ sym (length-set xs k x);
    kept = length-set hs k h ∙ a.kept ∙ sym (length-set xs k x);
    classes = get_put_each (λ y. is_class (declarations_of m) y.class ≡ true) xs k x a.classes class;
    each = λ j x' n h' ex en eh. at j x' n h' ex en eh (cases_eq k j);
  }
    where
      at : (j : ℕ) (x' : Object) (n : Numbers) (h' : Option HeapObject) → slice_get (set xs k x) j ≡ Some x' → slice_get ns j ≡ Some n → slice_get (set hs k h) j ≡ Some h'
          → (k ≡ j) ⊎ (k ≡ j → ⊥) → ObjectAgrees m test x' n h'
      at j x' n h' ex en eh (inl same) =
          let e = sym same in
          let there : slice_get ns k ≡ Some n = subst (λ i. slice_get ns i ≡ Some n) e en in
          let as_x : x ≡ x' = get_put_same xs k x x' (subst (λ i. slice_get (set xs k x) i ≡ Some x') e ex) in
          let as_h : h ≡ h' = get_put_same hs k h h' (subst (λ i. slice_get (set hs k h) i ≡ Some h') e eh) in
          subst (λ z. ObjectAgrees m test z n h') as_x (subst (λ z. ObjectAgrees m test x n z) as_h (here n there))
      at j x' n h' ex en eh (inr other) = a.each j x' n h' (sym (get_put_other xs k j x other) ∙ ex) en (sym (get_put_other hs k j h other) ∙ eh)

  -- an object is there with its numbers and what the heap has of it, or none of the three is
  pub data Found : Type 0 where
    missing : slice_get xs k ≡ None → slice_get ns k ≡ None → slice_get hs k ≡ None → Found
    there : (x : Object) (n : Numbers) (h : Option HeapObject) → slice_get xs k ≡ Some x → slice_get ns k ≡ Some n → slice_get hs k ≡ Some h
        → ObjectAgrees m test x n h → Found

  pub found : Found
  found = at (slice_get xs k) refl
    where
      at : (x : Option Object) → slice_get xs k ≡ x → Found
      at None ex = missing ex (also_missing xs ns k a.numbered ex) (also_missing xs hs k a.kept ex)
      at (Some x) ex =
          let n = also_there xs ns k x a.numbered ex in
          let h = also_there xs hs k x a.kept ex in
          there x n.0 h.0 ex n.1 h.1 (a.each k x n.0 h.0 ex n.1 h.1)

  -- both are changed alike
  pub counts_changed : (f : Numbers → Numbers) (g : Option HeapObject → Option HeapObject)
      → ((x : Object) (n : Numbers) (h : Option HeapObject) → slice_get xs k ≡ Some x → ObjectAgrees m test x n h → ObjectAgrees m test x (f n) (g h))
      → ObjectsAgree m test xs (set ns k (f (unwrap_or (slice_get ns k) no_numbers))) (set hs k (g (unwrap_or (slice_get hs k) None)))
  counts_changed f g keeps = counts_put (f (unwrap_or (slice_get ns k) no_numbers)) (g (unwrap_or (slice_get hs k) None)) (λ x ex. at x ex found)
    where
      at : (x : Object) → slice_get xs k ≡ Some x → Found
          → ObjectAgrees m test x (f (unwrap_or (slice_get ns k) no_numbers)) (g (unwrap_or (slice_get hs k) None))
      at x ex (missing none en eh) = absurd (none-some x (sym none ∙ ex))
      at x ex (there y n h ey en eh agree) = rw (en, eh) (keeps x n h ex (a.each k x n h ex en eh))
