-- Fields of an object that dies, one after another, and their leaves.
use Rattle.std.proofs.Common.{◌≡◌, false, ℕ, zero, suc, ◌+◌, ◌<◌, ◌≤◌, List, [], ◌∷◌, ◌++◌, Option, Some, None, length, get_or, drop, refl, sym, ap, ◌∙◌, arith}
use Rattle.std.specs.Prelude.{option_and_then, option_map, slice_get, unwrap_or}
use Rattle.std.proofs.lemmas.List.{at_drop_more, drop_all}
use Rattle.std.proofs.lemmas.Option.{slice_get_within}
use Rattle.std.proofs.Math.Nat.{suc-add}
use Rattle.count_heap.specs.HeapModel.HeapViews.{HeapView, field_in, is_dead_in, object_in}
use Rattle.holder_model_values.specs.declared.run_values.leaf.Leaf.{Leaf}
use Rattle.sil_ast.specs.declared.decl.Storage.{Storage}
use Rattle.sil_ast.specs.declared.place.ObjectId.{ObjectId}
use Rattle.count_machine_model.specs.MachineSteps.Naming.{all_unnamed, leaf_unnamed, less_named}
use Rattle.count_machine_model.specs.MachineSteps.Operands.{object_in_leaf, objects_among}
use Rattle.count_machine_model.specs.MachineSteps.Steps.{field_unnamed, fields_unnamed, strong_in_field, strong_in_fields}
use Rattle.count_machine_leaves.proofs.HeapLeaves.Alike.{Alike, alike-self, all_unnamed-alike}

-- leaves of a field

abbrev pub leaves_of_field : Option (List Leaf) → List Leaf
leaves_of_field None = []
leaves_of_field (Some ls) = ls

all_unnamed-append : (w : Storage) (xs ys : List ObjectId) (h : HeapView) → all_unnamed w (xs ++ ys) h ≡ all_unnamed w ys (all_unnamed w xs h)
all_unnamed-append w [] ys h = refl
all_unnamed-append w (x ∷ xs) ys h = all_unnamed-append w xs ys (less_named w h x)

drop-at : {A : Type 0} (xs : List A) (i : ℕ) (x : A) → slice_get xs i ≡ Some x → drop i xs ≡ x ∷ drop (i + 1) xs
drop-at [] i x e = cc
drop-at (y ∷ ys) zero x e = ap (λ z. z ∷ ys) (let same : y ≡ x = cc in same)
drop-at (y ∷ ys) (suc i) x e = rw (suc-add i 1) (drop-at ys i x e)

past : {A : Type 0} (xs : List A) (i : ℕ) → slice_get xs i ≡ None → length xs ≤ i
past [] i e = omega arith
past (x ∷ xs) zero e = cc
past (x ∷ xs) (suc i) e = omega (arith, past xs i e)

module _ (w : Storage) (at : ℕ) where
  pub leaf-within : (field : Option (List Leaf)) (l : Leaf) → Some l ≡ option_and_then (λ ls. slice_get ls at) field → at < length (leaves_of_field field)
  leaf-within None l e = cc
  leaf-within (Some ls) l e = slice_get_within ls at l (sym e)

  pub leaf-more : (field : Option (List Leaf)) (l : Leaf) (h k : HeapView) → Some l ≡ option_and_then (λ ls. slice_get ls at) field → k ≡ leaf_unnamed w l h →
      field_unnamed w (option_map (drop (at + 1)) field) k ≡ field_unnamed w (option_map (drop at) field) h
  leaf-more None l h k e is = cc
  leaf-more (Some ls) l h k e is =
      ap (all_unnamed w (objects_among (drop (at + 1) ls))) is
      ∙ sym (all_unnamed-append w (object_in_leaf l) (objects_among (drop (at + 1) ls)) h)
      ∙ sym (ap (λ xs. all_unnamed w (objects_among xs) h) (drop-at ls at l (sym e)))

  pub leaves-done : (field : Option (List Leaf)) (h : HeapView) → None ≡ option_and_then (λ ls. slice_get ls at) field → field_unnamed w (option_map (drop at) field) h ≡ h
  leaves-done None h e = refl
  leaves-done (Some ls) h e = ap (λ xs. all_unnamed w (objects_among xs) h) (drop_all at ls (past ls at (sym e)))

-- fields

option-at : {A : Type 0} (xs : List (Option A)) (i : ℕ) → i < length xs → drop i xs ≡ unwrap_or (slice_get xs i) None ∷ drop (i + 1) xs
option-at [] i h = absurd (omega arith)
option-at (x ∷ xs) zero h = refl
option-at (x ∷ xs) (suc i) h = rw (suc-add i 1) (option-at xs i (omega arith))

module _ (ws : List Storage) (xs : List (Option (List Leaf))) (i : ℕ) (d : Storage) (in_ws : i < length ws) (in_xs : i < length xs) where
  pub fields-more : (h : HeapView) →
      fields_unnamed (drop (i + 1) ws) (drop (i + 1) xs) (field_unnamed (get_or ws i d) (unwrap_or (slice_get xs i) None) h) ≡ fields_unnamed (drop i ws) (drop i xs) h
  fields-more h = sym (ap (λ vs. fields_unnamed vs (drop i xs) h) (at_drop_more (λ vs. vs) ws i d in_ws) ∙ ap (λ ys. fields_unnamed (get_or ws i d ∷ drop (i + 1) ws) ys h) (option-at xs i in_xs))

  pub strong-more : strong_in_fields (drop i ws) (drop i xs) ≡ strong_in_field (get_or ws i d) (unwrap_or (slice_get xs i) None) ++ strong_in_fields (drop (i + 1) ws) (drop (i + 1) xs)
  strong-more = ap (λ vs. strong_in_fields vs (drop i xs)) (at_drop_more (λ vs. vs) ws i d in_ws) ∙ ap (strong_in_fields (get_or ws i d ∷ drop (i + 1) ws)) (option-at xs i in_xs)

no_fields-strong : (ws : List Storage) → strong_in_fields ws [] ≡ []
no_fields-strong [] = refl
no_fields-strong (w ∷ ws) = refl

no_fields-unnamed : (ws : List Storage) (h : HeapView) → fields_unnamed ws [] h ≡ h
no_fields-unnamed [] h = refl
no_fields-unnamed (w ∷ ws) h = refl

module _ (ws : List Storage) (xs : List (Option (List Leaf))) (i : ℕ) (past_xs : length xs ≤ i) where
  pub fields-done : (h : HeapView) → fields_unnamed (drop i ws) (drop i xs) h ≡ h
  fields-done h = ap (λ ys. fields_unnamed (drop i ws) ys h) (drop_all i xs past_xs) ∙ no_fields-unnamed (drop i ws) h

  pub strong-done : strong_in_fields (drop i ws) (drop i xs) ≡ []
  strong-done = ap (strong_in_fields (drop i ws)) (drop_all i xs past_xs) ∙ no_fields-strong (drop i ws)

-- what an object that stayed as it was has in a field
pub field-alike : (h k : HeapView) (o : ObjectId) (index : ℕ) → Alike (object_in h o) (object_in k o) → field_in k o index ≡ field_in h o index
field-alike h k o index a = ap (λ fs. unwrap_or (slice_get fs index) None) a.fields

pub field_unnamed-alike : (o : ObjectId) (w : Storage) (field : Option (List Leaf)) (h : HeapView) → is_dead_in h o ≡ false → Alike (object_in h o) (object_in (field_unnamed w field h) o)
field_unnamed-alike o w None h alive = alike-self (object_in h o) alive
field_unnamed-alike o w (Some ls) h alive = all_unnamed-alike o w (objects_among ls) h alive
