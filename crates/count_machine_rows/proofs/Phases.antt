-- Names and fields may change: the phases of objects don't.
use Rattle.std.proofs.Common.{◌≡◌, ℕ, zero, suc, ◌==◌, Bool, true, false, not, ◌&&◌, cond, List, [], ◌∷◌, Option, Some, None, set, refl, ◌∙◌}
use Rattle.std.specs.Prelude.{option_and_then, option_map, slice_get, unwrap_or}
use Rattle.count_machine_model.specs.count_heap.HeapModel.HeapCalls.{changed, changed_or_freed, is_left, less_unowned, less_weak, unless_freed, unowned_unnamed, weakly_unnamed, with_field_of}
use Rattle.count_machine_model.specs.count_heap.HeapModel.HeapViews.{HeapObject, HeapView, phase_in, phase_told, unowned_in, weak_in}
use Rattle.holder_model_values.specs.RunValues.Memory.{is_dead_phase}
use Rattle.holder_model_values.specs.declared.run_values.leaf.Leaf.{Leaf}
use Rattle.holder_model_values.specs.declared.run_values.phase.Phase.{Phase}
use Rattle.holder_model_values.specs.declared.run_values.phase.Phase.TheVariants as phase
use Rattle.sil_ast.specs.declared.decl.Storage.{Storage}
use Rattle.sil_ast.specs.declared.decl.Storage.TheVariants as storage
use Rattle.sil_ast.specs.declared.place.ObjectId.{ObjectId}
use Rattle.count_machine_model.specs.MachineSteps.Held.{without_field}
use Rattle.count_machine_model.specs.MachineSteps.Naming.{all_unnamed, leaf_unnamed, less_named}
use Rattle.count_machine_model.specs.MachineSteps.Operands.{object_in_leaf}

-- the phase at a place of a list, where a place is set to what a function makes of what it had
set-phase : (xs : List (Option HeapObject)) (i j : ℕ) (f : Option HeapObject → Option HeapObject) →
    ((x : Option HeapObject) → phase_told (f x) ≡ phase_told x) →
    phase_told (unwrap_or (slice_get (set xs j (f (unwrap_or (slice_get xs j) None))) i) None) ≡ phase_told (unwrap_or (slice_get xs i) None)
set-phase [] i j f h = refl
set-phase (x ∷ xs) zero zero f h = h x
set-phase (x ∷ xs) zero (suc j) f h = refl
set-phase (x ∷ xs) (suc i) zero f h = refl
set-phase (x ∷ xs) (suc i) (suc j) f h = set-phase xs i j f h

-- a change of an object that keeps its phase

mapped : (f : HeapObject → HeapObject) → ((x : HeapObject) → (f x).phase ≡ x.phase) → (x : Option HeapObject) → phase_told (option_map f x) ≡ phase_told x
mapped f h None = refl
mapped f h (Some x) = h x

freed_by : (p : Phase) (u w : Bool) (x : HeapObject) → x.phase ≡ p → (left : Bool) → not (is_dead_phase p && u && w) ≡ left → phase_told (cond left (Some x) None) ≡ p
freed_by p u w x e true f = e
freed_by phase.Live u w x e false f = cc
freed_by phase.Deiniting u w x e false f = cc
freed_by phase.Dead u w x e false f = refl

unless_freed-phase : (x : HeapObject) → phase_told (unless_freed x) ≡ x.phase
unless_freed-phase x = freed_by x.phase (x.unowned == 0) (x.weak == 0) x refl (is_left x) refl

freed : (f : HeapObject → HeapObject) → ((x : HeapObject) → (f x).phase ≡ x.phase) → (x : Option HeapObject) →
    phase_told (option_and_then (λ y. unless_freed (f y)) x) ≡ phase_told x
freed f h None = refl
freed f h (Some x) = unless_freed-phase (f x) ∙ h x

module _ (o : ObjectId) where
  changed-phase : (f : HeapObject → HeapObject) → ((x : HeapObject) → (f x).phase ≡ x.phase) → (h : HeapView) (x : ObjectId) →
      phase_in (changed f h x) o ≡ phase_in h o
  changed-phase f k h x = set-phase h.objects o.0 x.0 (option_map f) (mapped f k)

  changed_or_freed-phase : (f : HeapObject → HeapObject) → ((x : HeapObject) → (f x).phase ≡ x.phase) → (h : HeapView) (x : ObjectId) →
      phase_in (changed_or_freed f h x) o ≡ phase_in h o
  changed_or_freed-phase f k h x = set-phase h.objects o.0 x.0 (option_and_then (λ y. unless_freed (f y))) (freed f k)

  pub without_field-phase : (h : HeapView) (x : ObjectId) (k : ℕ) → phase_in (without_field h x k) o ≡ phase_in h o
  without_field-phase h x k = changed-phase (with_field_of k None) (λ _. refl) h x

  unless-zero : (b : Bool) (h k : HeapView) → phase_in k o ≡ phase_in h o → phase_in (cond b h k) o ≡ phase_in h o
  unless-zero true h k e = refl
  unless-zero false h k e = e

  less_named-phase : (w : Storage) (h : HeapView) (x : ObjectId) → phase_in (less_named w h x) o ≡ phase_in h o
  less_named-phase storage.Strong h x = refl
  less_named-phase storage.Weak h x = unless-zero (weak_in h x == 0) h (weakly_unnamed h x) (changed_or_freed-phase less_weak (λ _. refl) h x)
  less_named-phase storage.Unowned h x = unless-zero (unowned_in h x == 0) h (unowned_unnamed h x) (changed_or_freed-phase less_unowned (λ _. refl) h x)

  all_unnamed-phase : (w : Storage) (os : List ObjectId) (h : HeapView) → phase_in (all_unnamed w os h) o ≡ phase_in h o
  all_unnamed-phase w [] h = refl
  all_unnamed-phase w (x ∷ xs) h = all_unnamed-phase w xs (less_named w h x) ∙ less_named-phase w h x

  pub leaf_unnamed-phase : (w : Storage) (l : Leaf) (h : HeapView) → phase_in (leaf_unnamed w l h) o ≡ phase_in h o
  leaf_unnamed-phase w l h = all_unnamed-phase w (object_in_leaf l) h
