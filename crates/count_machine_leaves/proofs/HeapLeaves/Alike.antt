-- An object that isn't dead stays as it was where places name others, or it, less.
use Rattle.std.proofs.Common.{◌≡◌, ℕ, zero, suc, ◌==◌, true, false, not, ◌&&◌, cond, List, [], ◌∷◌, Option, Some, None, set, refl, sym, ap, subst, ◌∙◌}
use Rattle.std.specs.Prelude.{option_and_then, slice_get, unwrap_or}
use Rattle.count_heap.specs.HeapModel.HeapCalls.{is_left, less_unowned, less_weak, unless_freed, unowned_unnamed, weakly_unnamed}
use Rattle.count_heap.specs.HeapModel.HeapViews.{HeapObject, HeapView, fields_told, is_dead_in, object_in, phase_told, strong_told, unowned_in, weak_in}
use Rattle.holder_model_values.specs.RunValues.Memory.{is_dead_phase}
use Rattle.holder_model_values.specs.declared.run_values.leaf.Leaf.{Leaf}
use Rattle.sil_ast.specs.declared.decl.Storage.{Storage}
use Rattle.sil_ast.specs.declared.decl.Storage.TheVariants as storage
use Rattle.sil_ast.specs.declared.place.ObjectId.{ObjectId}
use Rattle.count_machine_model.specs.MachineSteps.Operands.{object_in_leaf}
use Rattle.count_machine_model.specs.MachineSteps.Naming.{all_unnamed, leaf_unnamed, less_named}

-- what doesn't change: the object isn't dead, and has the same phase, number of strong references and fields
pub record Alike (x y : Option HeapObject) : Type 0 where
  pub alive : is_dead_phase (phase_told y) ≡ false
  pub phase : phase_told y ≡ phase_told x
  pub strong : strong_told y ≡ strong_told x
  pub fields : fields_told y ≡ fields_told x

pub alike-self : (x : Option HeapObject) → is_dead_phase (phase_told x) ≡ false → Alike x x
alike-self x alive = record { alive = alive; phase = refl; strong = refl; fields = refl }

pub alike-along : (x y z : Option HeapObject) → Alike x y → Alike y z → Alike x z
alike-along x y z a b = record { alive = b.alive; phase = b.phase ∙ a.phase; strong = b.strong ∙ a.strong; fields = b.fields ∙ a.fields }

-- the place i of a list, where the place j is set to what a function makes of what it had
set-alike : (xs : List (Option HeapObject)) (i j : ℕ) (f : Option HeapObject → Option HeapObject) →
    ((x : Option HeapObject) → is_dead_phase (phase_told x) ≡ false → Alike x (f x)) → is_dead_phase (phase_told (unwrap_or (slice_get xs i) None)) ≡ false →
    Alike (unwrap_or (slice_get xs i) None) (unwrap_or (slice_get (set xs j (f (unwrap_or (slice_get xs j) None))) i) None)
set-alike [] i j f h alive = cc
set-alike (x ∷ xs) zero zero f h alive = h x alive
set-alike (x ∷ xs) zero (suc j) f h alive = alike-self x alive
set-alike (x ∷ xs) (suc i) zero f h alive = alike-self (unwrap_or (slice_get xs i) None) alive
set-alike (x ∷ xs) (suc i) (suc j) f h alive = set-alike xs i j f h alive

-- one place less names an object

left : (x : HeapObject) → is_dead_phase x.phase ≡ false → is_left x ≡ true
left x alive = ap (λ b. not (b && x.unowned == 0 && x.weak == 0)) alive

kept : (x : HeapObject) → is_dead_phase x.phase ≡ false → unless_freed x ≡ Some x
kept x alive = ap (λ b. cond b (Some x) None) (left x alive)

weak_less : (x : Option HeapObject) → is_dead_phase (phase_told x) ≡ false → Alike x (option_and_then (λ y. unless_freed (less_weak y)) x)
weak_less None alive = cc
weak_less (Some x) alive = subst (Alike (Some x)) (sym (kept (less_weak x) alive)) (record { alive = alive; phase = refl; strong = refl; fields = refl })

unowned_less : (x : Option HeapObject) → is_dead_phase (phase_told x) ≡ false → Alike x (option_and_then (λ y. unless_freed (less_unowned y)) x)
unowned_less None alive = cc
unowned_less (Some x) alive = subst (Alike (Some x)) (sym (kept (less_unowned x) alive)) (record { alive = alive; phase = refl; strong = refl; fields = refl })

module _ (o : ObjectId) where
  abbrev AlikeIn : HeapView → HeapView → Type 0
  AlikeIn h k = Alike (object_in h o) (object_in k o)

  unless-zero : (n : ℕ) (h k : HeapView) → is_dead_in h o ≡ false → AlikeIn h k → AlikeIn h (cond (n == 0) h k)
  unless-zero n h k alive a = elim (n == 0) as (λ b. AlikeIn h (cond b h k)) [ true ↦ alike-self (object_in h o) alive | false ↦ a ]

  less_named-alike : (w : Storage) (h : HeapView) (x : ObjectId) → is_dead_in h o ≡ false → AlikeIn h (less_named w h x)
  less_named-alike storage.Strong h x alive = alike-self (object_in h o) alive
  less_named-alike storage.Weak h x alive =
      unless-zero (weak_in h x) h (weakly_unnamed h x) alive (set-alike h.objects o.0 x.0 (λ y. option_and_then (λ z. unless_freed (less_weak z)) y) weak_less alive)
  less_named-alike storage.Unowned h x alive =
      unless-zero (unowned_in h x) h (unowned_unnamed h x) alive (set-alike h.objects o.0 x.0 (λ y. option_and_then (λ z. unless_freed (less_unowned z)) y) unowned_less alive)

  pub all_unnamed-alike : (w : Storage) (os : List ObjectId) (h : HeapView) → is_dead_in h o ≡ false → AlikeIn h (all_unnamed w os h)
  all_unnamed-alike w [] h alive = alike-self (object_in h o) alive
  all_unnamed-alike w (x ∷ xs) h alive =
      let step = less_named-alike w h x alive in
      alike-along (object_in h o) (object_in (less_named w h x) o) (object_in (all_unnamed w xs (less_named w h x)) o) step (all_unnamed-alike w xs (less_named w h x) step.alive)

  pub leaf_unnamed-alike : (w : Storage) (l : Leaf) (h : HeapView) → is_dead_in h o ≡ false → AlikeIn h (leaf_unnamed w l h)
  leaf_unnamed-alike w l h alive = all_unnamed-alike w (object_in_leaf l) h alive
