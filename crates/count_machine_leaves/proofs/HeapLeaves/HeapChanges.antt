-- What changes of one object leave as it was.
use Rattle.std.proofs.Common.{◌≡◌, ℕ, zero, suc, ◌<◌, ◌≤◌, List, [], ◌∷◌, Option, Some, None, length, set, refl, sym, ap, ◌∙◌}
use Rattle.std.specs.Prelude.{option_map, slice_get, unwrap_or}
use Rattle.std.proofs.lemmas.List.{set_past}
use Rattle.count_heap.specs.HeapModel.HeapCalls.{with_field_of, with_object_in}
use Rattle.count_heap.specs.HeapModel.HeapViews.{HeapObject, HeapView, fields_told, object_in}
use Rattle.holder_model_values.specs.declared.run_values.leaf.Leaf.{Leaf}
use Rattle.sil_ast.specs.declared.place.ObjectId.{ObjectId}
use Rattle.count_machine_model.specs.MachineSteps.Held.{without_field}

set_there : {A : Type 0} (xs : List (Option A)) (i : ℕ) → set xs i (unwrap_or (slice_get xs i) None) ≡ xs
set_there [] i = refl
set_there (x ∷ xs) zero = refl
set_there (x ∷ xs) (suc i) = ap (λ ys. x ∷ ys) (set_there xs i)

object_kept : (h : HeapView) (o : ObjectId) → with_object_in h o (object_in h o) ≡ h
object_kept h o = ap (λ (xs : List (Option HeapObject)). record h { objects = xs }) (set_there h.objects o.0)

field_past : (x : Option HeapObject) (k : ℕ) → length (fields_told x) ≤ k → option_map (with_field_of k None) x ≡ x
field_past None k h = refl
field_past (Some x) k h = ap (λ (fields : List (Option (List Leaf))). Some (record x { fields = fields })) (set_past x.fields k None h)

-- a field that isn't there is emptied
pub emptied_past : (h : HeapView) (o : ObjectId) (k : ℕ) → length (fields_told (object_in h o)) ≤ k → h ≡ without_field h o k
emptied_past h o k past = sym (ap (with_object_in h o) (field_past (object_in h o) k past) ∙ object_kept h o)
