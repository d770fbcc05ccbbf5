-- What a run tells of its objects when it has returned is what the lowered run tells.
use Rattle.std.proofs.Common.{◌≡◌, ℕ, List, [], ◌∷◌, length, refl, ap, ap₂, ◌∙◌, Bool, cond, ◌||◌, Option, Some, None}
use Rattle.std.specs.Prelude.{not}
use Rattle.std.specs.List.{cons_option, filter_map, range_with_len}
use Rattle.std.proofs.lemmas.Slice.Zip.{AllZip-long}
use Rattle.sil_ast.specs.declared.place.ObjectId.{ObjectId}
use Rattle.holder_model_values.specs.RunValues.Memory.{Memory, is_dead, object_at}
use Rattle.sil_verifier_runs.specs.holder_model.declared.left_object.LeftObject.{LeftObject}
use Rattle.sil_verifier_runs.specs.holder_model.Outcomes.{Numbers, is_named, left_objects, object_number, unfreed}
use Rattle.ownership_lowering_runs.specs.StoredRuns.inner.Memories.{IsMemoryFor, IsObjectFor}
use Rattle.ownership_lowering_runs.proofs.StoredRuns.MemoriesFor.{dead_for, object_for}

module _ (m low : Memory) (h : IsMemoryFor m low) where
  same_left : (o : ObjectId) (n k : Numbers) → k ≡ n → unfreed low o k ≡ unfreed m o n
  same_left o n k e =
      ap (unfreed low o) e
      ∙ ap (λ dead. told dead (object_at low o).class) (dead_for m low h o)
      ∙ ap (λ class. told (is_dead m o) class) (object_for m low h o).class
    where
      told : Bool → List ℕ → Option LeftObject
      told dead class =
          cond (not dead || is_named n) (Some (record { object = o; class_name = class; live = not dead; strong = n.strong; unowned = n.unowned; weak = n.weak })) None

  pub left_for : (count : ObjectId → Numbers) (stored : ObjectId → Numbers) → ((o : ObjectId) → stored o ≡ count o) → left_objects low stored ≡ left_objects m count
  left_for count stored same =
      ap (λ k. filter_map (λ n. unfreed low (object_number n) (stored (object_number n))) (range_with_len 0 k)) (AllZip-long IsObjectFor m.objects low.objects h.objects)
      ∙ each_kept (range_with_len 0 (length m.objects))
    where
      each_kept : (ns : List ℕ) → filter_map (λ n. unfreed low (object_number n) (stored (object_number n))) ns ≡ filter_map (λ n. unfreed m (object_number n) (count (object_number n))) ns
      each_kept [] = refl
      each_kept (n ∷ ns) =
          ap₂ cons_option (same_left (object_number n) (count (object_number n)) (stored (object_number n)) (same (object_number n))) (each_kept ns)
