-- What weak and unowned storage names has changed, and then memory does at its place.
use Rattle.std.proofs.Common.{◌≡◌, ◌∙◌, List, [], ◌∷◌, Bool, true, false, Some, cond, refl, ap}
use Rattle.std.specs.Prelude.{find}
use Rattle.count_heap.specs.HeapModel.HeapViews.{HeapView, is_dead_in}
use Rattle.count_machine_model.specs.holder_model.Outcomes.{Numbers}
use Rattle.count_machine_model.specs.MachineSteps.Naming.{leaf_named, leaf_unnamed}
use Rattle.count_machine_model.specs.MachineSteps.Views.{MachineView}
use Rattle.holder_model_values.specs.RunValues.Memory.{Memory, is_dead}
use Rattle.holder_model_values.specs.declared.run_values.leaf.Leaf.{Leaf}
use Rattle.sil_ast.specs.declared.decl.Storage.{Storage}
use Rattle.sil_ast.specs.declared.module.Module.{Module}
use Rattle.sil_ast.specs.declared.place.ObjectId.{ObjectId}
use Rattle.count_machine_laws.proofs.Changes.{HasChanged}
use Rattle.count_machine_laws.proofs.Memories.{MemoryAgrees}
use Rattle.count_machine_laws.proofs.Named.{leaf_named_only, leaf_unnamed_only}
use Rattle.count_machine_laws.proofs.NamedLists.{OnlyObjects, only_both}
use Rattle.count_machine_laws.proofs.Numbers.{dead_agrees}
use Rattle.count_machine_laws.proofs.Objects.{is_of_class}
use Rattle.count_machine_laws.proofs.Slots.{Made}

-- what the machine finds dead is what the run finds
same_found : {A : Type 0} (f g : A → Bool) → ((x : A) → f x ≡ g x) → (xs : List A) → find f xs ≡ find g xs
same_found f g same [] = refl
same_found f g same (x ∷ xs) = ap (λ b. cond b (Some x) (find f xs)) (same x) ∙ ap (cond (g x) (Some x)) (same_found f g same xs)

-- what a leaf of storage is to name, in place of what another did
abbrev pub leaf_renamed : Bool → Storage → Leaf → Leaf → HeapView → HeapView
leaf_renamed first w l old h = leaf_named w l (cond first h (leaf_unnamed w old h))

pub leaf_renamed_only : (first : Bool) (w : Storage) (l old : Leaf) (h : HeapView) → OnlyObjects h (leaf_renamed first w l old h)
leaf_renamed_only true w l old h = leaf_named_only w l h
leaf_renamed_only false w l old h = only_both h (leaf_unnamed w old h) (leaf_renamed false w l old h) (leaf_unnamed_only w old h) (leaf_named_only w l (leaf_unnamed w old h))

module _ (m : Module) {made : List Made} {mem : Memory} {numbers : List Numbers} {st : MachineView} (agrees : MemoryAgrees m made mem numbers st) where
  pub dead_found : (os : List ObjectId) → find (is_dead_in st.heap) os ≡ find (is_dead mem) os
  dead_found os = same_found (is_dead_in st.heap) (is_dead mem) (λ o. dead_agrees m (is_of_class m mem) mem numbers st.heap o agrees.objects) os

-- where numbers alone have changed before, memory has changed so from the start
pub changed_behind : {m : Module} {made : List Made} {mem mem' : Memory} {numbers : List Numbers} {st st' : MachineView} {h : HeapView} → OnlyObjects st.heap h
    → HasChanged m made mem (record st { heap = h }) mem' numbers st' → HasChanged m made mem st mem' numbers st'
changed_behind only has =
    let frames = has.changes.frames in
    record {
      changes = record {
        made' = has.changes.made';
        agrees = has.changes.agrees;
        grows = has.changes.grows;
        phases = has.changes.phases;
        frames = record {
          tasks = frames.tasks;
          there = frames.there;
          leaves = frames.leaves;
          addresses = frames.addresses;
          waiting = frames.waiting;
          events = frames.events;
          turns = frames.turns;
          retains = frames.retains ∙ only.retains;
          releases = frames.releases ∙ only.releases;
        };
      };
      slots = has.slots;
    }
