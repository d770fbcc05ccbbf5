-- Stored numbers where an object dies, and where nothing that is counted changes.
use Rattle.std.specs.Prelude.{◌≡◌, ℕ, List, false, length}
use Rattle.sil_ast.specs.declared.decl.Storage.{Storage}
use Rattle.sil_ast.specs.declared.module.Module.{Module}
use Rattle.sil_ast.specs.declared.place.ObjectId.{ObjectId}
use Rattle.holder_model.specs.holder_model_values.RunValues.Memory.{is_dead, object_at}
use Rattle.holder_model.specs.Frames.{Frame}
use Rattle.holder_model.specs.HolderStates.{HolderState, strong_holders}
use Rattle.holder_model.specs.Holders.{in_memory, one_object}
use Rattle.holder_model.specs.ModuleFacts.{ModuleFacts}
use Rattle.holder_model.specs.Outcomes.{Numbers}
use Rattle.holder_model.specs.States.{Task}
use Rattle.holder_model.specs.LoweredRun.Stored.{unnamed}
use Rattle.holder_model_laws.specs.HolderLaws.inner.Counts.Moving.{in_tasks}
use Rattle.holder_model_laws.specs.HolderLaws.inner.Steps.Ways.{finished}
use Rattle.holder_model_laws.specs.StoredCounts.inner.Numbers.{AreCounts, AreNamesStored}

-- ---- what changes no count

-- both states hold the same, and have as many objects
pub record HoldTheSame (s next : HolderState) : Type 0 where
  pub size : length next.memory.objects ≡ length s.memory.objects
  pub strongly : (o : ObjectId) → strong_holders next o ≡ strong_holders s o
  pub named : (how : Storage) (o : ObjectId) → in_memory (one_object o) how next.memory ≡ in_memory (one_object o) how s.memory

-- numbers stay counts
abbrev pub AreKeptStored : Type 0
AreKeptStored = (s next : HolderState) (stored : List Numbers) → HoldTheSame s next → AreCounts s stored → AreCounts next stored

-- other tasks that hold as much
abbrev pub AreTasksStored : Type 0
AreTasksStored = (s : HolderState) (tasks : List (Task Frame)) (stored : List Numbers)
    → ((o : ObjectId) → in_tasks (one_object o) tasks ≡ in_tasks (one_object o) s.tasks)
    → AreCounts s stored → AreCounts (record s { tasks = tasks }) stored

module _ (m : Module) (told : ModuleFacts) (bound : ℕ) where
  -- an object dies: its weak and unowned fields cease
  abbrev pub AreDeathsStored : Type 0
  AreDeathsStored = (s : HolderState) (o : ObjectId) (stored : List Numbers) → is_dead s.memory o ≡ false
      → AreNamesStored stored (object_at s.memory o).cells → AreCounts s stored
      → AreCounts (finished m told bound s o) (unnamed (object_at s.memory o).cells stored)
