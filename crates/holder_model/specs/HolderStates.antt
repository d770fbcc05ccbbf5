-- The states of a run by holders, and the strong holders of an object.
use Rattle.std.specs.Prelude.{ℕ, ◌+◌, map, sum}
use Rattle.sil_ast.specs.declared.decl.Storage.TheVariants as storage
use Rattle.sil_ast.specs.declared.place.ObjectId.{ObjectId}
use Rattle.holder_model.specs.Faults.{HolderFault}
use Rattle.holder_model.specs.Frames.{Entry, Frame, held_references}
use Rattle.holder_model.specs.Holders.{in_memory, of_references, one_object}
use Rattle.holder_model.specs.States.{Drops, Finishes, Next, Runs, State, Task}

abbrev pub HolderState : Type 0
HolderState = State Frame (Unit {0})

abbrev pub HolderNext : Type 0
HolderNext = Next HolderFault HolderState

module _ (weight : ObjectId → ℕ) where
  abbrev pub in_entry : Entry → ℕ
  in_entry e = of_references weight (held_references e)

  abbrev pub in_task : Task Frame → ℕ
  in_task (Runs frame) = sum (map in_entry frame.entries)
  in_task (Drops references) = of_references weight references
  in_task (Finishes deinits o) = 0

  -- held entries, drops that wait, full slots and fields
  abbrev pub in_state : HolderState → ℕ
  in_state s = sum (map in_task s.tasks) + in_memory weight storage.Strong s.memory

-- how often the object stands in held entries, in drops that wait, in slots and in fields of objects that aren't dead
abbrev pub strong_holders : HolderState → ObjectId → ℕ
strong_holders s o = in_state (one_object o) s
