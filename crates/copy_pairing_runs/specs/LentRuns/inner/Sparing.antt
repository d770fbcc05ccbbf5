-- What the run of a function in which a copy is lent needs of its states: what the copy names is spared where it goes.
use Rattle.std.specs.Prelude.{◌≡◌, ℕ, List, [], ◌∷◌, set}
use Rattle.sil_ast.specs.declared.function.Function.{Function}
use Rattle.sil_ast.specs.declared.module.Module.{Module}
use Rattle.sil_ast.specs.declared.place.FuncId.{FuncId}
use Rattle.sil_ast.specs.declared.place.ValueId.{ValueId}
use Rattle.sil_cfg.specs.declared.item.Item.{Item}
use Rattle.holder_model_values.specs.RunValues.Places.{Place}
use Rattle.holder_model_laws.specs.holder_model.Data.{Datum, references_in}
use Rattle.holder_model_laws.specs.holder_model.Frames.{Entry, Frame, Gone, Held, LentPlace, entry_at}
use Rattle.holder_model_laws.specs.holder_model.HolderStates.{HolderState}
use Rattle.holder_model_laws.specs.holder_model.ModuleFacts.{ModuleFacts}
use Rattle.holder_model_laws.specs.holder_model.States.{Runs, Task}
use Rattle.holder_model_laws.specs.LockstepRuns.inner.Frames.{AreSpared}
use Rattle.holder_model_laws.specs.LockstepRuns.inner.Lockstep.{frame_at}
use Rattle.holder_model_laws.specs.LockstepRuns.inner.Parts.{AreFramesOn}
use Rattle.copy_pairing_runs.specs.LentRuns.inner.LentEntries.{IsLentFrame, NeverAlone}

module _ (m m' : Module) (told told' : ModuleFacts) (bound : ℕ) (First Second : HolderState → Type 0) (n : ℕ) (f : Function) (c : ValueId) (g : FuncId) where
  -- what the copy's entry names is spared, where the frame goes on over these tasks without it
  abbrev pub IsCopySpared : HolderState → List Entry → List (Task Frame) → Type 0
  IsCopySpared h entries rest = (x : Datum) → entry_at entries c ≡ Held x → (places : List Place) (t : List Item)
      → AreSpared h.memory (Runs (frame_at g places [] t (set entries c.0 Gone)) ∷ rest) (references_in x)

  -- so it is where frames of the function go on
  abbrev pub AreCopiesSpared : Type 0
  AreCopiesSpared = (h r : HolderState) (slots : List Place) (lent : List LentPlace) (trail trail' : List Item) (entries entries' : List Entry)
      (rest rest' : List (Task Frame))
      → AreFramesOn m m' told told' bound First Second (IsLentFrame n f c) NeverAlone h r g slots lent trail trail' entries entries' rest rest'
      → IsCopySpared h entries rest
