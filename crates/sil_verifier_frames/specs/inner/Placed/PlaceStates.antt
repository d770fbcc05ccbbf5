-- States of a run by holders whose places are as the trails of their frames say.
use Rattle.std.specs.Prelude.{◌≡◌, List, [], ◌∷◌, Some, false, map, slice_get}
use Rattle.holder_model_laws.specs.memory_rules_accesses.Operations.{operations_of}
use Rattle.holder_model_laws.specs.memory_rules_accesses.declared.access.Operated.{Operated}
use Rattle.holder_model_laws.specs.memory_rules_accesses.declared.access.Operation.TheVariants.{Handed}
use Rattle.holder_model_laws.specs.holder_model.Calling.{places_given}
use Rattle.holder_model_laws.specs.holder_model.Effects.{effect_of}
use Rattle.holder_model_laws.specs.holder_model.Frames.{Entry, Frame, LentPlace}
use Rattle.holder_model_laws.specs.holder_model.HolderStates.{HolderState}
use Rattle.holder_model_laws.specs.holder_model.Standing.{stands_at}
use Rattle.holder_model_laws.specs.holder_model.States.{Task}
use Rattle.holder_model_laws.specs.holder_model.declared.row_effect.RowEffect.TheVariants.{CallsFunction}
use Rattle.holder_model_laws.specs.HolderLaws.inner.Steps.Stacks.{Below, Going}
use Rattle.sil_cfg_items.specs.Parts.{inst_at}
use Rattle.holder_model_values.specs.RunValues.Memory.{Memory}
use Rattle.sil_ast.specs.declared.function.Function.{Function}
use Rattle.sil_ast.specs.declared.inst.Inst.{Inst}
use Rattle.sil_ast.specs.declared.module.Module.{Module}
use Rattle.sil_ast.specs.declared.place.FuncId.{FuncId}
use Rattle.sil_ast.specs.declared.place.ObjectId.{ObjectId}
use Rattle.sil_verifier_frames.specs.inner.Placed.FramePlaces.{HoldsPlaces, Names}

-- each place is lent by an operand that is handed over, by its row
abbrev pub AreLentBy : List Entry → List Operated → List LentPlace → Type 0
AreLentBy entries [] [] = Unit {0}
AreLentBy entries [] (l ∷ ls) = ⊥
AreLentBy entries (o ∷ os) [] = ⊥
AreLentBy entries (o ∷ os) (l ∷ ls) = (o.operation ≡ Handed l.row) × Names entries o.address l.place × AreLentBy entries os ls

-- as the callee has it: a whole place
abbrev pub as_given : LentPlace → LentPlace
as_given l = record l { place = record l.place { is_part = false } }

module _ (m : Module) (memory : Memory) where
  -- a frame that goes on has lent nothing
  pub record GoesPlaced (frame : Frame) (rest : List (Task Frame)) : Type 0 where
    pub f : Function
    pub is : slice_get m.functions frame.function.0 ≡ Some f
    pub holds : HoldsPlaces m memory f frame rest
    pub none_lent : frame.lent ≡ []

  -- a frame that waits has lent to its callee what its call hands over
  pub record WaitsPlaced (callee frame : Frame) (rest : List (Task Frame)) : Type 0 where
    pub f : Function
    pub is : slice_get m.functions frame.function.0 ≡ Some f
    pub holds : HoldsPlaces m memory f frame rest
    pub call : Inst
    pub stands : inst_at f (stands_at f frame.trail) ≡ Some call
    pub calls : effect_of call.op ≡ CallsFunction
    pub lent : AreLentBy frame.entries (operations_of call) frame.lent
    -- and these are the places that the callee was given
    pub body : Function
    pub there : slice_get m.functions callee.function.0 ≡ Some body
    pub given : places_given body callee.entries ≡ map as_given frame.lent

  abbrev pub DeinitsPlaced : Frame → ObjectId → Type 0
  DeinitsPlaced callee o = Unit {0}

  abbrev pub DroppedPlaced : List ObjectId → Type 0
  DroppedPlaced references = Unit {0}

  abbrev pub FinishedPlaced : List FuncId → ObjectId → Type 0
  FinishedPlaced deinits o = Unit {0}

  abbrev pub TasksPlaced : List (Task Frame) → Type 0
  TasksPlaced tasks = Going GoesPlaced WaitsPlaced DeinitsPlaced DroppedPlaced FinishedPlaced tasks

  abbrev pub BelowPlaced : Frame → List (Task Frame) → Type 0
  BelowPlaced callee tasks = Below GoesPlaced WaitsPlaced DeinitsPlaced DroppedPlaced FinishedPlaced callee tasks

-- the places of all frames on the stack
abbrev pub AreSlotsRight : Module → HolderState → Type 0
AreSlotsRight m s = TasksPlaced m s.memory s.tasks
