-- Behind a return of a typed state of an accepted module stored numbers are counts, and behind the last one they are what is told of objects.
use Rattle.std.specs.Prelude.{◌≡◌, ℕ, List, [], ◌∷◌, false, Some, Ok, slice_get}
use Rattle.instruction_table.specs.Forms.{ending_of}
use Rattle.instruction_table.specs.declared.entries.Ending.TheVariants as ending
use Rattle.sil_ast.specs.declared.function.Function.{Function}
use Rattle.sil_ast.specs.declared.inst.Inst.{Inst}
use Rattle.sil_ast.specs.declared.module.Module.{Module}
use Rattle.sil_ast.specs.declared.place.ObjectId.{ObjectId}
use Rattle.sil_cfg.specs.declared.item.Item.TheVariants as item
use Rattle.sil_cfg_items.specs.Items.{item_defined}
use Rattle.holder_model_values.specs.RunValues.Places.{Place}
use Rattle.holder_model_values.specs.RunValues.Values.{Value, references_of}
use Rattle.sil_verifier_runs.specs.sil_verifier_accepted.AcceptedModules.inner.Checked.{IsVerified}
use Rattle.sil_verifier_runs.specs.holder_model.Calling.{holds_something}
use Rattle.sil_verifier_runs.specs.holder_model.Data.{Datum, as_value}
use Rattle.sil_verifier_runs.specs.holder_model.Effects.{only, unchanged}
use Rattle.sil_verifier_runs.specs.holder_model.Frames.{Entry, Frame, Operands, results_put}
use Rattle.sil_verifier_runs.specs.holder_model.HolderStates.{HolderState}
use Rattle.sil_verifier_runs.specs.holder_model.ModuleFacts.{facts_of, facts_told}
use Rattle.sil_verifier_runs.specs.holder_model.Outcomes.{Numbers, returned_holders}
use Rattle.sil_verifier_runs.specs.holder_model.Standing.{stands_at}
use Rattle.sil_verifier_runs.specs.holder_model.States.{Runs, Task}
use Rattle.sil_verifier_runs.specs.holder_model_laws.HolderLaws.inner.Steps.Ways.{StandsAtEnd, moved, operands_in}
use Rattle.sil_verifier_runs.specs.holder_model.LoweredRun.Stored.{numbers_of}
use Rattle.sil_verifier_runs.specs.holder_model_laws.StoredCounts.inner.Numbers.{AreCounts}
use Rattle.sil_verifier_runs.specs.sil_verifier_frames.inner.Typed.TypedStates.{IsTypedState}

-- the first frame stands at its `return`, and behind the operand holds nothing
pub record ReturnsFrom (m : Module) (bound : ℕ) (s : HolderState) (rest : List (Task Frame)) (frame : Frame) (f : Function) (i : Inst) (ops : Operands)
    (x : Datum) : Type 0 where
  pub verified : IsVerified m
  pub typed : IsTypedState m s
  pub at : s.tasks ≡ Runs frame ∷ rest
  pub there : slice_get m.functions frame.function.0 ≡ Some f
  pub stands : StandsAtEnd m (facts_of m) bound frame f i
  pub is : ending_of i.op ≡ ending.Return
  pub taken : operands_in m (facts_of m) bound s frame f (item.Exit (stands_at f frame.trail)) ≡ Ok ops
  pub alone : only ops.given ≡ Some x
  pub none : holds_something ops.left ≡ false

-- to the frame that waits
abbrev pub AreReturnsCounted : Type 0
AreReturnsCounted = (m : Module) (bound : ℕ) (s : HolderState) (rest : List (Task Frame)) (callee frame : Frame) (body f : Function) (i : Inst) (ops : Operands)
    (x : Datum) (slots : List Place) (entries : List Entry) (stored : List Numbers)
    → ReturnsFrom m bound s (Runs frame ∷ rest) callee body i ops x → slice_get m.functions frame.function.0 ≡ Some f
    → results_put (facts_told (facts_of m) frame.function) (item_defined f (item.Inst (stands_at f frame.trail))) (x ∷ []) frame.entries ≡ Ok entries
    → AreCounts s stored
    → AreCounts (moved m (facts_of m) bound s rest frame (item.Inst (stands_at f frame.trail)) (record
    (unchanged s.memory) { results = x ∷ [] }) slots entries) stored

-- out of the run
abbrev pub AreLeftCounted : Type 0
AreLeftCounted = (m : Module) (bound : ℕ) (s : HolderState) (frame : Frame) (f : Function) (i : Inst) (ops : Operands) (x : Datum) (v : Value)
    (stored : List Numbers)
    → ReturnsFrom m bound s [] frame f i ops x → as_value x ≡ Some v → AreCounts s stored
    → (o : ObjectId) → numbers_of stored o ≡ returned_holders (record s { tasks = [] }) (references_of v) o
