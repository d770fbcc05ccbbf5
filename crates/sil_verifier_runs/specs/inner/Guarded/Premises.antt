-- What an accepted module gives to the guards of its runs: the operands of tracked frames are current, typed ones are as rows and edges ask, and a run
-- begins guarded.
use Rattle.std.specs.Prelude.{◌≡◌, ℕ, List, ◌∷◌, true, Ok, Some, slice_get}
use Rattle.std.specs.List.{AllZip}
use Rattle.sil_cfg_items.specs.Items.{item_taken}
use Rattle.sil_cfg_items.specs.Parts.{inst_at}
use Rattle.sil_cfg_items.specs.declared.taken.Taken.{Taken}
use Rattle.numbered_form.specs.Lists.{Each}
use Rattle.sil_ast.specs.declared.function.Function.{Function}
use Rattle.sil_ast.specs.declared.inst.Inst.{Inst}
use Rattle.sil_ast.specs.declared.module.Module.{Module}
use Rattle.sil_ast.specs.declared.place.EdgeId.{EdgeId}
use Rattle.sil_ast.specs.declared.place.FuncId.{FuncId}
use Rattle.sil_ast.specs.declared.place.PointId.{PointId}
use Rattle.sil_cfg.specs.declared.item.Item.{Item}
use Rattle.sil_cfg.specs.declared.item.Item.TheVariants as item
use Rattle.sil_types_declarations.specs.TypeDefinitions.Declarations.{declarations_of}
use Rattle.holder_model_values.specs.RunValues.Memory.{Memory}
use Rattle.sil_verifier_frames.specs.ownership_kinds_origins.Facts.{facts_in}
use Rattle.sil_verifier_frames.specs.sil_verifier_trails.RunTrails.inner.RunTrails.{IsRunTrail}
use Rattle.sil_verifier_frames.specs.sil_verifier_accepted.AcceptedModules.inner.Checked.{IsVerified}
use Rattle.sil_verifier_frames.specs.sil_verifier_values.inner.Known.{IsAcceptedBody}
use Rattle.sil_verifier_frames.specs.holder_model.RunTyping.Forms.{Form}
use Rattle.sil_verifier_frames.specs.holder_model_typing.OwnedRunTyping.inner.OwnedRows.{OwnedRowForms}
use Rattle.sil_verifier_frames.specs.holder_model_typing.TypedMemory.inner.Worlds.{DatumIs, MemoryIs, World}
use Rattle.sil_verifier_frames.specs.inner.Typed.TypedStates.{EntriesAre}
use Rattle.sil_verifier_frames.specs.inner.Tracked.TrackedStates.{GoesAlong}
use Rattle.sil_verifier_frames.specs.holder_model.Data.{Datum}
use Rattle.sil_verifier_frames.specs.holder_model.Edges.{carried_along}
use Rattle.sil_verifier_frames.specs.holder_model.Frames.{Entry, Frame, Operands, operands_of}
use Rattle.sil_verifier_frames.specs.holder_model.Outcomes.{begins, may_start}
use Rattle.sil_verifier_frames.specs.holder_model_laws.HolderLaws.inner.Counts.Naming.{IsAlive, LoadsStrongly}
use Rattle.sil_verifier_runs.specs.inner.Guarded.EdgesLend.{CarriesValues}
use Rattle.sil_verifier_runs.specs.inner.Guarded.GuardedStates.{IsGuardedState, Loans}
use Rattle.sil_verifier_runs.specs.inner.Guarded.Guards.{IsCurrent, Lending}
use Rattle.sil_verifier_runs.specs.inner.Guarded.Rows.{HandsValues}

-- ---- operands

-- the operands of the item at which a tracked frame stands are current
abbrev pub AreFramesCurrent : Type 0
AreFramesCurrent = (m : Module) (n : ℕ) (f : Function) → IsAcceptedBody m n f → (lends : Lending) (memory : Memory) (frame : Frame) (i : Item)
    → IsRunTrail f (i ∷ frame.trail) → GoesAlong (declarations_of m) f frame
    → Each (λ (x : Taken). IsCurrent (declarations_of m) f lends memory frame.entries frame.trail x.value) (item_taken f i)

-- ---- typed operands

-- the cells of a typed place that is loaded are there, and keep strongly what they keep
abbrev pub LoadTypedStrongly : Type 0
LoadTypedStrongly = (m : Module) (w : World) (memory : Memory) (i : Inst) (ins outs : List Form) (xs : List Datum)
    → MemoryIs m w memory → OwnedRowForms m i ins outs → AllZip (DatumIs m w) ins xs → Each (IsAlive memory) xs → LoadsStrongly memory i xs

-- the operands of an instruction are as its row asks, where entries and memory are typed
abbrev pub AreTypedForRows : Type 0
AreTypedForRows = (m : Module) (n : ℕ) (f : Function) → IsAcceptedBody m n f → (w : World) (memory : Memory) (p : PointId) (i : Inst)
    (entries : List Entry) (ops : Operands) → inst_at f p ≡ Some i → MemoryIs m w memory → EntriesAre m w f entries
    → operands_of (facts_in (declarations_of m) f) memory entries (item_taken f (item.Inst p)) ≡ Ok ops
    → HandsValues i ops.given × LoadsStrongly memory i ops.given

-- what an edge carries are values, where entries are typed
abbrev pub CarryTypedValues : Type 0
CarryTypedValues = (m : Module) (n : ℕ) (f : Function) → IsAcceptedBody m n f → (w : World) (memory : Memory) (e : EdgeId)
    (entries : List Entry) (ops : Operands) (carried : List Datum) → EntriesAre m w f entries
    → operands_of (facts_in (declarations_of m) f) memory entries (item_taken f (item.Edge e)) ≡ Ok ops
    → carried_along f e ops.given ≡ Some carried → CarriesValues carried

-- ---- the begin of a run

-- a run begins guarded, whatever its scopes will lend
abbrev pub BeginGuarded : Type 0
BeginGuarded = (m : Module) (loans : Loans) (e : FuncId) (f : Function) → IsVerified m → slice_get m.functions e.0 ≡ Some f → may_start f ≡ true
    → IsGuardedState m loans (begins e f)
