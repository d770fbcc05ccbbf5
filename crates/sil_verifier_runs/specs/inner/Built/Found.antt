-- Where a frame stands at an instruction whose operands it has read, the fields at which the instruction does something are there, and as its operations ask.
use Rattle.std.specs.Prelude.{◌≡◌, ℕ, List, ◌∷◌, Bool, true, Contains, Ok, Some, slice_get}
use Rattle.sil_verifier_frames.specs.sil_verifier_accepted.AcceptedModules.inner.Checked.{IsVerified}
use Rattle.sil_verifier_frames.specs.holder_model.Data.{AddressOf}
use Rattle.sil_verifier_frames.specs.holder_model.Frames.{Frame, Operands}
use Rattle.sil_verifier_frames.specs.holder_model.HolderStates.{HolderState}
use Rattle.sil_verifier_frames.specs.holder_model.MemoryEffects.{asked_before, holds}
use Rattle.sil_verifier_frames.specs.holder_model.ModuleFacts.{facts_of}
use Rattle.sil_verifier_frames.specs.holder_model.Standing.{stands_at}
use Rattle.sil_verifier_frames.specs.holder_model.States.{Runs, Task}
use Rattle.sil_verifier_frames.specs.memory_rules_accesses.Locations.{location_of}
use Rattle.sil_verifier_frames.specs.memory_rules_accesses.Operations.{operations_of}
use Rattle.sil_verifier_frames.specs.memory_rules_accesses.Sources.{source_at, sources_of}
use Rattle.sil_verifier_frames.specs.memory_rules_accesses.declared.access.Operated.{Operated}
use Rattle.sil_verifier_frames.specs.memory_rules_accesses.declared.access.Operation.{Operation}
use Rattle.sil_verifier_frames.specs.memory_rules_accesses.declared.location.Location.{Location}
use Rattle.sil_verifier_frames.specs.memory_rules_accesses.declared.source.Source.TheVariants as source
use Rattle.argument_conventions.specs.declared.row.Content.{Content}
use Rattle.sil_verifier_frames.specs.holder_model_laws.HolderLaws.inner.Built.FrameObjects.{Names}
use Rattle.sil_verifier_frames.specs.holder_model_laws.HolderLaws.inner.Held.ObjectStates.{AreObjectsRight}
use Rattle.sil_cfg_items.specs.Parts.{inst_at}
use Rattle.holder_model_values.specs.RunValues.Memory.{Memory}
use Rattle.holder_model_values.specs.RunValues.Places.{Place, is_there_at}
use Rattle.sil_ast.specs.declared.function.Function.{Function}
use Rattle.sil_ast.specs.declared.inst.Inst.{Inst}
use Rattle.sil_ast.specs.declared.module.Module.{Module}
use Rattle.sil_ast.specs.declared.place.ValueId.{ValueId}
use Rattle.sil_cfg.specs.declared.item.Item.TheVariants as item
use Rattle.sil_types_declarations.specs.TypeDefinitions.Declarations.{declarations_of}
use Rattle.sil_verifier_frames.specs.holder_model_laws.HolderLaws.inner.Steps.Ways.{operands_in}
use Rattle.sil_verifier_frames.specs.inner.Typed.TypedStates.{IsTypedState}
use Rattle.sil_verifier_runs.specs.inner.Built.Said.{said}

-- the place is there, and as the operation asks
abbrev pub IsFoundSo : Memory → Place → Operation → Type 0
IsFoundSo memory p o = (is_there_at memory p ≡ true) × ((c : Content) → asked_before p.is_part o ≡ Some c → holds memory c p ≡ true)

-- so is each field, or part of one, at which the first frame's instruction does something
abbrev pub AreFieldsFound : Module → ℕ → HolderState → Type 0
AreFieldsFound m bound s = (frame : Frame) (rest : List (Task Frame)) (f : Function) (i : Inst) (ops : Operands) → s.tasks ≡ Runs frame ∷ rest
    → slice_get m.functions frame.function.0 ≡ Some f → inst_at f (stands_at f frame.trail) ≡ Some i
    → operands_in m (facts_of m) bound s frame f (item.Inst (stands_at f frame.trail)) ≡ Ok ops → (o : Operated) → Contains (operations_of i) o
    → (l : Location) → location_of (sources_of (declarations_of m) f) o.address ≡ Some l
    → (of : ValueId) (k : ℕ) (trivial : Bool) → source_at (sources_of (declarations_of m) f) l.root ≡ source.Field of k trivial
    → (p : Place) → Names frame.entries o.address (AddressOf p) → IsFoundSo s.memory p o.operation

abbrev pub FindFields : Type 0
FindFields = (m : Module) (bound : ℕ) (s : HolderState) → IsVerified m → IsTypedState m s → AreObjectsRight m (said m) s → AreFieldsFound m bound s
