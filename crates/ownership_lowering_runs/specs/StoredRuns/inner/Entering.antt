-- A function with a body is called: what is handed over, and that both runs enter it.
use Rattle.std.specs.Prelude.{◌≡◌, ℕ, List, true, Some, length, is_some, slice_get}
use Rattle.std.specs.List.{AllZip}
use Rattle.numbered_form.specs.Lists.{Each}
use Rattle.sil_ast.specs.declared.function.Function.{Function}
use Rattle.sil_ast.specs.declared.module.Module.{Module}
use Rattle.sil_ast.specs.declared.place.FuncId.{FuncId}
use Rattle.sil_ast.specs.declared.place.ValueId.{ValueId}
use Rattle.sil_cfg.specs.declared.item.Item.TheVariants as item
use Rattle.sil_cfg_items.specs.Items.{item_defined}
use Rattle.sil_types_declarations.specs.TypeDefinitions.Declarations.{Declarations, declarations_of}
use Rattle.holder_model_values.specs.RunValues.Memory.{Memory}
use Rattle.holder_model_values.specs.RunValues.Places.{Place, value_at}
use Rattle.holder_model_values.specs.RunValues.Shapes.{Shape}
use Rattle.sil_verifier_runs.specs.holder_model.RunTyping.Forms.{OfPlace, form_of}
use Rattle.sil_verifier_runs.specs.holder_model.Calling.{as_argument}
use Rattle.sil_verifier_runs.specs.holder_model.Data.{AddressOf, Datum}
use Rattle.sil_verifier_runs.specs.holder_model.Frames.{Frame}
use Rattle.sil_verifier_runs.specs.holder_model.HolderStates.{HolderNext, HolderState}
use Rattle.sil_verifier_runs.specs.holder_model.ModuleFacts.{facts_of}
use Rattle.sil_verifier_runs.specs.holder_model.ModuleShapes.{shapes_of}
use Rattle.sil_verifier_runs.specs.holder_model.States.{Task}
use Rattle.sil_verifier_runs.specs.holder_model.LoweredRun.LowFrames.{LowFrame}
use Rattle.sil_verifier_runs.specs.holder_model.LoweredRun.LowStepParts.{LowNext, LowState}
use Rattle.ownership_lowering_laws.specs.ownership_lowering_model.LoweredModules.{lowered, lowered_body}
use Rattle.sil_verifier_runs.specs.holder_model_laws.HolderLaws.inner.Steps.Ways as holder
use Rattle.sil_verifier_runs.specs.holder_model_laws.LoweredSteps.inner.LowWays as ways
use Rattle.ownership_lowering_runs.specs.StoredRuns.inner.Along.{AreTotalsFor, IsNextAlong, IsNoFault}
use Rattle.ownership_lowering_runs.specs.StoredRuns.inner.Frames.{AreTasksFor, HasFullParts}
use Rattle.ownership_lowering_runs.specs.StoredRuns.inner.Lowering.{LowersSo}
use Rattle.ownership_lowering_runs.specs.StoredRuns.inner.Memories.{IsMemoryFor}

-- what is a part is full in the lowered run
abbrev pub IsFullPart : Memory → Datum → Type 0
IsFullPart low y = (p : Place) → y ≡ AddressOf p → p.is_part ≡ true → is_some (value_at low p) ≡ true

abbrev pub IsArgumentFor : Datum → Datum → Type 0
IsArgumentFor x y = as_argument y ≡ x

-- what is an address is one by its type too
abbrev pub IsAddressFor : Declarations → Function → ValueId → Datum → Type 0
IsAddressFor d f v y = (p : Place) → y ≡ AddressOf p → (s : Shape) × (form_of d f v ≡ OfPlace s)

-- what the function is given in both runs
pub record HandsOver (d : Declarations) (low : Memory) (callee : Function) (xs ys : List Datum) : Type 0 where
  pub as_many : length ys ≡ length (item_defined callee item.Entry)
  pub same : AllZip IsArgumentFor xs ys
  pub full : Each (IsFullPart low) ys
  pub addresses : AllZip (IsAddressFor d callee) (item_defined callee item.Entry) ys

-- both runs go on in the function; or both end, since there are too many frames or no turn is left
abbrev pub AreEntered : Type 0
AreEntered = (m : Module) (bound : ℕ) (s : HolderState) (l : LowState) (rest : List (Task Frame)) (lrest : List (Task LowFrame))
    (g : FuncId) (callee : Function) (xs ys : List Datum) (next : HolderNext)
    → AreTotalsFor s l → IsMemoryFor s.memory l.memory → AreTasksFor m rest lrest → Each (HasFullParts m l.memory) lrest
    → slice_get m.functions g.0 ≡ Some callee → LowersSo m g callee → HandsOver (declarations_of m) l.memory callee xs ys
    → holder.Enters m (facts_of m) bound s rest g callee xs next → IsNoFault next
    → (low_next : LowNext) × ways.Enters (lowered m) (shapes_of (lowered m)) bound l lrest g (lowered_body (declarations_of m) callee) ys low_next
    × IsNextAlong m l.numbers next low_next
