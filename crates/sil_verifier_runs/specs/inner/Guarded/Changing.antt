-- What the operands of an item, and what is made of them, name where nothing dead has a holder.
use Rattle.std.specs.Prelude.{◌≡◌, List, true, Option, Ok, Some}
use Rattle.sil_cfg_items.specs.declared.taken.Taken.{Taken}
use Rattle.numbered_form.specs.Lists.{Each}
use Rattle.sil_verifier_frames.specs.ownership_kinds_chains.declared.ownership_chains.facts.Facts.{Facts}
use Rattle.sil_ast.specs.declared.function.Function.{Function}
use Rattle.sil_ast.specs.declared.inst.Inst.{Inst}
use Rattle.sil_ast.specs.declared.place.EdgeId.{EdgeId}
use Rattle.sil_ast.specs.declared.place.ObjectId.{ObjectId}
use Rattle.sil_ast.specs.declared.place.ValueId.{ValueId}
use Rattle.sil_types_declarations.specs.TypeDefinitions.Declarations.{Declarations}
use Rattle.holder_model_values.specs.RunValues.Memory.{Memory, is_dead}
use Rattle.holder_model_values.specs.RunValues.Shapes.{Shape}
use Rattle.sil_verifier_frames.specs.holder_model.Data.{Datum}
use Rattle.sil_verifier_frames.specs.holder_model.Edges.{carried_along}
use Rattle.sil_verifier_frames.specs.holder_model.Effects as effects
use Rattle.sil_verifier_frames.specs.holder_model.Effects.{Change}
use Rattle.sil_verifier_frames.specs.holder_model.Frames.{Entry, Frame, Operands, operands_of}
use Rattle.sil_verifier_frames.specs.holder_model.Holders.{one_object}
use Rattle.sil_verifier_frames.specs.holder_model.MemoryEffects.{effect}
use Rattle.sil_verifier_frames.specs.holder_model.ModuleShapes.{ModuleShapes}
use Rattle.sil_verifier_frames.specs.holder_model.States.{Task}
use Rattle.sil_verifier_frames.specs.holder_model_laws.HolderLaws.inner.Counts.Naming.{HoldsNone, IsAlive, LoadsStrongly, in_data}
use Rattle.sil_verifier_runs.specs.inner.Guarded.GuardedStates.{HaveDeadNoHolders}
use Rattle.sil_verifier_runs.specs.inner.Guarded.Stepping.{KeepsPhases}

-- operands name nothing dead
abbrev pub AreGivenAlive : Type 0
AreGivenAlive = (facts : ValueId → Option Facts) (memory : Memory) (entries : List Entry) (ts : List Taken) (ops : Operands)
    → operands_of facts memory entries ts ≡ Ok ops → Each (IsAlive memory) ops.given

-- what names nothing dead doesn't name a dead object
abbrev pub AreDeadUnnamed : Type 0
AreDeadUnnamed = (memory : Memory) (xs : List Datum) (o : ObjectId) → Each (IsAlive memory) xs → is_dead memory o ≡ true → in_data (one_object o) xs ≡ 0

-- where nothing dead has a holder, an instruction leaves it so, and changes no phase
abbrev pub AreChangesAlive : Type 0
AreChangesAlive = (d : Declarations) (shapes : ModuleShapes) (values : List Shape) (memory : Memory) (tasks : List (Task Frame)) (i : Inst)
    (xs : List Datum) (c : Change)
    → effect d shapes values memory i xs ≡ effects.Makes c → HaveDeadNoHolders memory tasks → Each (IsAlive memory) xs → LoadsStrongly memory i xs
    → KeepsPhases memory c.memory × ((o : ObjectId) → is_dead c.memory o ≡ true → HoldsNone (one_object o) c)

-- what an edge carries names nothing dead either
abbrev pub AreCarriedAlive : Type 0
AreCarriedAlive = (f : Function) (e : EdgeId) (memory : Memory) (xs carried : List Datum) → carried_along f e xs ≡ Some carried → Each (IsAlive memory) xs
    → Each (IsAlive memory) carried
