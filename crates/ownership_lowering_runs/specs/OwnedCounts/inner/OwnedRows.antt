-- In typed states of accepted modules each instruction has what its row needs so that its change is counted.
use Rattle.std.specs.Prelude.{◌≡◌, List, [], ◌∷◌, true, false, length, map, Some, Ok}
use Rattle.instruction_table.specs.Forms.{result_kind_of, roles_of}
use Rattle.instruction_table.specs.declared.entries.ResultKind.TheVariants.{OwnedResult, ScopeResult}
use Rattle.instruction_table.specs.declared.entries.Role.TheVariants as role
use Rattle.sil_ast.specs.declared.decl.Storage.{Storage}
use Rattle.sil_ast.specs.declared.decl.Storage.TheVariants as storage
use Rattle.sil_ast.specs.declared.function.Function.{Function}
use Rattle.sil_ast.specs.declared.inst.Inst.{Inst}
use Rattle.sil_ast.specs.declared.module.Module.{Module}
use Rattle.sil_ast.specs.declared.place.FuncId.{FuncId}
use Rattle.sil_ast.specs.declared.place.PointId.{PointId}
use Rattle.sil_cfg.specs.declared.item.Item.TheVariants as item
use Rattle.sil_cfg_items.specs.Items.{item_defined, item_taken}
use Rattle.sil_cfg_items.specs.Parts.{inst_at}
use Rattle.sil_types_declarations.specs.TypeDefinitions.Declarations.{Declarations, declarations_of}
use Rattle.holder_model_values.specs.RunValues.Memory.{Memory}
use Rattle.holder_model_values.specs.RunValues.Places.{Place}
use Rattle.holder_model_values.specs.RunValues.Shapes.{Shape, Stored}
use Rattle.holder_model_values.specs.RunValues.Trivial.{is_trivial}
use Rattle.holder_model_values.specs.ValueParts.inner.Storages.{holds_no_storage}
use Rattle.sil_verifier_runs.specs.ownership_kinds_origins.Facts.{facts_in}
use Rattle.sil_verifier_runs.specs.sil_verifier_values.inner.Known.{IsAcceptedBody}
use Rattle.sil_verifier_runs.specs.holder_model.RunTyping.EndForms.{value_in}
use Rattle.sil_verifier_runs.specs.holder_model.RunTyping.Forms.{OfPlace, OfValue, forms_of}
use Rattle.sil_verifier_runs.specs.holder_model.RunTyping.RowForms.{operation_done}
use Rattle.sil_verifier_runs.specs.holder_model.RunTyping.StorageForms.{IsNamed}
use Rattle.memory_rules_accesses.specs.declared.access.Operation.{Operation}
use Rattle.sil_verifier_runs.specs.holder_model.Data.{AddressOf, Datum}
use Rattle.sil_verifier_runs.specs.holder_model.Effects as effects
use Rattle.sil_verifier_runs.specs.holder_model.Effects.{Change, effect_of}
use Rattle.sil_verifier_runs.specs.holder_model.Frames.{Entry, Operands, operands_of, results_put}
use Rattle.sil_verifier_runs.specs.holder_model.MemoryEffects.{copies_with, effect, takes}
use Rattle.sil_verifier_runs.specs.holder_model.ModuleShapes.{shapes_in, shapes_of}
use Rattle.sil_verifier_runs.specs.holder_model.Outcomes.{Numbers}
use Rattle.sil_verifier_runs.specs.holder_model.declared.row_effect.RowEffect.TheVariants as row
use Rattle.sil_verifier_runs.specs.holder_model_laws.StoredCounts.inner.Rows.{Owns}
use Rattle.ownership_lowering_laws.specs.holder_model_typing.TypedMemory.inner.Worlds.{IsWorldOf, MemoryIs, World}
use Rattle.sil_verifier_runs.specs.sil_verifier_frames.inner.Typed.TypedStates.{EntriesAre}

-- what a load does at its place, by its word: it takes or copies what its result then owns, reads what is trivial, or lends
pub data LoadsBy (d : Declarations) (f : Function) (i : Inst) (o : Operation) (s : Shape) : Type 0 where
  taking : takes o ≡ true → copies_with i.qualifier ≡ false → result_kind_of i.op ≡ OwnedResult → holds_no_storage s ≡ true → LoadsBy d f i o s
  copying : takes o ≡ false → copies_with i.qualifier ≡ true → result_kind_of i.op ≡ OwnedResult → LoadsBy d f i o s
  reading : (r : Shape) → takes o ≡ false → copies_with i.qualifier ≡ false → forms_of d f i.results ≡ OfValue r ∷ [] → is_trivial r ≡ true → LoadsBy d f i o s
  lending : takes o ≡ false → copies_with i.qualifier ≡ false → result_kind_of i.op ≡ ScopeResult → LoadsBy d f i o s

-- a store consumes what it writes strongly, and uses what weak or unowned storage is to name
pub data StoresBy (d : Declarations) (f : Function) (i : Inst) : Type 0 where
  strongly : (s : Shape) → roles_of i.op ≡ role.Consumed ∷ role.AddressRole ∷ [] → forms_of d f (map value_in i.operands) ≡ OfValue s ∷ OfPlace s ∷ []
      → holds_no_storage s ≡ true → StoresBy d f i
  weakly : (how : Storage) (s : Shape) → roles_of i.op ≡ role.Used ∷ role.AddressRole ∷ []
      → forms_of d f (map value_in i.operands) ≡ OfValue s ∷ OfPlace (Stored how s) ∷ []
      → IsNamed how s → StoresBy d f i

-- weak or unowned storage
pub record IsStorageOf (s : Shape) : Type 0 where
  pub how : Storage
  pub inner : Shape
  pub is : s ≡ Stored how inner
  pub other : how ≡ storage.Strong → ⊥

-- the instruction has the words, and its operands the types, that its row asks for
pub record HasItsWords (d : Declarations) (f : Function) (i : Inst) (xs : List Datum) : Type 0 where
  pub loads : effect_of i.op ≡ row.LoadsValue → (o : Operation) (p : Place) → operation_done i ≡ Some o → xs ≡ AddressOf p ∷ [] → LoadsBy d f i o p.shape
  pub names : effect_of i.op ≡ row.LoadsName → (p : Place) → xs ≡ AddressOf p ∷ [] → IsStorageOf p.shape
  pub stores : effect_of i.op ≡ row.StoresValue → StoresBy d f i
  pub destroys : effect_of i.op ≡ row.DestroysPlace → (o : Operation) → operation_done i ≡ Some o → takes o ≡ true

-- an instruction of an accepted function whose operands were found, and whose results are put
pub record IsDone (m : Module) (g : FuncId) (f : Function) (w : World) (memory : Memory) (entries : List Entry) (p : PointId) (i : Inst) (ops : Operands)
    (c : Change) : Type 0 where
  pub accepted : IsAcceptedBody m g.0 f
  pub of : IsWorldOf m w
  pub typed : MemoryIs m w memory
  pub entries_are : EntriesAre m w f entries
  pub here : inst_at f p ≡ Some i
  pub found : operands_of (facts_in (declarations_of m) f) memory entries (item_taken f (item.Inst p)) ≡ Ok ops
  pub makes : effect (declarations_of m) (shapes_of m) (shapes_in (shapes_of m) g) memory i ops.given ≡ effects.Makes c
  pub behind : List Entry
  pub put : results_put (facts_in (declarations_of m) f) (item_defined f (item.Inst p)) c.results ops.left ≡ Ok behind

abbrev pub AreRowsOwned : Type 0
AreRowsOwned = (m : Module) (g : FuncId) (f : Function) (w : World) (memory : Memory) (entries : List Entry) (p : PointId) (i : Inst) (ops : Operands)
    (c : Change)
    (stored : List Numbers) → IsDone m g f w memory entries p i ops c → HasItsWords (declarations_of m) f i ops.given → length stored ≡ length memory.objects
    → Owns (facts_in (declarations_of m) f) entries (item_taken f (item.Inst p)) (item_defined f (item.Inst p)) (declarations_of m) (shapes_of m)
    (shapes_in (shapes_of m) g) memory i ops.given stored (effect_of i.op) c.results
