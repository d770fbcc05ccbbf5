-- What typing says of the places that operands and results name: the premises of the laws of steps.
use Rattle.std.specs.Prelude.{◌≡◌, ℕ, List, [], ◌∷◌, true, Option, Some, Ok, drop, slice_get}
use Rattle.holder_model_laws.specs.holder_model.Data.{AddressOf, Datum, ValueOf}
use Rattle.holder_model_laws.specs.holder_model.Calling.{lent_places}
use Rattle.holder_model_laws.specs.holder_model.Effects.{Calls, Change, Makes, effect_of}
use Rattle.holder_model_laws.specs.holder_model.Frames.{Entry, Operands, entry_at, operands_of, plain_address, results_put}
use Rattle.holder_model_laws.specs.holder_model.MemoryEffects.{effect}
use Rattle.holder_model_laws.specs.holder_model.ModuleShapes.{ModuleShapes}
use Rattle.holder_model_laws.specs.holder_model.declared.row_effect.RowEffect.TheVariants as row
use Rattle.holder_model_laws.specs.memory_rules_accesses.Operations.{operations_of}
use Rattle.holder_model_laws.specs.memory_rules_accesses.Sources.{is_trivial_at, sources_of}
use Rattle.sil_verifier_trails.specs.RunTrails.inner.RunTrails.{IsRunTrail}
use Rattle.sil_verifier_trails.specs.sil_verifier_values.inner.Known.{IsAcceptedBody}
use Rattle.argument_conventions.specs.Arguments.{arguments_of}
use Rattle.sil_cfg_items.specs.Items.{item_defined, item_taken}
use Rattle.sil_cfg_items.specs.Parts.{inst_at}
use Rattle.holder_model_laws.specs.ownership_kinds_chains.declared.ownership_chains.facts.Facts.{Facts}
use Rattle.holder_model_values.specs.RunValues.inner.Fits.{fits}
use Rattle.holder_model_values.specs.RunValues.Memory.{Memory}
use Rattle.holder_model_values.specs.RunValues.Places.{Place}
use Rattle.holder_model_values.specs.RunValues.Shapes.{Shape}
use Rattle.holder_model_values.specs.RunValues.Trivial.{is_trivial}
use Rattle.holder_model_values.specs.RunValues.Values.{Value}
use Rattle.sil_ast.specs.declared.function.Function.{Function}
use Rattle.sil_ast.specs.declared.inst.Inst.{Inst}
use Rattle.sil_ast.specs.declared.module.Module.{Module}
use Rattle.sil_ast.specs.declared.place.EdgeId.{EdgeId}
use Rattle.sil_ast.specs.declared.place.FuncId.{FuncId}
use Rattle.sil_ast.specs.declared.place.PointId.{PointId}
use Rattle.sil_ast.specs.declared.place.ValueId.{ValueId}
use Rattle.sil_cfg.specs.declared.item.Item.{Item}
use Rattle.sil_cfg.specs.declared.item.Item.TheVariants as item
use Rattle.sil_types_declarations.specs.TypeDefinitions.Declarations.{declarations_of}
use Rattle.sil_verifier_frames.specs.inner.Typed.TypedStates.{EntriesAre}
use Rattle.sil_verifier_trails.specs.holder_model_typing.TypedMemory.inner.Worlds.{World}
use Rattle.sil_verifier_frames.specs.inner.Placed.FramePlaces.{Names}
use Rattle.sil_verifier_frames.specs.inner.Placed.PartsNamed.{AreNewNamed, ArePartsNamed}
use Rattle.sil_verifier_frames.specs.inner.Placed.PlaceStates.{AreLentBy}
use Rattle.sil_verifier_frames.specs.inner.Placed.Roots.{IsThere}
use Rattle.sil_verifier_frames.specs.inner.Placed.TakenPlaces.{AreAlike, AreHandedAs, AreNamedBy}

-- ---- entries

-- an entry that names a place was made as that of a value without a kind
abbrev pub AreEntriesPlain : Type 0
AreEntriesPlain = (m : Module) (number : ℕ) (f : Function) (w : World) (entries : List Entry) → IsAcceptedBody m number f → EntriesAre m w f entries
    → (v : ValueId) (p : Place) → Names entries v p → entry_at entries v ≡ plain_address p.home (AddressOf p)

-- a root's place is of a trivial type just where the root is
abbrev pub AreRootsShaped : Type 0
AreRootsShaped = (m : Module) (number : ℕ) (f : Function) (w : World) (entries : List Entry) → IsAcceptedBody m number f → EntriesAre m w f entries
    → (t : List Item) (v : ValueId) → IsThere (declarations_of m) f t v → (p : Place) → Names entries v p
    → is_trivial p.shape ≡ is_trivial_at (sources_of (declarations_of m) f) v

-- ---- operands

-- an item of a typed frame reads its operands
pub record ReadsOperands (m : Module) (number : ℕ) (f : Function) (w : World) (facts : ValueId → Option Facts) (memory : Memory) (entries : List Entry)
    (i : Item) (ops : Operands) : Type 0 where
  pub body : IsAcceptedBody m number f
  pub typed : EntriesAre m w f entries
  pub read : operands_of facts memory entries (item_taken f i) ≡ Ok ops

-- behind the ends typing holds still
abbrev pub AreLeftTyped : Type 0
AreLeftTyped = (m : Module) (number : ℕ) (f : Function) (w : World) (facts : ValueId → Option Facts)
    (memory : Memory) (entries : List Entry) (i : Item) (ops : Operands)
    → ReadsOperands m number f w facts memory entries i ops → EntriesAre m w f ops.left

-- each operand that is an address by its row names its place
abbrev pub AreOperandsNamed : Type 0
AreOperandsNamed = (m : Module) (number : ℕ) (f : Function) (w : World) (facts : ValueId → Option Facts)
    (memory : Memory) (entries : List Entry) (i : Item) (ops : Operands)
    → ReadsOperands m number f w facts memory entries i ops → AreNamedBy ops.left (item_taken f i) ops.given

-- what is stored fits the place
abbrev pub AreStoresFit : Type 0
AreStoresFit = (m : Module) (number : ℕ) (f : Function) (w : World) (facts : ValueId → Option Facts)
    (memory : Memory) (entries : List Entry) (p : PointId) (ops : Operands)
    → ReadsOperands m number f w facts memory entries (item.Inst p) ops → (x : Inst) → inst_at f p ≡ Some x → effect_of x.op ≡ row.StoresValue
    → (y : Value) (q : Place) → ops.given ≡ ValueOf y ∷ AddressOf q ∷ [] → fits q.shape y ≡ true

-- what a call hands over: by its operands, as the callee's signature tells, and as its operations lend
pub record HandsOver (f : Function) (p : PointId) (x : Inst) (left : List Entry) (args : List Datum) (callee : Function) : Type 0 where
  pub handed : AreHandedAs left (drop 1 (item_taken f (item.Inst p))) args
  pub alike : AreAlike (arguments_of callee.signature) (drop 1 (item_taken f (item.Inst p)))
  pub lent : AreLentBy left (operations_of x) (lent_places (drop 1 (item_taken f (item.Inst p))) args)

abbrev pub AreCallsHandingOver : Type 0
AreCallsHandingOver = (m : Module) (number : ℕ) (f : Function) (w : World) (facts : ValueId → Option Facts)
    (memory : Memory) (entries : List Entry) (p : PointId) (ops : Operands)
    → ReadsOperands m number f w facts memory entries (item.Inst p) ops → (x : Inst) → inst_at f p ≡ Some x
    → (shapes : ModuleShapes) (values : List Shape) (g : FuncId) (args : List Datum) (callee : Function)
    → effect (declarations_of m) shapes values memory x ops.given ≡ Calls g args → slice_get m.functions g.0 ≡ Some callee
    → HandsOver f p x ops.left args callee

-- ---- results

-- an instruction that leaves a change: of all its results those that name parts and fields name what they should
abbrev pub AreChangesNamed : Type 0
AreChangesNamed = (m : Module) (number : ℕ) (f : Function) (w : World) (facts : ValueId → Option Facts)
    (memory : Memory) (entries : List Entry) (p : PointId) (ops : Operands)
    → ReadsOperands m number f w facts memory entries (item.Inst p) ops → (x : Inst) → inst_at f p ≡ Some x
    → (t : List Item) → IsRunTrail f (item.Inst p ∷ t) → ArePartsNamed (sources_of (declarations_of m) f) f t ops.left
    → (shapes : ModuleShapes) (values : List Shape) (c : Change) (new : List Entry)
    → effect (declarations_of m) shapes values memory x ops.given ≡ Makes c → results_put facts (item_defined f (item.Inst p)) c.results ops.left ≡ Ok new
    → AreNewNamed (sources_of (declarations_of m) f) f t (item.Inst p) ops.left new

-- the result of a call names neither
abbrev pub AreCallsNamed : Type 0
AreCallsNamed = (m : Module) (number : ℕ) (f : Function) → IsAcceptedBody m number f → (t : List Item) (p : PointId) (x : Inst) → inst_at f p ≡ Some x
    → effect_of x.op ≡ row.CallsFunction → (old new : List Entry) → AreNewNamed (sources_of (declarations_of m) f) f t (item.Inst p) old new

-- nor does what begins along an edge
abbrev pub AreEdgesNamed : Type 0
AreEdgesNamed = (m : Module) (number : ℕ) (f : Function) → IsAcceptedBody m number f → (t : List Item) (e : EdgeId) (old new : List Entry)
    → AreNewNamed (sources_of (declarations_of m) f) f t (item.Edge e) old new
