-- What an instruction lends anew is guarded.
use Rattle.std.specs.Prelude.{◌≡◌, ◌⊎◌, ℕ, List, [], ◌∷◌, true, Ok, Some, slice_get}
use Rattle.sil_cfg_items.specs.Items.{item_defined, item_taken}
use Rattle.sil_cfg_items.specs.Parts.{inst_at}
use Rattle.sil_cfg_items.specs.declared.taken.Taken.{Taken}
use Rattle.numbered_form.specs.Lists.{Each}
use Rattle.sil_ast.specs.declared.function.Function.{Function}
use Rattle.sil_ast.specs.declared.inst.Inst.{Inst}
use Rattle.sil_ast.specs.declared.module.Module.{Module}
use Rattle.sil_ast.specs.declared.place.ObjectId.{ObjectId}
use Rattle.sil_ast.specs.declared.place.PointId.{PointId}
use Rattle.sil_ast.specs.declared.place.ValueId.{ValueId}
use Rattle.sil_cfg.specs.declared.item.Item.{Item}
use Rattle.sil_cfg.specs.declared.item.Item.TheVariants as item
use Rattle.sil_types_declarations.specs.TypeDefinitions.Declarations.{declarations_of}
use Rattle.holder_model_values.specs.RunValues.Memory.{Memory}
use Rattle.holder_model_values.specs.RunValues.Places.{Place, value_at}
use Rattle.holder_model_values.specs.RunValues.Shapes.{Shape}
use Rattle.holder_model_values.specs.RunValues.Values.{Value, references_of}
use Rattle.numbered_form.specs.ValueTables.Borrows.{is_borrow}
use Rattle.sil_verifier_frames.specs.ownership_kinds_origins.Facts.{facts_in}
use Rattle.sil_verifier_frames.specs.sil_verifier_values.inner.Known.{IsAcceptedBody, kind_at}
use Rattle.sil_verifier_frames.specs.holder_model.declared.row_effect.RowEffect.TheVariants as row
use Rattle.sil_verifier_frames.specs.holder_model.Data.{AddressOf, Datum, ValueOf, references_in}
use Rattle.sil_verifier_frames.specs.holder_model.Effects as effects
use Rattle.sil_verifier_frames.specs.holder_model.Effects.{Change, effect_of}
use Rattle.sil_verifier_frames.specs.holder_model.Frames.{Entry, Lent, Operands, made_entry, operands_of}
use Rattle.sil_verifier_frames.specs.holder_model.MemoryEffects.{effect}
use Rattle.sil_verifier_frames.specs.holder_model.ModuleShapes.{ModuleShapes}
use Rattle.sil_verifier_runs.specs.inner.Guarded.Guards.{AreLentGuarded, AreOfKinds, IsCurrent, IsNamed, KeepsAt, Lending}
use Rattle.sil_verifier_runs.specs.inner.Guarded.Kept.{IsNewlyGuarded}

-- what is handed on or copied as a whole is a value, and no address
abbrev pub HandsValues : Inst → List Datum → Type 0
HandsValues i xs = (x : Datum) → (effect_of i.op ≡ row.GivesOperand) ⊎ (effect_of i.op ≡ row.CopiesOperand) → xs ≡ x ∷ [] → (y : Value) × (x ≡ ValueOf y)

-- a scope that is opened over a place lends the cells that keep what the place's value names
abbrev pub LendsLoaded : Function → Lending → Memory → Memory → Inst → List Datum → Type 0
LendsLoaded f lends memory later i xs = (p : Place) (v : ValueId) (n : ℕ) (x : Value) (o : ObjectId) → effect_of i.op ≡ row.LoadsValue → xs ≡ AddressOf p ∷ []
    → slice_get i.results n ≡ Some v → is_borrow f v ≡ true → value_at memory p ≡ Some x → IsNamed o (references_of x)
    → (k : ℕ) × (y : Value) × (lends v k ≡ true) × KeepsAt later k y × IsNamed o (references_of y)

abbrev pub AreRowsGuarded : Type 0
AreRowsGuarded = (m : Module) (n : ℕ) (f : Function) → IsAcceptedBody m n f → (p : PointId) (i : Inst) → inst_at f p ≡ Some i
    → (shapes : ModuleShapes) (values : List Shape) (lends lends' : Lending) (memory : Memory) (entries : List Entry) (t : List Item) (ops : Operands)
    (c : Change)
    → operands_of (facts_in (declarations_of m) f) memory entries (item_taken f (item.Inst p)) ≡ Ok ops
    → effect (declarations_of m) shapes values memory i ops.given ≡ effects.Makes c
    → AreOfKinds (declarations_of m) f entries → AreLentGuarded (declarations_of m) f lends memory ops.left t
    → Each (λ (x : Taken). IsCurrent (declarations_of m) f lends memory entries t x.value) (item_taken f (item.Inst p))
    → HandsValues i ops.given → LendsLoaded f lends' memory c.memory i ops.given
    → (k : ℕ) (v : ValueId) (x : Datum) (o : ObjectId) → slice_get (item_defined f (item.Inst p)) k ≡ Some v → slice_get c.results k ≡ Some x
    → made_entry (kind_at (declarations_of m) f v) x ≡ Ok (Lent x) → IsNamed o (references_in x)
    → IsNewlyGuarded (declarations_of m) f lends lends' memory c.memory ops.left o v
