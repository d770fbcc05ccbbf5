-- What an edge lends anew is guarded.
use Rattle.std.specs.Prelude.{◌≡◌, ℕ, List, Ok, Some, slice_get}
use Rattle.sil_cfg_items.specs.Items.{item_defined, item_taken}
use Rattle.sil_cfg_items.specs.Parts.{edge_at, terminator_of}
use Rattle.sil_cfg_items.specs.declared.taken.Taken.{Taken}
use Rattle.numbered_form.specs.Lists.{Each}
use Rattle.sil_ast.specs.declared.function.Function.{Function}
use Rattle.sil_ast.specs.declared.inst.Edge.{Edge}
use Rattle.sil_ast.specs.declared.inst.Inst.{Inst}
use Rattle.sil_ast.specs.declared.module.Module.{Module}
use Rattle.sil_ast.specs.declared.place.EdgeId.{EdgeId}
use Rattle.sil_ast.specs.declared.place.ObjectId.{ObjectId}
use Rattle.sil_ast.specs.declared.place.ValueId.{ValueId}
use Rattle.sil_cfg.specs.declared.item.Item.{Item}
use Rattle.sil_cfg.specs.declared.item.Item.TheVariants as item
use Rattle.sil_types_declarations.specs.TypeDefinitions.Declarations.{declarations_of}
use Rattle.holder_model_values.specs.RunValues.Memory.{Memory}
use Rattle.holder_model_values.specs.RunValues.Values.{Value}
use Rattle.sil_verifier_frames.specs.ownership_kinds_origins.Facts.{facts_in}
use Rattle.sil_verifier_frames.specs.sil_verifier_values.inner.Known.{IsAcceptedBody, kind_at}
use Rattle.sil_verifier_frames.specs.holder_model.Data.{Datum, ValueOf, references_in}
use Rattle.sil_verifier_frames.specs.holder_model.Edges.{carried_along}
use Rattle.sil_verifier_frames.specs.holder_model.Frames.{Entry, Lent, Operands, made_entry, operands_of}
use Rattle.sil_verifier_runs.specs.inner.Guarded.Guards.{AreLentGuarded, AreOfKinds, IsCurrent, IsNamed, Lending}
use Rattle.sil_verifier_runs.specs.inner.Guarded.Kept.{IsNewlyGuarded}

-- what an edge carries are values
abbrev pub CarriesValues : List Datum → Type 0
CarriesValues carried = (k : ℕ) (x : Datum) → slice_get carried k ≡ Some x → (y : Value) × (x ≡ ValueOf y)

abbrev pub AreEdgesGuarded : Type 0
AreEdgesGuarded = (m : Module) (n : ℕ) (f : Function) → IsAcceptedBody m n f → (e : EdgeId) (i : Inst) (taken : Edge) → terminator_of f e.block.0 ≡ Some i
    → edge_at f e ≡ Some taken
    → (lends lends' : Lending) (memory : Memory) (entries : List Entry) (t : List Item) (ops : Operands) (carried : List Datum)
    → operands_of (facts_in (declarations_of m) f) memory entries (item_taken f (item.Edge e)) ≡ Ok ops → carried_along f e ops.given ≡ Some carried
    → AreOfKinds (declarations_of m) f entries → AreLentGuarded (declarations_of m) f lends memory ops.left t
    → Each (λ (x : Taken). IsCurrent (declarations_of m) f lends memory entries t x.value) (item_taken f (item.Edge e))
    → CarriesValues carried
    → (k : ℕ) (v : ValueId) (x : Datum) (o : ObjectId) → slice_get (item_defined f (item.Edge e)) k ≡ Some v → slice_get carried k ≡ Some x
    → made_entry (kind_at (declarations_of m) f v) x ≡ Ok (Lent x) → IsNamed o (references_in x)
    → IsNewlyGuarded (declarations_of m) f lends lends' memory memory ops.left o v
