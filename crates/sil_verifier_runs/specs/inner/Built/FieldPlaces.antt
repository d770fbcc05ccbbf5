-- What the addresses of fields and of members name: a place within the field of an object, where the operand names the object, or a place in the field.
use Rattle.std.specs.Prelude.{◌≡◌, ℕ, List, true, Contains, Some, slice_get}
use Rattle.sil_verifier_frames.specs.holder_model.Data.{ValueOf}
use Rattle.sil_verifier_frames.specs.holder_model.Effects.{effect_of, part_number}
use Rattle.sil_verifier_frames.specs.holder_model.Frames.{Entry}
use Rattle.sil_verifier_frames.specs.holder_model.ModuleShapes.{field_shapes, shapes_of}
use Rattle.sil_verifier_frames.specs.holder_model.declared.row_effect.RowEffect.TheVariants as row
use Rattle.sil_verifier_frames.specs.memory_rules_accesses.Rows.{is_part}
use Rattle.sil_verifier_frames.specs.memory_rules_accesses.Sources.{sources_of}
use Rattle.sil_verifier_frames.specs.memory_rules_accesses.declared.location.Location.{Location}
use Rattle.sil_verifier_frames.specs.sil_verifier_values.inner.Known.{InAccepted, IsAcceptedBody}
use Rattle.sil_verifier_frames.specs.holder_model_laws.HolderLaws.inner.Built.Building.{IsFieldAddress}
use Rattle.sil_verifier_frames.specs.holder_model_laws.HolderLaws.inner.Built.FrameObjects.{IsInField, Names}
use Rattle.sil_cfg_items.specs.Items.{item_defined}
use Rattle.sil_cfg_items.specs.Parts.{inst_at}
use Rattle.holder_model_values.specs.RunValues.Memory.{Memory, object_at}
use Rattle.holder_model_values.specs.RunValues.Places.{field_in}
use Rattle.holder_model_values.specs.RunValues.Shapes.{Shape}
use Rattle.holder_model_values.specs.RunValues.Values as value
use Rattle.sil_ast.specs.declared.function.Function.{Function}
use Rattle.sil_ast.specs.declared.inst.Inst.{Inst}
use Rattle.sil_ast.specs.declared.member.Member.{Member}
use Rattle.sil_ast.specs.declared.module.Module.{Module}
use Rattle.sil_ast.specs.declared.place.ObjectId.{ObjectId}
use Rattle.sil_ast.specs.declared.place.PointId.{PointId}
use Rattle.sil_ast.specs.declared.place.ValueId.{ValueId}
use Rattle.sil_cfg.specs.declared.item.Item.TheVariants as item
use Rattle.sil_types_declarations.specs.TypeDefinitions.Declarations.{declarations_of}
use Rattle.sil_verifier_frames.specs.inner.Typed.TypedStates.{EntriesAre}
use Rattle.sil_verifier_frames.specs.holder_model_typing.TypedMemory.inner.Worlds.{IsWorldOf, MemoryIs, World}
use Rattle.numbered_form.specs.ValueTables.FirstValue.{first_value}

-- what names a field of an object that its operand names: its result's place is that of the field
abbrev pub AreFieldsPlaced : Type 0
AreFieldsPlaced = (m : Module) (n : ℕ) (f : Function) → IsAcceptedBody m n f → (w : World) → IsWorldOf m w
    → (memory : Memory) → MemoryIs m w memory → (entries : List Entry) → EntriesAre m w f entries
    → (p : PointId) (x : Inst) → inst_at f p ≡ Some x → effect_of x.op ≡ row.AddressesField → (v : ValueId) → Contains (item_defined f (item.Inst p)) v
    → (y : ValueId) → first_value x ≡ Some y → (o : ObjectId) → Names entries y (ValueOf (value.Object o))
    → (named : Member) (number : ℕ) (s : Shape) → x.member ≡ Some named → part_number (declarations_of m) x ≡ Some number
    → slice_get (field_shapes (shapes_of m) named.owner) number ≡ Some s
    → (l : Location) (of : ValueId) (k : ℕ) → IsFieldAddress (sources_of (declarations_of m) f) v l of k
    → IsInField (shapes_of m) o (object_at memory o) l k (field_in o (field_shapes (shapes_of m) named.owner) number s)

-- what names a member of what is at its operand is in a field just where the operand is
abbrev pub AreMembersPlaced : Type 0
AreMembersPlaced = InAccepted (λ d f. (p : PointId) (x : Inst) → inst_at f p ≡ Some x → effect_of x.op ≡ row.AddressesMember
    → (v : ValueId) → Contains (item_defined f (item.Inst p)) v → (y : ValueId) → first_value x ≡ Some y
    → (l : Location) (of : ValueId) (k : ℕ) → IsFieldAddress (sources_of d f) v l of k
    → (is_part l ≡ true) × ((u : Location) × IsFieldAddress (sources_of d f) y u of k))
