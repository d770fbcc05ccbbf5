-- What an instruction is, made ready to run.
use Rattle.std.specs.Prelude.{◌≡◌, ℕ, ℤ, List, [], ◌∷◌, true, false, Option, Some, None, map, option_and_then, slice_get, sum, take}
use Rattle.instruction_table.specs.declared.builtin_names.names.Operation.{Operation}
use Rattle.holder_model.specs.declared.row_effect.RowEffect.TheVariants as row
use Rattle.holder_model.specs.Effects.{effect_of, part_number}
use Rattle.holder_model.specs.Frames.{has_any}
use Rattle.holder_model.specs.MemoryEffects.{takes}
use Rattle.holder_model.specs.ModuleShapes.{case_place}
use Rattle.holder_model.specs.sil_cfg_items.Items.{item_defined}
use Rattle.holder_model.specs.LoweredRun.LowEffects.{is_first_write}
use Rattle.holder_model.specs.memory_rules_accesses.declared.access.Operation as memory
use Rattle.numbered_form.specs.Names.{Name}
use Rattle.holder_model.specs.holder_model_values.RunValues.Shapes.{Reference, Shape, Stored, member_shapes, storage_in}
use Rattle.sil_ast.specs.declared.decl.Storage.{Storage}
use Rattle.sil_ast.specs.declared.function.Function.{Function}
use Rattle.sil_ast.specs.declared.inst.Inst.{Inst}
use Rattle.sil_ast.specs.declared.module.Module.{Module}
use Rattle.sil_ast.specs.declared.place.FuncId.{FuncId}
use Rattle.sil_ast.specs.declared.place.ValueId.{ValueId}
use Rattle.sil_cfg.specs.declared.item.Item.TheVariants as item
use Rattle.holder_model.specs.sil_types.Typing.Builtins.{Builtin, builtin_named}
use Rattle.holder_model.specs.sil_types_declarations.TypeDefinitions.Declarations.{Declarations, declarations_of}
use Rattle.holder_model.specs.sil_types_declarations.TypeDefinitions.Lookups.{class_at}
use Rattle.holder_model.specs.RunTyping.EndForms.{value_in}
use Rattle.holder_model.specs.RunTyping.Forms.{OfFunction, OfPlace, OfValue, form_of}
use Rattle.holder_model.specs.RunTyping.RowForms.{operation_done}
use Rattle.count_machine_model.specs.declared.ready_code.local.Local.{Local}
use Rattle.count_machine_model.specs.declared.ready_code.local.LocalAddress.{LocalAddress}
use Rattle.count_machine_model.specs.declared.ready_code.op.ReadyOp.{ReadyOp}
use Rattle.count_machine_model.specs.declared.ready_code.op.ReadyOp.TheVariants as op
use Rattle.count_machine_model.specs.ReadyCode.Layout.{addresses_carried, local, local_address, size_of, values_carried}

-- how many leaves lie before the member with a number
abbrev pub leaf_offset : List Shape → ℕ → ℕ
leaf_offset shapes k = sum (map size_of (take k shapes))

abbrev pub first_of : {A : Type 0} → List A → Option A
first_of [] = None
first_of (x ∷ xs) = Some x

abbrev pub operands_of : Inst → List ValueId
operands_of i = map value_in i.operands

module _ (m : Module) (f : Function) (i : Inst) where
  abbrev pub d : Declarations
  d = declarations_of m

  abbrev pub L : ValueId → Local
  L v = local d f v

  abbrev pub A : ValueId → LocalAddress
  A v = local_address d f v

-- the instruction of the function, made ready
pub data IsReadyOp (m : Module) (f : Function) (i : Inst) : ReadyOp → Type 0 where
  look : (v : ValueId) → effect_of i.op ≡ row.NoEffect → operands_of i ≡ v ∷ [] → IsReadyOp m f i (op.Look v)
  literal : (n : ℤ) (r : ValueId) → effect_of i.op ≡ row.GivesLiteral → i.number ≡ Some n → i.results ≡ r ∷ [] → IsReadyOp m f i (op.Literal n (L m f i r))
  function : (r : ValueId) → effect_of i.op ≡ row.GivesFunction → i.results ≡ r ∷ [] → IsReadyOp m f i (op.Function r)
  computes : (b : Builtin) (v w r : ValueId) (more : List ValueId) → effect_of i.op ≡ row.Computes → option_and_then builtin_named i.text ≡ Some b
      → operands_of i ≡ v ∷ w ∷ more → i.results ≡ r ∷ [] → IsReadyOp m f i (op.Compute b.operation b.width (L m f i v) (L m f i w) (first_of more) (L m f i r))
  traps : (v : ValueId) → effect_of i.op ≡ row.TrapsWhereSet → operands_of i ≡ v ∷ [] → IsReadyOp m f i (op.TrapWhereSet (L m f i v))
  object : (class : Name) (k : ℕ) (r : ValueId) → effect_of i.op ≡ row.MakesObject → i.results ≡ r ∷ [] → form_of (d m f i) f r ≡ OfValue (Reference class)
      → class_at (d m f i) k ≡ Some class → IsReadyOp m f i (op.MakeObject k (L m f i r))
  slot : (s : Shape) (r : ValueId) → effect_of i.op ≡ row.MakesSlot → i.results ≡ r ∷ [] → form_of (d m f i) f r ≡ OfPlace s
      → IsReadyOp m f i (op.MakeSlot (size_of s) (A m f i r))
  removes : (v : ValueId) → effect_of i.op ≡ row.RemovesSlot → operands_of i ≡ v ∷ [] → IsReadyOp m f i (op.RemoveSlot (A m f i v))
  same : (v r : ValueId) → effect_of i.op ≡ row.GivesOperand → operands_of i ≡ v ∷ [] → i.results ≡ r ∷ [] → IsReadyOp m f i (op.Same (L m f i v) (L m f i r))
  retains : (v : ValueId) → effect_of i.op ≡ row.RetainsOperand → operands_of i ≡ v ∷ [] → IsReadyOp m f i (op.Retain (L m f i v))
  drops : (v : ValueId) → effect_of i.op ≡ row.DropsOperand → operands_of i ≡ v ∷ [] → IsReadyOp m f i (op.Drop (L m f i v))
  loads : (v r : ValueId) → effect_of i.op ≡ row.LoadsValue → operands_of i ≡ v ∷ [] → i.results ≡ r ∷ [] → IsReadyOp m f i (op.Load (A m f i v) (L m f i r))
  stores : (v w : ValueId) (s : Shape) → effect_of i.op ≡ row.StoresValue → operands_of i ≡ v ∷ w ∷ [] → form_of (d m f i) f w ≡ OfPlace s
      → storage_in s ≡ None → IsReadyOp m f i (op.Store (L m f i v) (A m f i w))
  loads_name : (v r : ValueId) (w : Storage) (s : Shape) (o : memory.Operation) → effect_of i.op ≡ row.LoadsName → operands_of i ≡ v ∷ [] → i.results ≡ r ∷ []
      → form_of (d m f i) f v ≡ OfPlace (Stored w s) → operation_done i ≡ Some o → IsReadyOp m f i (op.LoadName w (takes o) (A m f i v) (L m f i r))
  stores_name : (v p : ValueId) (w : Storage) (s : Shape) (o : memory.Operation) → effect_of i.op ≡ row.StoresValue → operands_of i ≡ v ∷ p ∷ []
      → form_of (d m f i) f p ≡ OfPlace (Stored w s) → operation_done i ≡ Some o → IsReadyOp m f i (op.StoreName w (is_first_write o) (L m f i v) (A m f i p))
  forgets_name : (v : ValueId) (w : Storage) (s : Shape) → effect_of i.op ≡ row.DestroysPlace → operands_of i ≡ v ∷ []
      → form_of (d m f i) f v ≡ OfPlace (Stored w s) → IsReadyOp m f i (op.ForgetName w (A m f i v))
  groups : (r : ValueId) → effect_of i.op ≡ row.Groups → i.results ≡ r ∷ [] → IsReadyOp m f i (op.Group (map (L m f i) (operands_of i)) (L m f i r))
  chooses_plain : (r : ValueId) (s : Shape) (k : ℕ) → effect_of i.op ≡ row.ChoosesCase → operands_of i ≡ [] → i.results ≡ r ∷ []
      → form_of (d m f i) f r ≡ OfValue s → case_place s i.member ≡ Some k → IsReadyOp m f i (op.Choose k None (L m f i r))
  chooses_full : (v r : ValueId) (s : Shape) (k : ℕ) → effect_of i.op ≡ row.ChoosesCase → operands_of i ≡ v ∷ [] → i.results ≡ r ∷ []
      → form_of (d m f i) f r ≡ OfValue s → case_place s i.member ≡ Some k → IsReadyOp m f i (op.Choose k (Some (L m f i v)) (L m f i r))
  member : (v r : ValueId) (s : Shape) (k : ℕ) → effect_of i.op ≡ row.GivesMember → operands_of i ≡ v ∷ [] → i.results ≡ r ∷ []
      → form_of (d m f i) f v ≡ OfValue s → part_number (d m f i) i ≡ Some k
      → IsReadyOp m f i (op.Member (L m f i v) (leaf_offset (member_shapes s) k) (L m f i r))
  member_address : (v r : ValueId) (s : Shape) (k : ℕ) → effect_of i.op ≡ row.AddressesMember → operands_of i ≡ v ∷ [] → i.results ≡ r ∷ []
      → form_of (d m f i) f v ≡ OfPlace s → part_number (d m f i) i ≡ Some k
      → IsReadyOp m f i (op.MemberAddress (A m f i v) (leaf_offset (member_shapes s) k) (A m f i r))
  field_address : (v r : ValueId) (k : ℕ) → effect_of i.op ≡ row.AddressesField → operands_of i ≡ v ∷ [] → i.results ≡ r ∷ []
      → part_number (d m f i) i ≡ Some k → IsReadyOp m f i (op.FieldAddress (L m f i v) k (A m f i r))
  calls : (c r : ValueId) (args : List ValueId) (g : FuncId) (callee : Function) → effect_of i.op ≡ row.CallsFunction → operands_of i ≡ c ∷ args
      → i.results ≡ r ∷ [] → form_of (d m f i) f c ≡ OfFunction g → slice_get m.functions g.0 ≡ Some callee → has_any callee.blocks ≡ true
      → IsReadyOp m f i (op.Call g (c ∷ args) (values_carried (d m f i) f callee args (item_defined callee item.Entry))
      (addresses_carried (d m f i) f callee args (item_defined callee item.Entry)) (L m f i r))
  calls_out : (c r : ValueId) (args : List ValueId) (g : FuncId) (callee : Function) → effect_of i.op ≡ row.CallsFunction → operands_of i ≡ c ∷ args
      → i.results ≡ r ∷ [] → form_of (d m f i) f c ≡ OfFunction g → slice_get m.functions g.0 ≡ Some callee → has_any callee.blocks ≡ false
      → IsReadyOp m f i (op.CallOut g (c ∷ args) (map (L m f i) args) (L m f i r))
