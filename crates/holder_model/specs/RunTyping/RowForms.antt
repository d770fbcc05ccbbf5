-- What typing says of an instruction of lowered code, by what its row does in a run: the forms of its operands and of its results.
use Rattle.std.specs.Prelude.{◌≡◌, ◌<◌, ℕ, ℤ, List, [], ◌∷◌, true, false, Option, Some, None, map, option_and_then, slice_get}
use Rattle.holder_model.specs.declared.row_effect.RowEffect.TheVariants as row
use Rattle.holder_model.specs.Effects.{effect_of, part_number}
use Rattle.holder_model.specs.Frames.{has_any}
use Rattle.holder_model.specs.ModuleShapes.{case_place, field_shapes, shapes_of}
use Rattle.memory_rules_accesses.specs.Operations.{access_kind_of, operation_by}
use Rattle.memory_rules_accesses.specs.declared.access.Operation.{Operation}
use Rattle.memory_rules_accesses.specs.declared.access.Operation.TheVariants as operation
use Rattle.ownership_kinds_origins.specs.numbered_form.Names.{Name}
use Rattle.ownership_kinds_origins.specs.numbered_form.inner.Literals.{is_residue}
use Rattle.holder_model_values.specs.RunValues.Layers.{CaseLayer}
use Rattle.holder_model_values.specs.RunValues.Shapes.{CaseShapes}
use Rattle.holder_model_values.specs.RunValues.Shapes.{Enum, Integer, NoMember, Reference, Shape, Stored, Struct, Tuple, case_shapes, member_shapes, members_of}
use Rattle.sil_ast.specs.declared.decl.Storage.{Storage}
use Rattle.sil_ast.specs.declared.function.Function.{Function}
use Rattle.sil_ast.specs.declared.inst.Inst.{Inst}
use Rattle.sil_ast.specs.declared.member.Member.{Member}
use Rattle.sil_ast.specs.declared.module.Module.{Module}
use Rattle.sil_ast.specs.declared.place.FuncId.{FuncId}
use Rattle.ownership_kinds_origins.specs.sil_types.Typing.Builtins.{Builtin, Sort, bits, builtin_named, combining, comparing, overflowing, sort_of}
use Rattle.holder_model_values.specs.sil_types_declarations.TypeDefinitions.Declarations.{declarations_of, is_class}
use Rattle.holder_model.specs.RunTyping.Classes.{is_a}
use Rattle.holder_model.specs.RunTyping.StorageForms.{FieldShapeIs, IsNamed}
use Rattle.holder_model.specs.RunTyping.Forms.{Form, OfFunction, OfPlace, OfValue, entry_forms, given_shape, has_no_storage}

abbrev pub bit : Shape
bit = Integer 1

abbrev pub shapes_by : Sort → ℕ → List Shape
shapes_by overflowing w = Integer w ∷ Integer w ∷ bit ∷ []
shapes_by comparing w = Integer w ∷ Integer w ∷ []
shapes_by combining w = Integer w ∷ Integer w ∷ []

abbrev pub shape_by : Sort → ℕ → Shape
shape_by overflowing w = Tuple (members_of (Integer w ∷ bit ∷ []))
shape_by comparing w = bit
shape_by combining w = Integer w

-- the shapes of a builtin's operands, and of what it gives
abbrev pub operand_shapes : Builtin → List Shape
operand_shapes b = shapes_by (sort_of b.operation) (bits b.width)

abbrev pub computed_shape : Builtin → Shape
computed_shape b = shape_by (sort_of b.operation) (bits b.width)

-- the shape is that of a struct or tuple with these members
pub data IsGroup : Shape → List Shape → Type 0 where
  struct : (name : Name) (ss : List Shape) → IsGroup (Struct name (members_of ss)) ss
  tuple : (ss : List Shape) → IsGroup (Tuple (members_of ss)) ss

-- the shape is that of an enum
pub data IsEnum : Shape → Type 0 where
  enum : (name : Name) (cases : CaseShapes) → IsEnum (Enum name cases)

abbrev pub operation_done : Inst → Option Operation
operation_done i = operation_by (access_kind_of i.op) i.qualifier

-- what is done where a name is loaded, and where one is stored
pub data IsLoadOf : Operation → Type 0 where
  reads : IsLoadOf operation.Read
  takes : IsLoadOf operation.Take

pub data IsStoreOf : Operation → Type 0 where
  first : IsStoreOf operation.FirstWrite
  again : IsStoreOf operation.Write

-- operands and results of these forms are those that the instruction's row has to do with
pub data RowForms (m : Module) (i : Inst) : List Form → List Form → Type 0 where
  looks : (form : Form) → effect_of i.op ≡ row.NoEffect → RowForms m i (form ∷ []) []
  literal : (n : ℤ) (w : ℕ) → effect_of i.op ≡ row.GivesLiteral → i.number ≡ Some n → is_residue w n ≡ true → RowForms m i [] (OfValue (Integer w) ∷ [])
  function : (g : FuncId) → effect_of i.op ≡ row.GivesFunction → i.function ≡ Some g → RowForms m i [] (OfFunction g ∷ [])
  computes : (b : Builtin) → effect_of i.op ≡ row.Computes → option_and_then builtin_named i.text ≡ Some b
      → RowForms m i (map OfValue (operand_shapes b)) (OfValue (computed_shape b) ∷ [])
  traps : (text : List ℕ) → effect_of i.op ≡ row.TrapsWhereSet → i.text ≡ Some text → RowForms m i (OfValue bit ∷ []) []
  object : (class : Name) → effect_of i.op ≡ row.MakesObject → is_class (declarations_of m) class ≡ true → RowForms m i [] (OfValue (Reference class) ∷ [])
  slot : (w : Storage) (s : Shape) → effect_of i.op ≡ row.MakesSlot → FieldShapeIs w s → RowForms m i [] (OfPlace s ∷ [])
  removes : (s : Shape) → effect_of i.op ≡ row.RemovesSlot → RowForms m i (OfPlace s ∷ []) []
  upcast : (class above : Name) → effect_of i.op ≡ row.GivesOperand → is_a (declarations_of m) class above ≡ true
      → RowForms m i (OfValue (Reference class) ∷ []) (OfValue (Reference above) ∷ [])
  retains : (s : Shape) → effect_of i.op ≡ row.RetainsOperand → has_no_storage s ≡ true → RowForms m i (OfValue s ∷ []) []
  drops : (s : Shape) → effect_of i.op ≡ row.DropsOperand → has_no_storage s ≡ true → RowForms m i (OfValue s ∷ []) []
  loads : (s : Shape) → effect_of i.op ≡ row.LoadsValue → operation_done i ≡ Some operation.Read → has_no_storage s ≡ true
      → RowForms m i (OfPlace s ∷ []) (OfValue s ∷ [])
  stores : (s : Shape) → effect_of i.op ≡ row.StoresValue → operation_done i ≡ Some operation.Write → has_no_storage s ≡ true
      → RowForms m i (OfValue s ∷ OfPlace s ∷ []) []
  loads_name : (w : Storage) (s : Shape) (o : Operation) → effect_of i.op ≡ row.LoadsName → IsNamed w s → operation_done i ≡ Some o → IsLoadOf o
      → RowForms m i (OfPlace (Stored w s) ∷ []) (OfValue s ∷ [])
  stores_name : (w : Storage) (s : Shape) (o : Operation) → effect_of i.op ≡ row.StoresValue → IsNamed w s → operation_done i ≡ Some o → IsStoreOf o
      → RowForms m i (OfValue s ∷ OfPlace (Stored w s) ∷ []) []
  destroys_name : (w : Storage) (s : Shape) → effect_of i.op ≡ row.DestroysPlace → IsNamed w s → operation_done i ≡ Some operation.Take
      → RowForms m i (OfPlace (Stored w s) ∷ []) []
  groups : (s : Shape) (ss : List Shape) → effect_of i.op ≡ row.Groups → IsGroup s ss → RowForms m i (map OfValue ss) (OfValue s ∷ [])
  chooses_plain : (s : Shape) (k : ℕ) (c : CaseLayer Shape) → effect_of i.op ≡ row.ChoosesCase → IsEnum s → case_place s i.member ≡ Some k
      → slice_get (case_shapes s) k ≡ Some c → c.payload ≡ None → RowForms m i [] (OfValue s ∷ [])
  chooses_full : (s payload : Shape) (k : ℕ) (c : CaseLayer Shape) → effect_of i.op ≡ row.ChoosesCase → IsEnum s → case_place s i.member ≡ Some k
      → slice_get (case_shapes s) k ≡ Some c → c.payload ≡ Some payload → RowForms m i (OfValue payload ∷ []) (OfValue s ∷ [])
  member : (s part : Shape) (k : ℕ) → effect_of i.op ≡ row.GivesMember → part_number (declarations_of m) i ≡ Some k
      → slice_get (member_shapes s) k ≡ Some part → RowForms m i (OfValue s ∷ []) (OfValue part ∷ [])
  member_address : (s part : Shape) (k : ℕ) → effect_of i.op ≡ row.AddressesMember → part_number (declarations_of m) i ≡ Some k
      → slice_get (member_shapes s) k ≡ Some part → RowForms m i (OfPlace s ∷ []) (OfPlace part ∷ [])
  field_address : (class : Name) (named : Member) (s : Shape) (k : ℕ) → effect_of i.op ≡ row.AddressesField → i.member ≡ Some named → named.owner ≡ class
      → part_number (declarations_of m) i ≡ Some k → slice_get (field_shapes (shapes_of m) class) k ≡ Some s
      → RowForms m i (OfValue (Reference class) ∷ []) (OfPlace s ∷ [])
  calls : (g : FuncId) (callee : Function) → effect_of i.op ≡ row.CallsFunction → slice_get m.functions g.0 ≡ Some callee → has_any callee.blocks ≡ true
      → RowForms m i (OfFunction g ∷ entry_forms (declarations_of m) callee) (OfValue (given_shape (declarations_of m) callee) ∷ [])
  calls_out : (g : FuncId) (callee : Function) (widths : List ℕ) → effect_of i.op ≡ row.CallsFunction → slice_get m.functions g.0 ≡ Some callee
      → has_any callee.blocks ≡ false → RowForms m i (OfFunction g ∷ map (λ w. OfValue (Integer w)) widths) (OfValue (Tuple NoMember) ∷ [])
