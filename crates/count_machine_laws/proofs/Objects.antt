-- The objects of a run of lowered code, and those of the machine's heap.
use Rattle.std.proofs.Common.{◌≡◌, ◌<◌, ◌+◌, ◌++◌, ◌&&◌, ℕ, List, [], ◌∷◌, true, false, Option, Some, None, length, nat_lt}
use Rattle.std.specs.Prelude.{slice_get, replicate}
use Rattle.count_heap.specs.HeapModel.HeapCalls.{is_left}
use Rattle.count_heap.specs.HeapModel.HeapViews.{HeapObject}
use Rattle.count_machine_model.specs.holder_model.ModuleShapes.{field_shapes, shapes_of}
use Rattle.count_machine_model.specs.holder_model.Outcomes.{Numbers}
use Rattle.count_machine_model.specs.declared.machine_steps.address.Address.{Address}
use Rattle.count_machine_model.specs.holder_model.RunTyping.Classes.{is_a}
use Rattle.holder_model_values.specs.RunValues.Cells as cells
use Rattle.holder_model_values.specs.RunValues.Cells.{Cell, cell_count, in_cells}
use Rattle.holder_model_values.specs.RunValues.Leaves.{leaves_of}
use Rattle.holder_model_values.specs.RunValues.Memory.{Memory, Object, is_dead_phase, object_at}
use Rattle.holder_model_values.specs.RunValues.Places.{Inside, Place, offset}
use Rattle.holder_model_values.specs.RunValues.Shapes.{Shape}
use Rattle.holder_model_values.specs.RunValues.Values.{Value}
use Rattle.holder_model_values.specs.declared.run_values.leaf.Leaf.{Leaf}
use Rattle.holder_model_values.specs.declared.run_values.phase.Phase.TheVariants.{Dead}
use Rattle.sil_ast.specs.declared.module.Module.{Module}
use Rattle.sil_ast.specs.declared.place.ObjectId.{ObjectId}
use Rattle.sil_types_declarations.specs.TypeDefinitions.Declarations.{declarations_of, is_class}
use Rattle.sil_types_declarations.specs.TypeDefinitions.Lookups.{class_at}
use Rattle.holder_model_values.specs.ValueParts.inner.Paths.{IsPart, cells_before, leaves_before}
use Rattle.holder_model_values.specs.ValueParts.inner.Suits.{ClassTest, suits}

-- a reference of a class names an object that was made, of the class or of one that inherits from it
abbrev pub is_of_class : Module → Memory → ClassTest
is_of_class m mem class o = nat_lt o.0 (length mem.objects) && is_a (declarations_of m) (object_at mem o).class class

-- a field in its cells, and as the heap has it
pub data FieldHolds (test : ClassTest) (s : Shape) : List Cell → Option (List Leaf) → Type 0 where
  unwritten : FieldHolds test s (replicate (cell_count s) cells.Empty) None
  written : (x : Value) → suits test s x ≡ true → FieldHolds test s ((in_cells s).cells x) (Some (leaves_of s x))

pub data FieldsHold (test : ClassTest) : List Shape → List Cell → List (Option (List Leaf)) → Type 0 where
  none : FieldsHold test [] [] []
  more : (s : Shape) (ss : List Shape) (own rest : List Cell) (x : Option (List Leaf)) (xs : List (Option (List Leaf)))
      → FieldHolds test s own x → FieldsHold test ss rest xs → FieldsHold test (s ∷ ss) (own ++ rest) (x ∷ xs)

-- an object that isn't freed
pub record KeptAgrees (m : Module) (test : ClassTest) (x : Object) (n : Numbers) (h : HeapObject) : Type 0 where
  pub class : class_at (declarations_of m) h.class ≡ Some x.class
  pub phase : h.phase ≡ x.phase
  pub strong : h.strong ≡ n.strong
  pub unowned : h.unowned ≡ n.unowned
  pub weak : h.weak ≡ n.weak
  pub left : is_left h ≡ true
  pub fields : is_dead_phase x.phase ≡ false → FieldsHold test (field_shapes (shapes_of m) x.class) x.cells h.fields
  pub ended : is_dead_phase x.phase ≡ true → (x.cells ≡ []) × (h.fields ≡ [])

pub data ObjectAgrees (m : Module) (test : ClassTest) : Object → Numbers → Option HeapObject → Type 0 where
  freed : (x : Object) (n : Numbers) → x.phase ≡ Dead → x.cells ≡ [] → n.unowned ≡ 0 → n.weak ≡ 0 → ObjectAgrees m test x n None
  kept : (x : Object) (n : Numbers) (h : HeapObject) → KeptAgrees m test x n h → ObjectAgrees m test x n (Some h)

pub record ObjectsAgree (m : Module) (test : ClassTest) (objects : List Object) (numbers : List Numbers) (heap : List (Option HeapObject)) : Type 0 where
  pub numbered : length numbers ≡ length objects
  pub kept : length heap ≡ length objects
  pub classes : (k : ℕ) (x : Object) → slice_get objects k ≡ Some x → is_class (declarations_of m) x.class ≡ true
  pub each : (k : ℕ) (x : Object) (n : Numbers) (h : Option HeapObject) → slice_get objects k ≡ Some x → slice_get numbers k ≡ Some n
      → slice_get heap k ≡ Some h → ObjectAgrees m test x n h

-- an address in a field names this place: the object's own class has the field, be it named by an ancestor's name
pub record NamesField (m : Module) (mem : Memory) (o : ObjectId) (k : ℕ) (a : Address) (p : Place) : Type 0 where
  pub made : o.0 < length mem.objects
  pub field : Shape
  pub there : slice_get (field_shapes (shapes_of m) (object_at mem o).class) k ≡ Some field
  pub path : List ℕ
  pub part : IsPart field path p.shape
  pub home : p.home ≡ Inside o
  pub first : p.first ≡ offset (field_shapes (shapes_of m) (object_at mem o).class) k + cells_before field path
  pub from : a.from ≡ leaves_before field path
  pub parts : a.is_part ≡ p.is_part
  pub whole : p.is_part ≡ false → path ≡ []
  pub no_part : path ≡ [] → p.is_part ≡ false
