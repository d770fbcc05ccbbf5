-- The heap in which a run of lowered code has ended: its objects, each with its phase, its numbers and its fields.
use Rattle.std.specs.Prelude.{◌≡◌, ◌<◌, ◌||◌, ◌++◌, ℕ, List, [], ◌∷◌, true, false, not, Option, Some, None, length, replicate}
use Rattle.std.specs.Prelude.{slice_get}
use Rattle.count_heap.specs.HeapModel.HeapViews.{HeapObject, HeapView, object_in}
use Rattle.count_machine_model.specs.holder_model.ModuleShapes.{field_shapes, shapes_of}
use Rattle.count_machine_model.specs.holder_model.Outcomes.{Numbers, Outcome, is_named, run}
use Rattle.count_machine_model.specs.holder_model.States.{Ends, Goes}
use Rattle.count_machine_model.specs.holder_model.LoweredRun.LowOutcomes.{low_begins, low_outcome_at}
use Rattle.count_machine_model.specs.holder_model.LoweredRun.LowStepParts.{LowState}
use Rattle.count_machine_model.specs.holder_model.LoweredRun.LowSteps.{low_step}
use Rattle.count_machine_model.specs.holder_model.LoweredRun.Stored.{numbers_of}
use Rattle.count_machine_model.specs.holder_model.declared.lowered_run.low_fault.LowFault.{LowFault}
use Rattle.holder_model_values.specs.RunValues.Cells.{Cell, Empty, cell_count, in_cells}
use Rattle.holder_model_values.specs.RunValues.Leaves.{leaves_of}
use Rattle.holder_model_values.specs.RunValues.Memory.{Memory, Object, is_dead_phase, object_at}
use Rattle.holder_model_values.specs.RunValues.Shapes.{Shape}
use Rattle.holder_model_values.specs.RunValues.Values.{Value}
use Rattle.holder_model_values.specs.RunValues.inner.Fits.{fits}
use Rattle.holder_model_values.specs.declared.run_values.leaf.Leaf.{Leaf}
use Rattle.sil_ast.specs.declared.function.Function.{Function}
use Rattle.sil_ast.specs.declared.module.Module.{Module}
use Rattle.sil_ast.specs.declared.place.FuncId.{FuncId}
use Rattle.sil_ast.specs.declared.place.ObjectId.{ObjectId}
use Rattle.sil_types_declarations.specs.TypeDefinitions.Declarations.{declarations_of}
use Rattle.sil_types_declarations.specs.TypeDefinitions.Lookups.{class_at}

-- a field in its cells, and as a heap has it: empty, or with the leaves of the value that it holds
pub data IsFieldOf (s : Shape) : List Cell → Option (List Leaf) → Type 0 where
  empty : IsFieldOf s (replicate (cell_count s) Empty) None
  full : (x : Value) → fits s x ≡ true → IsFieldOf s ((in_cells s).cells x) (Some (leaves_of s x))

-- fields of these shapes, one behind the other in the cells of their object
pub data AreFieldsOf : List Shape → List Cell → List (Option (List Leaf)) → Type 0 where
  none : AreFieldsOf [] [] []
  more : (s : Shape) (ss : List Shape) (own rest : List Cell) (x : Option (List Leaf)) (xs : List (Option (List Leaf)))
      → IsFieldOf s own x → AreFieldsOf ss rest xs → AreFieldsOf (s ∷ ss) (own ++ rest) (x ∷ xs)

-- an object with its numbers, and as a heap has it. A dead one has no fields
pub record IsObjectOf (m : Module) (x : Object) (n : Numbers) (h : HeapObject) : Type 0 where
  pub class : class_at (declarations_of m) h.class ≡ Some x.class
  pub phase : h.phase ≡ x.phase
  pub strong : h.strong ≡ n.strong
  pub unowned : h.unowned ≡ n.unowned
  pub weak : h.weak ≡ n.weak
  pub fields : is_dead_phase x.phase ≡ false → AreFieldsOf (field_shapes (shapes_of m) x.class) x.cells h.fields
  pub none : is_dead_phase x.phase ≡ true → h.fields ≡ []

-- it is freed just where it is dead and no storage names it
pub data IsKeptOrFreed (m : Module) (x : Object) (n : Numbers) : Option HeapObject → Type 0 where
  freed : (not (is_dead_phase x.phase) || is_named n) ≡ false → IsKeptOrFreed m x n None
  kept : (h : HeapObject) → (not (is_dead_phase x.phase) || is_named n) ≡ true → IsObjectOf m x n h → IsKeptOrFreed m x n (Some h)

-- the heap has the objects of the memory, each with these numbers, and no others. Its table is that of the module
pub record IsHeapOf (m : Module) (memory : Memory) (numbers : ObjectId → Numbers) (h : HeapView) : Type 0 where
  pub declarations : h.declarations ≡ declarations_of m
  pub allocated : length h.objects ≡ length memory.objects
  pub objects : (o : ObjectId) → o.0 < length memory.objects → IsKeptOrFreed m (object_at memory o) (numbers o) (object_in h o)

-- strong numbers as the last step left them, and the others as it found them: a step counts first what storage is to name, and where it faults or traps
-- behind that, storage names what it did
abbrev pub last_numbers : LowState → LowState → ObjectId → Numbers
last_numbers found left o = record {
  strong = (numbers_of left.numbers o).strong;
  unowned = (numbers_of found.numbers o).unowned;
  weak = (numbers_of found.numbers o).weak;
}

-- the run of lowered code from the entry function comes to a state, the next step ends it with this outcome and leaves its memory as it is, and the heap is
-- that of this memory
pub record EndsWithHeap (m : Module) (e : FuncId) (bound : ℕ) (outcome : Outcome LowFault) (h : HeapView) : Type 0 where
  pub entry : Function
  pub there : slice_get m.functions e.0 ≡ Some entry
  pub steps : ℕ
  pub found : LowState
  pub comes : run (low_step m (shapes_of m) bound) steps (low_begins e entry) ≡ Goes found
  pub left : LowState
  pub ends : low_step m (shapes_of m) bound found ≡ Ends outcome.ending left
  pub told : low_outcome_at outcome.ending left ≡ outcome
  pub stays : left.memory ≡ found.memory
  pub heap : IsHeapOf m found.memory (last_numbers found left) h
