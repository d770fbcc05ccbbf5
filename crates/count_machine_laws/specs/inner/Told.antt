-- What the machine tells of a run when it has stopped.
use Rattle.std.specs.Prelude.{◌≡◌, ℕ, List, [], Option, Some, None, length, slice_get, drop, take}
use Rattle.std.specs.List.{filter_map, range_with_len}
use Rattle.count_heap.specs.HeapModel.HeapViews.{HeapView, is_dead_in, is_unfreed, strong_in, unowned_in, weak_in}
use Rattle.count_machine_model.specs.holder_model.declared.left_object.LeftObject.{LeftObject}
use Rattle.count_machine_model.specs.holder_model.declared.trap.Trap.TheVariants as trap
use Rattle.count_machine_model.specs.holder_model.Outcomes.{Outcome, object_number}
use Rattle.count_machine_model.specs.holder_model.States.{Ending, Faulted, OutOfTurns, Returned, Trapped}
use Rattle.sil_cfg_items.specs.Parts.{inst_at}
use Rattle.count_machine_model.specs.holder_model.declared.lowered_run.low_fault.LowFault.{LowFault}
use Rattle.count_machine_model.specs.declared.machine_steps.run_end.RunEnd.{RunEnd}
use Rattle.count_machine_model.specs.declared.machine_steps.run_end.RunEnd.TheVariants as end
use Rattle.count_machine_model.specs.MachineSteps.Steps.{name_of}
use Rattle.count_machine_model.specs.MachineSteps.Views.{MachineView}
use Rattle.count_machine_model.specs.declared.ready_code.local.Local.{Local}
use Rattle.holder_model_values.specs.RunValues.Leaves.{value_of}
use Rattle.holder_model_values.specs.RunValues.Shapes.{Shape}
use Rattle.holder_model_values.specs.declared.run_values.leaf.Leaf.{Leaf}
use Rattle.holder_model_values.specs.RunValues.Values.{Value}
use Rattle.sil_ast.specs.declared.function.Function.{Function}
use Rattle.sil_ast.specs.declared.inst.Inst.{Inst}
use Rattle.sil_ast.specs.declared.module.Module.{Module}
use Rattle.sil_ast.specs.declared.place.FuncId.{FuncId}
use Rattle.sil_ast.specs.declared.place.ObjectId.{ObjectId}
use Rattle.sil_ast.specs.declared.place.PointId.{PointId}
use Rattle.std.specs.Prelude.{cond, not}

-- the leaves of the value that the first frame returned
abbrev pub returned_leaves : MachineView → Local → List Leaf
returned_leaves st l = take l.size (drop l.at st.leaves)

-- the ending that the machine's stop stands for. What the entry function gives has this shape
pub data IsEnding (m : Module) (s : Shape) (st : MachineView) : RunEnd → Ending LowFault → Type 0 where
  returned : (l : Local) (x : Value) → value_of s (returned_leaves st l) ≡ Some x → IsEnding m s st (end.Returned l) (Returned x)
  cond_fail : (g : FuncId) (p : PointId) (f : Function) (i : Inst) (text : List ℕ) → slice_get m.functions g.0 ≡ Some f → inst_at f p ≡ Some i
      → i.text ≡ Some text → IsEnding m s st (end.CondFail g p) (Trapped (trap.CondFail text))
  unreachable : IsEnding m s st end.Unreachable (Trapped trap.Unreachable)
  unowned : IsEnding m s st end.Unowned (Trapped trap.Unowned)
  escaped : IsEnding m s st end.Escaped (Trapped trap.Escaped)
  depth : IsEnding m s st end.Depth (Trapped trap.Depth)
  out_of_turns : IsEnding m s st end.OutOfTurns OutOfTurns
  fault : (x : LowFault) → IsEnding m s st (end.Fault x) (Faulted x)

-- the unfreed objects of a heap, in the order of their numbers

abbrev pub left_of : HeapView → ObjectId → LeftObject
left_of h o = record {
  object = o;
  class_name = name_of h o;
  live = not (is_dead_in h o);
  strong = strong_in h o;
  unowned = unowned_in h o;
  weak = weak_in h o;
}

abbrev pub left_in : HeapView → ObjectId → Option LeftObject
left_in h o = cond (is_unfreed h o) (Some (left_of h o)) None

abbrev pub all_left : HeapView → List LeftObject
all_left h = filter_map (λ n. left_in h (object_number n)) (range_with_len 0 (length h.objects))

abbrev pub left_after : MachineView → RunEnd → List LeftObject
left_after st (end.Returned l) = all_left st.heap
left_after st (end.CondFail g p) = []
left_after st end.Unreachable = []
left_after st end.Unowned = []
left_after st end.Escaped = []
left_after st end.Depth = []
left_after st end.OutOfTurns = []
left_after st (end.Fault x) = []

-- the outcome that is told of the machine's stop, with this ending
abbrev pub outcome_told : MachineView → RunEnd → Ending LowFault → Outcome LowFault
outcome_told st end e = record { events = st.events; ending = e; left = left_after st end; retains = st.heap.retains; releases = st.heap.releases }
