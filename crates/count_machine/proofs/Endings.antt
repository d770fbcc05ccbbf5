-- What is told of a run is that for which the machine's stop stands.
use Rattle.std.proofs.Common.{◌≡◌, ◌∙◌, ℕ, List, [], refl, sym, ap}
use Rattle.std.specs.Prelude.{option_and_then, unwrap_or}
use Rattle.count_heap.specs.HeapModel.HeapViews.{HeapView}
use Rattle.holder_model.specs.declared.trap.Trap.TheVariants as trap
use Rattle.holder_model.specs.States.{Ending}
use Rattle.sil_cfg_items.specs.Parts.{inst_at}
use Rattle.holder_model.specs.declared.lowered_run.low_fault.LowFault.{LowFault}
use Rattle.count_machine_laws.specs.inner.Told.{IsEnding, cond_fail, depth, escaped, fault, out_of_turns, returned, returned_leaves, unowned, unreachable}
use Rattle.count_machine_laws.specs.inner.Told as stopped
use Rattle.count_machine_model.specs.declared.machine_steps.run_end.RunEnd.{RunEnd}
use Rattle.count_machine_model.specs.declared.machine_steps.run_end.RunEnd.TheVariants as stop
use Rattle.count_machine_laws.specs.inner.Told.{all_left}
use Rattle.count_machine_model.specs.MachineSteps.Views.{MachineView}
use Rattle.count_machine_model.specs.declared.ready_code.local.Local.{Local}
use Rattle.holder_model_values.specs.RunValues.Leaves.{value_of}
use Rattle.holder_model_values.specs.RunValues.Shapes.{Shape}
use Rattle.holder_model_values.specs.declared.run_values.leaf.Leaf.{Leaf}
use Rattle.holder_model_values.specs.declared.run_values.value.Val.{Val}
use Rattle.sil_ast.specs.declared.module.Module.{Module}
use Rattle.sil_ast.specs.declared.place.FuncId.{FuncId}
use Rattle.sil_ast.specs.declared.place.PointId.{PointId}
use Rattle.count_machine.specs.ValueReading.inner.Reading.{IsValueOf}
use Rattle.count_machine.specs.declared.low_run.LowEnd.TheVariants as end
use Rattle.count_machine.specs.declared.low_run.LowRun.{LowRun}
use Rattle.count_machine.specs.LowRuns.{HeapIsAsTold, ending_told, left_after}
use Rattle.count_machine.specs.inner.Stopped.{IsToldAs, TellsOf, inst_in, text_in}

module _ (m : Module) (s : Shape) (st : MachineView) where
  pub returned_told : (l : Local) (ls : List Leaf) (v : Val) → ls ≡ returned_leaves st l → IsValueOf s ls v → IsToldAs m s st (stop.Returned l) (end.Returned v)
  returned_told l ls v same is _ (returned _ x has) = ap (λ w. end.Returned w) (is x (ap (value_of s) same ∙ has))

  pub message_told : (g : FuncId) (p : PointId) (text : List ℕ) → text ≡ text_in (inst_in m g p)
      → IsToldAs m s st (stop.CondFail g p) (end.Trap (trap.CondFail text))
  message_told g p text same _ (cond_fail _ _ f i message there at has) =
      ap (λ t. end.Trap (trap.CondFail t))
      (same ∙ ap (λ x. text_in (option_and_then (λ f. inst_at f p) x)) there ∙ ap text_in at ∙ ap (λ t. unwrap_or t []) has)

  -- none is left but after a return
  left_told : (h : HeapView) (end : RunEnd) (x : Ending LowFault) → IsEnding m s st end x → st.heap ≡ h → left_after h (ending_told x) ≡ stopped.left_after st end
  left_told h _ _ (returned l x has) same = ap all_left (sym same)
  left_told h _ _ (cond_fail g p f i text there at has) same = refl
  left_told h _ _ unreachable same = refl
  left_told h _ _ unowned same = refl
  left_told h _ _ escaped same = refl
  left_told h _ _ depth same = refl
  left_told h _ _ out_of_turns same = refl
  left_told h _ _ (fault x) same = refl

  pub outcome_told_so : (end : RunEnd) (run : LowRun) → IsToldAs m s st end run.ending → run.events ≡ st.events → run.heap ≡ st.heap → HeapIsAsTold run
      → TellsOf m s st end run
  outcome_told_so end run tells events heap is x ends =
      let ending = tells x ends in
      let left : run.left ≡ stopped.left_after st end = is.left ∙ ap (left_after run.heap) ending ∙ left_told run.heap end x ends (sym heap) in
      let retains : run.retains ≡ st.heap.retains = sym is.retains ∙ ap (λ (h : HeapView). h.retains) heap in
      let releases : run.releases ≡ st.heap.releases = sym is.releases ∙ ap (λ (h : HeapView). h.releases) heap in
      record { ending = ending; outcome = rw (events, left, retains, releases); heap = heap }
