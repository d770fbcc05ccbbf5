-- What the code does at a terminator other than an edge is what the terminator does.
use Rattle.std.proofs.Common.{◌≡◌, ℕ, true, false, not, cond, List, [], ◌∷◌, Some, None, length, eq-eqb, refl, sym, ap, subst, ◌∙◌}
use Rattle.std.specs.Prelude.{find, slice_get}
use Rattle.std.specs.declared.result.Result.{Result}
use Rattle.count_heap.specs.HeapModel.HeapViews.{is_dead_in}
use Rattle.holder_model.specs.Builtins.{is_set}
use Rattle.holder_model.specs.declared.lowered_run.low_fault.LowFault.TheVariants as fault
use Rattle.count_machine_model.specs.declared.ready_code.block.ReadyEdge.{ReadyEdge}
use Rattle.count_machine_model.specs.declared.ready_code.block.ReadyEnd.TheVariants.{Branch}
use Rattle.count_machine_model.specs.declared.ready_code.function.ReadyModule.{ReadyModule}
use Rattle.count_machine_model.specs.declared.ready_code.local.Local.{Local}
use Rattle.sil_ast.specs.declared.place.ValueId.{ValueId}
use Rattle.count_machine_model.specs.declared.machine_steps.frame.Frame.{Frame}
use Rattle.count_machine_model.specs.declared.machine_steps.frame.Task.{Task}
use Rattle.count_machine_model.specs.declared.machine_steps.frame.Task.TheVariants.{Drops, Finishes, Runs}
use Rattle.count_machine_model.specs.MachineSteps.Calling.{without_frame}
use Rattle.count_machine_model.specs.MachineSteps.Ends.{awaited, ends_with, given_back, leaves_run, returns, returns_to, takes_edge}
use Rattle.count_machine_model.specs.MachineSteps.Operands.{contents, faults, gives, int_among, is_there_in, objects_among, unless_missing, with_all}
use Rattle.count_machine_model.specs.MachineSteps.Views.{MachineView, Went}
use Rattle.count_machine_state.specs.Went.{HasGone}
use Rattle.count_machine_state.specs.declared.stop.Stop.{Stop}

module _ (result : Result (Unit {0}) Stop) (new : MachineView) where
  pub gone-along : (w v : Went) → v ≡ w → HasGone w result new → HasGone v result new
  gone-along w v e h = subst (λ x. HasGone x result new) (sym e) h

  -- the one value that is read is there
  pub gone-there : (st : MachineView) (fr : Frame) (v : ValueId) (w : Went) → true ≡ is_there_in st fr v → HasGone w result new → HasGone (with_all st fr (v ∷ []) w) result new
  gone-there st fr v w e h =
      gone-along w (with_all st fr (v ∷ []) w) (ap (λ b. unless_missing (cond (not b) (Some v) None) st w) (sym e)) h

  module _ (ready : ReadyModule) (bound : ℕ) (st : MachineView) (fr : Frame) (rest : List Task) where
    pub gone-set : (l : Local) (set clear : ReadyEdge) → true ≡ is_there_in st fr l.value → true ≡ is_set (int_among (contents st fr l)) →
        HasGone (takes_edge ready bound st fr rest set) result new → HasGone (ends_with ready bound st fr rest (Branch l set clear)) result new
    gone-set l set clear there is h =
        gone-there st fr l.value _ there (gone-along _ _ (ap (λ b. cond b (takes_edge ready bound st fr rest set) (takes_edge ready bound st fr rest clear)) (sym is)) h)

    pub gone-clear : (l : Local) (set clear : ReadyEdge) → true ≡ is_there_in st fr l.value → false ≡ is_set (int_among (contents st fr l)) →
        HasGone (takes_edge ready bound st fr rest clear) result new → HasGone (ends_with ready bound st fr rest (Branch l set clear)) result new
    gone-clear l set clear there is h =
        gone-there st fr l.value _ there (gone-along _ _ (ap (λ b. cond b (takes_edge ready bound st fr rest set) (takes_edge ready bound st fr rest clear)) (sym is)) h)

    -- returns

    gone-back : (l : Local) → length st.slots ≡ fr.slots → HasGone (returns_to ready bound st fr rest l rest) result new → HasGone (returns ready bound st fr rest l) result new
    gone-back l e h = gone-along _ _ (ap (λ b. cond b (returns_to ready bound st fr rest l rest) (faults fault.Slot st)) (eq-eqb (length st.slots) fr.slots e)) h

    pub gone-out : (l : Local) → length st.slots ≡ fr.slots → st.tasks ≡ Runs fr ∷ rest → slice_get st.tasks 1 ≡ None →
        (st.tasks ≡ Runs fr ∷ [] → HasGone (leaves_run ready bound st fr [] l (find (is_dead_in st.heap) (objects_among (contents st fr l)))) result new) →
        HasGone (returns ready bound st fr rest l) result new
    gone-out l slots top none h =
        gone-back l slots (elim rest as (λ ts. st.tasks ≡ Runs fr ∷ ts → HasGone (returns_to ready bound st fr rest l ts) result new) [
          | [] ↦ λ e. h e
          | t ∷ ts ↦ λ e. let below : slice_get st.tasks 1 ≡ Some t = ap (λ xs. slice_get xs 1) e in absurd (cc)
        ] top)

    back-to : (l : Local) (caller : Frame) (to : Local) (ts : List Task) → st.tasks ≡ Runs fr ∷ rest → rest ≡ ts → slice_get st.tasks 1 ≡ Some (Runs caller) → awaited ready caller ≡ Some to →
        ((above below : List Task) → st.tasks ≡ Runs fr ∷ above → above ≡ Runs caller ∷ below → HasGone (gives (without_frame st fr above) caller below to (contents st fr l)) result new) →
        HasGone (returns_to ready bound st fr rest l ts) result new
    back-to l caller to [] top at next waits h = let none : slice_get st.tasks 1 ≡ None = ap (λ xs. slice_get xs 1) (top ∙ ap (λ ts. Runs fr ∷ ts) at) in absurd (cc)
    back-to l caller to (Runs found ∷ below) top at next waits h =
        let below-is : slice_get st.tasks 1 ≡ Some (Runs found) = ap (λ xs. slice_get xs 1) (top ∙ ap (λ ts. Runs fr ∷ ts) at) in
        let same : found ≡ caller = cc in
        gone-along _ _ (ap (λ fr'. given_back ready bound st fr rest (contents st fr l) fr' below (awaited ready fr')) same
        ∙ ap (λ o. given_back ready bound st fr rest (contents st fr l) caller below o) waits)
        (h rest below top (at ∙ ap (λ fr'. Runs fr' ∷ below) same))
    back-to l caller to (Drops from ∷ below) top at next waits h = let below-is : slice_get st.tasks 1 ≡ Some (Drops from) = ap (λ xs. slice_get xs 1) (top ∙ ap (λ ts. Runs fr ∷ ts) at) in absurd (cc)
    back-to l caller to (Finishes o called ∷ below) top at next waits h = let below-is : slice_get st.tasks 1 ≡ Some (Finishes o called) = ap (λ xs. slice_get xs 1) (top
        ∙ ap (λ ts. Runs fr ∷ ts) at) in absurd (cc)

    pub gone-to_caller : (l : Local) (caller : Frame) (to : Local) → length st.slots ≡ fr.slots → st.tasks ≡ Runs fr ∷ rest → slice_get st.tasks 1 ≡ Some (Runs caller)
        → awaited ready caller ≡ Some to →
        ((above below : List Task) → st.tasks ≡ Runs fr ∷ above → above ≡ Runs caller ∷ below → HasGone (gives (without_frame st fr above) caller below to (contents st fr l)) result new) →
        HasGone (returns ready bound st fr rest l) result new
    gone-to_caller l caller to slots top next waits h = gone-back l slots (back-to l caller to rest top refl next waits h)
