-- What the code does for a drop is what the drop does.
use Rattle.std.proofs.Common.{◌≡◌, ℕ, ◌-◌, ◌==◌, Bool, true, false, cond, List, ◌∷◌, Some, length, refl, sym, ap, ◌∙◌, arith}
use Rattle.std.specs.Prelude.{slice_get, take}
use Rattle.std.specs.declared.result.Result.{Result}
use Rattle.std.proofs.lemmas.Bool.Decides.{nat_tests}
use Rattle.std.proofs.lemmas.List.{length-take-le}
use Rattle.count_heap.specs.HeapModel.HeapCalls.{release_answer, released, takes_last}
use Rattle.count_heap.specs.HeapModel.HeapViews.{is_dead_in, strong_in}
use Rattle.count_heap.specs.declared.heap_model.released.Released.TheVariants.{Held, LastGone}
use Rattle.holder_model.specs.declared.lowered_run.low_fault.LowFault.TheVariants as fault
use Rattle.count_machine_model.specs.declared.ready_code.function.ReadyModule.{ReadyModule}
use Rattle.sil_ast.specs.declared.place.ObjectId.{ObjectId}
use Rattle.count_machine_model.specs.declared.machine_steps.frame.Task.{Task}
use Rattle.count_machine_model.specs.declared.machine_steps.frame.Task.TheVariants as task
use Rattle.count_machine_model.specs.MachineSteps.Operands.{faults}
use Rattle.count_machine_model.specs.MachineSteps.Steps.{deinitialises, drops, drops_last, releases, releases_alive, still_dropping}
use Rattle.count_machine_model.specs.MachineSteps.Views.{Goes, MachineView}
use Rattle.count_machine_state.specs.Went.{HasGone}
use Rattle.count_machine_state.specs.declared.stop.Stop.{Stop}
use Rattle.count_machine_engine.proofs.Leaving.{gone-along}

is_last : (b : Bool) → LastGone ≡ cond b LastGone Held → b ≡ true
is_last true e = refl
is_last false e = cc

not_none : (n : ℕ) → (n ≡ 0 → ⊥) → (n == 0) ≡ false
not_none n h = grind (arith, nat_tests)

module _ (result : Result (Unit {0}) Stop) (new : MachineView) (ready : ReadyModule) (bound : ℕ) where
  pub last-released : (st after : MachineView) (o : ObjectId) → false ≡ is_dead_in st.heap o → (strong_in st.heap o ≡ 0 → ⊥) → LastGone ≡ release_answer st.heap o →
      after ≡ record st { heap = released st.heap o } → HasGone (deinitialises ready bound after o) result new → HasGone (releases ready bound st o) result new
  last-released st after o dead some answer is h =
      gone-along result new _ _
      (ap (λ b. cond b (faults (fault.Dead o) st) (cond (strong_in st.heap o == 0) (faults (fault.Underflow o 0) st) (releases_alive ready bound st o))) (sym dead)
      ∙ ap (λ b. cond b (faults (fault.Underflow o 0) st) (releases_alive ready bound st o)) (not_none (strong_in st.heap o) some)
      ∙ ap (λ b. cond b (deinitialises ready bound (record st { heap = released st.heap o }) o) (Goes (record st { heap = released st.heap o }))) (is_last (takes_last st.heap o) answer)
      ∙ ap (λ x. deinitialises ready bound x o) (sym is))
      h

  pub next-dropped : (st taken ended : MachineView) (from : ℕ) (rest : List Task) (o : ObjectId) → st.tasks ≡ task.Drops from ∷ rest →
      Some o ≡ slice_get st.waiting (length st.waiting - 1) → taken ≡ record st { waiting = take (length st.waiting - 1) st.waiting } →
      ((ready' : ReadyModule) (bound' : ℕ) (rest' : List Task) → taken.tasks ≡ task.Drops from ∷ rest'
      → ended ≡ record taken { tasks = still_dropping ready' bound' from (length taken.waiting) rest' }) →
      HasGone (releases ready bound ended o) result new → HasGone (drops ready bound st from rest) result new
  next-dropped st taken ended from rest o top next taking ending h =
      let left = length st.waiting - 1 in
      let count : length taken.waiting ≡ left = ap (λ x. length x.waiting) taking ∙ length-take-le left st.waiting (omega arith) in
      let ended-is : ended ≡ record st { waiting = take left st.waiting; tasks = still_dropping ready bound from left rest } =
      ending ready bound rest (ap (λ x. x.tasks) taking ∙ top) ∙ ap (λ n. record taken { tasks = still_dropping ready bound from n rest }) count
      ∙ ap {B = MachineView} (λ (x : MachineView). record x { tasks = still_dropping ready bound from left rest }) taking in
      gone-along result new _ _ (ap (drops_last ready bound st from rest left) (sym next) ∙ ap (λ x. releases ready bound x o) (sym ended-is)) h
