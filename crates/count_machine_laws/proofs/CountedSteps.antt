-- What the machine does when it retains or releases is what the run does.
use Rattle.std.proofs.Common.{◌≡◌, ◌+◌, ℕ, List, [], ◌∷◌, Bool, true, false, refl, ap, ◌∙◌}
use Rattle.std.proofs.lemmas.Bool.{cond-false, cond-true}
use Rattle.count_heap.specs.HeapModel.HeapCalls.{retained}
use Rattle.count_heap.specs.HeapModel.HeapViews.{HeapView, is_dead_in}
use Rattle.count_machine_model.specs.holder_model.Outcomes.{Numbers}
use Rattle.count_machine_model.specs.holder_model.LoweredRun.LowStepParts.{LowNext, LowState, fails, retains_each}
use Rattle.count_machine_model.specs.holder_model.LoweredRun.Stored.{changed, one_more}
use Rattle.count_machine_model.specs.holder_model.declared.lowered_run.low_fault.LowFault.TheVariants as fault
use Rattle.count_machine_model.specs.MachineSteps.Operands.{faults}
use Rattle.count_machine_model.specs.MachineSteps.Turning.{retains_all}
use Rattle.count_machine_model.specs.MachineSteps.Views.{MachineView, Went}
use Rattle.holder_model_values.specs.RunValues.Memory.{is_dead}
use Rattle.sil_ast.specs.declared.module.Module.{Module}
use Rattle.sil_ast.specs.declared.place.ObjectId.{ObjectId}
use Rattle.count_machine_laws.proofs.Agreement.{PartsAgree}
use Rattle.count_machine_laws.proofs.Counted.{memory_retained}
use Rattle.count_machine_laws.proofs.Numbers.{dead_agrees}
use Rattle.count_machine_laws.proofs.Objects.{is_of_class}
use Rattle.count_machine_laws.proofs.Slots.{Made}

module _ (m : Module) (made : List Made) where
  pub parts_retained : (s : LowState) (st : MachineView) (o : ObjectId) → PartsAgree m made s st
      → PartsAgree m made (record s { numbers = changed one_more s.numbers o; retains = s.retains + 1 }) (record st { heap = retained st.heap o })
  parts_retained s st o a = record {
    memory = memory_retained m made s.memory s.numbers st o a.memory;
    events = a.events;
    turns = a.turns;
    retains = ap (λ n. n + 1) a.retains;
    releases = a.releases;
  }

  -- retains: all of the objects are retained, or one of them is dead

  pub data RetainsSo (s : LowState) (st : MachineView) (os : List ObjectId) : Type 0 where
    all : (ns : List Numbers) (n : ℕ) (h : HeapView) → PartsAgree m made (record s { numbers = ns; retains = n }) (record st { heap = h })
        → ((go : LowState → LowNext) → retains_each os s go ≡ go (record s { numbers = ns; retains = n }))
        → ((go : MachineView → Went) → retains_all os st go ≡ go (record st { heap = h })) → RetainsSo s st os
    one_dead : (o : ObjectId) (ns : List Numbers) (n : ℕ) (h : HeapView) → PartsAgree m made (record s { numbers = ns; retains = n }) (record st { heap = h })
        → ((go : LowState → LowNext) → retains_each os s go ≡ fails (record s { numbers = ns; retains = n }) (fault.Dead o))
        → ((go : MachineView → Went) → retains_all os st go ≡ faults (fault.Dead o) (record st { heap = h })) → RetainsSo s st os

  module _ (s : LowState) (st : MachineView) (o : ObjectId) (os : List ObjectId) (agree : is_dead_in st.heap o ≡ is_dead s.memory o) (alive : is_dead s.memory o ≡ false) where
    retains_more : RetainsSo (record s { numbers = changed one_more s.numbers o; retains = s.retains + 1 }) (record st { heap = retained st.heap o }) os → RetainsSo s st (o ∷ os)
    retains_more (all ns n h a run mach) =
        all ns n h a (λ go. cond-false (is_dead s.memory o) _ _ alive ∙ run go) (λ go. cond-false (is_dead_in st.heap o) _ _ (agree ∙ alive) ∙ mach go)
    retains_more (one_dead p ns n h a run mach) =
        one_dead p ns n h a (λ go. cond-false (is_dead s.memory o) _ _ alive ∙ run go) (λ go. cond-false (is_dead_in st.heap o) _ _ (agree ∙ alive) ∙ mach go)

  pub retains_so : (os : List ObjectId) (s : LowState) (st : MachineView) → PartsAgree m made s st → RetainsSo s st os
  retains_so [] s st a = all s.numbers s.retains st.heap a (λ go. refl) (λ go. refl)
  retains_so (o ∷ os) s st a =
      at (is_dead s.memory o) refl
      (retains_so os (record s { numbers = changed one_more s.numbers o; retains = s.retains + 1 }) (record st { heap = retained st.heap o }) (parts_retained s st o a))
    where
      agree : is_dead_in st.heap o ≡ is_dead s.memory o
      agree = dead_agrees m (is_of_class m s.memory) s.memory s.numbers st.heap o a.memory.objects

      at : (b : Bool) → is_dead s.memory o ≡ b
          → RetainsSo (record s { numbers = changed one_more s.numbers o; retains = s.retains + 1 }) (record st { heap = retained st.heap o }) os → RetainsSo s st (o ∷ os)
      at true d others = one_dead o s.numbers s.retains st.heap a (λ go. cond-true (is_dead s.memory o) _ _ d) (λ go. cond-true (is_dead_in st.heap o) _ _ (agree ∙ d))
      at false d others = retains_more s st o os agree d others
