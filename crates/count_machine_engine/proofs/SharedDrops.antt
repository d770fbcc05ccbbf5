-- What a frame does within its block is a step, and a drop that takes no last reference is two.
use Rattle.std.proofs.Common.{◌≡◌, ℕ, ◌-◌, ◌≤◌, ◌==◌, Bool, true, false, ◌&&◌, not, cond, List, [], ◌∷◌, ◌++◌, Some, None, length, refl, sym, ap, subst, ◌∙◌, arith}
use Rattle.std.specs.Prelude.{Err, Ok, slice_get, take}
use Rattle.std.specs.declared.result.Result.{Result}
use Rattle.std.proofs.lemmas.Bool.Decides.{nat_tests}
use Rattle.std.proofs.lemmas.List.{length-append}
use Rattle.std.proofs.lemmas.Option.{slice_get_within}
use Rattle.std.proofs.Math.Seq.{take-append_seam}
use Rattle.count_heap.specs.HeapModel.HeapCalls.{released}
use Rattle.count_heap.specs.HeapModel.HeapViews.{phase_in, strong_in}
use Rattle.holder_model.specs.declared.lowered_run.low_fault.LowFault.TheVariants as fault
use Rattle.count_machine_model.specs.declared.ready_code.block.ReadyBlock.{ReadyBlock}
use Rattle.count_machine_model.specs.declared.ready_code.function.ReadyModule.{ReadyModule}
use Rattle.count_machine_model.specs.declared.ready_code.local.Local.{Local}
use Rattle.count_machine_model.specs.declared.ready_code.op.ReadyOp.{ReadyOp}
use Rattle.count_machine_model.specs.declared.ready_code.op.ReadyOp.TheVariants as op
use Rattle.holder_model_values.specs.RunValues.Memory.{is_live_phase}
use Rattle.holder_model_values.specs.declared.run_values.leaf.Leaf.{Leaf}
use Rattle.holder_model_values.specs.declared.run_values.leaf.Leaf.TheVariants as leaf
use Rattle.sil_ast.specs.declared.place.ObjectId.{ObjectId}
use Rattle.count_machine_model.specs.declared.machine_steps.frame.Frame.{Frame}
use Rattle.count_machine_model.specs.declared.machine_steps.frame.Task.{Task}
use Rattle.count_machine_model.specs.declared.machine_steps.frame.Task.TheVariants as task
use Rattle.count_machine_model.specs.MachineSteps.Ends.{block_at}
use Rattle.count_machine_model.specs.MachineSteps.Operands.{behind_op, contents, faults, go_on, objects_among, unless_missing}
use Rattle.count_machine_model.specs.MachineSteps.Places as p
use Rattle.count_machine_model.specs.MachineSteps.Rows.{performs}
use Rattle.count_machine_model.specs.MachineSteps.Steps.{deinitialises, drops_last, machine_step, releases, releases_alive, still_dropping}
use Rattle.count_machine_model.specs.MachineSteps.Views.{Goes, MachineView}
use Rattle.count_machine_state.specs.Went.{HasGone}
use Rattle.count_machine_state.specs.declared.stop.Stop.{Stop}
use Rattle.count_machine_state.specs.declared.stop.Stop.TheVariants as stop
use Rattle.count_machine_engine.specs.inner.Advanced.{HasAdvanced, IsShared}
use Rattle.count_machine_engine.proofs.Followed.{ended-on, leads-on, leads-self, step-falls}
use Rattle.count_machine_engine.proofs.Stretched.{not_dropping, op-gone, stays}
use Rattle.count_machine_engine.proofs.Working.{behind_op-less, work-same_turns}

-- the object that one leaf is

one-object : (ls : List Leaf) (o : ObjectId) → Some o ≡ slice_get (objects_among (take 1 ls)) 0 → objects_among (take 1 ls) ≡ o ∷ []
one-object [] o e = cc
one-object (leaf.Int n ∷ ls) o e = cc
one-object (leaf.Object x ∷ ls) o e = let same : x ≡ o = cc in ap (λ y. y ∷ []) same
one-object (leaf.Tag k ∷ ls) o e = cc
one-object (leaf.Blank ∷ ls) o e = cc

pub alone : (size : ℕ) (ls : List Leaf) (o : ObjectId) → size ≡ 1 → Some o ≡ slice_get (objects_among (take size ls)) 0 → objects_among (take size ls) ≡ o ∷ []
alone size ls o one e = subst (λ n. Some o ≡ slice_get (objects_among (take n ls)) 0 → objects_among (take n ls) ≡ o ∷ []) (sym one) (one-object ls o) e

-- the last of the references that wait

slice_get-seam : {A : Type 0} (xs : List A) (x : A) → slice_get (xs ++ x ∷ []) (length xs) ≡ Some x
slice_get-seam [] x = refl
slice_get-seam (y ∷ ys) x = slice_get-seam ys x

last-place : {A : Type 0} (xs : List A) (x : A) → length (xs ++ x ∷ []) - 1 ≡ length xs
last-place xs x = omega (arith, length-append xs (x ∷ []))

-- an object that has another reference doesn't lose its last one

not_last : (b : Bool) (n : ℕ) → 2 ≤ n → (b && n == 1) ≡ false
not_last true n h = grind (arith, nat_tests)
not_last false n h = refl

not_none : (n : ℕ) → 2 ≤ n → (n == 0) ≡ false
not_none n h = grind (arith, nat_tests)

same-length : (n : ℕ) → (n == n) ≡ true
same-length n = grind (arith, nat_tests)

module _ (ready : ReadyModule) (bound : ℕ) (st : MachineView) (fr : Frame) (rest : List Task) (b : ReadyBlock) (top : st.tasks ≡ task.Runs fr ∷ rest)
    (at : block_at ready fr.function fr.block ≡ Some b) where
  pub one-advanced : (o : ReadyOp) → slice_get b.ops fr.index ≡ Some o → (result : Result (Unit {0}) Stop) (new : MachineView) →
      HasGone (performs ready bound st fr rest o) result new → HasAdvanced ready bound st fr rest result new
  one-advanced o e (Ok u) new gone =
      let step : machine_step ready bound st ≡ Goes new = op-gone ready bound st fr rest b top (Ok u) new at o e gone in (
        leads-on ready bound st st (Goes new) (leads-self ready bound st) step,
        step-falls ready bound st new (not_dropping ready bound st fr rest b top) step,
        stays ready bound st fr rest b top o new gone,
      )
  one-advanced o e (Err stop) new gone = ended-on ready bound st st new stop (leads-self ready bound st) (op-gone ready bound st fr rest b top (Err stop) new at o e gone)

  module _ (l : Local) (e : slice_get b.ops fr.index ≡ Some (op.Drop l)) (o : ObjectId) (shared : IsShared st fr l o) where
    abbrev waits : MachineView
    waits = record st { waiting = st.waiting ++ o ∷ []; tasks = task.Drops (length st.waiting) ∷ task.Runs (behind_op fr) ∷ rest }

    abbrev after : MachineView
    after = record st { heap = released st.heap o; tasks = task.Runs (behind_op fr) ∷ rest }

    performed : performs ready bound st fr rest (op.Drop l) ≡ Goes waits
    performed =
        ap (λ t. unless_missing (cond (not t) (Some l.value) None) st (p.drops st fr rest (objects_among (contents st fr l)))) shared.0
        ∙ ap (p.drops st fr rest) shared.1

    first : machine_step ready bound st ≡ Goes waits
    first = op-gone ready bound st fr rest b top (Ok tt) waits at (op.Drop l) e performed

    abbrev left : MachineView
    left = record st { tasks = task.Runs (behind_op fr) ∷ rest }

    released-there : releases ready bound left o ≡ Goes after
    released-there =
        ap (λ t. cond t (faults (fault.Dead o) left) (cond (strong_in st.heap o == 0) (faults (fault.Underflow o 0) left) (releases_alive ready bound left o))) shared.2
        ∙ ap (λ t. cond t (faults (fault.Underflow o 0) left) (releases_alive ready bound left o)) (not_none (strong_in st.heap o) shared.3)
        ∙ ap (λ t. cond t (deinitialises ready bound after o) (Goes after)) (not_last (is_live_phase (phase_in st.heap o)) (strong_in st.heap o) shared.3)

    dropped : machine_step ready bound waits ≡ Goes after
    dropped =
        let below : List Task = task.Runs (behind_op fr) ∷ rest in let from = length st.waiting in
        ap (λ n. drops_last ready bound waits from below n (slice_get waits.waiting n)) (last-place st.waiting o)
        ∙ ap (drops_last ready bound waits from below from) (slice_get-seam st.waiting o)
        ∙ ap (λ os. releases ready bound (record waits { waiting = os; tasks = still_dropping ready bound from from below }) o) (take-append_seam st.waiting (o ∷ []))
        ∙ ap (λ t. releases ready bound (record waits { waiting = st.waiting; tasks = cond t below (task.Drops from ∷ below) }) o) (same-length from)
        ∙ released-there

    pub shared-advanced : (result : Result (Unit {0}) Stop) (new : MachineView) → HasGone (go_on (record st { heap = released st.heap o }) fr rest) result new →
        HasAdvanced ready bound st fr rest result new
    shared-advanced (Ok u) new gone =
        let same : after ≡ new = cc in
        subst (λ x. HasAdvanced ready bound st fr rest (Ok u) x) same (
          leads-on ready bound st waits (Goes after) (leads-on ready bound st st (Goes waits) (leads-self ready bound st) first) dropped,
          work-same_turns ready bound st after refl (rw top (omega (arith, behind_op-less ready fr b at (slice_get_within b.ops fr.index (op.Drop l) e)))),
          λ _. refl,
        )
    shared-advanced (Err (stop.Ends x)) new gone = cc
    shared-advanced (Err stop.Memory) new gone = tt
