-- Where a terminator leads: by an edge to a block, to the caller behind its call, or to what waits below the frame.
use Rattle.std.proofs.Common.{◌≡◌, ℕ, ◌+◌, ◌<◌, ◌==◌, List, [], ◌∷◌, Option, Some, None, length, refl}
use Rattle.std.specs.Prelude.{find, map, slice_get}
use Rattle.std.specs.Prelude.{option_and_then}
use Rattle.count_heap.specs.HeapModel.HeapViews.{is_dead_in}
use Rattle.holder_model.specs.Builtins.{is_set}
use Rattle.count_machine_model.specs.declared.ready_code.block.ReadyCase.{ReadyCase}
use Rattle.count_machine_model.specs.declared.ready_code.block.ReadyEdge.{ReadyEdge}
use Rattle.count_machine_model.specs.declared.ready_code.block.ReadyEnd.{ReadyEnd}
use Rattle.count_machine_model.specs.declared.ready_code.block.ReadyEnd.TheVariants as ready_end
use Rattle.count_machine_model.specs.declared.ready_code.function.ReadyModule.{ReadyModule}
use Rattle.count_machine_model.specs.declared.ready_code.local.Local.{Local}
use Rattle.count_machine_model.specs.declared.ready_code.op.ReadyOp.{ReadyOp}
use Rattle.holder_model_values.specs.declared.run_values.leaf.Leaf.{Leaf}
use Rattle.sil_ast.specs.declared.place.ObjectId.{ObjectId}
use Rattle.count_machine_model.specs.declared.machine_steps.frame.Frame.{Frame}
use Rattle.count_machine_model.specs.declared.machine_steps.frame.Task.{Task}
use Rattle.count_machine_model.specs.declared.machine_steps.frame.Task.TheVariants as task
use Rattle.count_machine_model.specs.MachineSteps.Calling.{carried}
use Rattle.count_machine_model.specs.MachineSteps.Ends as ends
use Rattle.count_machine_model.specs.MachineSteps.Operands.{behind_op, contents, first_leaf, int_among, objects_among}
use Rattle.count_machine_model.specs.MachineSteps.Views.{Goes, MachineView}
use Rattle.count_machine_engine.proofs.Onward.{OnGoing, on-cond, on-turn, on-with_all}
use Rattle.count_machine_engine.proofs.Performing.{carried-turns}

awaited-op : (o : Option ReadyOp) (to : Local) → option_and_then ends.awaited_by o ≡ Some to → (x : ReadyOp) × (o ≡ Some x)
awaited-op None to e = cc
awaited-op (Some x) to e = (x, refl)

module _ (ready : ReadyModule) (bound : ℕ) (st : MachineView) (fr : Frame) (rest : List Task) (P : MachineView → Type 0)
    (by_edge : (after : MachineView) (at : Frame) → st.turns < bound → after.turns ≡ st.turns + 1 → after.tasks ≡ task.Runs at ∷ rest → P after)
    (to_caller : (after : MachineView) (caller : Frame) (below : List Task) (o : ReadyOp) → rest ≡ task.Runs caller ∷ below → ends.op_at ready caller ≡ Some o →
    after.turns ≡ st.turns → after.tasks ≡ task.Runs (behind_op caller) ∷ below → P after)
    (to_rest : (after : MachineView) → after.turns ≡ st.turns → after.tasks ≡ rest → P after)
  where
    takes_edge : (e : ReadyEdge) → OnGoing P (ends.takes_edge ready bound st fr rest e)
    takes_edge e =
        on-with_all P st fr (map ends.carried_value e.values) _
        (on-turn P bound st (λ after. Goes (ends.with_top ready bound st fr rest (carried after fr fr e.values) (ends.in_block fr e.block)))
        (λ lt. by_edge _ (ends.in_block fr e.block) lt (carried-turns (record st { turns = st.turns + 1 }) fr fr e.values) refl))

    payload-turns : (to : Option Local) (ls : List Leaf) (after : MachineView) → (ends.put_payload ready bound st fr rest to ls after).turns ≡ after.turns
    payload-turns None ls after = refl
    payload-turns (Some to) ls after = refl

    takes_case : (ls : List Leaf) (c : Option ReadyCase) → OnGoing P (ends.takes_case ready bound st fr rest ls c)
    takes_case ls None = tt
    takes_case ls (Some c) =
        on-turn P bound st (λ after. Goes (ends.with_top ready bound st fr rest (ends.put_payload ready bound st fr rest c.payload ls after) (ends.in_block fr c.block)))
        (λ lt. by_edge _ (ends.in_block fr c.block) lt (payload-turns c.payload ls (record st { turns = st.turns + 1 })) refl)

    leaves_run : (l : Local) (o : Option ObjectId) → OnGoing P (ends.leaves_run ready bound st fr rest l o)
    leaves_run l None = tt
    leaves_run l (Some o) = tt

    given_back : (ls : List Leaf) (caller : Frame) (below : List Task) (to : Option Local) → rest ≡ task.Runs caller ∷ below → ends.awaited ready caller ≡ to →
        OnGoing P (ends.given_back ready bound st fr rest ls caller below to)
    given_back ls caller below None at e = tt
    given_back ls caller below (Some to) at e =
        let o = awaited-op (ends.op_at ready caller) to e in to_caller _ caller below o.0 at o.1 refl refl

    returns_to : (l : Local) (ts : List Task) → rest ≡ ts → OnGoing P (ends.returns_to ready bound st fr rest l ts)
    returns_to l [] at = leaves_run l (find (is_dead_in st.heap) (objects_among (contents st fr l)))
    returns_to l (task.Runs caller ∷ below) at = given_back (contents st fr l) caller below (ends.awaited ready caller) at refl
    returns_to l (task.Drops from ∷ below) at = to_rest _ refl refl
    returns_to l (task.Finishes o called ∷ below) at = to_rest _ refl refl

    returns : (l : Local) → OnGoing P (ends.returns ready bound st fr rest l)
    returns l = on-cond P (length st.slots == fr.slots) _ _ (λ _. returns_to l rest refl) (λ _. tt)

    pub on-ends : (e : ReadyEnd) → OnGoing P (ends.ends_with ready bound st fr rest e)
    on-ends (ready_end.Jump e) = takes_edge e
    on-ends (ready_end.Branch l set clear) =
        on-with_all P st fr (l.value ∷ []) _
        (on-cond P (is_set (int_among (contents st fr l))) (ends.takes_edge ready bound st fr rest set) (ends.takes_edge ready bound st fr rest clear) (λ _. takes_edge set) (λ _. takes_edge clear))
    on-ends (ready_end.Switch l cases) =
        on-with_all P st fr (l.value ∷ []) _ (takes_case (contents st fr l) (slice_get cases (ends.tag_in_leaf (first_leaf (contents st fr l)))))
    on-ends (ready_end.Return l) = on-with_all P st fr (l.value ∷ []) _ (returns l)
    on-ends ready_end.Unreachable = tt
