-- A frame goes on in the state that a call left.
use Rattle.std.proofs.Common.{◌≡◌, ℕ, ◌+◌, List, [], ◌∷◌, true, Option, None, ap, subst, sym}
use Rattle.std.specs.declared.result.Result.{Result}
use Rattle.count_machine_model.specs.declared.machine_steps.frame.Frame.{Frame}
use Rattle.count_machine_model.specs.MachineSteps.Operands.{is_there_in, put, put_there, unless_missing, with_all}
use Rattle.count_machine_model.specs.MachineSteps.Views.{MachineView, Went}
use Rattle.count_machine_model.specs.declared.ready_code.function.ReadyModule.{ReadyModule}
use Rattle.count_machine_model.specs.declared.ready_code.op.ReadyOp.{ReadyOp}
use Rattle.count_machine_model.specs.declared.ready_code.local.Local.{Local}
use Rattle.holder_model_values.specs.declared.run_values.leaf.Leaf.{Leaf}
use Rattle.sil_ast.specs.declared.place.ValueId.{ValueId}
use Rattle.count_machine_leaves.proofs.LeafWindows.LaidOver.{laid_over-nil}
use Rattle.count_machine_state.specs.GoingOn.{GoesOn}
use Rattle.count_machine_rows.specs.Performing.{PerformsIn}
use Rattle.count_machine_state.specs.Went.{HasGone}
use Rattle.count_machine_state.specs.declared.stop.Stop.{Stop}

-- where every value is there that an instruction reads
pub all_there : (found : Option ValueId) (st new : MachineView) (went : Went) (result : Result (Unit {0}) Stop) → None ≡ found →
    HasGone went result new → HasGone (unless_missing found st went) result new
all_there found st new went result is goes = subst (λ (v : Option ValueId). HasGone (unless_missing v st went) result new) is goes

-- where the one value is there that it reads
pub one_there : (st new : MachineView) (fr : Frame) (v : ValueId) (went : Went) (result : Result (Unit {0}) Stop) → is_there_in st fr v ≡ true →
    HasGone went result new → HasGone (with_all st fr (v ∷ []) went) result new
one_there st new fr v went result there goes = rw there goes

-- a result that is given after a change
pub gives_in : (fr : Frame) (to : Local) (ls : List Leaf) (after given new : MachineView) (result : Result (Unit {0}) Stop) → after ≡ given →
    GoesOn after fr (put after fr to ls) result new → GoesOn given fr (put given fr to ls) result new
gives_in fr to ls after given new result is goes = subst (λ (st : MachineView). GoesOn st fr (put st fr to ls) result new) is goes

-- an instruction is performed, as one that it is equal to
pub performed : (ready : ReadyModule) (bound : ℕ) (old new : MachineView) (fr : Frame) (o p : ReadyOp) (result : Result (Unit {0}) Stop) → p ≡ o →
    PerformsIn ready bound old fr o result new → PerformsIn ready bound old fr p result new
performed ready bound old new fr o p result is goes = subst (λ (x : ReadyOp). PerformsIn ready bound old fr x result new) (sym is) goes

-- a value that has no leaves
pub put_nothing : (st : MachineView) (fr : Frame) (to : Local) → put_there st fr to.value ≡ put st fr to []
put_nothing st fr to = ap (λ (leaves : List Leaf). put_there (record st { leaves = leaves }) fr to.value) (sym (laid_over-nil (fr.leaves + to.at) st.leaves))
