-- How a step goes on behind a test or a turn that went well.
use Rattle.std.proofs.Common.{◌≡◌, ℕ, ◌+◌, Bool, true, false, cond, List, None, sym, ap}
use Rattle.std.specs.Prelude.{find, nat_lt}
use Rattle.sil_ast.specs.declared.place.ValueId.{ValueId}
use Rattle.count_machine_model.specs.declared.machine_steps.frame.Frame.{Frame}
use Rattle.count_machine_model.specs.declared.machine_steps.run_end.RunEnd.{RunEnd}
use Rattle.count_machine_model.specs.declared.machine_steps.run_end.RunEnd.TheVariants as end
use Rattle.holder_model.specs.declared.limits.TheConstants.{FRAMES}
use Rattle.count_machine_model.specs.MachineSteps.Calling.{enter}
use Rattle.count_machine_model.specs.MachineSteps.Operands.{is_missing, unless_missing, with_all}
use Rattle.count_machine_model.specs.MachineSteps.Turning.{frames_in, turn}
use Rattle.count_machine_model.specs.MachineSteps.Views.{Goes, MachineView, Stops, Went}

cond-goes : (b : Bool) (st st1 : MachineView) (x : RunEnd) (at : MachineView) (go : MachineView → Went) → cond b (Goes st1) (Stops x at) ≡ Goes st → cond b (go st1) (Stops x at) ≡ go st
cond-goes true st st1 x at go e = let same : st1 ≡ st = cc in ap go same
cond-goes false st st1 x at go e = cc

-- a turn that was taken
pub turn-on : (bound : ℕ) (st after : MachineView) (go : MachineView → Went) → turn bound st Goes ≡ Goes after → turn bound st go ≡ go after
turn-on bound st after go e = cond-goes (nat_lt st.turns bound) after (record st { turns = st.turns + 1 }) end.OutOfTurns st go e

cond-taken : (b : Bool) (st st1 : MachineView) (x : RunEnd) (at : MachineView) → cond b (Goes st1) (Stops x at) ≡ Goes st → st1 ≡ st
cond-taken true st st1 x at e = cc
cond-taken false st st1 x at e = cc

pub turn-taken : (bound : ℕ) (st after : MachineView) → turn bound st Goes ≡ Goes after → after ≡ record st { turns = st.turns + 1 }
turn-taken bound st after e = sym (cond-taken (nat_lt st.turns bound) after (record st { turns = st.turns + 1 }) end.OutOfTurns st e)

-- values that are there
pub with_all-on : (st : MachineView) (fr : Frame) (vs : List ValueId) (w : Went) → find (is_missing st fr) vs ≡ None → with_all st fr vs w ≡ w
with_all-on st fr vs w e = ap (λ v. unless_missing v st w) e

cond-entered : (b : Bool) (bound : ℕ) (st after : MachineView) (go : MachineView → Went) →
    cond b (turn bound st Goes) (Stops end.Depth st) ≡ Goes after → cond b (turn bound st go) (Stops end.Depth st) ≡ go after
cond-entered true bound st after go e = turn-on bound st after go e
cond-entered false bound st after go e = cc

-- a frame that may be entered
pub enter-on : (bound : ℕ) (st after : MachineView) (go : MachineView → Went) → enter bound st Goes ≡ Goes after → enter bound st go ≡ go after
enter-on bound st after go e = cond-entered (nat_lt (frames_in st.tasks) FRAMES) bound st after go e
