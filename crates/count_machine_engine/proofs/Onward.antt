-- What holds of the state to which a step leads on.
use Rattle.std.proofs.Common.{◌≡◌, ℕ, ◌+◌, ◌<◌, Bool, true, false, cond, List, Option, Some, None, refl, arith}
use Rattle.std.specs.Prelude.{nat_lt}
use Rattle.std.proofs.lemmas.Bool.Decides.{nat_tests}
use Rattle.count_machine_model.specs.declared.machine_steps.frame.Frame.{Frame}
use Rattle.count_machine_model.specs.declared.machine_steps.run_end.RunEnd.TheVariants as end
use Rattle.count_machine_model.specs.MachineSteps.Operands.{unless_missing, with_all, is_missing}
use Rattle.count_machine_model.specs.MachineSteps.Calling.{enter}
use Rattle.count_machine_model.specs.MachineSteps.Turning.{frames_in, turn}
use Rattle.count_machine_model.specs.MachineSteps.Views.{Goes, MachineView, Stops, Went}
use Rattle.holder_model.specs.declared.limits.TheConstants.{FRAMES}
use Rattle.std.specs.Prelude.{find}
use Rattle.sil_ast.specs.declared.place.ValueId.{ValueId}

abbrev pub OnGoing : (MachineView → Type 0) → Went → Type 0
OnGoing P (Goes st) = P st
OnGoing P (Stops end st) = Unit {0}

module _ (P : MachineView → Type 0) where
  pub on-cond : (b : Bool) (x y : Went) → (b ≡ true → OnGoing P x) → (b ≡ false → OnGoing P y) → OnGoing P (cond b x y)
  on-cond true x y hx hy = hx refl
  on-cond false x y hx hy = hy refl

  on-missing : (v : Option ValueId) (st : MachineView) (w : Went) → OnGoing P w → OnGoing P (unless_missing v st w)
  on-missing None st w h = h
  on-missing (Some v) st w h = tt

  pub on-with_all : (st : MachineView) (fr : Frame) (vs : List ValueId) (w : Went) → OnGoing P w → OnGoing P (with_all st fr vs w)
  on-with_all st fr vs w h = on-missing (find (is_missing st fr) vs) st w h

  pub on-turn : (bound : ℕ) (st : MachineView) (go : MachineView → Went) →
      (st.turns < bound → OnGoing P (go (record st { turns = st.turns + 1 }))) → OnGoing P (turn bound st go)
  on-turn bound st go h =
      on-cond (nat_lt st.turns bound) (go (record st { turns = st.turns + 1 })) (Stops end.OutOfTurns st) (λ e. h (grind (arith, nat_tests))) (λ _. tt)

  pub on-enter : (bound : ℕ) (st : MachineView) (go : MachineView → Went) →
      (st.turns < bound → OnGoing P (go (record st { turns = st.turns + 1 }))) → OnGoing P (enter bound st go)
  on-enter bound st go h = on-cond (nat_lt (frames_in st.tasks) FRAMES) (turn bound st go) (Stops end.Depth st) (λ _. on-turn bound st go h) (λ _. tt)
