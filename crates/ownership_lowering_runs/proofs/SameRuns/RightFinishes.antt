-- In a right state what finishes isn't dead, and each of its fields is written.
use Rattle.std.proofs.Common.{◌≡◌, ◌+◌, List, [], ◌∷◌, arith, refl, sym, ap, ◌∙◌, subst, false, cond}
use Rattle.sil_ast.specs.declared.module.Module.{Module}
use Rattle.sil_ast.specs.declared.place.ObjectId.{ObjectId}
use Rattle.holder_model_values.specs.declared.run_values.phase.Phase.{Phase}
use Rattle.holder_model_values.specs.declared.run_values.phase.Phase.TheVariants.{Dead, Deiniting, Live}
use Rattle.holder_model_values.specs.RunValues.Memory.{is_dead, is_dead_phase, phase_of}
use Rattle.sil_verifier_runs.specs.holder_model.Frames.{Frame}
use Rattle.sil_verifier_runs.specs.holder_model.HolderStates.{HolderState}
use Rattle.sil_verifier_runs.specs.holder_model.Holders.{one_object}
use Rattle.sil_verifier_runs.specs.holder_model.States.{Finishes, Task}
use Rattle.sil_verifier_runs.specs.inner.RightStates.{IsRightState}
use Rattle.sil_verifier_runs.specs.inner.Built.Said.{said}
use Rattle.sil_verifier_runs.specs.inner.Guarded.GuardedStates.{finishes_of, is_deiniting_phase}
use Rattle.sil_verifier_runs.specs.holder_model_laws.HolderLaws.inner.Held.ObjectStates.{TasksBuild}
use Rattle.sil_verifier_runs.proofs.Guarded.Named.{counts_itself}
use Rattle.ownership_lowering_runs.proofs.SameRuns.Finishing.{FinishesWhole}

module _ (m : Module) (s : HolderState) (right : IsRightState m s) (o : ObjectId) (rest : List (Task Frame)) (is : s.tasks ≡ Finishes [] o ∷ rest) where
  -- it is deinitialising
  alive : is_dead s.memory o ≡ false
  alive = at (phase_of s.memory o) (sym (ap (finishes_of o) is) ∙ right.guarded.finishes o) (counts_itself o)
    where
      at : (phase : Phase) → one_object o o + finishes_of o rest ≡ cond (is_deiniting_phase phase) 1 0 → one_object o o ≡ 1 → is_dead_phase phase ≡ false
      at Live e one = refl
      at Deiniting e one = refl
      at Dead e one = absurd (omega (arith, e, one))

  pub finishes_whole : FinishesWhole s o
  finishes_whole = record { alive = alive; written = (subst (TasksBuild m (said m) s.memory) is right.built.tasks).0.written }
