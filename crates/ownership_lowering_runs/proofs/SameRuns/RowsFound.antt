-- An instruction of a right state whose row finds what it needs: the lowered run goes along, or traps too.
use Rattle.std.proofs.Common.{◌≡◌, ℕ, ◌∷◌, refl, sym, ◌∙◌, subst}
use Rattle.std.proofs.lemmas.Option.{same_Some}
use Rattle.sil_ast.specs.declared.module.Module.{Module}
use Rattle.sil_cfg.specs.declared.item.Item.TheVariants as item
use Rattle.sil_verifier_runs.proofs.sil_verifier_trails.AcceptedTrails.Unbroken.{are_accepted}
use Rattle.sil_verifier_runs.proofs.sil_verifier_trails.RunTrails.RunPaths.{are_trails}
use Rattle.sil_verifier_runs.proofs.sil_verifier_trails.RunTrails.TurnedTrails.{turned_item}
use Rattle.sil_verifier_runs.proofs.sil_verifier_trails.RunTrails.WalkEdges.{are_next}
use Rattle.sil_verifier_runs.specs.sil_verifier_trails.RunTrails.inner.RunTrails.{IsTurnedTrail}
use Rattle.sil_verifier_runs.specs.sil_verifier_values.inner.Known.{IsAcceptedBody}
use Rattle.sil_verifier_runs.specs.holder_model.HolderStates.{HolderNext, HolderState}
use Rattle.sil_verifier_runs.specs.holder_model.Outcomes.{outcome_at}
use Rattle.sil_verifier_runs.specs.holder_model.Standing.{stands_at}
use Rattle.sil_verifier_runs.specs.holder_model.States.{Ends, Runs, Trapped}
use Rattle.sil_verifier_runs.specs.holder_model.declared.trap.Trap.{Trap}
use Rattle.sil_verifier_runs.specs.holder_model.LoweredRun.LowOutcomes.{low_outcome_at}
use Rattle.sil_verifier_runs.specs.holder_model.LoweredRun.LowStepParts.{LowNext, LowState}
use Rattle.sil_verifier_runs.specs.sil_verifier_frames.inner.Typed.TypedStates.{FrameIs, TasksAre}
use Rattle.sil_verifier_runs.proofs.sil_verifier_frames.Typed.GoesOn.{accepted_body, typed_module}
use Rattle.ownership_lowering_runs.specs.StoredRuns.inner.Along.{IsNextAlong}
use Rattle.ownership_lowering_runs.specs.StoredRuns.inner.FrameSteps.{StepsAlong}
use Rattle.ownership_lowering_runs.specs.StoredRuns.inner.Lowering.{LowersSo}
use Rattle.ownership_lowering_runs.specs.StoredRuns.inner.PlaceRows.{StandsAt}
use Rattle.ownership_lowering_runs.specs.StoredRuns.inner.Runs.{IsOutcomeFor}
use Rattle.ownership_lowering_runs.specs.StoredRuns.inner.TypedSteps.{IsTypedFor}
use Rattle.ownership_lowering_runs.proofs.StoredRuns.FrameSteps as steps
use Rattle.ownership_lowering_runs.proofs.StoredRuns.Lowered.LoweredSo.{are_lowered_so}
use Rattle.ownership_lowering_runs.proofs.StoredRuns.Along.RowsAlong.{are_rows_along}
use Rattle.ownership_lowering_runs.proofs.StoredRuns.Lowered.SparesApart.{accepted_spares_apart}
use Rattle.ownership_lowering_runs.proofs.StoredRuns.StayingSteps.{LowTop}
use Rattle.ownership_lowering_runs.proofs.StoredRuns.Along.TrapsAlong.{are_traps_along}
use Rattle.ownership_lowering_runs.specs.SameRuns.inner.Followed.{EndsToo, low_next_of}
use Rattle.ownership_lowering_runs.specs.SameRuns.inner.InRightStates.{AtInst, RowsAreRight, RowsGoAlong, RowsTrapAlong, TrapsAreRight}

module _ (m : Module) (bound : ℕ) (s : HolderState) (l : LowState) (x : AtInst m s) (h : IsTypedFor m s l) where
  tasks : TasksAre m h.typed.world (Runs x.frame ∷ x.rest)
  tasks = subst (TasksAre m h.typed.world) x.is h.typed.tasks

  pub frame_is : FrameIs m h.typed.world x.f x.frame
  frame_is = subst (λ g. FrameIs m h.typed.world g x.frame) (same_Some tasks.0.0 x.f (sym tasks.0.1.is ∙ x.there)) tasks.0.1

  pub accepted : IsAcceptedBody m x.frame.function.0 x.f
  accepted = accepted_body m h.verified x.frame.function x.f x.there frame_is.bodied

  lowers : LowersSo m x.frame.function x.f
  lowers = are_lowered_so m x.frame.function x.f accepted

  trail : IsTurnedTrail x.f (item.Inst (stands_at x.f x.frame.trail) ∷ x.frame.trail)
  trail =
      are_trails x.f (are_accepted m x.frame.function.0 x.f accepted.verified accepted.body).once (item.Inst (stands_at x.f x.frame.trail) ∷ x.frame.trail)
      (are_next x.f x.frame.trail (item.Inst (stands_at x.f x.frame.trail)) frame_is.goes (refl, x.i, x.here), frame_is.trail)

  top : LowTop m x.frame x.rest l
  top = steps.top m bound s l x.frame x.rest x.f h.related x.is x.there lowers

  pub stands : StandsAt m s l x.frame x.rest x.f x.i x.ops
  unfolding top
  stands = record {
    totals = steps.totals m bound s l x.frame x.rest x.f h.related x.is x.there lowers;
    memory = h.related.memory;
    size = h.related.counts.size;
    there = x.there;
    lowers = lowers;
    low = top.low;
    lrest = top.others;
    is_top = top.is_top;
    frames = steps.frames m bound s l x.frame x.rest x.f h.related x.is x.there lowers;
    rest_for = top.rest_for;
    full = steps.full m bound s l x.frame x.rest x.f h.related x.is x.there lowers;
    here = x.here;
    is_item = turned_item x.f (item.Inst (stands_at x.f x.frame.trail)) x.frame.trail trail;
    turned = trail;
    found = x.found;
    takes = (((typed_module m h.verified).functions x.frame.function.0 x.f x.there).insts (stands_at x.f x.frame.trail) x.i x.here).takes;
  }

  trapped : (t : Trap) → StepsAlong m bound l (Ends (Trapped t) s) → EndsToo m bound l (outcome_at (Trapped t) s)
  trapped t d = at (Ends (Trapped t) s) d.low_next d.step d.for refl
    where
      at : (next : HolderNext) (low_next : LowNext) → low_next_of m bound l ≡ low_next → IsNextAlong m l.numbers next low_next → next ≡ Ends (Trapped t) s
          → EndsToo m bound l (outcome_at (Trapped t) s)
      at _ _ step (IsNextAlong.goes s' l' along numbers) e = absurd (cc)
      at _ _ step (IsNextAlong.ends y s' z l' for) e =
          let same : outcome_at y s' ≡ outcome_at (Trapped t) s = cc in
          record { ending = z; last = l'; ends = step; for = subst (λ o. IsOutcomeFor o (low_outcome_at z l')) same for }

pub rows_go_along : RowsAreRight → RowsGoAlong
rows_go_along rows m bound s verified right l x h other c slots entries leaves =
    let found = rows m bound s verified right l x h other c slots entries leaves in
    are_rows_along m bound s l x.frame x.rest x.f x.i x.ops c slots entries (stands m bound s l x h)
    (accepted_spares_apart m x.frame.function x.f (accepted m bound s l x h)) found.0 found.1 leaves.slots_left leaves.put

pub rows_trap_along : TrapsAreRight → RowsTrapAlong
rows_trap_along traps m bound s verified right l x h other t is =
    trapped m bound s l x h t (are_traps_along m bound s l x.frame x.rest x.f x.i x.ops t (stands m bound s l x h) (traps m bound s verified right l x h other t is))
