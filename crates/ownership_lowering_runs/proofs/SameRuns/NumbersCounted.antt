-- Where the run by holders comes to a state, the lowered run comes to one that goes along, in which the stored numbers are the counts of holders. And so
-- it is the other way round, where a turn of the lowered run begins.
use Rattle.std.proofs.Common.{◌≡◌, ℕ, zero, suc, refl, sym, ap, ◌∙◌, subst}
use Rattle.sil_ast.specs.declared.module.Module.{Module}
use Rattle.sil_types_declarations.specs.TypeDefinitions.Declarations.{declarations_of}
use Rattle.sil_verifier_runs.specs.sil_verifier_accepted.AcceptedModules.inner.Checked.{IsVerified}
use Rattle.sil_verifier_runs.specs.holder_model.HolderStates.{HolderNext, HolderState}
use Rattle.sil_verifier_runs.specs.holder_model.ModuleFacts.{facts_of}
use Rattle.sil_verifier_runs.specs.holder_model.Outcomes.{begins, run}
use Rattle.sil_verifier_runs.specs.holder_model.States.{Ends, Goes, step_on}
use Rattle.sil_verifier_runs.specs.holder_model.Steps as holder_run
use Rattle.sil_verifier_runs.specs.holder_model.LoweredRun.LowOutcomes.{low_begins}
use Rattle.sil_verifier_runs.specs.holder_model.LoweredRun.LowStepParts.{LowState}
use Rattle.ownership_lowering_laws.specs.ownership_lowering_model.LoweredModules.{lowered_body}
use Rattle.ownership_lowering_runs.specs.StoredRuns.inner.PlaceRows.{LowGoes}
use Rattle.ownership_lowering_runs.specs.StoredRuns.inner.TypedSteps.{IsTypedFor}
use Rattle.ownership_lowering_runs.proofs.StoredRuns.StayingSteps.{function_there}
use Rattle.ownership_lowering_runs.specs.SameRuns.inner.Followed.{GoesToo}
use Rattle.ownership_lowering_runs.specs.SameRuns.inner.Laws.{AreNumbersCounts, IsCounted}
use Rattle.ownership_lowering_runs.specs.SameRuns.inner.InRightStates.{IsComeTo}
use Rattle.ownership_lowering_runs.proofs.SameRuns.Begun.{begin_typed_for, lowers}
use Rattle.ownership_lowering_runs.proofs.SameRuns.Come.{comes_on}
use Rattle.ownership_lowering_runs.proofs.SameRuns.RunsSame.{RunsOn, follows, next_typed, onward}
use Rattle.ownership_lowering_runs.proofs.SameRuns.TurnsBegun.{turn_begun}

module _ (m : Module) (bound : ℕ) where
  abbrev step : HolderState → HolderNext
  step s = holder_run.step m (facts_of m) bound s

  -- the lowered run comes to a state that goes along
  pub record ComesAlong (l : LowState) (t : HolderState) : Type 0 where
    pub low : LowState
    pub ran : RunsOn m bound l (Goes low)
    pub typed : IsTypedFor m t low

  module _ (verified : IsVerified m) where
    -- runs of so many steps
    abbrev AlongIn : ℕ → Type 0
    AlongIn k = (s : HolderState) (l : LowState) → IsComeTo m bound s → IsTypedFor m s l → (t : HolderState) → run step k s ≡ Goes t → ComesAlong l t

    along : (k : ℕ) → AlongIn k
    along zero s l comes h t ran =
        let same : s ≡ t = cc in
        record { low = l; ran = record { count = 0; is = refl }; typed = subst (λ x. IsTypedFor m x l) same h }
    along (suc k) s l comes h t ran = at (step s) refl (λ x y. along k x y)
      where
        on : (x : HolderState) → step s ≡ Goes x → AlongIn k → GoesToo m bound s l x → ComesAlong l t
        on x is later (GoesToo.moves behind low_next first steps turn related) =
            let more = later x low_next (comes_on m bound s x comes is) (next_typed m bound s x l low_next h is related) t (sym (ap (step_on (run step k)) is) ∙ ran) in
            record {
              low = more.low;
              ran = onward m bound low_next l (LowGoes.more l behind first steps) (Goes more.low) more.ran;
              typed = more.typed;
            }
        on x is later (GoesToo.stays less related) =
            later x l (comes_on m bound s x comes is) (next_typed m bound s x l l h is related) t (sym (ap (step_on (run step k)) is) ∙ ran)

        at : (n : HolderNext) → step s ≡ n → AlongIn k → ComesAlong l t
        at (Goes x) is later = on x is later (follows m bound verified s l comes h (Goes x) is)
        at (Ends x y) is later = let none : Ends x y ≡ Goes t = sym (ap (step_on (run step k)) is) ∙ ran in absurd (cc)

    first_come : (s : HolderState) (c : IsComeTo m bound s) → IsComeTo m bound (begins c.e c.f)
    first_come s c = record { e = c.e; f = c.f; there = c.there; may = c.may; steps = 0; comes = refl }

    abbrev first_low : (s : HolderState) → IsComeTo m bound s → LowState
    first_low s c = low_begins c.e (lowered_body (declarations_of m) c.f)

    pub come_along : (s : HolderState) (c : IsComeTo m bound s) → ComesAlong (first_low s c) s
    come_along s c = along c.steps (begins c.e c.f) (first_low s c) (first_come s c) (begin_typed_for m c.e c.f verified c.there c.may) s c.comes

pub numbers_counted : AreNumbersCounts
numbers_counted m e f bound verified there may = record { forth = counted; back = λ entry l is turn. turn_begun m e f bound verified there may entry l is turn }
  where
    counted : (steps : ℕ) (s : HolderState) → run (step m bound) steps (begins e f) ≡ Goes s → IsCounted m e bound s
    counted steps s ran =
        let comes : IsComeTo m bound s = record { e = e; f = f; there = there; may = may; steps = steps; comes = ran } in
        let d = come_along m bound verified s comes in
        record {
          entry = lowered_body (declarations_of m) f;
          there = function_there m bound e.0 f there (lowers m e f verified there may).form;
          low = d.low;
          steps = d.ran.count;
          comes = d.ran.is;
          along = d.typed.related;
        }
