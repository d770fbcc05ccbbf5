-- Where one of both runs ends, the other does so too: forth along the run by holders, and back by how many steps of the lowered run are left, and then by
-- what is left of the block.
use Rattle.std.proofs.Common.{◌≡◌, ℕ, zero, suc, ◌≤◌, ◌<◌, arith, refl, sym, ap, ◌∙◌, subst, true, Some}
use Rattle.std.specs.Prelude.{option_and_then, slice_get}
use Rattle.std.proofs.lemmas.Option.{none-some, same_Some}
use Rattle.sil_ast.specs.declared.function.Function.{Function}
use Rattle.sil_ast.specs.declared.module.Module.{Module}
use Rattle.sil_ast.specs.declared.place.FuncId.{FuncId}
use Rattle.sil_types_declarations.specs.TypeDefinitions.Declarations.{declarations_of}
use Rattle.sil_verifier_runs.specs.sil_verifier_accepted.AcceptedModules.inner.Checked.{IsVerified}
use Rattle.sil_verifier_runs.specs.holder_model.Faults.{HolderFault}
use Rattle.sil_verifier_runs.specs.holder_model.HolderStates.{HolderNext, HolderState}
use Rattle.sil_verifier_runs.specs.holder_model.ModuleFacts.{facts_of}
use Rattle.sil_verifier_runs.specs.holder_model.ModuleShapes.{shapes_of}
use Rattle.sil_verifier_runs.specs.holder_model.Outcomes.{EndsSo, Outcome, begins, may_start, outcome_after, outcome_at, run}
use Rattle.sil_verifier_runs.specs.holder_model.States.{Ending, Ends, Goes, step_on}
use Rattle.sil_verifier_runs.specs.holder_model.Steps as holder_run
use Rattle.sil_verifier_runs.specs.holder_model.declared.lowered_run.low_fault.LowFault.{LowFault}
use Rattle.sil_verifier_runs.specs.holder_model.LoweredRun.LowOutcomes.{LowEndsSo, low_begins, low_outcome_after, low_outcome_at}
use Rattle.sil_verifier_runs.specs.holder_model.LoweredRun.LowStepParts.{LowNext, LowState}
use Rattle.sil_verifier_runs.specs.holder_model.LoweredRun.LowSteps as steps
use Rattle.ownership_lowering_laws.specs.ownership_lowering_model.LoweredModules.{lowered, lowered_body}
use Rattle.sil_verifier_runs.proofs.sil_verifier_frames.Typed.TypedSteps.{steps_typed}
use Rattle.ownership_lowering_runs.specs.StoredRuns.inner.PlaceRows.{LowGoes}
use Rattle.ownership_lowering_runs.specs.StoredRuns.inner.Runs.{IsOutcomeFor, LoweredRunsAreSame}
use Rattle.ownership_lowering_runs.specs.StoredRuns.inner.States.{IsStateFor}
use Rattle.ownership_lowering_runs.specs.StoredRuns.inner.TypedSteps.{IsTypedFor}
use Rattle.ownership_lowering_runs.proofs.StoredRuns.Awaited.{steps_awaited}
use Rattle.ownership_lowering_runs.proofs.StoredRuns.StayingSteps.{function_there}
use Rattle.ownership_lowering_runs.specs.SameRuns.inner.Followed.{EndsToo, Follows, GoesToo, left_of}
use Rattle.ownership_lowering_runs.specs.SameRuns.inner.InRightStates.{IsComeTo}
use Rattle.ownership_lowering_runs.proofs.SameRuns.Begun.{begin_typed_for, lowers}
use Rattle.ownership_lowering_runs.proofs.SameRuns.Come.{comes_on}
use Rattle.ownership_lowering_runs.proofs.SameRuns.StepsFollowed.{steps_followed}

module _ (m : Module) (bound : ℕ) where
  abbrev step : HolderState → HolderNext
  step s = holder_run.step m (facts_of m) bound s

  abbrev low_step : LowState → LowNext
  low_step l = steps.low_step (lowered m) (shapes_of (lowered m)) bound l

  -- ---- runs of the lowered code

  -- the run goes on from where it comes to
  pub record RunsOn (l : LowState) (n : LowNext) : Type 0 where
    pub count : ℕ
    pub is : run low_step count l ≡ n

  pub onward : (before l : LowState) → LowGoes m bound before l → (n : LowNext) → RunsOn before n → RunsOn l n
  onward before _ LowGoes.there n on = on
  onward before _ (LowGoes.more l behind is steps) n on =
      let more = onward before behind steps n on in
      record { count = suc more.count; is = ap (step_on (run low_step more.count)) is ∙ more.is }

  -- an end is the only one
  same_end : (l : LowState) (x : Ending LowFault) (y : LowState) → low_step l ≡ Ends x y → (e : Ending LowFault) (last : LowState)
      → (j : ℕ) → run low_step j l ≡ Ends e last → Ends x y ≡ Ends e last
  same_end l x y is e last zero ran = absurd (cc)
  same_end l x y is e last (suc j) ran = sym (ap (step_on (run low_step j)) is) ∙ ran

  -- fewer steps are left
  pub record LeftSteps (l : LowState) (j : ℕ) (n : LowNext) : Type 0 where
    pub count : ℕ
    pub few : count ≤ j
    pub is : run low_step count l ≡ n

  left_steps : (later l : LowState) → LowGoes m bound later l → (e : Ending LowFault) (last : LowState) (j : ℕ) → run low_step j l ≡ Ends e last → LeftSteps later j (Ends e last)
  left_steps later _ LowGoes.there e last j ran = record { count = j; few = omega arith; is = ran }
  left_steps later _ (LowGoes.more l behind is steps) e last zero ran = absurd (cc)
  left_steps later _ (LowGoes.more l behind is steps) e last (suc j) ran =
      let more = left_steps later behind steps e last j (sym (ap (step_on (run low_step j)) is) ∙ ran) in
      let few = more.few in
      record { count = more.count; few = omega (arith, few); is = more.is }

  -- ---- states of the run by holders

  pub next_typed : (s t : HolderState) (l : LowState) (last : LowState) → IsTypedFor m s l → step s ≡ Goes t → IsStateFor m t last → IsTypedFor m t last
  next_typed s t l last h is related = record {
    verified = h.verified;
    related = related;
    typed = steps_typed m bound s t h.verified h.typed is;
    awaited = steps_awaited m bound s t h.awaited is;
  }

  -- ---- forth

  pub record LowEnds (l : LowState) (o : Outcome HolderFault) : Type 0 where
    pub ending : Ending LowFault
    pub last : LowState
    pub ran : RunsOn l (Ends ending last)
    pub for : IsOutcomeFor o (low_outcome_at ending last)

  one_step : (l : LowState) (e : Ending LowFault) (last : LowState) → low_step l ≡ Ends e last → RunsOn l (Ends e last)
  one_step l e last is = record { count = 1; is = ap (step_on (run low_step 0)) is }

  module _ (verified : IsVerified m) where
    pub follows : (s : HolderState) (l : LowState) → IsComeTo m bound s → IsTypedFor m s l → (n : HolderNext) → step s ≡ n → Follows m bound s l n
    follows s l comes h n is = subst (Follows m bound s l) is (steps_followed m bound s verified comes l h)

    -- runs of so many steps
    abbrev ForthIn : ℕ → Type 0
    ForthIn k = (t : HolderState) (lt : LowState) → IsComeTo m bound t → IsTypedFor m t lt → (e : Ending HolderFault) (last : HolderState) → run step k t ≡ Ends e last
        → LowEnds lt (outcome_at e last)

    pub forth : (k : ℕ) (s : HolderState) (l : LowState) → IsComeTo m bound s → IsTypedFor m s l → (e : Ending HolderFault) (last : HolderState)
        → run step k s ≡ Ends e last → LowEnds l (outcome_at e last)
    forth zero s l comes h e last ran = absurd (cc)
    forth (suc k) s l comes h e last ran = at (step s) refl (λ t lt. forth k t lt)
      where
        on : (t : HolderState) → step s ≡ Goes t → ForthIn k → GoesToo m bound s l t → LowEnds l (outcome_at e last)
        on t is later (GoesToo.moves behind low_next first steps turn related) =
            let more = later t low_next (comes_on m bound s t comes is) (next_typed s t l low_next h is related) e last (sym (ap (step_on (run step k)) is) ∙ ran) in
            record {
              ending = more.ending;
              last = more.last;
              ran = onward low_next l (LowGoes.more l behind first steps) (Ends more.ending more.last) more.ran;
              for = more.for;
            }
        on t is later (GoesToo.stays less related) =
            later t l (comes_on m bound s t comes is) (next_typed s t l l h is related) e last (sym (ap (step_on (run step k)) is) ∙ ran)

        end : (x : Ending HolderFault) (y : HolderState) → Ends x y ≡ Ends e last → EndsToo m bound l (outcome_at x y) → LowEnds l (outcome_at e last)
        end x y same d = record {
          ending = d.ending;
          last = d.last;
          ran = one_step l d.ending d.last d.ends;
          for = subst (λ o. IsOutcomeFor o (low_outcome_at d.ending d.last)) (same_outcome x y same) d.for;
        }
          where
            same_outcome : (x : Ending HolderFault) (y : HolderState) → Ends x y ≡ Ends e last → outcome_at x y ≡ outcome_at e last
            same_outcome x y same = cc

        at : (n : HolderNext) → step s ≡ n → ForthIn k → LowEnds l (outcome_at e last)
        at (Goes t) is later = on t is later (follows s l comes h (Goes t) is)
        at (Ends x y) is later = end x y (sym (ap (step_on (run step k)) is) ∙ ran) (follows s l comes h (Ends x y) is)

    -- ---- back

    module _ (e : Ending LowFault) (last : LowState) where
      pub record HolderEnds (s : HolderState) : Type 0 where
        pub ending : Ending HolderFault
        pub final : HolderState
        pub count : ℕ
        pub ran : run step count s ≡ Ends ending final
        pub for : IsOutcomeFor (outcome_at ending final) (low_outcome_at e last)

      one_more : (s t : HolderState) → step s ≡ Goes t → HolderEnds t → HolderEnds s
      one_more s t is more = record { ending = more.ending; final = more.final; count = suc more.count; ran = ap (step_on (run step more.count)) is ∙ more.ran; for = more.for }

      -- one step from a state, where others lead to an end: those with fewer steps of the lowered run left, and those with as many and less of the block
      abbrev Fewer : ℕ → Type 0
      Fewer n = (j : ℕ) (t : HolderState) (lt : LowState) → j ≤ n → IsComeTo m bound t → IsTypedFor m t lt → run low_step j lt ≡ Ends e last → HolderEnds t

      abbrev Shorter : HolderState → LowState → Type 0
      Shorter s l = (t : HolderState) → left_of m t.tasks < left_of m s.tasks → IsComeTo m bound t → IsTypedFor m t l → HolderEnds t

      module _ (n : ℕ) (s : HolderState) (l : LowState) (comes : IsComeTo m bound s) (h : IsTypedFor m s l) (fewer : Fewer n) (shorter : Shorter s l) where
        end : (j : ℕ) → run low_step j l ≡ Ends e last → (x : Ending HolderFault) (y : HolderState) → step s ≡ Ends x y → EndsToo m bound l (outcome_at x y) → HolderEnds s
        end j ran x y is d =
            let same : Ends d.ending d.last ≡ Ends e last = same_end l d.ending d.last d.ends e last j ran in
            record {
              ending = x;
              final = y;
              count = 1;
              ran = ap (step_on (run step 0)) is;
              for = subst (IsOutcomeFor (outcome_at x y)) (same_low_outcome d.ending d.last same) d.for;
            }
          where
            same_low_outcome : (a : Ending LowFault) (b : LowState) → Ends a b ≡ Ends e last → low_outcome_at a b ≡ low_outcome_at e last
            same_low_outcome a b same = cc

        moved : (t : HolderState) → step s ≡ Goes t → (behind low_next : LowState) → low_step l ≡ Goes behind → LowGoes m bound low_next behind → IsStateFor m t low_next
            → (j : ℕ) → j ≤ suc n → run low_step j l ≡ Ends e last → HolderEnds s
        moved t is behind low_next first steps related zero few ran = absurd (cc)
        moved t is behind low_next first steps related (suc j) few ran =
            let left = left_steps low_next behind steps e last j (sym (ap (step_on (run low_step j)) first) ∙ ran) in
            let fewer_left = left.few in
            one_more s t is (fewer left.count t low_next (omega (arith, few, fewer_left)) (comes_on m bound s t comes is) (next_typed s t l low_next h is related) left.is)

        on : (j : ℕ) → j ≤ suc n → run low_step j l ≡ Ends e last → (t : HolderState) → step s ≡ Goes t → GoesToo m bound s l t → HolderEnds s
        on j few ran t is (GoesToo.moves behind low_next first steps turn related) = moved t is behind low_next first steps related j few ran
        on j few ran t is (GoesToo.stays less related) = one_more s t is (shorter t less (comes_on m bound s t comes is) (next_typed s t l l h is related))

        from_here : (j : ℕ) → j ≤ suc n → run low_step j l ≡ Ends e last → HolderEnds s
        from_here j few ran = at (step s) refl
          where
            at : (n : HolderNext) → step s ≡ n → HolderEnds s
            at (Goes t) is = on j few ran t is (follows s l comes h (Goes t) is)
            at (Ends x y) is = end j ran x y is (follows s l comes h (Ends x y) is)

      -- by what is left of the block
      inner : (n : ℕ) → Fewer n → (k j : ℕ) (s : HolderState) (l : LowState) → j ≤ suc n → left_of m s.tasks ≤ k → IsComeTo m bound s → IsTypedFor m s l
          → run low_step j l ≡ Ends e last → HolderEnds s
      inner n fewer zero j s l few short comes h ran = from_here n s l comes h fewer (λ t less c k. absurd (omega (arith, short, less))) j few ran
      inner n fewer (suc k) j s l few short comes h ran =
          from_here n s l comes h fewer (λ t less ct ht. inner n fewer k j t l few (omega (arith, short, less)) ct ht ran) j few ran

      pub back : (n j : ℕ) (s : HolderState) (l : LowState) → j ≤ n → IsComeTo m bound s → IsTypedFor m s l → run low_step j l ≡ Ends e last → HolderEnds s
      back zero zero s l few comes h ran = absurd (cc)
      back zero (suc j) s l few comes h ran = absurd (omega (arith, few))
      back (suc n) j s l few comes h ran =
          inner n (λ i t lt. back n i t lt) (left_of m s.tasks) j s l few (omega arith) comes h ran

-- ---- outcomes

module _ (m : Module) (e : FuncId) (f : Function) (bound : ℕ) (verified : IsVerified m) (there : slice_get m.functions e.0 ≡ Some f)
    (may : may_start f ≡ true) where
  abbrev lf : Function
  lf = lowered_body (declarations_of m) f

  low_there : slice_get (lowered m).functions e.0 ≡ Some lf
  low_there = function_there m bound e.0 f there (lowers m e f verified there may).form

  comes : IsComeTo m bound (begins e f)
  comes = record { e = e; f = f; there = there; may = may; steps = 0; comes = refl }

  -- an outcome is that of an end
  ends_of : (n : HolderNext) (o : Outcome HolderFault) → outcome_after n ≡ Some o → (x : Ending HolderFault) × (y : HolderState) × (n ≡ Ends x y) × (outcome_at x y ≡ o)
  ends_of (Goes s) o is = absurd (none-some o is)
  ends_of (Ends x y) o is = (x, y, refl, same_Some (outcome_at x y) o is)

  low_ends_of : (n : LowNext) (o : Outcome LowFault) → low_outcome_after n ≡ Some o → (x : Ending LowFault) × (y : LowState) × (n ≡ Ends x y) × (low_outcome_at x y ≡ o)
  low_ends_of (Goes s) o is = absurd (none-some o is)
  low_ends_of (Ends x y) o is = (x, y, refl, same_Some (low_outcome_at x y) o is)

  from_entry : (k : ℕ) → option_and_then (λ g. outcome_after (run (step m bound) k (begins e g))) (slice_get m.functions e.0) ≡ outcome_after (run (step m bound) k (begins e f))
  from_entry k = ap (λ o. option_and_then (λ g. outcome_after (run (step m bound) k (begins e g))) o) there

  low_from_entry : (k : ℕ) → option_and_then (λ g. low_outcome_after (run (low_step m bound) k (low_begins e g))) (slice_get (lowered m).functions e.0)
      ≡ low_outcome_after (run (low_step m bound) k (low_begins e lf))
  low_from_entry k = ap (λ o. option_and_then (λ g. low_outcome_after (run (low_step m bound) k (low_begins e g))) o) low_there

  runs_forth : (o : Outcome HolderFault) → EndsSo m e bound o → (low : Outcome LowFault) × LowEndsSo (lowered m) e bound low × IsOutcomeFor o low
  runs_forth o so =
      let end = ends_of (run (step m bound) so.0 (begins e f)) o (sym (from_entry so.0) ∙ so.1) in
      let d = forth m bound verified so.0 (begins e f) (low_begins e lf) comes (begin_typed_for m e f verified there may) end.0 end.1 end.2 in (
        low_outcome_at d.ending d.last,
        (d.ran.count, low_from_entry d.ran.count ∙ ap low_outcome_after d.ran.is),
        subst (λ x. IsOutcomeFor x (low_outcome_at d.ending d.last)) end.3 d.for,
      )

  runs_back : (low : Outcome LowFault) → LowEndsSo (lowered m) e bound low → (o : Outcome HolderFault) × EndsSo m e bound o × IsOutcomeFor o low
  runs_back low so =
      let end = low_ends_of (run (low_step m bound) so.0 (low_begins e lf)) low (sym (low_from_entry so.0) ∙ so.1) in
      let d =
      back m bound verified end.0 end.1 so.0 so.0 (begins e f) (low_begins e lf) (omega arith) comes (begin_typed_for m e f verified there may) end.2 in
      (outcome_at d.ending d.final, (d.count, from_entry d.count ∙ ap outcome_after d.ran), subst (IsOutcomeFor (outcome_at d.ending d.final)) end.3 d.for)

pub runs_same : LoweredRunsAreSame
runs_same m e f bound verified there may = record {
  forth = runs_forth m e f bound verified there may;
  back = runs_back m e f bound verified there may;
}
