-- Each step of the run by holders is followed by the lowered run.
use Rattle.std.proofs.Common.{◌≡◌, ◌⊎◌, inl, inr, ℕ, List, [], ◌∷◌, arith, refl, sym, ap, ◌∙◌, subst, true, false, Option, Some, None}
use Rattle.std.specs.Prelude.{slice_get}
use Rattle.std.proofs.lemmas.Bool.{cases_Bool}
use Rattle.std.proofs.lemmas.Option.{none-some, same_Some}
use Rattle.sil_ast.specs.declared.function.Function.{Function}
use Rattle.sil_ast.specs.declared.inst.Inst.{Inst}
use Rattle.sil_ast.specs.declared.module.Module.{Module}
use Rattle.sil_ast.specs.declared.place.ObjectId.{ObjectId}
use Rattle.sil_cfg.specs.declared.item.Item.TheVariants as item
use Rattle.sil_cfg_items.specs.Parts.{inst_at}
use Rattle.sil_types_declarations.specs.TypeDefinitions.Declarations.{declarations_of}
use Rattle.holder_model_values.specs.RunValues.Memory.{is_dead}
use Rattle.holder_model_values.specs.RunValues.Values as value
use Rattle.sil_verifier_runs.specs.holder_model.Data.{ValueOf}
use Rattle.sil_verifier_runs.specs.holder_model.Effects as effects
use Rattle.sil_verifier_runs.specs.holder_model.Effects.{effect_of}
use Rattle.sil_verifier_runs.specs.holder_model.Faults.{HolderFault, PlaceNotAsAsked, WrongShape}
use Rattle.sil_verifier_runs.specs.holder_model.Frames.{Frame, has_any}
use Rattle.sil_verifier_runs.specs.holder_model.HolderStates.{HolderNext, HolderState, strong_holders}
use Rattle.sil_verifier_runs.specs.holder_model.Holders.{one_object}
use Rattle.sil_verifier_runs.specs.holder_model.ModuleFacts.{ModuleFacts, facts_of}
use Rattle.sil_verifier_runs.specs.holder_model.ModuleShapes.{shapes_in, shapes_of}
use Rattle.sil_verifier_runs.specs.holder_model.Standing.{stands_at}
use Rattle.sil_verifier_runs.specs.holder_model.States.{Drops, Ends, Finishes, Goes, Runs, Task}
use Rattle.sil_verifier_runs.specs.holder_model.Steps as holder_run
use Rattle.sil_verifier_runs.specs.holder_model.declared.row_effect.RowEffect.TheVariants as row
use Rattle.sil_verifier_runs.specs.holder_model.LoweredRun.LowStepParts.{LowNext, LowState}
use Rattle.sil_verifier_runs.specs.sil_verifier_accepted.AcceptedModules.inner.Checked.{IsVerified}
use Rattle.sil_verifier_runs.specs.holder_model_laws.HolderLaws.inner.Steps.Ways.{Acts, Enters, GoesBehind, Performs, StepsBy, left_with}
use Rattle.sil_verifier_runs.proofs.holder_model_laws.HolderLaws.Steps.StepsTold.{steps_told}
use Rattle.sil_verifier_runs.proofs.holder_model_laws.HolderLaws.Counts.Moves.{drops_counted}
use Rattle.sil_verifier_runs.specs.sil_verifier_frames.inner.Typed.TypedStates.{FrameIs, TasksAre}
use Rattle.sil_verifier_runs.proofs.sil_verifier_frames.Typed.GoesOn.{Running, typed_module}
use Rattle.sil_verifier_runs.specs.holder_model_laws.StoredCounts.inner.Numbers.{AreCounts}
use Rattle.sil_verifier_runs.proofs.Guarded.Named.{counts_itself}
use Rattle.ownership_lowering_runs.specs.StoredRuns.inner.Along.{IsNextAlong, IsNoFault}
use Rattle.ownership_lowering_runs.specs.StoredRuns.inner.FrameSteps.{StepsAlong}
use Rattle.ownership_lowering_runs.specs.StoredRuns.inner.PlaceRows.{LowGoes}
use Rattle.ownership_lowering_runs.specs.StoredRuns.inner.Runs.{IsNextFor}
use Rattle.ownership_lowering_runs.specs.StoredRuns.inner.TypedSteps.{IsTypedFor}
use Rattle.ownership_lowering_runs.proofs.StoredRuns.CallsAlone.{calls_alone, calls_or, op_of}
use Rattle.ownership_lowering_runs.proofs.StoredRuns.Typed.TypedSteps.{typed_calls_step, typed_deinits_step, typed_ends_step}
use Rattle.ownership_lowering_runs.specs.SameRuns.inner.Followed.{Follows, GoesToo, StepsToo, low_next_of}
use Rattle.ownership_lowering_runs.specs.SameRuns.inner.Laws.{AreStepsFollowed}
use Rattle.ownership_lowering_runs.specs.SameRuns.inner.InRightStates.{AtInst, IsComeTo, LeavesSo, effect_there}
use Rattle.sil_verifier_runs.specs.inner.RightStates.{IsRightState}
use Rattle.ownership_lowering_runs.proofs.OwnedCounts.CountedInsts.{insts_counted}
use Rattle.ownership_lowering_runs.proofs.OwnedCounts.CountedReturns.{left_counted}
use Rattle.ownership_lowering_runs.proofs.OwnedCounts.TypedPlaces.{object_stored}
use Rattle.ownership_lowering_runs.proofs.SameRuns.Come.{come_faults, comes_called, comes_right}
use Rattle.ownership_lowering_runs.proofs.SameRuns.RightFinishes.{finishes_whole}
use Rattle.ownership_lowering_runs.proofs.SameRuns.CountedEnds.{CountedNext}
use Rattle.ownership_lowering_runs.proofs.SameRuns.CountedTurns.{deinit_counted, end_counted}
use Rattle.ownership_lowering_runs.proofs.SameRuns.DeinitsCalled.{AreCalled, AreCalledBelow}
use Rattle.ownership_lowering_runs.proofs.SameRuns.Finishing.{dropped_followed, dropping_followed, finishing_followed}
use Rattle.ownership_lowering_runs.proofs.SameRuns.HandedFull.{parts_handed_full}
use Rattle.ownership_lowering_runs.proofs.SameRuns.Outlive.{parts_outlive}
use Rattle.ownership_lowering_runs.proofs.SameRuns.CallsCounted.{calls_counted}
use Rattle.ownership_lowering_runs.proofs.SameRuns.RowsFollowed.{row_followed}
use Rattle.ownership_lowering_runs.proofs.SameRuns.RowsRight.{rows_right}
use Rattle.ownership_lowering_runs.proofs.SameRuns.TrapsRight.{traps_are_right}
use Rattle.ownership_lowering_runs.proofs.SameRuns.RowsFound.{rows_go_along, rows_trap_along}

module _ (m : Module) (bound : ℕ) (s : HolderState) (verified : IsVerified m) (comes : IsComeTo m bound s) (l : LowState) (h : IsTypedFor m s l) where
  abbrev told : ModuleFacts
  told = facts_of m

  right : IsRightState m s
  right = comes_right m bound s verified comes

  -- ---- one step of the lowered run

  steps_too : (next : HolderNext) → StepsToo m bound l next → Follows m bound s l next
  steps_too next d = at next d.low_next d.step d.for
    where
      at : (next : HolderNext) (low_next : LowNext) → low_next_of m bound l ≡ low_next → IsNextFor m next low_next → Follows m bound s l next
      at (Goes s') (Goes l') step for = GoesToo.moves l' l' step LowGoes.there (inr refl) for
      at (Goes s') (Ends x l') step for = absurd for
      at (Ends e s') (Goes l') step for = absurd for
      at (Ends e s') (Ends x l') step for = record { ending = x; last = l'; ends = step; for = for }

  -- the stored numbers stay
  steps_along : (next : HolderNext) → ((s' : HolderState) → next ≡ Goes s' → AreCounts s' l.numbers) → StepsAlong m bound l next → Follows m bound s l next
  steps_along next counts d = at next d.low_next d.step counts d.for
    where
      at : (next : HolderNext) (low_next : LowNext) → low_next_of m bound l ≡ low_next → ((s' : HolderState) → next ≡ Goes s' → AreCounts s' l.numbers)
          → IsNextAlong m l.numbers next low_next → Follows m bound s l next
      at _ _ step counts (IsNextAlong.goes s' l' along numbers) = GoesToo.moves l' l' step LowGoes.there (inr refl) (record {
        tasks = along.tasks;
        memory = along.memory;
        parts = along.parts;
        counts = subst (AreCounts s') (sym numbers) (counts s' refl);
        events = along.totals.events;
        turns = along.totals.turns;
        retains = along.totals.retains;
        releases = along.totals.releases;
      })
      at _ _ step counts (IsNextAlong.ends e s' x l' for) = record { ending = x; last = l'; ends = step; for = for }

  module _ (next : HolderNext) (is_next : holder_run.step m (facts_of m) bound s ≡ next) where
    none : IsNoFault next
    none x last e = come_faults m bound s verified comes last x (is_next ∙ e)

    counted_by : CountedNext l.numbers next → (s' : HolderState) → next ≡ Goes s' → AreCounts s' l.numbers
    counted_by c s' e = subst (CountedNext l.numbers) e c

    -- ---- an instruction

    module _ (x : AtInst m s) where
      call_followed : effect_of x.i.op ≡ row.CallsFunction
          → Performs m told bound s x.rest (left_with m told bound x.frame x.ops) x.f (item.Inst (stands_at x.f x.frame.trail)) (effect_there m bound s x) next
          → Follows m bound s l next
      call_followed call way =
          steps_along next (λ s' e. calls_counted m bound s verified right s' l.numbers x call (is_next ∙ e) h.related.counts)
          (typed_calls_step m bound s l x.frame x.rest x.f x.i x.ops next h x.is x.there x.here (op_of x.i.op call) x.found
          (parts_handed_full m bound s verified right x) way none)

      performs_followed : (effect_of x.i.op ≡ row.CallsFunction → ⊥) → (e : effects.Effect HolderFault) → effect_there m bound s x ≡ e → (n : HolderNext) → n ≡ next
          → Performs m told bound s x.rest (left_with m told bound x.frame x.ops) x.f (item.Inst (stands_at x.f x.frame.trail)) e n → Follows m bound s l n
      performs_followed other _ is n same (Performs.makes c _ moves) = behind n same moves
        where
          behind : (n : HolderNext) → n ≡ next
              → GoesBehind m told bound s x.rest (left_with m told bound x.frame x.ops) x.f (item.Inst (stands_at x.f x.frame.trail)) c n → Follows m bound s l n
          behind _ same (GoesBehind.goes slots entries slots_left put) =
              let leaves : LeavesSo m bound s x c slots entries = record { makes = is; slots_left = slots_left; put = put } in
              row_followed m bound s l x h.related c slots entries (rows_go_along rows_right m bound s verified right l x h other c slots entries leaves)
              (insts_counted m bound s x.rest x.frame x.f x.i x.ops c slots entries l.numbers (record {
                verified = verified;
                typed = h.typed;
                at = x.is;
                there = x.there;
                here = x.here;
                taken = x.found;
                makes = is;
                put = put;
              }) h.related.counts)
          behind _ same (GoesBehind.wrong_slot y e) = absurd (none y s (sym same))
          behind _ same (GoesBehind.wrong_result slots y e put) = absurd (none y s (sym same))
      performs_followed other _ is n same (Performs.calls g args callee _ there bodied before entering) =
          absurd (other (ap effect_of (calls_alone (declarations_of m) (shapes_of m) (shapes_in (shapes_of m) x.frame.function) s.memory x.i x.ops.given g args is)))
      performs_followed other _ is n same (Performs.calls_out g args callee numbers _ there bare num turn moves) =
          absurd (other (ap effect_of (calls_alone (declarations_of m) (shapes_of m) (shapes_in (shapes_of m) x.frame.function) s.memory x.i x.ops.given g args is)))
      performs_followed other _ is _ same (Performs.no_turn g args callee numbers there bare num turn) =
          absurd (other (ap effect_of (calls_alone (declarations_of m) (shapes_of m) (shapes_in (shapes_of m) x.frame.function) s.memory x.i x.ops.given g args is)))
      performs_followed other _ is _ same (Performs.traps t) = rows_trap_along traps_are_right m bound s verified right l x h other t is
      performs_followed other _ is _ same (Performs.no_callee g args there) = absurd (none WrongShape s (sym same))
      performs_followed other _ is _ same (Performs.no_numbers g args callee there bare num) = absurd (none WrongShape s (sym same))
      performs_followed other _ is _ same (Performs.wrong_place g args callee there bodied before) = absurd (none PlaceNotAsAsked s (sym same))
      performs_followed other _ is _ same (Performs.faults y) = absurd (none y s (sym same))
      performs_followed other _ is _ same Performs.unfit = absurd (none WrongShape s (sym same))

      inst_followed : Performs m told bound s x.rest (left_with m told bound x.frame x.ops) x.f (item.Inst (stands_at x.f x.frame.trail)) (effect_there m bound s x) next
          → Follows m bound s l next
      inst_followed way = at (calls_or (effect_of x.i.op))
        where
          at : (effect_of x.i.op ≡ row.CallsFunction) ⊎ (effect_of x.i.op ≡ row.CallsFunction → ⊥) → Follows m bound s l next
          at (inl call) = call_followed call way
          at (inr other) = performs_followed other (effect_there m bound s x) refl next refl way

    -- ---- the first frame

    module _ (frame : Frame) (rest : List (Task Frame)) (f : Function) (is : s.tasks ≡ Runs frame ∷ rest) (there : slice_get m.functions frame.function.0 ≡ Some f) where
      tasks : TasksAre m h.typed.world (Runs frame ∷ rest)
      tasks = subst (TasksAre m h.typed.world) is h.typed.tasks

      running : Running m s rest frame f
      running = record {
        w = h.typed.world;
        of = h.typed.of;
        memory = h.typed.memory;
        typed = subst (λ g. FrameIs m h.typed.world g frame) (same_Some tasks.0.0 f (sym tasks.0.1.is ∙ there)) tasks.0.1;
        below = tasks.1;
      }

      called : AreCalledBelow m frame rest
      called = (subst (AreCalled m) is (comes_called m bound s verified comes)).1

      end_followed : inst_at f (stands_at f frame.trail) ≡ None → Acts m told bound s rest frame f next → Follows m bound s l next
      end_followed at_end way =
          steps_along next (counted_by (end_counted m verified bound l.numbers s rest frame f running h.typed is called h.related.counts at_end next way))
          (typed_ends_step m bound s l frame rest f next h is there at_end
          (λ last t ops y u ends returns found alone worth held.
          left_counted m bound s frame f t ops y u l.numbers (record {
            verified = verified;
            typed = h.typed;
            at = is ∙ ap (λ r. Runs frame ∷ r) last;
            there = there;
            stands = record { behind = at_end; terminator = ends };
            is = returns;
            taken = found;
            alone = alone;
            none = held;
          }) worth h.related.counts) way none)

      does_followed : (i : Inst) → inst_at f (stands_at f frame.trail) ≡ Some i → (n : HolderNext) → n ≡ next → Acts m told bound s rest frame f n → Follows m bound s l next
      does_followed i here n same (Acts.does j ops _ here' found way) =
          inst_followed (record { frame = frame; rest = rest; f = f; i = j; ops = ops; is = is; there = there; here = here'; found = found })
          (subst (Performs m told bound s rest (left_with m told bound frame ops) f (item.Inst (stands_at f frame.trail)) (holder_run.effect_in m told bound s frame j ops.given)) same way)
      does_followed i here n same (Acts.branches j _ stands one way) = absurd (none-some i (sym stands.behind ∙ here))
      does_followed i here n same (Acts.chooses j choose y v k _ stands how by worth chosen way) = absurd (none-some i (sym stands.behind ∙ here))
      does_followed i here n same (Acts.returns j ops y _ stands returns found one way) = absurd (none-some i (sym stands.behind ∙ here))
      does_followed i here _ same (Acts.unreachable j stands e) = absurd (none-some i (sym stands.behind ∙ here))
      does_followed i here _ same (Acts.wrong_operand j y here' found) = absurd (none y s (sym same))
      does_followed i here _ same (Acts.no_operand j choose stands how e) = absurd (none-some i (sym stands.behind ∙ here))
      does_followed i here _ same (Acts.no_entry j choose stands how by) = absurd (none-some i (sym stands.behind ∙ here))
      does_followed i here _ same (Acts.no_value j choose y stands how by e) = absurd (none-some i (sym stands.behind ∙ here))
      does_followed i here _ same (Acts.no_choice j choose y v stands how by worth e) = absurd (none-some i (sym stands.behind ∙ here))
      does_followed i here _ same (Acts.wrong_returned j y stands returns found) = absurd (none-some i (sym stands.behind ∙ here))
      does_followed i here _ same (Acts.not_one_returned j ops stands returns found e) = absurd (none-some i (sym stands.behind ∙ here))
      does_followed i here _ same (Acts.no_ending j stands e) = absurd (none-some i (sym stands.behind ∙ here))
      does_followed i here _ same (Acts.no_terminator behind e) = absurd (none-some i (sym behind ∙ here))

      frame_followed : Acts m told bound s rest frame f next → Follows m bound s l next
      frame_followed way = at (inst_at f (stands_at f frame.trail)) refl
        where
          at : (o : Option Inst) → inst_at f (stands_at f frame.trail) ≡ o → Follows m bound s l next
          at None e = end_followed e way
          at (Some i) e = does_followed i e next refl way

    -- ---- a step

    -- what is dropped is held
    dropped_alive : (o : ObjectId) (os : List ObjectId) (rest : List (Task Frame)) → s.tasks ≡ Drops (o ∷ os) ∷ rest → is_dead s.memory o ≡ false
    dropped_alive o os rest is = at (cases_Bool (is_dead s.memory o))
      where
        at : (is_dead s.memory o ≡ true) ⊎ (is_dead s.memory o ≡ false) → is_dead s.memory o ≡ false
        at (inr alive) = alive
        at (inl dead) =
            let n : strong_holders s o ≡ 0 = right.guarded.dead o dead in
            let k = drops_counted m told bound (one_object o) s o os rest is in
            let one = counts_itself o in absurd (omega (arith, n, k, one))

    ways_followed : (n : HolderNext) → n ≡ next → StepsBy m told bound s n → Follows m bound s l next
    ways_followed n same (StepsBy.runs frame rest f _ is there way) = frame_followed frame rest f is there (subst (Acts m told bound s rest frame f) same way)
    ways_followed _ same (StepsBy.dropped rest is) = subst (Follows m bound s l) same (steps_too _ (dropped_followed m bound s l h.related rest is))
    ways_followed n same (StepsBy.drops o os rest _ is way) =
        subst (Follows m bound s l) same (steps_too n (dropping_followed m bound s l h.related o os rest is (dropped_alive o os rest is) n way))
    ways_followed n same (StepsBy.finishes o rest _ is way) =
        subst (Follows m bound s l) same
        (steps_too n (finishing_followed m bound s l h.related o rest is (finishes_whole m s right o rest is)
        (object_stored m h.typed.world s.memory h.typed.memory l.numbers h.related.counts.size o (subst (TasksAre m h.typed.world) is h.typed.tasks).0.0)
        (λ zero lrest. parts_outlive m bound s verified right l o rest lrest h is zero) n way))
    ways_followed n same (StepsBy.calls_deinit g gs o rest f _ is there way) =
        let moves = subst (Enters m told bound (record s { tasks = Finishes gs o ∷ rest }) (Finishes gs o ∷ rest) g f (ValueOf (value.Object o) ∷ [])) same way in
        let first = (subst (TasksAre m h.typed.world) is h.typed.tasks).0.1.0 in
        let deinit = (typed_module m verified).deinits first.class g first.is in
        let bodied = subst (λ (b : Function). has_any b.blocks ≡ true) (same_Some deinit.body f (sym deinit.there ∙ there)) deinit.bodied in
        steps_along next (counted_by (deinit_counted m verified bound l.numbers s g gs o rest f is there bodied first.class first.is h.related.counts next moves))
        (typed_deinits_step m bound s l g gs o rest f next h is there moves none)
    ways_followed _ same (StepsBy.no_task is) = absurd (none WrongShape s (sym same))
    ways_followed _ same (StepsBy.no_function frame rest is there) = absurd (none WrongShape s (sym same))
    ways_followed _ same (StepsBy.no_deinit g gs o rest is there) = absurd (none WrongShape _ (sym same))

pub steps_followed : AreStepsFollowed
steps_followed m bound s verified comes l h =
    ways_followed m bound s verified comes l h (holder_run.step m (facts_of m) bound s) refl (holder_run.step m (facts_of m) bound s) refl
    (steps_told m (facts_of m) bound s)
