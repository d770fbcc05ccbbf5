-- Beside each state in which a turn of the lowered run begins stands one to which the run by holders comes. For wherever the lowered run is, it is on its
-- way to such a state, in the same turn.
use Rattle.std.proofs.Common.{◌≡◌, ◌⊎◌, inl, inr, ℕ, zero, suc, ◌<◌, ◌≤◌, arith, refl, sym, ap, ◌∙◌, subst, true, Some, slice_get}
use Rattle.std.proofs.lemmas.Option.{same_Some}
use Rattle.sil_ast.specs.declared.function.Function.{Function}
use Rattle.sil_ast.specs.declared.module.Module.{Module}
use Rattle.sil_ast.specs.declared.place.FuncId.{FuncId}
use Rattle.sil_types_declarations.specs.TypeDefinitions.Declarations.{declarations_of}
use Rattle.sil_verifier_runs.specs.sil_verifier_accepted.AcceptedModules.inner.Checked.{IsVerified}
use Rattle.sil_verifier_runs.specs.holder_model.HolderStates.{HolderNext, HolderState}
use Rattle.sil_verifier_runs.specs.holder_model.ModuleFacts.{facts_of}
use Rattle.sil_verifier_runs.specs.holder_model.ModuleShapes.{shapes_of}
use Rattle.sil_verifier_runs.specs.holder_model.Outcomes.{begins, may_start, outcome_at, run}
use Rattle.sil_verifier_runs.specs.holder_model.States.{Ending, Ends, Goes, step_on}
use Rattle.sil_verifier_runs.specs.holder_model.Steps as holder_run
use Rattle.sil_verifier_runs.specs.holder_model.declared.lowered_run.low_fault.LowFault.{LowFault}
use Rattle.sil_verifier_runs.specs.holder_model.LoweredRun.LowOutcomes.{low_begins}
use Rattle.sil_verifier_runs.specs.holder_model.LoweredRun.LowStepParts.{LowNext, LowState}
use Rattle.sil_verifier_runs.specs.holder_model.LoweredRun.LowSteps as low_run
use Rattle.ownership_lowering_laws.specs.ownership_lowering_model.LoweredModules.{lowered, lowered_body}
use Rattle.ownership_lowering_runs.specs.StoredRuns.inner.PlaceRows.{LowGoes}
use Rattle.ownership_lowering_runs.specs.StoredRuns.inner.States.{IsStateFor}
use Rattle.ownership_lowering_runs.specs.StoredRuns.inner.TypedSteps.{IsTypedFor}
use Rattle.ownership_lowering_runs.proofs.StoredRuns.StayingSteps.{function_there}
use Rattle.ownership_lowering_runs.specs.SameRuns.inner.Followed.{EndsToo, GoesToo, left_of}
use Rattle.ownership_lowering_runs.specs.SameRuns.inner.InRightStates.{IsComeTo}
use Rattle.ownership_lowering_runs.specs.SameRuns.inner.Laws.{BeginsTurn, CountsHolders}
use Rattle.ownership_lowering_runs.proofs.SameRuns.Begun.{begin_typed_for, lowers}
use Rattle.ownership_lowering_runs.proofs.SameRuns.Come.{run_on}
use Rattle.ownership_lowering_runs.proofs.SameRuns.RunsSame.{follows, next_typed}
use Rattle.ownership_lowering_runs.proofs.EndedRuns.LowLess.{left, low_leaves_less}
use Rattle.ownership_lowering_runs.proofs.EndedRuns.Measured.{going, on_map}
use Rattle.ownership_lowering_runs.proofs.EndedRuns.Work.{LeavesLess, longest, turns_on}

-- ---- turns of the lowered run

module _ (m : Module) (bound : ℕ) where
  abbrev low_step : LowState → LowNext
  low_step l = low_run.low_step (lowered m) (shapes_of (lowered m)) bound l

  step_turns : (l next : LowState) → low_step l ≡ Goes next → l.turns ≤ next.turns
  step_turns l next is =
      going (λ (t : LowState). l.turns ≤ t.turns) (low_step l) next is
      (on_map (LeavesLess (left (lowered m) (shapes_of (lowered m)) bound) (longest (lowered m)) bound l) (λ (t : LowState). l.turns ≤ t.turns)
      (turns_on (left (lowered m) (shapes_of (lowered m)) bound) (longest (lowered m)) bound l) (low_step l) (low_leaves_less (lowered m) (shapes_of (lowered m)) bound l))

  way_turns : (last l : LowState) → LowGoes m bound last l → l.turns ≤ last.turns
  way_turns last _ LowGoes.there = omega arith
  way_turns last _ (LowGoes.more l next is goes) =
      let first = step_turns l next is in
      let others = way_turns last next goes in omega (arith, first, others)

  same_next : (l t : LowState) → ◌≡◌ {A = LowNext} (Goes l) (Goes t) → l ≡ t
  same_next l t e = cc

  no_end : (e : Ending LowFault) (l t : LowState) → ◌≡◌ {A = LowNext} (Ends e l) (Goes t) → ⊥
  no_end e l t is = cc

-- ---- the way to a state that stands beside one

module _ (m : Module) (e : FuncId) (f : Function) (bound : ℕ) (verified : IsVerified m) (there : slice_get m.functions e.0 ≡ Some f)
    (may : may_start f ≡ true) where
  abbrev step : HolderState → HolderNext
  step s = holder_run.step m (facts_of m) bound s

  -- the run by holders comes to a state
  abbrev Comes : ℕ → HolderState → Type 0
  Comes steps s = run step steps (begins e f) ≡ Goes s

  -- the lowered run goes on in this turn to a state that stands beside it
  record OnWay (l : LowState) : Type 0 where
    pub s : HolderState
    pub steps : ℕ
    pub comes : Comes steps s
    pub low : LowState
    pub typed : IsTypedFor m s low
    pub goes : LowGoes m bound low l
    pub turn : low.turns ≡ l.turns

  -- from one state on the way the lowered run comes to another one, in the same turn or beside a state of the run by holders
  abbrev Came : LowState → LowState → Type 0
  Came before l = OnWay l × ((l.turns ≡ before.turns) ⊎ CountsHolders m e f bound l)

  module _ (before l : LowState) (goes_on : low_step m bound before ≡ Goes l) where
    module _ (s : HolderState) (n : ℕ) (comes : Comes n s) (h : IsTypedFor m s before)
        (shorter : (t : HolderState) → left_of m t.tasks < left_of m s.tasks → Comes (suc n) t → IsTypedFor m t before → Came before l) where
      come : IsComeTo m bound s
      come = record { e = e; f = f; there = there; may = may; steps = n; comes = comes }

      on_to : (t : HolderState) → step s ≡ Goes t → Comes (suc n) t
      on_to t is = run_on m bound n (begins e f) s comes ∙ is

      moved : (t : HolderState) → step s ≡ Goes t → (low_next : LowState) → LowGoes m bound low_next l → (t.turns ≡ s.turns) ⊎ (l ≡ low_next)
          → IsStateFor m t low_next → Came before l
      moved t is low_next goes (inl same) related =
          let first = step_turns m bound before l goes_on in
          let others = way_turns m bound low_next l goes in
          let begun = h.related.turns in
          let ended = related.turns in (
            record {
              s = t;
              steps = suc n;
              comes = on_to t is;
              low = low_next;
              typed = next_typed m bound s t before low_next h is related;
              goes = goes;
              turn = omega (arith, same, first, others, begun, ended);
            },
            inl (omega (arith, same, first, others, begun, ended)),
          )
      moved t is low_next goes (inr one) related =
          let along : IsStateFor m t l = subst (IsStateFor m t) (sym one) related in (
            record {
              s = t;
              steps = suc n;
              comes = on_to t is;
              low = l;
              typed = next_typed m bound s t before l h is along;
              goes = LowGoes.there;
              turn = refl;
            },
            inr (record { s = t; steps = suc n; comes = on_to t is; along = along }),
          )

      on : (t : HolderState) → step s ≡ Goes t → GoesToo m bound s before t → Came before l
      on t is (GoesToo.moves behind low_next first goes turn related) =
          let same : behind ≡ l = same_next m bound behind l (sym first ∙ goes_on) in
          moved t is low_next (subst (LowGoes m bound low_next) same goes) (subst (λ (x : LowState). (t.turns ≡ s.turns) ⊎ (x ≡ low_next)) same turn) related
      on t is (GoesToo.stays less related) = shorter t less (on_to t is) (next_typed m bound s t before before h is related)

      from_here : Came before l
      from_here = at (step s) refl
        where
          at : (next : HolderNext) → step s ≡ next → Came before l
          at (Goes t) is = on t is (follows m bound verified s before come h (Goes t) is)
          at (Ends x y) is =
              let d : EndsToo m bound before (outcome_at x y) = follows m bound verified s before come h (Ends x y) is in
              absurd (no_end m bound d.ending d.last l (sym d.ends ∙ goes_on))

    -- from a state that stands beside one, by what is left of the block
    beside : (k n : ℕ) (s : HolderState) → left_of m s.tasks ≤ k → Comes n s → IsTypedFor m s before → Came before l
    beside zero n s short comes h = from_here s n comes h (λ t less c g. absurd (omega (arith, short, less)))
    beside (suc k) n s short comes h = from_here s n comes h (λ t less c g. beside k (suc n) t (omega (arith, short, less)) c g)

    came : OnWay before → Came before l
    came w = by before w.goes refl
      where
        by : (at : LowState) → LowGoes m bound w.low at → at ≡ before → Came before l
        by _ LowGoes.there same =
            beside (left_of m w.s.tasks) w.steps w.s (omega arith) w.comes (subst (IsTypedFor m w.s) same w.typed)
        by _ (LowGoes.more at next is goes) same =
            let there_too : next ≡ l = same_next m bound next l (sym is ∙ ap (low_step m bound) same ∙ goes_on) in
            let others : LowGoes m bound w.low l = subst (LowGoes m bound w.low) there_too goes in
            let first = step_turns m bound before l goes_on in
            let last = way_turns m bound w.low l others in
            let turn = w.turn in (
              record { s = w.s; steps = w.steps; comes = w.comes; low = w.low; typed = w.typed; goes = others; turn = omega (arith, first, last, turn) },
              inl (omega (arith, first, last, turn)),
            )

  on_way : (k : ℕ) (a l : LowState) → OnWay a → run (low_step m bound) k a ≡ Goes l → OnWay l
  on_way zero a l w ran = subst OnWay (same_next m bound a l ran) w
  on_way (suc k) a l w ran = at (low_step m bound a) refl (λ b x. on_way k b l x)
    where
      at : (n : LowNext) → low_step m bound a ≡ n → ((b : LowState) → OnWay b → run (low_step m bound) k b ≡ Goes l → OnWay l) → OnWay l
      at (Goes b) is later = later b (came a b is w).0 (sym (ap (step_on (run (low_step m bound) k)) is) ∙ ran)
      at (Ends x y) is later = absurd (no_end m bound x y l (sym (ap (step_on (run (low_step m bound) k)) is) ∙ ran))

  abbrev lf : Function
  lf = lowered_body (declarations_of m) f

  begin : OnWay (low_begins e lf)
  begin = record {
    s = begins e f;
    steps = 0;
    comes = refl;
    low = low_begins e lf;
    typed = begin_typed_for m e f verified there may;
    goes = LowGoes.there;
    turn = refl;
  }

  begun_beside : (l : LowState) → BeginsTurn (lowered m) e lf bound l → CountsHolders m e f bound l
  begun_beside _ BeginsTurn.first = record { s = begins e f; steps = 0; comes = refl; along = (begin_typed_for m e f verified there may).related }
  begun_beside _ (BeginsTurn.next steps before l ran is turn) = at (came before l is (on_way steps (low_begins e lf) before begin ran)).1
    where
      at : (l.turns ≡ before.turns) ⊎ CountsHolders m e f bound l → CountsHolders m e f bound l
      at (inl same) = absurd (omega (arith, same, turn))
      at (inr there_too) = there_too

  pub turn_begun : (entry : Function) (l : LowState) → slice_get (lowered m).functions e.0 ≡ Some entry → BeginsTurn (lowered m) e entry bound l
      → CountsHolders m e f bound l
  turn_begun entry l is turn =
      let low_there : slice_get (lowered m).functions e.0 ≡ Some lf = function_there m bound e.0 f there (lowers m e f verified there may).form in
      begun_beside l (subst (λ g. BeginsTurn (lowered m) e g bound l) (same_Some entry lf (sym is ∙ low_there)) turn)
