-- Whole runs agree where states in step lead to states in step. The first run makes at least one step for each of the second one's.
use Rattle.std.proofs.Common.{◌≡◌, ℕ, zero, suc, List, refl, sym, ap, ◌∙◌, subst, inl, inr, Some}
use Rattle.std.specs.Prelude.{slice_get}
use Rattle.sil_ast.specs.declared.function.Function.{Function}
use Rattle.sil_ast.specs.declared.module.Module.{Module}
use Rattle.sil_ast.specs.declared.place.FuncId.{FuncId}
use Rattle.sil_cfg.specs.declared.item.Item.{Item}
use Rattle.holder_model.specs.Faults.{HolderFault}
use Rattle.holder_model.specs.Frames.{Entry}
use Rattle.holder_model.specs.HolderStates.{HolderNext, HolderState}
use Rattle.holder_model.specs.ModuleFacts.{ModuleFacts}
use Rattle.holder_model.specs.Outcomes.{begins, run}
use Rattle.holder_model.specs.States.{Ending, Ends, Faulted, Goes, Returned, Trapped, OutOfTurns, step_on}
use Rattle.holder_model.specs.Steps.{step}
use Rattle.holder_model_laws.specs.LockstepRuns.inner.Agreeing.{EndedLike, EndsAsItDid, EndsIn, EndsLike, RunsAgree}
use Rattle.holder_model_laws.specs.LockstepRuns.inner.Lockstep.{AreInStep, AreStepsAlike, AreTogether, IsFault, IsKeptBy}

module _ (m m' : Module) (told told' : ModuleFacts) (bound : ℕ) (First Second : HolderState → Type 0)
    (Like : FuncId → List Item → List Entry → List Item → List Entry → Type 0) (Alone : FuncId → List Item → Type 0)
    (kept : IsKeptBy m told bound First) (kept' : IsKeptBy m' told' bound Second)
    (lock : (h r : HolderState) → First h → Second r → AreTogether Like Alone h r
    → AreStepsAlike First Second (AreInStep Like Alone m told bound) (step m told bound h) (step m' told' bound r)) where
  abbrev InStep : HolderState → HolderState → Type 0
  InStep h r = AreInStep Like Alone m told bound h r

  abbrev Alike : HolderNext → HolderNext → Type 0
  Alike x y = AreStepsAlike First Second InStep x y

  no_fault : (h : HolderState) → First h → (x : HolderNext) → step m told bound h ≡ x → IsFault x → ⊥
  no_fault h first (Goes s) is fault = fault
  no_fault h first (Ends (Returned v) s) is fault = fault
  no_fault h first (Ends (Trapped t) s) is fault = fault
  no_fault h first (Ends OutOfTurns s) is fault = fault
  no_fault h first (Ends (Faulted x) s) is fault = kept.faultless h s x first is

  -- together where the first run has nothing ahead
  arrived : (h r later : HolderState) → run (step m told bound) 0 h ≡ Goes later → AreTogether Like Alone later r → AreTogether Like Alone h r
  arrived h r later comes together = let same : later ≡ h = cc in subst (λ s. AreTogether Like Alone s r) same together

  -- ---- where the first run ends

  record Forth (x : Ending HolderFault) (h r : HolderState) : Type 0 where
    steps : ℕ
    last : HolderState
    is : run (step m' told' bound) steps r ≡ Ends x last
    as_it_did : EndsAsItDid x h last

  forth : (k ahead : ℕ) (h0 r0 later : HolderState) (x : Ending HolderFault) (h : HolderState) → First h0 → Second r0
      → run (step m told bound) ahead h0 ≡ Goes later → AreTogether Like Alone later r0 → run (step m told bound) k h0 ≡ Ends x h → Forth x h r0
  forth zero ahead h0 r0 later x h first second comes together q = absurd (cc)
  forth (suc k) (suc ahead) h0 r0 later x h first second comes together q =
      by (step m told bound h0) refl comes q (λ h1 first1 comes1 q1. forth k ahead h1 r0 later x h first1 second comes1 together q1)
    where
      by : (n : HolderNext) → step m told bound h0 ≡ n → step_on (run (step m told bound) ahead) n ≡ Goes later
          → step_on (run (step m told bound) k) n ≡ Ends x h
          → ((h1 : HolderState) → First h1 → run (step m told bound) ahead h1 ≡ Goes later → run (step m told bound) k h1 ≡ Ends x h → Forth x h r0)
          → Forth x h r0
      by (Goes h1) is comes q go = go h1 (kept.goes h0 h1 first is) comes q
      by (Ends e s) is comes q go = absurd (cc)
  forth (suc k) zero h0 r0 later x h first second comes together q =
      by (step m told bound h0) refl (step m' told' bound r0) refl (lock h0 r0 first second (arrived h0 r0 later comes together)) q
      (λ h1 r1 z first1 second1 q1. forth k z.ahead h1 r1 z.later x h first1 second1 z.comes z.together q1)
    where
      by : (a : HolderNext) → step m told bound h0 ≡ a → (b : HolderNext) → step m' told' bound r0 ≡ b → Alike a b
          → step_on (run (step m told bound) k) a ≡ Ends x h
          → ((h1 r1 : HolderState) → InStep h1 r1 → First h1 → Second r1 → run (step m told bound) k h1 ≡ Ends x h → Forth x h r1) → Forth x h r0
      by a is b is' (inl fault) q go = absurd (no_fault h0 first a is fault)
      by (Goes h1) is (Goes r1) is' (inr s) q go =
          let first1 : First h1 = kept.goes h0 h1 first is in
          let second1 : Second r1 = kept'.goes r0 r1 second is' in
          let f = go h1 r1 (s first1 second1) first1 second1 q in
          record { steps = suc f.steps; last = f.last; is = ap (step_on (run (step m' told' bound) f.steps)) is' ∙ f.is; as_it_did = f.as_it_did }
      by (Goes h1) is (Ends e r1) is' (inr s) q go = absurd s
      by (Ends e h1) is (Goes r1) is' (inr s) q go = absurd s
      by (Ends e h1) is (Ends e' r1) is' (inr s) q go =
          let same : e ≡ x = cc in
          let there : h1 ≡ h = cc in
          record {
            steps = suc zero;
            last = r1;
            is = ap (step_on (run (step m' told' bound) zero)) is' ∙ ap (λ y. Ends y r1) (s.0 ∙ same);
            as_it_did = subst (λ t. EndsAsItDid x t r1) there (subst (λ y. EndsAsItDid y h1 r1) same s.1);
          }

  -- ---- where the second run ends

  record Back (x : Ending HolderFault) (h0 r : HolderState) : Type 0 where
    steps : ℕ
    first : HolderState
    is : run (step m told bound) steps h0 ≡ Ends x first
    as_it_did : EndsAsItDid x first r

  one_more : (x : Ending HolderFault) (h0 h1 r : HolderState) → step m told bound h0 ≡ Goes h1 → Back x h1 r → Back x h0 r
  one_more x h0 h1 r is z =
      record { steps = suc z.steps; first = z.first; is = ap (step_on (run (step m told bound) z.steps)) is ∙ z.is; as_it_did = z.as_it_did }

  back : (j ahead : ℕ) (h0 r0 later : HolderState) (x : Ending HolderFault) (r : HolderState) → First h0 → Second r0
      → run (step m told bound) ahead h0 ≡ Goes later → AreTogether Like Alone later r0 → run (step m' told' bound) j r0 ≡ Ends x r → Back x h0 r
  back zero ahead h0 r0 later x r first second comes together q = absurd (cc)
  back (suc j) (suc ahead) h0 r0 later x r first second comes together q =
      by (step m told bound h0) refl comes (λ h1 first1 comes1. back (suc j) ahead h1 r0 later x r first1 second comes1 together q)
    where
      by : (n : HolderNext) → step m told bound h0 ≡ n → step_on (run (step m told bound) ahead) n ≡ Goes later
          → ((h1 : HolderState) → First h1 → run (step m told bound) ahead h1 ≡ Goes later → Back x h1 r) → Back x h0 r
      by (Goes h1) is comes go = one_more x h0 h1 r is (go h1 (kept.goes h0 h1 first is) comes)
      by (Ends e s) is comes go = absurd (cc)
  back (suc j) zero h0 r0 later x r first second comes together q =
      by (step m told bound h0) refl (step m' told' bound r0) refl (lock h0 r0 first second (arrived h0 r0 later comes together)) q
      (λ h1 r1 z first1 second1 q1. back j z.ahead h1 r1 z.later x r first1 second1 z.comes z.together q1)
    where
      by : (a : HolderNext) → step m told bound h0 ≡ a → (b : HolderNext) → step m' told' bound r0 ≡ b → Alike a b
          → step_on (run (step m' told' bound) j) b ≡ Ends x r
          → ((h1 r1 : HolderState) → InStep h1 r1 → First h1 → Second r1 → run (step m' told' bound) j r1 ≡ Ends x r → Back x h1 r) → Back x h0 r
      by a is b is' (inl fault) q go = absurd (no_fault h0 first a is fault)
      by (Goes h1) is (Goes r1) is' (inr s) q go =
          let first1 : First h1 = kept.goes h0 h1 first is in
          let second1 : Second r1 = kept'.goes r0 r1 second is' in
          one_more x h0 h1 r is (go h1 r1 (s first1 second1) first1 second1 q)
      by (Goes h1) is (Ends e r1) is' (inr s) q go = absurd s
      by (Ends e h1) is (Goes r1) is' (inr s) q go = absurd s
      by (Ends e h1) is (Ends e' r1) is' (inr s) q go =
          let same : e' ≡ x = cc in
          let there : r1 ≡ r = cc in
          let ends : e ≡ x = sym s.0 ∙ same in
          record {
            steps = suc zero;
            first = h1;
            is = ap (step_on (run (step m told bound) zero)) is ∙ ap (λ y. Ends y h1) ends;
            as_it_did = subst (λ t. EndsAsItDid x h1 t) there (subst (λ y. EndsAsItDid y h1 r1) ends s.1);
          }

  -- ---- from the first states

  pub runs_agree : (e : FuncId) (f f' : Function) → slice_get m.functions e.0 ≡ Some f → slice_get m'.functions e.0 ≡ Some f' → First (begins e f)
      → Second (begins e f') → InStep (begins e f) (begins e f') → RunsAgree m m' told told' e bound
  runs_agree e f f' is is' first second s = record {
    forth = λ x h ends. forth_in x h ends;
    back = λ x r ends. back_in x r ends;
  }
    where
      forth_in : (x : Ending HolderFault) (h : HolderState) → EndsIn m told e bound x h → EndsLike m m' told told' e bound x h
      forth_in x h ends =
          let same : ends.f ≡ f = let a = ends.is in cc in
          let z = forth ends.steps s.ahead (begins e f) (begins e f') s.later x h first second s.comes s.together
          (subst (λ g. run (step m told bound) ends.steps (begins e g) ≡ Ends x h) same ends.ends) in
          record { second = z.last; ends = record { f = f'; is = is'; steps = z.steps; ends = z.is }; as_it_did = z.as_it_did }

      back_in : (x : Ending HolderFault) (r : HolderState) → EndsIn m' told' e bound x r → EndedLike m m' told told' e bound x r
      back_in x r ends =
          let same : ends.f ≡ f' = let a = ends.is in cc in
          let z = back ends.steps s.ahead (begins e f) (begins e f') s.later x r first second s.comes s.together
          (subst (λ g. run (step m' told' bound) ends.steps (begins e g) ≡ Ends x r) same ends.ends) in
          record { first = z.first; ends = record { f = f; is = is; steps = z.steps; ends = z.is }; as_it_did = z.as_it_did }
