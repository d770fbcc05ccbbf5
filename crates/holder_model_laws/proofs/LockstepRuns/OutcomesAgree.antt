-- What is told of runs that agree.
use Rattle.std.proofs.Common.{◌≡◌, ℕ, refl, ap, ◌∙◌, subst, Option, Some, None}
use Rattle.std.specs.Prelude.{option_and_then, slice_get}
use Rattle.sil_ast.specs.declared.function.Function.{Function}
use Rattle.sil_ast.specs.declared.module.Module.{Module}
use Rattle.sil_ast.specs.declared.place.FuncId.{FuncId}
use Rattle.holder_model.specs.Faults.{HolderFault}
use Rattle.holder_model.specs.HolderStates.{HolderNext, HolderState}
use Rattle.holder_model.specs.ModuleFacts.{facts_of}
use Rattle.holder_model.specs.Outcomes.{EndsSo, Outcome, begins, outcome_after, outcome_at, run}
use Rattle.holder_model.specs.States.{Ending, Ends, Goes}
use Rattle.holder_model.specs.Steps.{step}
use Rattle.holder_model_laws.specs.LockstepRuns.inner.Agreeing.{EndsAsItDid, EndsIn, TellsAsItDid}
use Rattle.holder_model_laws.specs.LockstepRuns.inner.Laws.{AreOutcomesInLockstep}

-- an outcome is told of the state in which the run ends
record EndsWith (m : Module) (e : FuncId) (bound : ℕ) (outcome : Outcome HolderFault) : Type 0 where
  ending : Ending HolderFault
  s : HolderState
  ends : EndsIn m (facts_of m) e bound ending s
  is : outcome_at ending s ≡ outcome

ends_with : (m : Module) (e : FuncId) (bound : ℕ) (outcome : Outcome HolderFault) → EndsSo m e bound outcome → EndsWith m e bound outcome
ends_with m e bound outcome so = by_function (slice_get m.functions e.0) refl so.1
  where
    by_state : (f : Function) → slice_get m.functions e.0 ≡ Some f → (n : HolderNext) → run (step m (facts_of m) bound) so.0 (begins e f) ≡ n
        → outcome_after n ≡ Some outcome → EndsWith m e bound outcome
    by_state f there (Goes s) is q = absurd (cc)
    by_state f there (Ends x s) is q = record { ending = x; s = s; ends = record { f = f; is = there; steps = so.0; ends = is }; is = cc }

    by_function : (o : Option Function) → slice_get m.functions e.0 ≡ o
        → option_and_then (λ f. outcome_after (run (step m (facts_of m) bound) so.0 (begins e f))) o ≡ Some outcome → EndsWith m e bound outcome
    by_function None there q = absurd (cc)
    by_function (Some f) there q = by_state f there (run (step m (facts_of m) bound) so.0 (begins e f)) refl q

ends_so : (m : Module) (e : FuncId) (bound : ℕ) (x : Ending HolderFault) (s : HolderState) → EndsIn m (facts_of m) e bound x s
    → EndsSo m e bound (outcome_at x s)
ends_so m e bound x s ends = (
  ends.steps,
  ap (λ o. option_and_then (λ f. outcome_after (run (step m (facts_of m) bound) ends.steps (begins e f))) o) ends.is ∙ ap outcome_after ends.ends,
)

tells : (x : Ending HolderFault) (h r : HolderState) → EndsAsItDid x h r → TellsAsItDid (outcome_at x h) (outcome_at x r)
tells x h r did = record { events = did.events; ending = refl; left = did.left; retains = did.retains; releases = did.releases }

pub outcomes_in_lockstep : AreOutcomesInLockstep
outcomes_in_lockstep m m' e bound agree = record {
  forth = λ first so.
      let z = ends_with m e bound first so in
      let f = agree.forth z.ending z.s z.ends in (
        outcome_at z.ending f.second,
        ends_so m' e bound z.ending f.second f.ends,
        subst (λ o. TellsAsItDid o (outcome_at z.ending f.second)) z.is (tells z.ending z.s f.second f.as_it_did),
      );
  back = λ second so.
      let z = ends_with m' e bound second so in
      let b = agree.back z.ending z.s z.ends in (
        outcome_at z.ending b.first,
        ends_so m e bound z.ending b.first b.ends,
        subst (λ o. TellsAsItDid (outcome_at z.ending b.first) o) z.is (tells z.ending b.first z.s b.as_it_did),
      );
}
