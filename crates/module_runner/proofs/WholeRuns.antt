-- Both runs of an accepted module and both of its optimised one end, each in one way, and tell the same.
use Rattle.std.proofs.Common.{◌≡◌, ℕ, true, refl, subst, Some, slice_get}
use Rattle.copy_pairing.specs.copy_pairing_acceptance.RewritingLaws.inner.Laws.{RewritingKeepsVerified}
use Rattle.copy_pairing.specs.copy_pairing_runs.OptimisedRuns.inner.Laws.{OptimisedOutcomesAgree}
use Rattle.holder_model.specs.Faults.{HolderFault}
use Rattle.holder_model.specs.Outcomes.{EndsSo, Outcome, may_start}
use Rattle.holder_model.specs.inner.Laws.{RunsEndOnce}
use Rattle.holder_model.specs.LoweredRun.inner.Laws.{LoweredRunsEndOnce}
use Rattle.ownership_lowering_model.specs.LoweredModules.{lowered}
use Rattle.ownership_lowering_runs.specs.EndedRuns.inner.Laws.{RunsEndAlike}
use Rattle.ownership_lowering_runs.specs.StoredRuns.inner.Runs.{IsOutcomeFor}
use Rattle.sil_ast.specs.declared.function.Function.{Function}
use Rattle.sil_ast.specs.declared.module.Module.{Module}
use Rattle.sil_ast.specs.declared.place.FuncId.{FuncId}
use Rattle.sil_verifier.specs.sil_verifier_accepted.AcceptedModules.inner.Checked.{IsVerified}
use Rattle.module_runner.specs.inner.WholeRuns.{EndsJustSo, OptimisedEndsAsItDid}
use Rattle.module_runner.proofs.LeftRuns.{left_verified}
use Rattle.module_runner.proofs.Stays.{left_enters}

module _ (once : RunsEndOnce) (low_once : LoweredRunsEndOnce) (alike : RunsEndAlike) where
  ends_just_so : (m : Module) (e : FuncId) (f : Function) (bound : ℕ) → IsVerified m → slice_get m.functions e.0 ≡ Some f → may_start f ≡ true
      → (o : Outcome HolderFault) → EndsSo m e bound o → EndsJustSo m e bound o
  ends_just_so m e f bound verified there may o ends =
      let d = alike m e f bound verified there may in
      record {
        ends = ends;
        only = λ other too. once m e bound other o too ends;
        low = d.low;
        low_ends = d.low_ends;
        low_only = λ other too. low_once (lowered m) e bound other d.low too d.low_ends;
        same = subst (λ x. IsOutcomeFor x d.low) (once m e bound d.outcome o d.ends ends) d.same;
      }

  pub ends_as_it_did : OptimisedOutcomesAgree → RewritingKeepsVerified → OptimisedEndsAsItDid
  ends_as_it_did agree keeps m k e f bound verified optimised there may =
      let first = alike m e f bound verified there may in
      let second = (agree m k verified optimised e bound (record { f = f; is = there; may = may })).forth first.outcome first.ends in
      let entry = left_enters true m k f.name e f optimised (record { there = there; named = refl; starts = may }) in
      record {
        first = first.outcome;
        second = second.0;
        ends = ends_just_so m e f bound verified there may first.outcome first.ends;
        other_ends = ends_just_so k e entry.0 bound (left_verified keeps true m k optimised verified) entry.1.there entry.1.starts second.0 second.1;
        as_it_did = second.2;
      }
