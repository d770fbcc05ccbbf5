-- Runs of the module that is left: of it and of what is lowered of it, and of the module itself beside it.
use Rattle.std.proofs.Common.{◌≡◌, ◌≤◌, ℕ, Bool, true, false, refl, sym, subst, Some, slice_get, arith}
use Rattle.copy_pairing.specs.copy_pairing_runs.OptimisedRuns.inner.Laws.{OptimisedOutcomesAgree}
use Rattle.sil_verifier.specs.holder_model_laws.LockstepRuns.inner.Agreeing.{TellsAsItDid}
use Rattle.copy_pairing.specs.copy_pairing_acceptance.RewritingLaws.inner.Laws.{RewritingKeepsVerified}
use Rattle.copy_pairing_model.specs.Optimised.{IsOptimised, done, more}
use Rattle.holder_model.specs.Faults.{HolderFault}
use Rattle.holder_model.specs.Outcomes.{EndsSo, Outcome, may_start}
use Rattle.sil_ast.specs.declared.function.Function.{Function}
use Rattle.sil_ast.specs.declared.module.Module.{Module}
use Rattle.sil_ast.specs.declared.place.FuncId.{FuncId}
use Rattle.numbered_form.specs.Names.{Name}
use Rattle.ownership_lowering_runs.specs.StoredRuns.inner.Runs.{AreRunsSame, LoweredRunsAreSame}
use Rattle.sil_verifier.specs.sil_verifier_accepted.AcceptedModules.inner.Checked.{IsVerified}
use Rattle.module_runner.specs.Entries.{IsEntry}
use Rattle.module_runner.specs.Optimising.{IsOptimisedIf}
use Rattle.module_runner.proofs.Stays.{left_enters}

optimised_verified : RewritingKeepsVerified → (m k : Module) → IsOptimised m k → IsVerified m → IsVerified k
optimised_verified keeps m _ (done _ none) verified = verified
optimised_verified keeps m k (more _ next _ first rest) verified =
    optimised_verified keeps next k rest (keeps m first.function first.point next verified first.rewrites).verified

pub left_verified : RewritingKeepsVerified → (optimises : Bool) (m k : Module) → IsOptimisedIf optimises m k → IsVerified m → IsVerified k
left_verified keeps true m k left verified = optimised_verified keeps m k left verified
left_verified keeps false m k left verified = subst IsVerified (sym left) verified

-- the lowered run of the module that is left is its run by holders
pub left_same : RewritingKeepsVerified → LoweredRunsAreSame → (optimises : Bool) (m k : Module) (name : Name) (e : FuncId) (f : Function) (bound : ℕ)
    → IsOptimisedIf optimises m k → IsVerified m → IsEntry m name e f → AreRunsSame k e bound
left_same keeps law optimises m k name e f bound left verified entry =
    let there = left_enters optimises m k name e f left entry in
    law k e there.0 bound (left_verified keeps optimises m k left verified) there.1.there there.1.starts

-- and its run by holders is that of the module itself
pub as_itself : OptimisedOutcomesAgree → (optimises : Bool) (m k : Module) (e : FuncId) (f : Function) (bound : ℕ) (o : Outcome HolderFault)
    → IsOptimisedIf optimises m k → IsVerified m → slice_get m.functions e.0 ≡ Some f → may_start f ≡ true → EndsSo k e bound o
    → (itself : Outcome HolderFault) × EndsSo m e bound itself × TellsAsItDid itself o
as_itself agree true m k e f bound o left verified there may ends =
    (agree m k verified left e bound (record { f = f; is = there; may = may })).back o ends
as_itself agree false m k e f bound o left verified there may ends = (
  o,
  subst (λ x. EndsSo x e bound o) left ends,
  record { events = refl; ending = refl; left = refl; retains = omega arith; releases = omega arith },
)
