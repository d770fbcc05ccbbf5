-- An optimised module runs as it did: each rewriting keeps runs, and leaves an accepted module.
use Rattle.std.specs.Prelude.{ℕ}
use Rattle.sil_verifier_runs.specs.sil_verifier_accepted.AcceptedModules.inner.Checked.{IsVerified}
use Rattle.copy_pairing_acceptance.specs.copy_pairing_model.Optimised.{Rewrites, done, lends, more, moves}
use Rattle.copy_pairing_runs.specs.LentRuns.inner.Laws.{LentRunsAsItDid}
use Rattle.holder_model_laws.specs.LockstepRuns.inner.Agreeing.{RunsAsItDid}
use Rattle.holder_model_laws.specs.LockstepRuns.inner.Laws.{AreOutcomesInLockstep, IsAsItDidAgain}
use Rattle.copy_pairing_runs.specs.MovedRuns.inner.Laws.{MovedRunsAsItDid}
use Rattle.copy_pairing_runs.specs.OptimisedRuns.inner.Laws.{OptimisedOutcomesAgree, OptimisedRunsAsItDid}
use Rattle.copy_pairing_acceptance.specs.RewritingLaws.inner.Laws.{RewritingKeepsVerified}
use Rattle.sil_ast.specs.declared.module.Module.{Module}
use Rattle.sil_ast.specs.declared.place.PointId.{PointId}

module _ (lent : LentRunsAsItDid) (moved : MovedRunsAsItDid) (keeps : RewritingKeepsVerified) (again : IsAsItDidAgain) where
  rewritten_runs : (m : Module) (n : ℕ) (p : PointId) (next : Module) → IsVerified m → Rewrites m n p next → RunsAsItDid m next
  rewritten_runs m n p _ h (lends f c v there copy borrowable) = lent m n f p c v h there copy borrowable
  rewritten_runs m n p _ h (moves f c v there copy never movable) = moved m n f p c v h there copy never movable

  pub optimised_runs : OptimisedRunsAsItDid
  optimised_runs m _ h (done _ none) = again.0 m
  optimised_runs m _ h (more _ next last first rest) =
      again.1 m next last (rewritten_runs m first.function first.point next h first.rewrites)
      (optimised_runs next last (keeps m first.function first.point next h first.rewrites).verified rest)

pub outcomes_agree : OptimisedRunsAsItDid → AreOutcomesInLockstep → OptimisedOutcomesAgree
outcomes_agree runs told m last h optimised e bound may = told m last e bound ((runs m last h optimised).agree e bound may)
