-- A module in which a copy became a move runs as it did, as the states of both are right.
use Rattle.std.specs.Prelude.{◌≡◌, ◌<◌, ℕ, true, false, Some, slice_get}
use Rattle.std.specs.List.{list_any}
use Rattle.sil_ast.specs.declared.function.Function.{Function}
use Rattle.sil_ast.specs.declared.module.Module.{Module}
use Rattle.sil_ast.specs.declared.place.PointId.{PointId}
use Rattle.sil_ast.specs.declared.place.ValueId.{ValueId}
use Rattle.sil_cfg.specs.Items.{point_at}
use Rattle.sil_cfg.specs.declared.item.Item.TheVariants as item
use Rattle.sil_types_declarations.specs.TypeDefinitions.Declarations.{declarations_of}
use Rattle.ownership_kinds_chains.specs.OwnershipChains.Facts.{is_owned, known_or}
use Rattle.ownership_kinds_chains.specs.OwnershipMarks.Marks.{marks_of}
use Rattle.sil_verifier_runs.specs.sil_verifier_accepted.AcceptedModules.inner.Checked.{IsVerified}
use Rattle.sil_verifier_runs.specs.inner.RightStates.{IsRightState}
use Rattle.holder_model_laws.specs.ownership_kinds_origins.Facts.{facts_in}
use Rattle.copy_pairing_acceptance.specs.copy_pairing_model.Removable.{concerns}
use Rattle.copy_pairing_acceptance.specs.copy_pairing_model.Optimised.{moves}
use Rattle.copy_pairing_acceptance.specs.copy_pairing_model.Rewritten.{moved, with_function}
use Rattle.copy_pairing_acceptance.specs.RewritingLaws.inner.Laws.{RewritingKeepsVerified}
use Rattle.holder_model_laws.specs.LockstepRuns.inner.Agreeing.{RunsAsItDid}
use Rattle.copy_pairing_runs.proofs.LentRuns.AsItDid.{right_on_runs}
use Rattle.copy_pairing_acceptance.proofs.MovedFunctions.Split.{IsSplit, split}
use Rattle.copy_pairing_runs.specs.MovedRuns.inner.Laws.{MovedRunsAsItDid}
use Rattle.copy_pairing_runs.proofs.MovedRuns.InRuns.{moved_as_it_did}
use Rattle.copy_pairing_runs.proofs.MovedRuns.KnownFrames.{known_frames}

module _ (m : Module) (n : ℕ) (f : Function) (verified : IsVerified m) (there : slice_get m.functions n ≡ Some f) {p : PointId} {last : ℕ} {c v : ValueId} (s : IsSplit f p last c v)
    (owned : is_owned (known_or (facts_in (declarations_of m) f) v).kind ≡ true)
    (quiet : (k : ℕ) → p.index < k → k < last
    → list_any (concerns c v) (marks_of (facts_in (declarations_of m) f) f (item.Inst (point_at p.block.0 k))) ≡ false)
    (verified' : IsVerified (with_function n (moved p last) m)) where
  split_as_it_did : RunsAsItDid m (with_function n (moved p last) m)
  split_as_it_did =
      moved_as_it_did m n f verified there s owned quiet (λ bound. IsRightState m) (λ bound. IsRightState (with_function n (moved p last) m))
      (right_on_runs m verified) (right_on_runs (with_function n (moved p last) m) verified')
      (λ bound. known_frames m n f verified there s owned (IsRightState m) (λ h is. is.typed) (λ h is. is.placed))

pub moved_runs_as_it_did : RewritingKeepsVerified → MovedRunsAsItDid
moved_runs_as_it_did keeps m n f p c v verified there copy never h =
    split_as_it_did m n f verified there (split f p h.last c v copy h.next.behind h.next.destroyed) h.owned h.next.quiet
    (keeps m n p (with_function n (moved p h.last) m) verified (moves f c v there copy never h)).verified
