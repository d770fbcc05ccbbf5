-- A module in which a copy became a move runs as it did.
use Rattle.std.specs.Prelude.{◌≡◌, ℕ, Some, slice_get}
use Rattle.sil_verifier_runs.specs.sil_verifier_accepted.AcceptedModules.inner.Checked.{IsVerified}
use Rattle.copy_pairing_acceptance.specs.copy_pairing_model.Copies.{IsCopy}
use Rattle.copy_pairing_acceptance.specs.copy_pairing_model.Optimised.{facts_of}
use Rattle.copy_pairing_acceptance.specs.copy_pairing_model.Removable.{IsBorrowable, IsMovable}
use Rattle.copy_pairing_acceptance.specs.copy_pairing_model.Rewritten.{moved, with_function}
use Rattle.sil_ast.specs.declared.function.Function.{Function}
use Rattle.sil_ast.specs.declared.module.Module.{Module}
use Rattle.sil_ast.specs.declared.place.PointId.{PointId}
use Rattle.sil_ast.specs.declared.place.ValueId.{ValueId}
use Rattle.holder_model_laws.specs.LockstepRuns.inner.Agreeing.{RunsAsItDid}

-- where a copy of an accepted module can't be a borrow and can be a move, the module in which it is one runs as it did
abbrev pub MovedRunsAsItDid : Type 0
MovedRunsAsItDid = (m : Module) (n : ℕ) (f : Function) (p : PointId) (c v : ValueId) → IsVerified m → slice_get m.functions n ≡ Some f → IsCopy f p c v
    → ¬ IsBorrowable (facts_of m f) f c v → (h : IsMovable (facts_of m f) f p c v) → RunsAsItDid m (with_function n (moved p h.last) m)
