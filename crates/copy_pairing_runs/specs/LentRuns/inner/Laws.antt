-- A module in which a copy is lent runs as it did.
use Rattle.std.specs.Prelude.{◌≡◌, ℕ, Some, slice_get}
use Rattle.sil_ast.specs.declared.function.Function.{Function}
use Rattle.sil_ast.specs.declared.module.Module.{Module}
use Rattle.sil_ast.specs.declared.place.PointId.{PointId}
use Rattle.sil_ast.specs.declared.place.ValueId.{ValueId}
use Rattle.copy_pairing_acceptance.specs.copy_pairing_model.Copies.{IsCopy}
use Rattle.copy_pairing_acceptance.specs.copy_pairing_model.Optimised.{facts_of}
use Rattle.copy_pairing_acceptance.specs.copy_pairing_model.Removable.{IsBorrowable}
use Rattle.copy_pairing_acceptance.specs.copy_pairing_model.Rewritten.{lent, with_function}
use Rattle.holder_model_laws.specs.LockstepRuns.inner.Agreeing.{RunsAsItDid}
use Rattle.sil_verifier_runs.specs.sil_verifier_accepted.AcceptedModules.inner.Checked.{IsVerified}

-- where a copy of an accepted module can be a borrow, the module in which it is one runs as it did
abbrev pub LentRunsAsItDid : Type 0
LentRunsAsItDid = (m : Module) (n : ℕ) (f : Function) (p : PointId) (c v : ValueId) → IsVerified m → slice_get m.functions n ≡ Some f → IsCopy f p c v
    → IsBorrowable (facts_of m f) f c v → RunsAsItDid m (with_function n (lent c) m)
