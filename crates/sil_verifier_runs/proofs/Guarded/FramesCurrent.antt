-- The operands of the item at which a tracked frame stands are current: the scopes of addresses among them are open.
use Rattle.std.proofs.Common.{◌∷◌}
use Rattle.sil_types_declarations.specs.TypeDefinitions.Declarations.{declarations_of}
use Rattle.sil_verifier_frames.proofs.sil_verifier_trails.AcceptedTrails.Unbroken.{are_accepted}
use Rattle.sil_verifier_frames.proofs.sil_verifier_trails.RunTrails.RunPaths.{are_trails}
use Rattle.sil_verifier_frames.proofs.sil_verifier_trails.ScopedAddresses.AddressScopes.{addresses_in_scopes}
use Rattle.sil_verifier_runs.specs.inner.Guarded.Premises.{AreFramesCurrent}
use Rattle.sil_verifier_runs.proofs.Guarded.Following.{operands_current}
use Rattle.sil_verifier_runs.proofs.Guarded.Given.{tracked_along}

pub frames_current : AreFramesCurrent
frames_current m n f a lends memory frame i h along =
    operands_current m n f a lends memory frame.entries frame.trail i (are_trails f (are_accepted m n f a.verified a.body).once (i ∷ frame.trail) h)
    (tracked_along (declarations_of m) f frame along) (addresses_in_scopes m n f a frame.trail i h)
