-- What the laws of trails and of entries ask of values.
use Rattle.sil_verifier_trails.specs.AcceptedTrails.inner.Bases.{HasBasesOfTaken, MakesAtStops}
use Rattle.sil_verifier_values.specs.inner.Known.{InAccepted}
use Rattle.sil_verifier_trails.specs.HeldEntries.inner.Tracked.{EndsWhatMayEnd}
use Rattle.sil_cfg.specs.declared.item.Item.{Item}

abbrev pub AreMadeAtStops : Type 0
AreMadeAtStops = InAccepted (λ d f. MakesAtStops f)

abbrev pub AreBasesOfTaken : Type 0
AreBasesOfTaken = InAccepted (λ d f. HasBasesOfTaken d f)

abbrev pub AreEndsRight : Type 0
AreEndsRight = InAccepted (λ d f. (i : Item) → EndsWhatMayEnd d f i)
