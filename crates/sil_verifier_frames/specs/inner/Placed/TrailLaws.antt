-- The laws of trails by which a run's places are right: those of slots and of cells, and that no root that is there is made anew.
use Rattle.std.specs.Prelude.{◌≡◌, List, ◌∷◌, false}
use Rattle.sil_verifier_trails.specs.AcceptedTrails.inner.Accepted.{IsAcceptedIn}
use Rattle.sil_verifier_trails.specs.RunTrails.inner.RunTrails.{GoesOn, IsRunTrail}
use Rattle.sil_verifier_trails.specs.PlacedValues.inner.Arguments.{AreArgumentsTold, AreArgumentsWhole, AreBegunTold}
use Rattle.sil_verifier_trails.specs.PlacedValues.inner.Arguments.{AreResultsTold, AreRootsTrivial, AreToldArguments, AreTrivialFull}
use Rattle.sil_verifier_trails.specs.AcceptedPlaces.inner.Cells.{AreCellsKept, AreDeallocatedEmpty, AreGivenSo, AreNewEmpty}
use Rattle.sil_verifier_trails.specs.AcceptedPlaces.inner.Cells.{AreOperationsRight, AreOthersFull, AreReturnedSo, AreRootsFollowed}
use Rattle.sil_verifier_trails.specs.AcceptedPlaces.inner.Loans.{AreApartByCells}
use Rattle.sil_verifier_trails.specs.AcceptedPlaces.inner.Located.{AreInAllocated, AreOperandsLocated}
use Rattle.sil_verifier_trails.specs.AcceptedPlaces.inner.Operations.{AreApart, AreRowsRight}
use Rattle.sil_verifier_trails.specs.AcceptedPlaces.inner.Stacks.{AreNoneLeft, AreSlots, AreSlotsAllocated}
use Rattle.sil_verifier_trails.specs.AcceptedPlaces.inner.Stacks.{AreSlotsClosed, AreSlotsKept, AreSlotsOpened}
use Rattle.sil_verifier_trails.specs.sil_verifier_values.inner.Known.{InAccepted}
use Rattle.sil_cfg_items.specs.Items.{item_defined}
use Rattle.holder_model_laws.specs.ownership_kinds_chains.OwnershipChains.Facts.{has}
use Rattle.sil_ast.specs.declared.place.ValueId.{ValueId}
use Rattle.sil_cfg.specs.declared.item.Item.{Item}
use Rattle.sil_verifier_frames.specs.inner.Placed.Roots.{IsThere}

-- a root that is there isn't made anew by the next item
abbrev pub AreRootsMadeOnce : Type 0
AreRootsMadeOnce = InAccepted (λ d f. (t : List Item) (i : Item) → IsRunTrail f (i ∷ t) → GoesOn t → (v : ValueId) → IsThere d f t v
    → has (item_defined f i) v.0 ≡ false)

abbrev pub AreBodiesAccepted : Type 0
AreBodiesAccepted = InAccepted IsAcceptedIn

pub record TrailLaws : Type 0 where
  pub followed : AreRootsFollowed
  pub operations : AreOperationsRight
  pub others : AreOthersFull
  pub kept : AreCellsKept
  pub new_empty : AreNewEmpty
  pub left_empty : AreDeallocatedEmpty
  pub given : AreGivenSo
  pub returned : AreReturnedSo
  pub slots : AreSlots
  pub slots_kept : AreSlotsKept
  pub slots_opened : AreSlotsOpened
  pub slots_closed : AreSlotsClosed
  pub none_left : AreNoneLeft
  pub made_once : AreRootsMadeOnce
  pub trivial_full : AreTrivialFull
  pub parts_apart : AreApartByCells
  pub accepted : AreBodiesAccepted
  pub located : AreOperandsLocated
  pub allocated : AreInAllocated
  pub slots_allocated : AreSlotsAllocated
  pub rows : AreRowsRight
  pub handed_apart : AreApart
  pub results_told : AreResultsTold
  pub begun_told : AreBegunTold
  pub roots_trivial : AreRootsTrivial
  pub told : AreArgumentsTold
  pub from_told : AreToldArguments
  pub whole : AreArgumentsWhole
