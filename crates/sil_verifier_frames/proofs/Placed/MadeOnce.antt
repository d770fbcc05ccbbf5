-- A root that is there isn't made anew by the next item: neither a slot that is allocated nor an argument of the entry is.
use Rattle.std.specs.Prelude.{◌≡◌, false}
use Rattle.sil_verifier_trails.specs.AcceptedPlaces.inner.Cells.{AreArgumentsMadeOnce}
use Rattle.sil_verifier_trails.specs.AcceptedPlaces.inner.Stacks.{AreSlotsMadeOnce}
use Rattle.sil_cfg_items.specs.Items.{item_defined}
use Rattle.holder_model_laws.specs.ownership_kinds_chains.OwnershipChains.Facts.{has}
use Rattle.sil_types_declarations.specs.TypeDefinitions.Declarations.{declarations_of}
use Rattle.sil_verifier_frames.specs.inner.Placed.Roots.{IsThere, argument, slot}
use Rattle.sil_verifier_frames.specs.inner.Placed.TrailLaws.{AreRootsMadeOnce}

module _ (slots_once : AreSlotsMadeOnce) (arguments_once : AreArgumentsMadeOnce) where
  pub roots_made_once : AreRootsMadeOnce
  roots_made_once m n f body t i h goes v there = by there
    where
      by : IsThere (declarations_of m) f t v → has (item_defined f i) v.0 ≡ false
      by (slot b is up) = slots_once m n f body t i h v up
      by (argument row b is) = arguments_once m n f body t i h goes v row b is
