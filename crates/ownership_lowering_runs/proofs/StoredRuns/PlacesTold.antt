-- Written types, and what a function's own slots are, tell of places what rows ask, where the row spares parts.
use Rattle.sil_verifier_runs.specs.holder_model.Standing.{stands_at}
use Rattle.ownership_lowering_runs.specs.StoredRuns.inner.SparedParts.{ArePlacesTold}
use Rattle.ownership_lowering_runs.specs.StoredRuns.inner.WrittenPlaces.{PlacesWritten}
use Rattle.ownership_lowering_runs.proofs.StoredRuns.OwnSlots.{are_slots_own}
use Rattle.ownership_lowering_runs.proofs.StoredRuns.WrittenPlaces.{are_places_written}

pub are_places_told : ArePlacesTold
are_places_told m s l w frame rest f i ops a frame_is x spares =
    let told : PlacesWritten i ops = are_places_written m s l w frame rest f i ops a frame_is x in
    record {
      emptied = spares.emptied;
      removed = spares.removed;
      own_slot = are_slots_own m frame.function.0 f a (stands_at f frame.trail) i x.here;
      whole = spares.whole;
      words = told.words;
      store_bare = told.store_bare;
      bare_store = told.bare_store;
      at_storage = told.at_storage;
    }
