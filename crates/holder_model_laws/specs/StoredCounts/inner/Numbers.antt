-- Stored numbers that are the counts of holders.
use Rattle.std.specs.Prelude.{◌≡◌, ◌<◌, List, length}
use Rattle.numbered_form.specs.Lists.{Each}
use Rattle.sil_ast.specs.declared.place.ObjectId.{ObjectId}
use Rattle.holder_model.specs.holder_model_values.RunValues.Cells.{Cell}
use Rattle.holder_model.specs.HolderStates.{HolderState, strong_holders}
use Rattle.holder_model.specs.Holders.{unowned_holders, weak_holders}
use Rattle.holder_model.specs.Outcomes.{Numbers}
use Rattle.holder_model.specs.LoweredRun.Stored.{numbers_of, unowned_named, weakly_named}

-- what is counted afresh of an object
abbrev pub holders_of : HolderState → ObjectId → Numbers
holders_of s o = record { strong = strong_holders s o; unowned = unowned_holders s.memory o; weak = weak_holders s.memory o }

-- each object has its numbers, and they are its counts
pub record AreCounts (s : HolderState) (stored : List Numbers) : Type 0 where
  pub size : length stored ≡ length s.memory.objects
  pub each : (o : ObjectId) → numbers_of stored o ≡ holders_of s o

-- the object has numbers
abbrev pub IsStoredOf : List Numbers → ObjectId → Type 0
IsStoredOf stored o = o.0 < length stored

-- all that cells name in weak and unowned storage has numbers
pub record AreNamesStored (stored : List Numbers) (cells : List Cell) : Type 0 where
  pub weakly : Each (IsStoredOf stored) (weakly_named cells)
  pub unowned : Each (IsStoredOf stored) (unowned_named cells)
