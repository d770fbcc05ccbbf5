-- What may go wrong in a run by holders. No run of an accepted module does so.
pub data HolderFault : Type 0 where
  -- an operand has no entry
  NoEntry : HolderFault
  -- a lent entry is consumed
  ConsumesLent : HolderFault
  -- an operand names a dead object
  NamesDead : HolderFault
  -- an empty place is read, written or taken
  EmptyPlace : HolderFault
  -- a first write, or a deallocation, meets a full place
  FullPlace : HolderFault
  -- the place of an address that a call is handed isn't as its convention asks
  PlaceNotAsAsked : HolderFault
  -- a slot is gone, or isn't the last one
  NotLastSlot : HolderFault
  -- a held entry is overwritten
  OverwritesHeld : HolderFault
  -- a function returns with a held entry
  LeavesHeld : HolderFault
  -- a function returns with a slot
  LeavesSlot : HolderFault
  -- a function returns, and the place of an argument isn't as its convention asks
  LeavesPlace : HolderFault
  -- a value has another shape than the row needs, or a reference is in a plain entry
  WrongShape : HolderFault
