-- What acceptance of a module says of its functions and of their trails: the laws from which it follows that no run of it faults, together.
-- None speaks of searches. Each says something of all trails, of all items or of all values of a function.
use Rattle.sil_verifier_values.specs.holder_model_typing.TypedMemory.inner.Laws.{HaveNoReferences}
use Rattle.sil_verifier_trails.specs.RunTrails.inner.Laws.{AreAlongEdges, AreEnteredOnce, AreFollowed, AreFollowedTurned, AreNext}
use Rattle.sil_verifier_trails.specs.RunTrails.inner.Laws.{AreOfItems, AreOnWhereTurned, AreSpliced, AreTrails}
use Rattle.sil_verifier_values.specs.holder_model_typing.OwnedRunTyping.inner.OwnedTyped.{OwnedIsTyped}
use Rattle.sil_verifier_values.specs.inner.Bases.{AreAddressesOfLenders, AreBasesOfAddresses, AreFromOperands, AreHandedOn}
use Rattle.sil_verifier_values.specs.inner.Bases.{AreLendersOwnBases, AreLentByLenders, AreOwnedOwnBases}
use Rattle.sil_verifier_values.specs.inner.Handed.{AreCallsHanded, AreEntryTold, AreGiven, AreSwitched, AreTakenOver}
use Rattle.sil_verifier_values.specs.inner.Known.{AreFactsKnown, AreRunFacts, AreWellTyped}
use Rattle.sil_verifier_values.specs.inner.Making.{AreDistinct, AreItemsOf, AreMadeOnce, AreMadeSomewhere, AreMadeThere, AreParametersOfEntry}
use Rattle.sil_verifier_values.specs.inner.Nones.{AreAddressesPlain, ArePlainTold}
use Rattle.sil_verifier_values.specs.inner.Operands.{AreForwarded, AreResultsOfKinds, AreSuited, AreTrivialPlain}
use Rattle.sil_verifier_values.specs.inner.Rows.{AreArgumentRows, AreResultRows}
use Rattle.sil_verifier_trails.specs.AcceptedTrails.inner.Accepted.{AreAccepted}
use Rattle.sil_verifier_trails.specs.AcceptedTrails.inner.Bases.{AreBasesAsMade}
use Rattle.sil_verifier_trails.specs.AcceptedTrails.inner.Defined.{AreOperandsDefined}
use Rattle.sil_verifier_trails.specs.AcceptedTrails.inner.Lives.{AreBasesKept, AreLivesPassed, AreScopesPassed}
use Rattle.sil_verifier_trails.specs.AcceptedMemory.inner.Companions.{AreInScopes, AreInSlots, AreLentInScopes}
use Rattle.sil_verifier_trails.specs.AcceptedMemory.inner.PartTrails.{AreAccessesRight, ArePartsFollowed, AreReturnsRight}
use Rattle.sil_verifier_trails.specs.HeldEntries.inner.Entries.{EndWhereTheyMay, PutWhereTheyMay}
use Rattle.sil_verifier_trails.specs.HeldEntries.inner.Tracked.{AreThereWhereUsed, AreTrackedBehind, MayEndWhereTracked, NoneHeldAtReturn}
use Rattle.sil_verifier_trails.specs.AcceptedPremises.inner.Laws.{AreBasesOfTaken, AreEndsRight, AreMadeAtStops}
use Rattle.sil_verifier_trails.specs.AcceptedPlaces.inner.Cells.{AreArgumentsMadeOnce, AreCellsKept, AreDeallocatedEmpty, AreFieldsFollowed}
use Rattle.sil_verifier_trails.specs.AcceptedPlaces.inner.Cells.{AreGivenSo, AreNewEmpty, AreOperationsRight, AreOthersFull}
use Rattle.sil_verifier_trails.specs.AcceptedPlaces.inner.Cells.{AreReturnedSo, AreRootsFollowed}
use Rattle.sil_verifier_trails.specs.AcceptedPlaces.inner.Loans.{AreApartByCells, AreLoansFollowed, AreLoansFull, AreLoansThere, AreLoansUnwritten}
use Rattle.sil_verifier_trails.specs.AcceptedPlaces.inner.Located.{AreAddressesNamed, AreInAllocated, AreInOpenScopes}
use Rattle.sil_verifier_trails.specs.AcceptedPlaces.inner.Located.{AreMembersLocated, AreOperandsLocated, AreRootsLocated}
use Rattle.sil_verifier_trails.specs.AcceptedPlaces.inner.Operations.{AreApart, AreOfSlots, AreRowsRight}
use Rattle.sil_verifier_trails.specs.AcceptedPlaces.inner.Stacks.{AreAllocatedOnce, AreNewestDeallocated, AreNoneLeft, AreSlots, AreSlotsAllocated}
use Rattle.sil_verifier_trails.specs.AcceptedPlaces.inner.Stacks.{AreSlotsClosed, AreSlotsKept, AreSlotsMadeOnce, AreSlotsOpened}
use Rattle.sil_verifier_trails.specs.AcceptedPlaces.inner.Unfinished.{AreFieldsBuilt, AreMadeUnwritten, AreUnfinishedAllowed}
use Rattle.sil_verifier_trails.specs.AcceptedPlaces.inner.Unfinished.{AreUnwrittenEmpty, AreWrittenOnce}
use Rattle.sil_verifier_trails.specs.PlacedValues.inner.Arguments.{AreArgumentsTold, AreArgumentsWhole, AreBegunTold, AreResultsTold}
use Rattle.sil_verifier_trails.specs.PlacedValues.inner.Arguments.{AreRootsTrivial, AreToldArguments, AreTrivialFull}
use Rattle.sil_verifier_trails.specs.AcceptedFacts.inner.Definitions.{AreOperandsMadeBefore}
use Rattle.sil_verifier_trails.specs.AcceptedFacts.inner.Nones.{AreNonesMadeWithoutOwners, HaveNonesNoReferences}
use Rattle.sil_verifier_trails.specs.AcceptedFacts.inner.OpenScopes.{AreBasesAsBorrowed, AreBorrowedUsed, AreHeldWhileBorrowed, AreOpenWhileBorrowed}
use Rattle.sil_verifier_trails.specs.ScopedAddresses.inner.Addresses.{AreAddressesInScopes, AreBorrowsOwnScopes, AreBorrowsScopes, ArePlainInScopesNamed}
use Rattle.sil_verifier_trails.specs.ScopedAddresses.inner.Addresses.{HaveSlotsNoBases}

pub record AcceptedFacts : Type 0 where
  -- ---- marks on the trails of items
  -- in a function with a body of an accepted module no rule on values is broken, and no edge goes back to the entry block
  pub functions_are_accepted : AreAccepted
  -- in a function that is ready for its graph no edge goes back to the entry block
  pub entries_are_entered_once : AreEnteredOnce
  -- a trail with what comes at the point where it stands is a trail
  pub next_items_come_next : AreNext
  -- the trail of a frame is a trail of the frame's function
  pub run_trails_are_trails : AreTrails
  -- it is of the function's items
  pub trails_are_of_items : AreOfItems
  -- and goes along the edges that they take
  pub trails_are_along_edges : AreAlongEdges
  -- where no walk shows that marks break their switch, no mark on a frame's trail does
  pub switches_are_followed : AreFollowed
  -- nor does one on any other trail of the function
  pub switches_are_followed_on_trails : AreFollowedTurned
  -- a switch that no mark broke is on just where the marks turned it on
  pub switches_are_on_where_turned : AreOnWhereTurned
  -- each item finds an Owned value held or not, as its marks need it, and leaves it so
  pub lives_are_passed : AreLivesPassed
  -- it finds a scope open or not, as its marks need it, and leaves it so
  pub scopes_are_passed : AreScopesPassed
  -- each part of memory is on or off, as its marks leave it
  pub parts_are_followed : ArePartsFollowed
  -- each access finds each part as its mark needs it
  pub accesses_find_parts_right : AreAccessesRight
  -- and so does a `return`
  pub returns_find_parts_right : AreReturnsRight
  -- ---- the facts of a value, and where it is made
  -- each value has a kind and bases: those that its origin tells by those of its operands
  pub facts_are_known : AreFactsKnown
  -- a run is told just these
  pub run_facts_are_facts : AreRunFacts
  -- each result of an instruction has the origin, the borrow and the loan that its row tells
  pub results_have_rows : AreResultRows
  -- each argument of a block has those that its block tells
  pub arguments_have_rows : AreArgumentRows
  -- what a result is to memory its row says
  pub results_are_told : AreResultsTold
  -- what begins along an edge is nothing to memory
  pub begun_are_told : AreBegunTold
  -- each value is made by an instruction, by the entry, or by the edges into a block
  pub values_are_made_somewhere : AreMadeSomewhere
  -- by each item that is there, and by no other
  pub values_are_made_there : AreMadeThere
  -- so it is made by one item, or by all edges into one block
  pub values_are_made_at_stops : AreMadeAtStops
  -- all items that make it lead to one point
  pub values_are_made_once : AreMadeOnce
  -- the entry alone makes its arguments
  pub parameters_are_of_entry : AreParametersOfEntry
  -- no item makes a value twice
  pub values_are_distinct : AreDistinct
  -- an item takes and makes values of its function
  pub items_are_of_function : AreItemsOf
  -- a result is Plain where its type is trivial, and else of the kind that its row says
  pub results_have_kinds : AreResultsOfKinds
  -- an operand is of a kind that its role takes
  pub operands_suit_roles : AreSuited
  -- an instruction that forwards has no Owned and Guaranteed operands at once
  pub forwarded_have_kinds : AreForwarded
  -- the arguments of the entry have the types and kinds that the signature tells of
  pub parameters_have_kinds : AreEntryTold
  -- a call hands over what the signature tells of
  pub calls_hand_over : AreCallsHanded
  -- a branch hands over what its block takes
  pub branches_hand_over : AreTakenOver
  -- so does a switch
  pub switches_hand_over : AreSwitched
  -- a `return` gives what the signature tells of
  pub returns_give : AreGiven
  -- ---- operands are defined
  -- what the next item takes is defined on the trail
  pub operands_are_defined : AreOperandsDefined
  -- so on every walk to an item what makes an operand stands before the item
  pub operands_are_made_before : AreOperandsMadeBefore
  -- where an a precedes each b and a b each c, no a has come since the last b where a c comes next
  pub trails_are_spliced : AreSpliced
  -- ---- Owned operands are held
  -- an Owned value is its own base, and has no other
  pub owned_are_own_bases : AreOwnedOwnBases
  -- what an item ends is an Owned value, or a scope that is its own base
  pub ends_are_right : AreEndsRight
  -- what the next item ends has its entry, where the entries go along with the trail
  pub ended_are_there : MayEndWhereTracked
  -- behind the ends so has what it uses
  pub used_are_there : AreThereWhereUsed
  -- operands that find their entries end: theirs are gone, and the others stay
  pub entries_end : EndWhereTheyMay
  -- results begin where nothing is held: theirs are as their kinds ask, and the others stay
  pub entries_are_put : PutWhereTheyMay
  -- behind the item the entries go along with the longer trail
  pub entries_go_on : AreTrackedBehind
  -- behind the ends of a `return` no Owned value is held
  pub none_is_held_at_return : NoneHeldAtReturn
  -- ---- the bases of a lent operand: what they are, that they are open, and haven't begun anew since it was made
  -- a borrow and a `@guaranteed` argument of the entry are their own bases, and have no others
  pub lenders_are_own_bases : AreLendersOwnBases
  -- the bases of a Guaranteed value are such borrows and arguments
  pub guaranteed_are_lent : AreLentByLenders
  -- and so are those of an address
  pub addresses_are_lent : AreAddressesOfLenders
  -- what borrows is a scope that is its own base
  pub borrows_are_own_scopes : AreBorrowsOwnScopes
  -- and it is a scope to memory too
  pub borrows_are_scopes : AreBorrowsScopes
  -- a base of a value is the value itself, or a base of one of its operands
  pub bases_are_of_operands : AreFromOperands
  -- which the item that makes the value takes
  pub bases_are_of_taken : AreBasesOfTaken
  -- a Guaranteed value that lends nothing itself has the bases of its Guaranteed operands
  pub bases_are_handed_on : AreHandedOn
  -- an address has the bases of its operands
  pub addresses_have_bases : AreBasesOfAddresses
  -- the bases of an operand were made when it was or before, and not anew since, as values are made at stops and have bases of what is taken
  pub bases_are_as_made : AreBasesAsMade
  -- while a scope is open what it borrows from doesn't end
  pub bases_are_kept : AreBasesKept
  -- what opens the scope uses it
  pub borrowed_are_used : AreBorrowedUsed
  -- an Owned value that the scope borrows is held, and hasn't begun anew
  pub borrowed_are_held : AreHeldWhileBorrowed
  -- a scope that it borrows from is open, and hasn't begun anew
  pub borrowed_are_open : AreOpenWhileBorrowed
  -- nothing that it borrows from has begun anew, whatever it is
  pub bases_are_as_borrowed : AreBasesAsBorrowed
  -- the scopes of an address are open where the next item takes it
  pub addresses_are_in_scopes : AreAddressesInScopes
  -- ---- addresses: their locations, and the slots and scopes in which these lie
  -- an address is a root, or a member of what is at another one
  pub addresses_are_named : AreAddressesNamed
  -- a root is a location of its own
  pub roots_are_located : AreRootsLocated
  -- a member is located one step behind the address that it is named at
  pub members_are_located : AreMembersLocated
  -- the root of an address that the next item takes was made when the address was or before, and not anew since
  pub operands_are_located : AreOperandsLocated
  -- its slot is allocated
  pub operands_are_in_allocated : AreInAllocated
  -- its scopes are open
  pub operands_are_in_open_scopes : AreInOpenScopes
  -- an address lies in its slot just while the slot is allocated
  pub addresses_lie_in_slots : AreInSlots
  -- it lies in a scope just while the scope is open
  pub addresses_lie_in_scopes : AreInScopes
  -- no item makes a slot anew that is allocated
  pub slots_are_made_once : AreSlotsMadeOnce
  -- none makes an argument of the entry anew
  pub arguments_are_made_once : AreArgumentsMadeOnce
  -- an argument that is an address is the one that the signature tells of at its number
  pub arguments_are_told : AreArgumentsTold
  -- and what the signature tells of there is what the argument is to memory
  pub told_are_arguments : AreToldArguments
  -- no argument lies in another one
  pub arguments_are_whole : AreArgumentsWhole
  -- a slot and an argument are told to be trivial as their types are
  pub roots_are_trivial : AreRootsTrivial
  -- ---- places: allocated and full, allocated and empty, or not there
  -- a slot, and an argument that nobody shares, has a cell that is followed
  pub roots_are_followed : AreRootsFollowed
  -- each operation finds its cell full or empty, as its row needs it, and leaves it as its row says
  pub operations_find_cells_right : AreOperationsRight
  -- at a place that isn't followed each operation needs the place full, and leaves it full
  pub others_are_full : AreOthersFull
  -- an item leaves a cell as it was that it doesn't touch and doesn't make
  pub cells_are_kept : AreCellsKept
  -- a cell that it makes is empty
  pub new_are_empty : AreNewEmpty
  -- a slot that it deallocates is empty, unless it is of a trivial type
  pub deallocated_are_empty : AreDeallocatedEmpty
  -- at the entry an argument's place is as its convention says
  pub arguments_are_given_so : AreGivenSo
  -- and so it is at a `return`
  pub arguments_are_returned_so : AreReturnedSo
  -- an argument of a trivial type stays full where it was given full
  pub trivial_arguments_stay_full : AreTrivialFull
  -- ---- the fields of a new object: unwritten just while they are being built
  -- each field of a new object has a cell that is followed
  pub fields_are_followed : AreFieldsFollowed
  -- and of each it is followed whether it is to be written
  pub fields_are_built : AreFieldsBuilt
  -- a field is to be written just while it is empty
  pub unwritten_are_empty : AreUnwrittenEmpty
  -- what makes the object leaves all of its fields to be written
  pub made_are_unwritten : AreMadeUnwritten
  -- a field that was written stays written until the object is made anew
  pub fields_are_written_once : AreWrittenOnce
  -- while a field is to be written the object is taken only where the row of the item allows it
  pub unfinished_are_allowed : AreUnfinishedAllowed
  -- ---- what is lent
  -- what a scope borrows of a location is followed
  pub loans_are_followed : AreLoansFollowed
  -- it is lent just while the scope is open
  pub loans_are_in_scopes : AreLentInScopes
  -- it is full as long
  pub loans_are_full : AreLoansFull
  -- nothing that overlaps it is written or emptied
  pub loans_are_unwritten : AreLoansUnwritten
  -- nor is its slot deallocated
  pub loans_are_there : AreLoansThere
  -- ---- what doesn't overlap
  -- two parts of a shape of which neither is within the other have no cell in common
  pub parts_are_apart : AreApartByCells
  -- two addresses that an item hands over don't overlap, unless both are shared
  pub handed_are_apart : AreApart
  -- ---- the slots that are allocated: one stack, which is popped at its top
  -- a slot is on the stack just while it is allocated
  pub slots_are_allocated : AreSlotsAllocated
  -- nothing else is on it
  pub only_slots_are_allocated : AreSlots
  -- an access deallocates the newest slot
  pub newest_are_deallocated : AreNewestDeallocated
  -- it allocates a slot that isn't there yet
  pub new_are_allocated : AreAllocatedOnce
  -- an item whose row neither allocates nor deallocates leaves the stack as it is
  pub slots_are_kept : AreSlotsKept
  -- one that allocates a slot puts it on top
  pub slots_are_opened : AreSlotsOpened
  -- one that deallocates a slot finds it on top, and leaves the others
  pub slots_are_closed : AreSlotsClosed
  -- at a `return` there is none
  pub none_are_left : AreNoneLeft
  -- ---- operations on places
  -- each operation is one that the row of its location has
  pub operations_have_rows : AreRowsRight
  -- what is deallocated is a slot
  pub deallocated_are_slots : AreOfSlots
  -- ---- values that are Plain, told apart by their types
  -- an accepted module keeps the rules on types that a run relies on
  pub modules_are_well_typed : AreWellTyped
  -- so each operand and each result is a value of a shape, an address, a function or nothing, as its row asks, where no function is lowered
  pub values_have_forms : OwnedIsTyped
  -- a value of a trivial type, and one without a type, is Plain
  pub trivial_are_plain : AreTrivialPlain
  -- so is an address
  pub addresses_are_plain : AreAddressesPlain
  -- a Plain value is one of these, or a None value: it is made of Plain values alone
  pub plain_are_told : ArePlainTold
  -- a None value is made of values without owners alone
  pub nones_are_made_without_owners : AreNonesMadeWithoutOwners
  -- and has no references: a run makes no entry of one that has some
  pub nones_have_no_references : HaveNonesNoReferences
  -- nor has a value of a trivial shape
  pub trivial_have_no_references : HaveNoReferences
  -- a Plain value with bases is an address, and no argument
  pub plain_in_scopes_are_named : ArePlainInScopesNamed
  -- a slot has no bases
  pub slots_have_no_bases : HaveSlotsNoBases
