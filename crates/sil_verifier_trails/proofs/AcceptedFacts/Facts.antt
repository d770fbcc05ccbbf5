-- The record of what acceptance says, from the lemmas of the parts and crates before it.
use Rattle.sil_verifier_trails.proofs.RunTrails.RunPaths.{are_entered_once, are_trails}
use Rattle.sil_verifier_trails.proofs.RunTrails.SplicedRuns.{are_spliced}
use Rattle.sil_verifier_trails.proofs.RunTrails.SwitchedTrails.{are_followed, are_on_where_turned, followed_turned}
use Rattle.sil_verifier_trails.proofs.RunTrails.TurnedTrails.{are_of_items}
use Rattle.sil_verifier_trails.proofs.RunTrails.WalkEdges.{along_edges, are_next}
use Rattle.sil_verifier_values.proofs.holder_model_typing.OwnedRunTyping.OwnedIsTyped.{owned_is_typed}
use Rattle.sil_verifier_values.proofs.Accepted.{well_typed}
use Rattle.sil_verifier_values.proofs.Addresses.{addresses_of_lenders, addresses_plain}
use Rattle.sil_verifier_values.proofs.Based.{bases_of_addresses, from_operands, handed_on, lenders_own_bases, lent_by_lenders, owned_own_bases}
use Rattle.sil_verifier_values.proofs.Branches.{taken_over}
use Rattle.sil_verifier_values.proofs.Calls.{calls_handed}
use Rattle.sil_verifier_values.proofs.Facts.{facts_known, run_facts}
use Rattle.sil_verifier_values.proofs.Made.{distinct, items_of, made_once, made_somewhere, made_there, parameters_of_entry}
use Rattle.sil_verifier_values.proofs.Nones.{plain_told}
use Rattle.sil_verifier_values.proofs.Parameters.{entry_told}
use Rattle.sil_verifier_values.proofs.Returns.{given}
use Rattle.sil_verifier_values.proofs.Suited.{forwarded_kinds, results_of_kinds, suited, trivial_plain}
use Rattle.sil_verifier_values.proofs.Switches.{switched}
use Rattle.sil_verifier_values.proofs.TableRows.{argument_rows, result_rows}
use Rattle.sil_verifier_trails.proofs.AcceptedTrails.BasesMade.{bases_as_made}
use Rattle.sil_verifier_trails.proofs.AcceptedTrails.LivesPassed.{lives_passed}
use Rattle.sil_verifier_trails.proofs.AcceptedTrails.OperandsDefined.{operands_defined}
use Rattle.sil_verifier_trails.proofs.AcceptedTrails.ScopesPassed.{bases_kept, scopes_passed}
use Rattle.sil_verifier_trails.proofs.AcceptedTrails.Unbroken.{are_accepted}
use Rattle.sil_verifier_trails.proofs.AcceptedMemory.AccessesRight.{accesses_right, returns_right}
use Rattle.sil_verifier_trails.proofs.AcceptedMemory.InScopes.{in_scopes, lent_in_scopes}
use Rattle.sil_verifier_trails.proofs.AcceptedMemory.InSlots.{in_slots}
use Rattle.sil_verifier_trails.proofs.AcceptedMemory.PartsFollowed.{parts_followed}
use Rattle.sil_verifier_trails.proofs.HeldEntries.EntriesEnded.{end_where_they_may}
use Rattle.sil_verifier_trails.proofs.HeldEntries.EntriesPut.{put_where_they_may}
use Rattle.sil_verifier_trails.proofs.HeldEntries.TrackedOn.{may_end_where_tracked, none_held_at_return, there_where_used, tracked_behind}
use Rattle.sil_verifier_trails.proofs.AcceptedPremises.BasesOfTaken.{bases_of_taken}
use Rattle.sil_verifier_trails.proofs.AcceptedPremises.EndsMayEnd.{ends_right}
use Rattle.sil_verifier_trails.proofs.AcceptedPremises.MadeAtStops.{made_at_stops}
use Rattle.sil_verifier_trails.proofs.AcceptedPlaces.Apart.{apart_by_cells}
use Rattle.sil_verifier_trails.proofs.AcceptedPlaces.CellsKept.{cells_kept, deallocated_empty, fields_followed, given_so, new_are_empty, returned_so, roots_followed}
use Rattle.sil_verifier_trails.proofs.AcceptedPlaces.CellsRight.{operations_right, others_full}
use Rattle.sil_verifier_trails.proofs.AcceptedPlaces.Fields.{fields_built, made_unwritten, unfinished_allowed, unwritten_empty, written_once}
use Rattle.sil_verifier_trails.proofs.AcceptedPlaces.ItemStacks.{none_left_over, slots_closed, slots_kept, slots_opened}
use Rattle.sil_verifier_trails.proofs.AcceptedPlaces.LoansFull.{loans_full}
use Rattle.sil_verifier_trails.proofs.AcceptedPlaces.LoansKept.{loans_followed, loans_there, loans_unwritten}
use Rattle.sil_verifier_trails.proofs.AcceptedPlaces.Locating.{addresses_named, members_located, roots_located}
use Rattle.sil_verifier_trails.proofs.AcceptedPlaces.MadeOnce.{arguments_made_once, slots_made_once}
use Rattle.sil_verifier_trails.proofs.AcceptedPlaces.Mentioned.{are_in_allocated, are_in_open_scopes}
use Rattle.sil_verifier_trails.proofs.AcceptedPlaces.OperationsRight.{are_apart, of_slots, rows_right}
use Rattle.sil_verifier_trails.proofs.AcceptedPlaces.RootsMade.{operands_located}
use Rattle.sil_verifier_trails.proofs.AcceptedPlaces.StackTops.{allocated_once, are_slots, newest_deallocated, slots_allocated}
use Rattle.sil_verifier_trails.proofs.PlacedValues.ArgumentsTold.{arguments_told, arguments_whole, told_arguments}
use Rattle.sil_verifier_trails.proofs.PlacedValues.RootsTold.{begun_told, results_told, roots_trivial}
use Rattle.sil_verifier_trails.proofs.PlacedValues.TrivialArguments.{trivial_full}
use Rattle.sil_verifier_trails.proofs.ScopedAddresses.AddressRows.{borrows_scopes, plain_in_scopes_named, slots_no_bases}
use Rattle.sil_verifier_trails.proofs.ScopedAddresses.AddressScopes.{addresses_in_scopes}
use Rattle.sil_verifier_trails.proofs.ScopedAddresses.OwnScopes.{own_scope}
use Rattle.sil_verifier_trails.specs.AcceptedFacts.inner.Facts.{AcceptedFacts}
use Rattle.sil_verifier_trails.proofs.AcceptedFacts.BasesAsBorrowed.{bases_as_borrowed}
use Rattle.sil_verifier_trails.proofs.AcceptedFacts.BorrowedUsed.{borrowed_used, held_while_borrowed, open_while_borrowed}
use Rattle.sil_verifier_trails.proofs.AcceptedFacts.MadeBefore.{made_before}
use Rattle.sil_verifier_trails.proofs.AcceptedFacts.NonesMade.{nones_made, nones_without_references}
use Rattle.sil_verifier_values.proofs.holder_model_typing.TypedMemory.Trivials.{no_references}
use Rattle.sil_verifier_values.specs.holder_model_typing.TypedMemory.inner.Worlds.{names}

pub accepted_facts : AcceptedFacts
accepted_facts = record {
  -- marks on the trails of items
  functions_are_accepted = are_accepted;
  entries_are_entered_once = are_entered_once;
  next_items_come_next = are_next;
  run_trails_are_trails = are_trails;
  trails_are_of_items = are_of_items;
  trails_are_along_edges = along_edges;
  switches_are_followed = are_followed;
  switches_are_followed_on_trails = followed_turned;
  switches_are_on_where_turned = are_on_where_turned;
  lives_are_passed = lives_passed;
  scopes_are_passed = scopes_passed;
  parts_are_followed = parts_followed;
  accesses_find_parts_right = accesses_right;
  returns_find_parts_right = returns_right;
  -- the facts of a value, and where it is made
  facts_are_known = facts_known;
  run_facts_are_facts = run_facts;
  results_have_rows = result_rows;
  arguments_have_rows = argument_rows;
  results_are_told = results_told;
  begun_are_told = begun_told;
  values_are_made_somewhere = made_somewhere;
  values_are_made_there = made_there;
  values_are_made_at_stops = made_at_stops;
  values_are_made_once = made_once;
  parameters_are_of_entry = parameters_of_entry;
  values_are_distinct = distinct;
  items_are_of_function = items_of;
  results_have_kinds = results_of_kinds;
  operands_suit_roles = suited;
  forwarded_have_kinds = forwarded_kinds;
  parameters_have_kinds = entry_told;
  calls_hand_over = calls_handed;
  branches_hand_over = taken_over;
  switches_hand_over = switched;
  returns_give = given;
  -- operands are defined
  operands_are_defined = operands_defined;
  operands_are_made_before = made_before;
  trails_are_spliced = are_spliced;
  -- Owned operands are held
  owned_are_own_bases = owned_own_bases;
  ends_are_right = ends_right;
  ended_are_there = may_end_where_tracked;
  used_are_there = there_where_used;
  entries_end = end_where_they_may;
  entries_are_put = put_where_they_may;
  entries_go_on = tracked_behind;
  none_is_held_at_return = none_held_at_return;
  -- the bases of a lent operand: what they are, that they are open, and haven't begun anew since it was made
  lenders_are_own_bases = lenders_own_bases;
  guaranteed_are_lent = lent_by_lenders;
  addresses_are_lent = addresses_of_lenders;
  borrows_are_own_scopes = own_scope;
  borrows_are_scopes = borrows_scopes;
  bases_are_of_operands = from_operands;
  bases_are_of_taken = bases_of_taken;
  bases_are_handed_on = handed_on;
  addresses_have_bases = bases_of_addresses;
  bases_are_as_made = bases_as_made;
  bases_are_kept = bases_kept;
  borrowed_are_used = borrowed_used;
  borrowed_are_held = held_while_borrowed;
  borrowed_are_open = open_while_borrowed;
  bases_are_as_borrowed = bases_as_borrowed;
  addresses_are_in_scopes = addresses_in_scopes;
  -- addresses: their locations, and the slots and scopes in which these lie
  addresses_are_named = addresses_named;
  roots_are_located = roots_located;
  members_are_located = members_located;
  operands_are_located = operands_located;
  operands_are_in_allocated = are_in_allocated;
  operands_are_in_open_scopes = are_in_open_scopes;
  addresses_lie_in_slots = in_slots;
  addresses_lie_in_scopes = in_scopes;
  slots_are_made_once = slots_made_once;
  arguments_are_made_once = arguments_made_once;
  arguments_are_told = arguments_told;
  told_are_arguments = told_arguments;
  arguments_are_whole = arguments_whole;
  roots_are_trivial = roots_trivial;
  -- places: allocated and full, allocated and empty, or not there
  roots_are_followed = roots_followed;
  operations_find_cells_right = operations_right;
  others_are_full = others_full;
  cells_are_kept = cells_kept;
  new_are_empty = new_are_empty;
  deallocated_are_empty = deallocated_empty;
  arguments_are_given_so = given_so;
  arguments_are_returned_so = returned_so;
  trivial_arguments_stay_full = trivial_full;
  -- the fields of a new object: unwritten just while they are being built
  fields_are_followed = fields_followed;
  fields_are_built = fields_built;
  unwritten_are_empty = unwritten_empty;
  made_are_unwritten = made_unwritten;
  fields_are_written_once = written_once;
  unfinished_are_allowed = unfinished_allowed;
  -- what is lent
  loans_are_followed = loans_followed;
  loans_are_in_scopes = lent_in_scopes;
  loans_are_full = loans_full;
  loans_are_unwritten = loans_unwritten;
  loans_are_there = loans_there;
  -- what doesn't overlap
  parts_are_apart = apart_by_cells;
  handed_are_apart = are_apart;
  -- the slots that are allocated: one stack, which is popped at its top
  slots_are_allocated = slots_allocated;
  only_slots_are_allocated = are_slots;
  newest_are_deallocated = newest_deallocated;
  new_are_allocated = allocated_once;
  slots_are_kept = slots_kept;
  slots_are_opened = slots_opened;
  slots_are_closed = slots_closed;
  none_are_left = none_left_over;
  -- operations on places
  operations_have_rows = rows_right;
  deallocated_are_slots = of_slots;
  -- values that are Plain, told apart by their types
  modules_are_well_typed = well_typed;
  values_have_forms = owned_is_typed;
  trivial_are_plain = trivial_plain;
  addresses_are_plain = addresses_plain;
  plain_are_told = plain_told;
  nones_are_made_without_owners = nones_made;
  nones_have_no_references = nones_without_references;
  trivial_have_no_references = λ m w s x. no_references (names m w) s x;
  plain_in_scopes_are_named = plain_in_scopes_named;
  slots_have_no_bases = slots_no_bases;
}
