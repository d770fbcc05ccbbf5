-- The laws of trails hold: they are those of places, and of what values are to memory.
use Rattle.sil_verifier_trails.proofs.AcceptedPlaces.Apart.{apart_by_cells}
use Rattle.sil_verifier_trails.proofs.AcceptedPlaces.CellsKept.{cells_kept, deallocated_empty, given_so, new_are_empty, returned_so, roots_followed}
use Rattle.sil_verifier_trails.proofs.AcceptedPlaces.CellsRight.{operations_right, others_full}
use Rattle.sil_verifier_trails.proofs.AcceptedPlaces.ItemStacks.{accepted_in, none_left_over, slots_closed, slots_kept, slots_opened}
use Rattle.sil_verifier_trails.proofs.AcceptedPlaces.MadeOnce.{arguments_made_once, slots_made_once}
use Rattle.sil_verifier_trails.proofs.AcceptedPlaces.Mentioned.{are_in_allocated}
use Rattle.sil_verifier_trails.proofs.AcceptedPlaces.OperationsRight.{are_apart, rows_right}
use Rattle.sil_verifier_trails.proofs.AcceptedPlaces.RootsMade.{operands_located}
use Rattle.sil_verifier_trails.proofs.AcceptedPlaces.StackTops.{are_slots, slots_allocated}
use Rattle.sil_verifier_trails.proofs.PlacedValues.ArgumentsTold.{arguments_told, arguments_whole, told_arguments}
use Rattle.sil_verifier_trails.proofs.PlacedValues.RootsTold.{begun_told, results_told, roots_trivial}
use Rattle.sil_verifier_trails.proofs.PlacedValues.TrivialArguments.{trivial_full}
use Rattle.sil_verifier_frames.specs.inner.Placed.TrailLaws.{AreBodiesAccepted, AreRootsMadeOnce, TrailLaws}
use Rattle.sil_verifier_frames.proofs.Placed.MadeOnce.{roots_made_once}

pub bodies_accepted : AreBodiesAccepted
bodies_accepted m n f body = accepted_in m n f body

pub roots_once : AreRootsMadeOnce
roots_once = roots_made_once slots_made_once arguments_made_once

pub trail_laws : TrailLaws
trail_laws = record {
  followed = roots_followed;
  operations = operations_right;
  others = others_full;
  kept = cells_kept;
  new_empty = new_are_empty;
  left_empty = deallocated_empty;
  given = given_so;
  returned = returned_so;
  slots = are_slots;
  slots_kept = slots_kept;
  slots_opened = slots_opened;
  slots_closed = slots_closed;
  none_left = none_left_over;
  made_once = roots_once;
  trivial_full = trivial_full;
  parts_apart = apart_by_cells;
  accepted = bodies_accepted;
  located = operands_located;
  allocated = are_in_allocated;
  slots_allocated = slots_allocated;
  rows = rows_right;
  handed_apart = are_apart;
  results_told = results_told;
  begun_told = begun_told;
  roots_trivial = roots_trivial;
  told = arguments_told;
  from_told = told_arguments;
  whole = arguments_whole;
}
