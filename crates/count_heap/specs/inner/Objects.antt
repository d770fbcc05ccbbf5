-- The objects of a heap, as they lie in memory: the slot of each, a record and side counts by slot, and pieces of leaves.
use Rattle.std.specs.Prelude.{ℕ, ◌+◌, List, [], Bool, true, false, cond, Option, Some, None, drop, length, map, option_map, slice_index_or, take, unwrap_or}
use Rattle.sil_types.specs.sil_types_declarations.TypeDefinitions.Declarations.{Declarations}
use Rattle.holder_model_values.specs.RunValues.Memory.{is_dead_phase}
use Rattle.holder_model_values.specs.declared.run_values.leaf.Leaf.{Leaf}
use Rattle.holder_model_values.specs.declared.run_values.leaf.Leaf.TheVariants.{Blank, Int, Object, Tag}
use Rattle.holder_model_values.specs.declared.run_values.phase.Phase.TheVariants.{Dead}
use Rattle.weak_unowned.specs.Sides.{sides_at}
use Rattle.weak_unowned.specs.declared.side.SlotSides.{SlotSides}
use Rattle.number_tables.specs.TableByNumber.Numbers.{Numbers}
use Rattle.count_heap.specs.PooledLeaves.Pieces.{Pieces, piece_in}
use Rattle.count_heap.specs.LayoutsByClass.ClassFields.{leaves_by_field}
use Rattle.count_heap.specs.LayoutsByClass.Layouts.{places_from}
use Rattle.count_heap.specs.declared.layouts_by_class.field_place.FieldPlace.{FieldPlace}
use Rattle.count_heap.specs.HeapModel.HeapViews.{HeapObject, HeapView}
use Rattle.count_heap.specs.declared.slot_record.SlotRecord.{SlotRecord}

abbrev pub no_record : SlotRecord
no_record = record { strong = 0; piece = 0; class = 0; phase = Dead }

abbrev pub record_at : List SlotRecord → ℕ → SlotRecord
record_at records s = slice_index_or records s no_record

-- the leaf in front of a field's own tells that it is written
abbrev pub is_mark : Leaf → Bool
is_mark (Int n) = true
is_mark (Object o) = true
is_mark (Tag n) = true
is_mark Blank = false

abbrev pub field_at : List Leaf → FieldPlace → Option (List Leaf)
field_at leaves p = cond (is_mark (slice_index_or leaves p.from Blank)) (Some (take p.count (drop (p.from + 1) leaves))) None

abbrev pub leaves_in : Pieces → ℕ → List Leaf
leaves_in pieces p = unwrap_or (piece_in pieces p) []

abbrev pub places_of : Declarations → ℕ → List FieldPlace
places_of d class = places_from 0 (leaves_by_field d class)

abbrev pub fields_at : Declarations → SlotRecord → Pieces → List (Option (List Leaf))
fields_at d r pieces = cond (is_dead_phase r.phase) [] (map (field_at (leaves_in pieces r.piece)) (places_of d r.class))

-- the object of a slot
abbrev pub object_of : Declarations → SlotRecord → SlotSides → Pieces → HeapObject
object_of d r s pieces = record {
  class = r.class;
  phase = r.phase;
  strong = r.strong;
  unowned = s.unowned;
  weak = s.weak;
  fields = fields_at d r pieces;
}

abbrev pub object_at : Declarations → List SlotRecord → List SlotSides → Pieces → ℕ → HeapObject
object_at d records sides pieces s = object_of d (record_at records s) (sides_at sides s) pieces

abbrev pub objects_in : Declarations → Numbers → List SlotRecord → List SlotSides → Pieces → List (Option HeapObject)
objects_in d t records sides pieces = map (option_map (object_at d records sides pieces)) t.places

abbrev pub heap_of : Declarations → Numbers → List SlotRecord → List SlotSides → Pieces → ℕ → ℕ → HeapView
heap_of d t records sides pieces retains releases = record {
  declarations = d;
  objects = objects_in d t records sides pieces;
  retains = retains;
  releases = releases;
  slots = length sides;
}
