-- Laws of the objects of a frame.
use Rattle.std.specs.Prelude.{◌≡◌, ◌<◌, ◌≤◌, ◌⊎◌, ◌++◌, ℕ, List, [], ◌∷◌, Bool, true, false, length, Some}
use Rattle.argument_conventions.specs.declared.row.Content.{Content}
use Rattle.argument_conventions.specs.declared.row.Content.TheVariants.{Empty, Full}
use Rattle.holder_model.specs.Data.{AddressOf, Datum, ValueOf, references_in}
use Rattle.holder_model.specs.Frames.{Entry, Gone, entry_at, is_held}
use Rattle.holder_model.specs.MemoryEffects.{asked_before, holds}
use Rattle.holder_model.specs.ModuleShapes.{ModuleShapes, field_shapes}
use Rattle.memory_rules_parts.specs.memory_rules_accesses.Rows.{has_operation, is_part}
use Rattle.memory_rules_parts.specs.memory_rules_accesses.Sources.{source_at}
use Rattle.memory_rules_parts.specs.memory_rules_accesses.declared.access.Operation.{Operation}
use Rattle.memory_rules_parts.specs.memory_rules_accesses.declared.location.Location.{Location}
use Rattle.memory_rules_parts.specs.memory_rules_accesses.declared.source.Source.{Source}
use Rattle.memory_rules_parts.specs.memory_rules_accesses.declared.source.Source.TheVariants as source
use Rattle.holder_model_laws.specs.HolderLaws.inner.Cells.Cells.{IsInside}
use Rattle.numbered_form.specs.Lists.{Each}
use Rattle.numbered_form.specs.Names.{Name}
use Rattle.memory_rules_parts.specs.Building.{builds}
use Rattle.holder_model.specs.holder_model_values.RunValues.Memory.{Memory, new_object, object_at}
use Rattle.holder_model.specs.holder_model_values.RunValues.inner.Fits.{fits}
use Rattle.holder_model.specs.holder_model_values.declared.run_values.phase.Phase.TheVariants.{Live}
use Rattle.holder_model.specs.holder_model_values.RunValues.Places.{Inside, Place, empty_fields, filled, is_there_at, member_place}
use Rattle.holder_model.specs.holder_model_values.RunValues.Values as value
use Rattle.holder_model.specs.holder_model_values.RunValues.Values.{Value, references_of}
use Rattle.sil_ast.specs.declared.place.ObjectId.{ObjectId}
use Rattle.sil_ast.specs.declared.place.ValueId.{ValueId}
use Rattle.holder_model_laws.specs.HolderLaws.inner.Whole.Whole.{IsWhole, IsWholeMemory, NameWhole, StayWhole}
use Rattle.holder_model_laws.specs.HolderLaws.inner.Built.Building.{IsAbout, IsFieldAddress, IsNewField, IsUnfinished, Progress}
use Rattle.holder_model_laws.specs.HolderLaws.inner.Built.FrameObjects.{Holds, HoldsObjects, IsBuiltAs, IsInField, MayName, Names}

-- ---- what stays

-- in a later memory, where what was whole is so still, no object is of another class, and what the frame is building is as it was
pub record StaysFor (sources : List Source) (said : Progress) (entries : List Entry) (memory later : Memory) : Type 0 where
  pub whole : StayWhole memory later
  pub more : length memory.objects ≤ length later.objects
  pub classes : (o : ObjectId) → o.0 < length memory.objects → (object_at later o).class ≡ (object_at memory o).class
  pub building : (object : ValueId) (o : ObjectId) → IsUnfinished sources said object → Holds entries object o → object_at later o ≡ object_at memory o

abbrev pub StayInMemory : Type 0
StayInMemory = (shapes : ModuleShapes) (sources : List Source) (said : Progress) (memory later : Memory) (entries : List Entry)
    → HoldsObjects shapes sources said memory entries → StaysFor sources said entries memory later → HoldsObjects shapes sources said later entries

-- where some entries are gone, but none of an unfinished object
abbrev pub StayWhereEnded : Type 0
StayWhereEnded = (shapes : ModuleShapes) (sources : List Source) (said : Progress) (memory : Memory) (entries left : List Entry)
    → HoldsObjects shapes sources said memory entries
    → ((v : ValueId) → (entry_at left v ≡ entry_at entries v) ⊎ (entry_at left v ≡ Gone))
    → ((object : ValueId) → IsUnfinished sources said object → entry_at left object ≡ entry_at entries object)
    → HoldsObjects shapes sources said memory left

-- ---- what is done at a field

-- an operation asks of a field that is followed what the trail says of it
abbrev pub asks_empty : Content → Bool
asks_empty Empty = true
asks_empty Full = false

module _ (sources : List Source) (said : Progress) where
  pub record IsRightAt (v : ValueId) (l : Location) (of : ValueId) (k : ℕ) (o : Operation) : Type 0 where
    pub row : has_operation sources l o ≡ true
    pub field : (object : ValueId) → builds sources object of ≡ true → IsNewField sources object k
    pub found : (object : ValueId) → builds sources object of ≡ true → (c : Content) → asked_before (is_part l) o ≡ Some c
        → said.unwritten object k ≡ Some (asks_empty c)
    pub as_made : (object : ValueId) → builds sources object of ≡ true → said.as_made object v ≡ true

-- so each operation finds the field as it asks, and there
abbrev pub AreFieldsAsked : Type 0
AreFieldsAsked = (shapes : ModuleShapes) (sources : List Source) (said : Progress) (memory : Memory) (entries : List Entry)
    → HoldsObjects shapes sources said memory entries → IsWholeMemory memory
    → (v : ValueId) (l : Location) (of : ValueId) (k : ℕ) → IsFieldAddress sources v l of k → (p : Place) → Names entries v (AddressOf p) → IsInside memory p
    → (o : Operation) → IsRightAt sources said v l of k o
    → (is_there_at memory p ≡ true) × ((c : Content) → asked_before p.is_part o ≡ Some c → holds memory c p ≡ true)

-- ---- what changes

-- what a trail says is more, and memory is later: what was unfinished is being built still as the trail says now, or is whole
pub record Progresses (shapes : ModuleShapes) (sources : List Source) (said now : Progress) (entries : List Entry) (memory later : Memory) : Type 0 where
  pub whole : StayWhole memory later
  pub more : length memory.objects ≤ length later.objects
  pub classes : (o : ObjectId) → o.0 < length memory.objects → (object_at later o).class ≡ (object_at memory o).class
  pub unfinished : (object : ValueId) → IsUnfinished sources now object → IsUnfinished sources said object
  pub built : (object : ValueId) (o : ObjectId) → IsUnfinished sources said object → Holds entries object o
      → IsBuiltAs shapes sources now object o (object_at later o)
  pub as_made : (object v : ValueId) → now.as_made object v ≡ true → said.as_made object v ≡ true

abbrev pub AreProgressed : Type 0
AreProgressed = (shapes : ModuleShapes) (sources : List Source) (said now : Progress) (memory later : Memory) (entries : List Entry)
    → HoldsObjects shapes sources said memory entries → Progresses shapes sources said now entries memory later
    → HoldsObjects shapes sources now later entries

-- the one field is written now, and all else is as it was
pub record IsWrittenNow (said now : Progress) (object : ValueId) (k : ℕ) : Type 0 where
  pub written : now.unwritten object k ≡ Some false
  pub others : (w : ValueId) (j : ℕ) → ((w ≡ object) × (j ≡ k) → ⊥) → now.unwritten w j ≡ said.unwritten w j
  pub as_made : (w v : ValueId) → now.as_made w v ≡ true → said.as_made w v ≡ true

-- a field of an unfinished object is written by its address: all of it, or what was written before
pub record WritesField (sources : List Source) (said : Progress) (entries : List Entry) (p : Place) (object : ValueId) (k : ℕ) : Type 0 where
  pub v : ValueId
  pub l : Location
  pub of : ValueId
  pub address : IsFieldAddress sources v l of k
  pub names : Names entries v (AddressOf p)
  pub unfinished : IsUnfinished sources said object
  pub holds : (o : ObjectId) → p.home ≡ Inside o → Holds entries object o
  pub covers : (is_part l ≡ false) ⊎ (said.unwritten object k ≡ Some false)

-- a frame holds its objects behind the write; and no other object has changed
abbrev pub AreFieldsWritten : Type 0
AreFieldsWritten = (shapes : ModuleShapes) (sources : List Source) (said now : Progress) (memory : Memory) (entries : List Entry)
    → HoldsObjects shapes sources said memory entries → IsWholeMemory memory → (p : Place) (object : ValueId) (k : ℕ)
    → WritesField sources said entries p object k → IsWrittenNow said now object k → IsInside memory p → (x : Value) → fits p.shape x ≡ true
    → NameWhole memory (references_of x)
    → HoldsObjects shapes sources now (filled memory p x) entries
    × ((o : ObjectId) × Holds entries object o × ((other : ObjectId) → (other ≡ o → ⊥) → object_at (filled memory p x) other ≡ object_at memory other))

-- whose field an address is of: a whole object's, or that of an unfinished one that the frame holds
pub data WhoseField (sources : List Source) (said : Progress) (memory : Memory) (entries : List Entry) (of : ValueId) (o : ObjectId) : Type 0 where
  whole : IsWhole memory o → WhoseField sources said memory entries of o
  unfinished : (object : ValueId) → builds sources object of ≡ true → IsUnfinished sources said object → Holds entries object o
      → WhoseField sources said memory entries of o

-- where the field is still to be written, it is the object's that the address is about
abbrev pub AreFieldsOf : Type 0
AreFieldsOf = (shapes : ModuleShapes) (sources : List Source) (said : Progress) (memory : Memory) (entries : List Entry)
    → HoldsObjects shapes sources said memory entries → (v : ValueId) (l : Location) (of : ValueId) (k : ℕ) → IsFieldAddress sources v l of k
    → (p : Place) → Names entries v (AddressOf p)
    → (o : ObjectId) × (p.home ≡ Inside o) × WhoseField sources said memory entries of o
    × ((object : ValueId) → builds sources object of ≡ true → IsNewField sources object k → said.unwritten object k ≡ Some true → said.as_made object v ≡ true
    → Holds entries object o)

-- ---- a new object

-- all its fields are to be written now, and of others all is as it was
pub record IsMadeNow (sources : List Source) (said now : Progress) (object : ValueId) : Type 0 where
  pub unwritten : (k : ℕ) → IsNewField sources object k → now.unwritten object k ≡ Some true
  pub others : (w : ValueId) → (w ≡ object → ⊥) → (k : ℕ) → now.unwritten w k ≡ said.unwritten w k
  pub as_made : (w v : ValueId) → (v ≡ object → ⊥) → now.as_made w v ≡ true → (w ≡ object → ⊥) × (said.as_made w v ≡ true)

-- the entries behind its making: its own holds it, and was held by none before
pub record HoldsNew (memory : Memory) (entries behind : List Entry) (object : ValueId) : Type 0 where
  pub free : is_held (entry_at entries object) ≡ false
  pub holds : Holds behind object (new_object memory)
  pub others : (v : ValueId) → (v ≡ object → ⊥) → entry_at behind v ≡ entry_at entries v

abbrev pub with_object_of : ModuleShapes → Memory → Name → Memory
with_object_of shapes m class =
    record m { objects = m.objects ++ record { class = class; phase = Live; cells = empty_fields (field_shapes shapes class) } ∷ [] }

abbrev pub AreObjectsBegun : Type 0
AreObjectsBegun = (shapes : ModuleShapes) (sources : List Source) (said now : Progress) (memory : Memory) (entries behind : List Entry)
    → HoldsObjects shapes sources said memory entries → IsWholeMemory memory → (object : ValueId) (class : Name)
    → source_at sources object ≡ source.Object (length (field_shapes shapes class)) → IsMadeNow sources said now object → HoldsNew memory entries behind object
    → HoldsObjects shapes sources now (with_object_of shapes memory class) behind
    × ((o : ObjectId) → o.0 < length memory.objects → object_at (with_object_of shapes memory class) o ≡ object_at memory o)

-- ---- other results

-- what a result may be
pub record MayBegin (shapes : ModuleShapes) (sources : List Source) (said : Progress) (memory : Memory) (entries : List Entry)
    (v : ValueId) (x : Datum) : Type 0 where
  pub named : Each (MayName shapes sources said memory entries v) (references_in x)
  pub same : (object : ValueId) → (v ≡ object → ⊥) → IsAbout sources object v → (o : ObjectId) → Holds entries object o → references_in x ≡ o ∷ []
  pub placed : (l : Location) (of : ValueId) (k : ℕ) → IsFieldAddress sources v l of k → (p : Place) → x ≡ AddressOf p
      → (o : ObjectId) × IsInField shapes o (object_at memory o) l k p

-- the entry is as it was, or of such a result
pub data Begins (shapes : ModuleShapes) (sources : List Source) (said now : Progress) (memory : Memory) (entries behind : List Entry)
    (v : ValueId) : Type 0 where
  stays : entry_at behind v ≡ entry_at entries v → ((w : ValueId) → now.as_made w v ≡ true → said.as_made w v ≡ true)
      → Begins shapes sources said now memory entries behind v
  begins : ((x : Datum) → Names behind v x → MayBegin shapes sources said memory entries v x) → Begins shapes sources said now memory entries behind v

-- behind an item that makes such results, and neither a new object nor writes a field first
abbrev pub AreResultsHeld : Type 0
AreResultsHeld = (shapes : ModuleShapes) (sources : List Source) (said now : Progress) (memory : Memory) (entries behind : List Entry)
    → HoldsObjects shapes sources said memory entries
    → ((w : ValueId) (k : ℕ) → now.unwritten w k ≡ said.unwritten w k)
    → ((v : ValueId) → Begins shapes sources said now memory entries behind v)
    → ((object : ValueId) (fields : ℕ) → source_at sources object ≡ source.Object fields → entry_at behind object ≡ entry_at entries object)
    → HoldsObjects shapes sources now memory behind

-- what goes on from an operand to a result: what the result is about the operand is about, as it is held now; and back, while it is unfinished
pub record GoesOn (sources : List Source) (said : Progress) (y v : ValueId) : Type 0 where
  pub about : (object : ValueId) → (v ≡ object → ⊥) → IsAbout sources object v → IsAbout sources object y × (said.as_made object y ≡ true)
  pub back : (object : ValueId) → IsUnfinished sources said object → IsAbout sources object y → IsAbout sources object v

-- a value that is about no new object, and is no address of a field
pub record IsOutside (sources : List Source) (v : ValueId) : Type 0 where
  pub about : (object : ValueId) → (v ≡ object → ⊥) → IsAbout sources object v → ⊥
  pub address : (l : Location) (of : ValueId) (k : ℕ) → IsFieldAddress sources v l of k → ⊥

module _ (shapes : ModuleShapes) (sources : List Source) (said : Progress) (memory : Memory) (entries : List Entry) where
  -- what names whole objects alone may begin, where its value is about nothing that is new
  abbrev pub MayBeginWhole : Type 0
  MayBeginWhole = (v : ValueId) (x : Datum) → NameWhole memory (references_in x) → IsOutside sources v → MayBegin shapes sources said memory entries v x

  -- so may the operand's value
  abbrev pub MayBeginAgain : Type 0
  MayBeginAgain = HoldsObjects shapes sources said memory entries → (y v : ValueId) (x : Value) → Names entries y (ValueOf x) → GoesOn sources said y v
      → MayBegin shapes sources said memory entries v (ValueOf x)

  -- the address of a field of what the operand names
  abbrev pub MayNameField : Type 0
  MayNameField = HoldsObjects shapes sources said memory entries → (y v : ValueId) (o : ObjectId) → Names entries y (ValueOf (value.Object o))
      → GoesOn sources said y v
      → (q : Place) → q.home ≡ Inside o
      → ((l : Location) (of : ValueId) (k : ℕ) → IsFieldAddress sources v l of k → IsInField shapes o (object_at memory o) l k q)
      → MayBegin shapes sources said memory entries v (AddressOf q)

  -- the address of a member of what is at the operand
  abbrev pub MayNameMember : Type 0
  MayNameMember = HoldsObjects shapes sources said memory entries → (y v : ValueId) (p : Place) → Names entries y (AddressOf p) → GoesOn sources said y v
      → (j : ℕ) (q : Place) → member_place p j ≡ Some q
      → ((l : Location) (of : ValueId) (k : ℕ) → IsFieldAddress sources v l of k → (is_part l ≡ true) × ((u : Location) × IsFieldAddress sources y u of k))
      → MayBegin shapes sources said memory entries v (AddressOf q)

-- so it is in each frame
abbrev pub InFrames : ((shapes : ModuleShapes) (sources : List Source) (said : Progress) (memory : Memory) (entries : List Entry) → Type 0) → Type 0
InFrames Law = (shapes : ModuleShapes) (sources : List Source) (said : Progress) (memory : Memory) (entries : List Entry)
    → Law shapes sources said memory entries
