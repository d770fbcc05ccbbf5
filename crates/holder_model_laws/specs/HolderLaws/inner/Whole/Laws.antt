-- Laws of memory that names whole objects alone: what is read there, and what keeps it so.
use Rattle.std.specs.Prelude.{◌≡◌, List, [], ◌∷◌, ◌++◌, true, Some}
use Rattle.holder_model.specs.Dropping.{ended, field_references, in_phase}
use Rattle.holder_model.specs.MemoryEffects.{references_at}
use Rattle.holder_model_laws.specs.HolderLaws.inner.Cells.Cells.{IsInside, IsPlace}
use Rattle.numbered_form.specs.Names.{Name}
use Rattle.holder_model.specs.holder_model_values.RunValues.inner.Fits.{fits}
use Rattle.holder_model.specs.holder_model_values.declared.run_values.phase.Phase.{Phase}
use Rattle.holder_model.specs.holder_model_values.declared.run_values.phase.Phase.TheVariants.{Live}
use Rattle.holder_model.specs.holder_model_values.RunValues.Memory.{Memory, object_at, with_object}
use Rattle.holder_model.specs.holder_model_values.RunValues.Places.{Inside, OnStack, Place, empty_fields, empty_slot, emptied, filled, removed, value_at}
use Rattle.holder_model.specs.holder_model_values.RunValues.Shapes.{Shape}
use Rattle.holder_model.specs.holder_model_values.RunValues.Values.{Value, references_of}
use Rattle.sil_ast.specs.declared.place.ObjectId.{ObjectId}
use Rattle.holder_model_laws.specs.HolderLaws.inner.Whole.Whole.{IsWhole, IsWholeMemory, NameWhole, StayWhole}

-- the value at a place names whole objects, and so do all references that a place or an object holds
abbrev pub AreReadWhole : Type 0
AreReadWhole = (m : Memory) → IsWholeMemory m
    → ((p : Place) (x : Value) → value_at m p ≡ Some x → NameWhole m (references_of x))
    × ((p : Place) → NameWhole m (references_at m p))
    × ((o : ObjectId) → NameWhole m (field_references (object_at m o)))

-- a field of a whole object is full
abbrev pub AreFieldsFull : Type 0
AreFieldsFull = (m : Memory) → IsWholeMemory m → (o : ObjectId) → IsWhole m o → (p : Place) → p.home ≡ Inside o → IsInside m p → IsPlace true m p

-- memory stays so, and what is whole stays whole
abbrev pub KeepsWhole : Memory → Memory → Type 0
KeepsWhole m later = IsWholeMemory later × StayWhole m later

-- where a place is filled with a value that names whole objects alone
abbrev pub AreFilledWhole : Type 0
AreFilledWhole = (m : Memory) → IsWholeMemory m → (p : Place) → IsInside m p → (x : Value) → fits p.shape x ≡ true → NameWhole m (references_of x)
    → KeepsWhole m (filled m p x)

-- where a place on the stack is emptied or removed
abbrev pub AreTakenWhole : Type 0
AreTakenWhole = (m : Memory) → IsWholeMemory m → (p : Place) → IsInside m p → p.home ≡ OnStack → KeepsWhole m (emptied m p) × KeepsWhole m (removed m p)

-- where an object or a slot is made
abbrev pub AreMadeWhole : Type 0
AreMadeWhole = (m : Memory) → IsWholeMemory m
    → ((class : Name) (fields : List Shape)
    → KeepsWhole m (record m { objects = m.objects ++ record { class = class; phase = Live; cells = empty_fields fields } ∷ [] }))
    × ((s : Shape) → KeepsWhole m (record m { stack = m.stack ++ empty_slot s }))

-- where an object changes its phase or dies
abbrev pub AreEndedWhole : Type 0
AreEndedWhole = (m : Memory) → IsWholeMemory m
    → ((phase : Phase) (o : ObjectId) → KeepsWhole m (in_phase phase m o))
    × ((o : ObjectId) → KeepsWhole m (with_object m o (ended (object_at m o))))
