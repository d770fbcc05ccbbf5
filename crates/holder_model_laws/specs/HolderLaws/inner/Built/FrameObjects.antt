-- The objects that a frame names: whole ones, and those that it is still building, field by field as its trail says.
use Rattle.std.specs.Prelude.{◌≡◌, ◌<◌, ℕ, List, [], ◌∷◌, Bool, true, false, not, length, map, sum, Some, slice_get}
use Rattle.holder_model.specs.Data.{AddressOf, Datum, ValueOf, references_in}
use Rattle.holder_model.specs.Frames.{Entry, Held, datum_in, entry_at}
use Rattle.holder_model.specs.ModuleShapes.{ModuleShapes, field_shapes}
use Rattle.memory_rules_parts.specs.memory_rules_accesses.Rows.{is_part}
use Rattle.memory_rules_parts.specs.memory_rules_accesses.Sources.{source_at}
use Rattle.memory_rules_parts.specs.memory_rules_accesses.declared.location.Location.{Location}
use Rattle.memory_rules_parts.specs.memory_rules_accesses.declared.source.Source.{Source}
use Rattle.memory_rules_parts.specs.memory_rules_accesses.declared.source.Source.TheVariants as source
use Rattle.holder_model_laws.specs.HolderLaws.inner.Cells.Cells.{IsCell, has_cell}
use Rattle.numbered_form.specs.Lists.{Each}
use Rattle.holder_model.specs.holder_model_values.RunValues.Cells.{cell_count}
use Rattle.holder_model.specs.holder_model_values.RunValues.Memory.{Memory, Object, object_at}
use Rattle.holder_model.specs.holder_model_values.RunValues.Places.{Inside, Place, field_in}
use Rattle.holder_model.specs.holder_model_values.RunValues.Shapes.{Shape}
use Rattle.holder_model.specs.holder_model_values.RunValues.Values as value
use Rattle.sil_ast.specs.declared.place.ObjectId.{ObjectId}
use Rattle.sil_ast.specs.declared.place.ValueId.{ValueId}
use Rattle.holder_model_laws.specs.HolderLaws.inner.Whole.Whole.{IsWhole}
use Rattle.holder_model_laws.specs.HolderLaws.inner.Built.Building.{IsAbout, IsFieldAddress, IsUnfinished, Progress}

-- the value's entry holds the object
abbrev pub Holds : List Entry → ValueId → ObjectId → Type 0
Holds entries v o = entry_at entries v ≡ Held (ValueOf (value.Object o))

abbrev pub Names : List Entry → ValueId → Datum → Type 0
Names entries v x = datum_in (entry_at entries v) ≡ Some x

module _ (shapes : ModuleShapes) where
  -- the fields of an object's class
  abbrev pub fields_of_object : Object → List Shape
  fields_of_object x = field_shapes shapes x.class

  abbrev pub place_of_field : ObjectId → Object → ℕ → Shape → Place
  place_of_field o x k s = field_in o (fields_of_object x) k s

  -- the place that an address of a field has: the whole field, or a part of it
  pub record IsInField (o : ObjectId) (x : Object) (l : Location) (k : ℕ) (p : Place) : Type 0 where
    pub shape : Shape
    pub there : slice_get (fields_of_object x) k ≡ Some shape
    pub home : p.home ≡ Inside o
    pub part : p.is_part ≡ is_part l
    pub within : (n : ℕ) → has_cell p n ≡ true → has_cell (place_of_field o x k shape) n ≡ true
    pub whole : is_part l ≡ false → (n : ℕ) → has_cell (place_of_field o x k shape) n ≡ true → has_cell p n ≡ true

module _ (shapes : ModuleShapes) (sources : List Source) (said : Progress) where
  -- the field's cells are empty while it is to be written, and else full
  pub record FieldIs (object : ValueId) (o : ObjectId) (x : Object) (k : ℕ) (s : Shape) : Type 0 where
    pub unwritten : Bool
    pub is : said.unwritten object k ≡ Some unwritten
    pub cells : (n : ℕ) → has_cell (place_of_field shapes o x k s) n ≡ true → IsCell (not unwritten) (slice_get x.cells n)

  -- an object that is being built has the cells of its class's fields
  pub record IsBuiltAs (object : ValueId) (o : ObjectId) (x : Object) : Type 0 where
    pub count : source_at sources object ≡ source.Object (length (fields_of_object shapes x))
    pub size : length x.cells ≡ sum (map cell_count (fields_of_object shapes x))
    pub fields : (k : ℕ) (s : Shape) → slice_get (fields_of_object shapes x) k ≡ Some s → FieldIs object o x k s

  module _ (memory : Memory) (entries : List Entry) where
    -- the value's entry may name the object: it is whole, or is held unfinished, and the value is about it
    pub data MayName (v : ValueId) (o : ObjectId) : Type 0 where
      whole : IsWhole memory o → MayName v o
      unfinished : (object : ValueId) → IsAbout sources object v → IsUnfinished sources said object → Holds entries object o → MayName v o

    pub record HoldsObjects : Type 0 where
      pub named : (v : ValueId) (x : Datum) → Names entries v x → Each (MayName v) (references_in x)
      -- each unfinished object is held, and is being built
      pub held : (object : ValueId) → IsUnfinished sources said object → (o : ObjectId) × Holds entries object o
      pub built : (object : ValueId) (o : ObjectId) → IsUnfinished sources said object → Holds entries object o
          → (o.0 < length memory.objects) × IsBuiltAs object o (object_at memory o)
      -- two are two
      pub apart : (v w : ValueId) (o : ObjectId) → IsUnfinished sources said v → IsUnfinished sources said w → Holds entries v o → Holds entries w o → v ≡ w
      -- what is about an object names it, where it wasn't made anew since
      pub same : (object v : ValueId) → IsAbout sources object v → said.as_made object v ≡ true → (x : Datum) → Names entries v x
          → (o : ObjectId) → Holds entries object o → references_in x ≡ o ∷ []
      -- an address of a field is one within an object
      pub placed : (v : ValueId) (l : Location) (of : ValueId) (k : ℕ) → IsFieldAddress sources v l of k → (p : Place) → Names entries v (AddressOf p)
          → (o : ObjectId) × IsInField shapes o (object_at memory o) l k p
