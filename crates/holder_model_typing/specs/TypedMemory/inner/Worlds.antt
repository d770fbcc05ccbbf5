-- What a run has made so far, and what values, places and memory are typed by it.
use Rattle.std.specs.Prelude.{◌≡◌, ℕ, ◌+◌, List, [], ◌∷◌, ◌++◌, true, false, Some, option_map, slice_get, unwrap_or}
use Rattle.std.specs.List.{AllZip, flat_map}
use Rattle.sil_ast.specs.declared.decl.Storage.TheVariants as storage
use Rattle.sil_ast.specs.declared.module.Module.{Module}
use Rattle.sil_ast.specs.declared.place.FuncId.{FuncId}
use Rattle.sil_ast.specs.declared.place.ObjectId.{ObjectId}
use Rattle.numbered_form.specs.Lists.{Each}
use Rattle.numbered_form.specs.Names.{Name}
use Rattle.holder_model.specs.sil_types_declarations.TypeDefinitions.Declarations.{declarations_of, is_class}
use Rattle.holder_model.specs.holder_model_values.RunValues.Cells.{Cell, Empty, Gone, Keeps}
use Rattle.holder_model.specs.holder_model_values.RunValues.Memory.{Memory, Object, is_dead_phase}
use Rattle.holder_model.specs.holder_model_values.RunValues.Places.{Inside, OnStack, Place, offset}
use Rattle.holder_model.specs.holder_model_values.RunValues.Shapes.{Shape, Shapes, Integer, Reference, Struct, Tuple, Enum, Stored, Unknown, NoMember, Member}
use Rattle.holder_model.specs.holder_model_values.RunValues.Shapes.{storage_in}
use Rattle.holder_model.specs.holder_model_values.RunValues.Values.{Value}
use Rattle.holder_model.specs.holder_model_values.ValueParts.inner.Paths.{IsPart, cells_before}
use Rattle.holder_model.specs.holder_model_values.ValueParts.inner.Suits.{ClassTest, suits}
use Rattle.holder_model.specs.Data.{AddressOf, Datum, FunctionOf, ValueOf}
use Rattle.holder_model.specs.ModuleShapes.{field_shapes, shapes_of}
use Rattle.holder_model.specs.RunTyping.Classes.{is_a}
use Rattle.holder_model.specs.RunTyping.Forms.{Form, OfFunction, OfPlace, OfValue}

-- of each object that was made its class, and of each slot its shape, in the order of their making. Both keep what is gone
pub record World : Type 0 where
  pub classes : List Name
  pub slots : List Shape

-- the later world has what the earlier one has, and maybe more behind it
pub record Grows (earlier later : World) : Type 0 where
  pub new_classes : List Name
  pub classes : later.classes ≡ earlier.classes ++ new_classes
  pub new_slots : List Shape
  pub slots : later.slots ≡ earlier.slots ++ new_slots

-- ---- the cells of a shape

abbrev mutual
  -- the shapes that the cells of a shape keep, one by one
  pub cell_shapes : Shape → List Shape
  cell_shapes (Integer width) = Integer width ∷ []
  cell_shapes (Reference class) = Reference class ∷ []
  cell_shapes (Struct name NoMember) = Struct name NoMember ∷ []
  cell_shapes (Struct name (Member first others)) = cell_shapes first ++ each_cell_shapes others
  cell_shapes (Tuple NoMember) = Tuple NoMember ∷ []
  cell_shapes (Tuple (Member first others)) = cell_shapes first ++ each_cell_shapes others
  cell_shapes (Enum name cases) = Enum name cases ∷ []
  cell_shapes (Stored s inner) = Stored s inner ∷ []
  cell_shapes Unknown = Unknown ∷ []

  pub each_cell_shapes : Shapes → List Shape
  each_cell_shapes NoMember = []
  each_cell_shapes (Member first others) = cell_shapes first ++ each_cell_shapes others

-- a place among shapes whose cells lie side by side: the shape that it is in, and the way to it there
pub record IsIn (shapes : List Shape) (p : Place) : Type 0 where
  pub number : ℕ
  pub whole : Shape
  pub there : slice_get shapes number ≡ Some whole
  pub path : List ℕ
  pub part : IsPart whole path p.shape
  pub first : p.first ≡ offset shapes number + cells_before whole path

module _ (m : Module) (w : World) where
  -- the object may stand where a reference of the class is asked: it is of this class, or of one that inherits from it
  abbrev pub names : ClassTest
  names class o = unwrap_or (option_map (λ own. is_a (declarations_of m) own class) (slice_get w.classes o.0)) false

  abbrev pub Suits : Shape → Value → Type 0
  Suits s x = suits names s x ≡ true

  -- what a cell of a shape may be
  pub data CellIs (s : Shape) : Cell → Type 0 where
    gone : CellIs s Gone
    empty : CellIs s Empty
    keeps : (x : Value) → Suits s x → CellIs s (Keeps (unwrap_or (storage_in s) storage.Strong) x)

  -- the cells of all shapes, side by side
  abbrev pub CellsAre : List Shape → List Cell → Type 0
  CellsAre shapes cells = AllZip CellIs (flat_map cell_shapes shapes) cells

  -- ---- memory

  abbrev pub fields_of_class : Name → List Shape
  fields_of_class class = field_shapes (shapes_of m) class

  -- an object that isn't dead has the cells of its class's fields, and a dead one has none
  pub record ObjectIs (class : Name) (x : Object) : Type 0 where
    pub is : x.class ≡ class
    pub cells : is_dead_phase x.phase ≡ false → CellsAre (fields_of_class class) x.cells
    pub ended : is_dead_phase x.phase ≡ true → x.cells ≡ []

  pub record MemoryIs (memory : Memory) : Type 0 where
    pub stack : CellsAre w.slots memory.stack
    pub objects : AllZip ObjectIs w.classes memory.objects

  -- ---- places and data

  -- a slot or a field of an object, or a part of one
  pub data PlaceIs (p : Place) : Type 0 where
    on_stack : p.home ≡ OnStack → IsIn w.slots p → PlaceIs p
    inside : (o : ObjectId) (class : Name) → p.home ≡ Inside o → slice_get w.classes o.0 ≡ Some class → IsIn (fields_of_class class) p → PlaceIs p

  pub data DatumIs : Form → Datum → Type 0 where
    value : (s : Shape) (x : Value) → Suits s x → DatumIs (OfValue s) (ValueOf x)
    place : (p : Place) → PlaceIs p → DatumIs (OfPlace p.shape) (AddressOf p)
    function : (g : FuncId) → DatumIs (OfFunction g) (FunctionOf g)

-- each class that was made is declared
abbrev pub IsWorldOf : Module → World → Type 0
IsWorldOf m w = Each (λ class. is_class (declarations_of m) class ≡ true) w.classes
