-- What contracts see of a heap.
use Rattle.std.specs.Prelude.{ℕ, ◌==◌, List, [], Bool, ◌&&◌, not, Option, Some, None, is_some, map, option_and_then}
use Rattle.std.specs.Prelude.{slice_get, unwrap_or, count_by}
use Rattle.sil_ast.specs.declared.decl.Field.{Field}
use Rattle.sil_ast.specs.declared.place.ObjectId.{ObjectId}
use Rattle.sil_ast.specs.declared.type_name.TypeName.{TypeName}
use Rattle.sil_types.specs.numbered_form.Names.{Name}
use Rattle.sil_types.specs.sil_types_declarations.TypeDefinitions.Declarations.{Declarations}
use Rattle.sil_types.specs.sil_types_declarations.TypeDefinitions.Lookups.{class_at, fields_of}
use Rattle.sil_types.specs.sil_types_declarations.TypeDefinitions.Measures.{leaves_of}
use Rattle.sil_types.specs.Typing.Shapes.{stored_as}
use Rattle.holder_model_values.specs.RunValues.Memory.{is_dead_phase}
use Rattle.holder_model_values.specs.declared.run_values.leaf.Leaf.{Leaf}
use Rattle.holder_model_values.specs.declared.run_values.phase.Phase.{Phase}
use Rattle.holder_model_values.specs.declared.run_values.phase.Phase.TheVariants.{Dead}

pub record HeapObject : Type 0 where
  -- the place of its class among the declarations of the text
  pub class : ℕ
  pub phase : Phase
  pub strong : ℕ
  pub unowned : ℕ
  pub weak : ℕ
  -- by place, those of the class's ancestors first. One that isn't written yet is none. A dead object has no fields
  pub fields : List (Option (List Leaf))

pub record HeapView : Type 0 where
  pub declarations : Declarations
  -- by number. One that is freed is none
  pub objects : List (Option HeapObject)
  -- over the heap's whole life
  pub retains : ℕ
  pub releases : ℕ
  -- how many slots are kept
  pub slots : ℕ

-- objects

abbrev pub object_in : HeapView → ObjectId → Option HeapObject
object_in h o = unwrap_or (slice_get h.objects o.0) None

-- it isn't dead, or a weak or unowned place names it
abbrev pub is_unfreed : HeapView → ObjectId → Bool
is_unfreed h o = is_some (object_in h o)

abbrev pub phase_told : Option HeapObject → Phase
phase_told None = Dead
phase_told (Some x) = x.phase

abbrev pub class_told : Option HeapObject → ℕ
class_told None = 0
class_told (Some x) = x.class

abbrev pub strong_told : Option HeapObject → ℕ
strong_told None = 0
strong_told (Some x) = x.strong

abbrev pub unowned_told : Option HeapObject → ℕ
unowned_told None = 0
unowned_told (Some x) = x.unowned

abbrev pub weak_told : Option HeapObject → ℕ
weak_told None = 0
weak_told (Some x) = x.weak

abbrev pub fields_told : Option HeapObject → List (Option (List Leaf))
fields_told None = []
fields_told (Some x) = x.fields

abbrev pub phase_in : HeapView → ObjectId → Phase
phase_in h o = phase_told (object_in h o)

abbrev pub is_dead_in : HeapView → ObjectId → Bool
is_dead_in h o = is_dead_phase (phase_in h o)

abbrev pub class_in : HeapView → ObjectId → ℕ
class_in h o = class_told (object_in h o)

abbrev pub strong_in : HeapView → ObjectId → ℕ
strong_in h o = strong_told (object_in h o)

abbrev pub unowned_in : HeapView → ObjectId → ℕ
unowned_in h o = unowned_told (object_in h o)

abbrev pub weak_in : HeapView → ObjectId → ℕ
weak_in h o = weak_told (object_in h o)

abbrev pub fields_in : HeapView → ObjectId → List (Option (List Leaf))
fields_in h o = fields_told (object_in h o)

-- the leaves of the field at a place, where it is written
abbrev pub field_in : HeapView → ObjectId → ℕ → Option (List Leaf)
field_in h o index = unwrap_or (slice_get (fields_in h o) index) None

-- it isn't dead, or one of its two counts isn't 0
abbrev pub is_named_or_alive : HeapView → ObjectId → Bool
is_named_or_alive h o = not (is_dead_in h o && unowned_in h o == 0 && weak_in h o == 0)

-- how many objects are unfreed
abbrev pub unfreed_count : List (Option HeapObject) → ℕ
unfreed_count objects = count_by is_some objects

-- classes

abbrev pub named_fields : Declarations → Option Name → List Field
named_fields d None = []
named_fields d (Some class) = fields_of d class

-- the fields of the class at a place among the declarations of the text, those of its ancestors first
abbrev pub class_fields : Declarations → ℕ → List Field
class_fields d class = named_fields d (class_at d class)

abbrev pub stored_type : Field → TypeName
stored_type f = stored_as f.storage f.ty

abbrev pub field_leaves : Declarations → Field → ℕ
field_leaves d f = leaves_of d (stored_type f)

-- how many leaves each field of the class has
abbrev pub leaves_by_field : Declarations → ℕ → List ℕ
leaves_by_field d class = map (field_leaves d) (class_fields d class)

-- how many leaves the type of an object's field has
abbrev pub leaves_at : HeapView → ObjectId → ℕ → Option ℕ
leaves_at h o index = option_and_then (λ x. slice_get (leaves_by_field h.declarations x.class) index) (object_in h o)
