-- What each call makes of a heap, and what it answers.
use Rattle.std.specs.Prelude.{ℕ, ◌+◌, ◌-◌, ◌==◌, List, [], ◌∷◌, ◌++◌, Bool, ◌&&◌, not, cond, Option, Some, None, Ok, Err, length, max}
use Rattle.std.specs.Prelude.{option_map, option_and_then, set, slice_get, unwrap_or, take, drop, replicate}
use Rattle.std.specs.declared.result.Result.{Result}
use Rattle.sil_ast.specs.declared.place.ObjectId.{ObjectId}
use Rattle.sil_types.specs.sil_types_declarations.TypeDefinitions.Declarations.{Declarations}
use Rattle.holder_model_values.specs.RunValues.Memory.{is_dead_phase, is_live_phase}
use Rattle.holder_model_values.specs.declared.run_values.leaf.Leaf.{Leaf}
use Rattle.holder_model_values.specs.declared.run_values.phase.Phase.TheVariants.{Dead, Deiniting, Live}
use Rattle.count_heap.specs.HeapModel.HeapViews.{HeapObject, HeapView, class_fields, object_in, phase_in, strong_in, unfreed_count}
use Rattle.count_heap.specs.declared.heap_model.released.Released.{Released}
use Rattle.count_heap.specs.declared.heap_model.released.Released.TheVariants.{Held, LastGone}
use Rattle.count_heap.specs.declared.heap_model.released.Underflow.{Underflow}

-- a heap without objects
abbrev pub empty_heap : Declarations → HeapView
empty_heap d = record { declarations = d; objects = []; retains = 0; releases = 0; slots = 0 }

-- the heap with this in place of an object
abbrev pub with_object_in : HeapView → ObjectId → Option HeapObject → HeapView
with_object_in h o x = record h { objects = set h.objects o.0 x }

-- the heap after a change of one object
abbrev pub changed : (HeapObject → HeapObject) → HeapView → ObjectId → HeapView
changed f h o = with_object_in h o (option_map f (object_in h o))

-- the same, where the object is freed if it is dead and nothing names it
abbrev pub is_left : HeapObject → Bool
is_left x = not (is_dead_phase x.phase && x.unowned == 0 && x.weak == 0)

abbrev pub unless_freed : HeapObject → Option HeapObject
unless_freed x = cond (is_left x) (Some x) None

abbrev pub changed_or_freed : (HeapObject → HeapObject) → HeapView → ObjectId → HeapView
changed_or_freed f h o = with_object_in h o (option_and_then (λ x. unless_freed (f x)) (object_in h o))

-- allocation

-- live, with one strong reference, and no field written
abbrev pub new_object : Declarations → ℕ → HeapObject
new_object d class = record {
  class = class;
  phase = Live;
  strong = 1;
  unowned = 0;
  weak = 0;
  fields = replicate (length (class_fields d class)) None;
}

abbrev pub with_more_objects : HeapView → List (Option HeapObject) → HeapView
with_more_objects h objects = record h { objects = objects; slots = max h.slots (unfreed_count objects) }

-- a new object of the class has the next number
abbrev pub allocated_in : HeapView → ℕ → HeapView
allocated_in h class = with_more_objects h (h.objects ++ Some (new_object h.declarations class) ∷ [])

-- strong references

abbrev pub one_more : HeapObject → HeapObject
one_more x = record x { strong = x.strong + 1 }

abbrev pub one_less : HeapObject → HeapObject
one_less x = record x { strong = x.strong - 1 }

abbrev pub retained : HeapView → ObjectId → HeapView
retained h o = record (changed one_more h o) { retains = h.retains + 1 }

abbrev pub released : HeapView → ObjectId → HeapView
released h o = record (changed one_less h o) { releases = h.releases + 1 }

-- a release takes the last reference of a live object
abbrev pub takes_last : HeapView → ObjectId → Bool
takes_last h o = is_live_phase (phase_in h o) && strong_in h o == 1

abbrev pub release_answer : HeapView → ObjectId → Released
release_answer h o = cond (takes_last h o) LastGone Held

-- a release is tried: where there is no reference, nothing changes
abbrev pub try_answer : HeapView → ObjectId → Result Released Underflow
try_answer h o = cond (strong_in h o == 0) (Err (record { count = 0 })) (Ok (release_answer h o))

abbrev pub release_tried : HeapView → ObjectId → HeapView
release_tried h o = cond (strong_in h o == 0) h (released h o)

-- deinitialisation

abbrev pub deiniting : HeapObject → HeapObject
deiniting x = record x { phase = Deiniting }

abbrev pub dead : HeapObject → HeapObject
dead x = record x { phase = Dead; fields = [] }

abbrev pub started : HeapView → ObjectId → HeapView
started h o = changed deiniting h o

abbrev pub finished : HeapView → ObjectId → HeapView
finished h o = changed_or_freed dead h o

-- weak and unowned places

abbrev pub more_weak : HeapObject → HeapObject
more_weak x = record x { weak = x.weak + 1 }

abbrev pub less_weak : HeapObject → HeapObject
less_weak x = record x { weak = x.weak - 1 }

abbrev pub more_unowned : HeapObject → HeapObject
more_unowned x = record x { unowned = x.unowned + 1 }

abbrev pub less_unowned : HeapObject → HeapObject
less_unowned x = record x { unowned = x.unowned - 1 }

abbrev pub weakly_named : HeapView → ObjectId → HeapView
weakly_named h o = changed more_weak h o

abbrev pub weakly_unnamed : HeapView → ObjectId → HeapView
weakly_unnamed h o = changed_or_freed less_weak h o

abbrev pub unowned_named : HeapView → ObjectId → HeapView
unowned_named h o = changed more_unowned h o

abbrev pub unowned_unnamed : HeapView → ObjectId → HeapView
unowned_unnamed h o = changed_or_freed less_unowned h o

-- fields

abbrev pub with_field_of : ℕ → Option (List Leaf) → HeapObject → HeapObject
with_field_of index leaves x = record x { fields = set x.fields index leaves }

-- a field is written whole
abbrev pub with_field : HeapView → ObjectId → ℕ → List Leaf → HeapView
with_field h o index leaves = changed (with_field_of index (Some leaves)) h o

-- the leaves with these in place of those from a place on
abbrev pub put_leaves : ℕ → List Leaf → List Leaf → List Leaf
put_leaves from leaves old = take from old ++ leaves ++ drop (from + length leaves) old

abbrev pub with_part_of : ℕ → ℕ → List Leaf → HeapObject → HeapObject
with_part_of index from leaves x =
    with_field_of index (option_map (put_leaves from leaves) (unwrap_or (slice_get x.fields index) None)) x

-- some leaves of a written field are written anew
abbrev pub with_part : HeapView → ObjectId → ℕ → ℕ → List Leaf → HeapView
with_part h o index from leaves = changed (with_part_of index from leaves) h o
