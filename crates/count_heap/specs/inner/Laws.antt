-- What the laws of heaps say.
use Rattle.std.specs.Prelude.{◌≡◌, ◌<◌, ◌≤◌, ◌^◌, ◌&&◌, ◌==◌, ℕ, List, [], ◌∷◌, None, false, true, max, not}
use Rattle.sil_ast.specs.declared.module.Module.{Module}
use Rattle.sil_ast.specs.declared.place.ObjectId.{ObjectId}
use Rattle.sil_types.specs.numbered_form.Lists.{Each}
use Rattle.sil_types.specs.numbered_form.inner.Limits.{IsDeclInLimits}
use Rattle.sil_types.specs.sil_types_declarations.TypeDefinitions.Declarations.{Declarations, declarations_of}
use Rattle.sil_types.specs.sil_types_declarations.TypeDefinitions.Rules.{InLimits}
use Rattle.holder_model_values.specs.declared.run_values.leaf.Leaf.{Leaf}
use Rattle.holder_model_values.specs.declared.run_values.phase.Phase.TheVariants.{Dead}
use Rattle.count_heap.specs.HeapModel.HeapCalls.{allocated_in, empty_heap, finished, release_tried, released, retained, started}
use Rattle.count_heap.specs.HeapModel.HeapCalls.{unowned_named, unowned_unnamed, weakly_named, weakly_unnamed}
use Rattle.count_heap.specs.HeapModel.HeapCalls.{changed, with_field, with_field_of, with_part}
use Rattle.count_heap.specs.HeapModel.HeapViews.{HeapView, is_unfreed, leaves_by_field, phase_in, strong_in, unfreed_count, unowned_in, weak_in}
use Rattle.count_heap.specs.HeapModel.FieldLimits.{AreFieldsInLimits}
use Rattle.count_heap.specs.LayoutsByClass.Layouts.{size_of}

pub record IsNothing (h : HeapView) (o : ObjectId) : Type 0 where
  pub phase : phase_in h o ≡ Dead
  pub strong : strong_in h o ≡ 0
  pub unowned : unowned_in h o ≡ 0
  pub weak : weak_in h o ≡ 0

abbrev pub FreedAreDead : Type 0
FreedAreDead = (h : HeapView) (o : ObjectId) → is_unfreed h o ≡ false → IsNothing h o

pub record IsFinished (h : HeapView) (o : ObjectId) : Type 0 where
  pub dead : phase_in (finished h o) o ≡ Dead
  pub left : is_unfreed (finished h o) o ≡ not (unowned_in h o == 0 && weak_in h o == 0)

abbrev pub FinishedAreDead : Type 0
FinishedAreDead = (h : HeapView) (o : ObjectId) → is_unfreed h o ≡ true → IsFinished h o

-- the calls that change a heap
pub data HeapCall : Type 0 where
  Allocates : (class : ℕ) → HeapCall
  Retains : (o : ObjectId) → HeapCall
  Releases : (o : ObjectId) → HeapCall
  TriesRelease : (o : ObjectId) → HeapCall
  Starts : (o : ObjectId) → HeapCall
  Finishes : (o : ObjectId) → HeapCall
  AddsWeak : (o : ObjectId) → HeapCall
  DropsWeak : (o : ObjectId) → HeapCall
  AddsUnowned : (o : ObjectId) → HeapCall
  DropsUnowned : (o : ObjectId) → HeapCall
  SetsField : (o : ObjectId) (index : ℕ) (leaves : List Leaf) → HeapCall
  SetsPart : (o : ObjectId) (index from : ℕ) (leaves : List Leaf) → HeapCall
  ClearsField : (o : ObjectId) (index : ℕ) → HeapCall

abbrev pub after_call : HeapView → HeapCall → HeapView
after_call h (Allocates class) = allocated_in h class
after_call h (Retains o) = retained h o
after_call h (Releases o) = released h o
after_call h (TriesRelease o) = release_tried h o
after_call h (Starts o) = started h o
after_call h (Finishes o) = finished h o
after_call h (AddsWeak o) = weakly_named h o
after_call h (DropsWeak o) = weakly_unnamed h o
after_call h (AddsUnowned o) = unowned_named h o
after_call h (DropsUnowned o) = unowned_unnamed h o
after_call h (SetsField o index leaves) = with_field h o index leaves
after_call h (SetsPart o index from leaves) = with_part h o index from leaves
after_call h (ClearsField o index) = changed (with_field_of index None) h o

abbrev pub after_calls : HeapView → List HeapCall → HeapView
after_calls h [] = h
after_calls h (c ∷ cs) = after_calls (after_call h c) cs

-- the largest number of objects that are unfreed at one time
abbrev pub most_unfreed : HeapView → List HeapCall → ℕ
most_unfreed h [] = unfreed_count h.objects
most_unfreed h (c ∷ cs) = max (unfreed_count h.objects) (most_unfreed (after_call h c) cs)

abbrev pub SlotsAreFew : Type 0
SlotsAreFew = (d : Declarations) (calls : List HeapCall) → (after_calls (empty_heap d) calls).slots ≤ most_unfreed (empty_heap d) calls

-- a module's fields are in their limits where its declarations have no more members than the limit, and its types are in theirs
abbrev pub FieldsAreInLimits : Type 0
FieldsAreInLimits = (m : Module) → Each IsDeclInLimits m.decls → InLimits m → AreFieldsInLimits (declarations_of m)

-- an object of a class has fewer leaves than 2^32
abbrev pub ClassesAreSmall : Type 0
ClassesAreSmall = (d : Declarations) → AreFieldsInLimits d → (class : ℕ) → size_of (leaves_by_field d class) < 2 ^ 32
