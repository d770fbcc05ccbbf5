-- An object that was made, as the run and the machine have it.
use Rattle.std.proofs.Common.{◌≡◌, ◌<◌, ℕ, List, [], Option, Some, None, sym, ap, ◌∙◌, arith}
use Rattle.std.specs.Prelude.{length, slice_get, unwrap_or}
use Rattle.std.proofs.lemmas.Option.{slice_get-get_or}
use Rattle.count_heap.specs.HeapModel.HeapViews.{HeapObject, HeapView, object_in}
use Rattle.count_machine_model.specs.holder_model.Outcomes.{Numbers}
use Rattle.count_machine_model.specs.holder_model.LoweredRun.Stored.{no_numbers, numbers_of}
use Rattle.holder_model_values.specs.RunValues.Memory.{Memory, Object, no_object, object_at}
use Rattle.holder_model_values.specs.declared.run_values.phase.Phase.TheVariants.{Dead}
use Rattle.sil_ast.specs.declared.module.Module.{Module}
use Rattle.sil_ast.specs.declared.place.ObjectId.{ObjectId}
use Rattle.holder_model_values.specs.ValueParts.inner.Suits.{ClassTest}
use Rattle.count_machine_laws.proofs.Objects.{KeptAgrees, ObjectAgrees, ObjectsAgree}

-- the one within a list, and the same where another is taken for what is past its end
pub there_within : {A : Type 0} (xs : List A) (k : ℕ) (d : A) → k < length xs → slice_get xs k ≡ Some (unwrap_or (slice_get xs k) d)
there_within xs k d within = let e = slice_get-get_or xs k d within in e ∙ ap (λ o. Some (unwrap_or o d)) (sym e)

pub record ObjectThere (m : Module) (test : ClassTest) (mem : Memory) (numbers : List Numbers) (heap : HeapView) (o : ObjectId) : Type 0 where
  pub object : slice_get mem.objects o.0 ≡ Some (object_at mem o)
  pub number : slice_get numbers o.0 ≡ Some (numbers_of numbers o)
  pub kept : slice_get heap.objects o.0 ≡ Some (object_in heap o)
  pub agrees : ObjectAgrees m test (object_at mem o) (numbers_of numbers o) (object_in heap o)

pub object_there : {m : Module} {test : ClassTest} (mem : Memory) (numbers : List Numbers) (heap : HeapView) → ObjectsAgree m test mem.objects numbers heap.objects
    → (o : ObjectId) → o.0 < length mem.objects → ObjectThere m test mem numbers heap o
object_there mem numbers heap agree o made =
    let object = there_within mem.objects o.0 no_object made in
    let number = there_within numbers o.0 no_numbers (omega (arith, agree.numbered)) in
    let kept = there_within heap.objects o.0 None (omega (arith, agree.kept)) in
    record { object = object; number = number; kept = kept; agrees = agree.each o.0 (object_at mem o) (numbers_of numbers o) (object_in heap o) object number kept }

-- it is freed, or kept
pub object_cases : {m : Module} {test : ClassTest} {x : Object} {n : Numbers} {h : Option HeapObject} (P : Option HeapObject → Type 0) → ObjectAgrees m test x n h
    → (x.phase ≡ Dead → x.cells ≡ [] → P None) → ((k : HeapObject) → KeptAgrees m test x n k → P (Some k)) → P h
object_cases P (ObjectAgrees.freed x n dead none unowned weak) freed kept = freed dead none
object_cases P (ObjectAgrees.kept x n h agree) freed kept = kept h agree
