-- The laws of heaps.
use Rattle.std.proofs.Common.{◌≡◌, ◌≤◌, List, [], ◌∷◌, Bool, true, false, cond, Option, Some, None, is_some, set, get_or, refl, sym, ap, ◌∙◌, arith}
use Rattle.std.specs.Prelude.{max, not, option_and_then, ◌==◌, ◌&&◌}
use Rattle.std.proofs.lemmas.Bool.{false≢true}
use Rattle.std.proofs.lemmas.List.{get_or-set_same}
use Rattle.std.proofs.lemmas.Option.{unwrap_or-slice_get}
use Rattle.holder_model_values.specs.declared.run_values.phase.Phase.TheVariants.{Dead}
use Rattle.count_heap.specs.HeapModel.HeapCalls.{dead, empty_heap, finished, is_left, released, unless_freed}
use Rattle.count_heap.specs.HeapModel.HeapViews.{HeapObject, HeapView, object_in, phase_told, strong_in, strong_told, unfreed_count, unowned_told, weak_told}
use Rattle.count_heap.specs.inner.Laws.{FinishedAreDead, FreedAreDead, HeapCall, SlotsAreFew, after_call, after_calls, most_unfreed}
use Rattle.count_heap.specs.inner.Laws as laws
use Rattle.count_heap.proofs.OneObject.{is_there}

none_of : {X : Type 0} (o : Option X) → is_some o ≡ false → o ≡ None
none_of None e = refl
none_of (Some x) e = absurd (false≢true (sym e))

some_of : {X : Type 0} (o : Option X) → is_some o ≡ true → (x : X) × (o ≡ Some x)
some_of None e = absurd (false≢true e)
some_of (Some x) e = (x, refl)

pub freed_are_dead : FreedAreDead
freed_are_dead h o freed =
    let none = none_of (object_in h o) freed in
    record { phase = ap phase_told none; strong = ap strong_told none; unowned = ap unowned_told none; weak = ap weak_told none }

pub finished_are_dead : FinishedAreDead
finished_are_dead h o there =
    let found = some_of (object_in h o) there in
    let within = is_there h.objects o.0 found.0 (sym (unwrap_or-slice_get h.objects o.0 None) ∙ found.1) in
    let now : object_in (finished h o) o ≡ unless_freed (dead found.0) =
    unwrap_or-slice_get (finished h o).objects o.0 None
    ∙ ap (λ y. get_or (set h.objects o.0 y) o.0 None) (ap (option_and_then (λ y. unless_freed (dead y))) found.1)
    ∙ get_or-set_same h.objects o.0 (unless_freed (dead found.0)) None within in
    record {
      dead = ap phase_told now ∙ phase_of (dead found.0) (is_left (dead found.0)) refl refl;
      left =
          ap is_some now ∙ is_kept (dead found.0) (is_left (dead found.0))
          ∙ sym (ap (λ y. not (unowned_told y == 0 && weak_told y == 0)) found.1);
    }
  where
    phase_of : (y : HeapObject) (b : Bool) → is_left y ≡ b → y.phase ≡ Dead → phase_told (unless_freed y) ≡ Dead
    phase_of y true e is = ap (λ c. phase_told (cond c (Some y) None)) e ∙ is
    phase_of y false e is = ap (λ c. phase_told (cond c (Some y) None)) e

    is_kept : (y : HeapObject) (b : Bool) → is_some (cond b (Some y) None) ≡ b
    is_kept y true = refl
    is_kept y false = refl

at_least : (h : HeapView) (cs : List HeapCall) → unfreed_count h.objects ≤ most_unfreed h cs
at_least h [] = omega arith
at_least h (c ∷ cs) = omega arith

-- no call but an allocation changes the number of slots
slots_after : (h : HeapView) (c : HeapCall) → (after_call h c).slots ≤ max h.slots (unfreed_count (after_call h c).objects)
slots_after h (laws.Allocates class) = omega arith
slots_after h (laws.Retains o) = omega arith
slots_after h (laws.Releases o) = omega arith
slots_after h (laws.TriesRelease o) = omega (arith, tried (strong_in h o == 0))
  where
    tried : (b : Bool) → (cond b h (released h o)).slots ≡ h.slots
    tried true = refl
    tried false = refl
slots_after h (laws.Starts o) = omega arith
slots_after h (laws.Finishes o) = omega arith
slots_after h (laws.AddsWeak o) = omega arith
slots_after h (laws.DropsWeak o) = omega arith
slots_after h (laws.AddsUnowned o) = omega arith
slots_after h (laws.DropsUnowned o) = omega arith
slots_after h (laws.SetsField o index leaves) = omega arith
slots_after h (laws.SetsPart o index from leaves) = omega arith
slots_after h (laws.ClearsField o index) = omega arith

few : (h : HeapView) (cs : List HeapCall) → (after_calls h cs).slots ≤ max h.slots (most_unfreed h cs)
few h [] = omega arith
few h (c ∷ cs) = omega (arith, few (after_call h c) cs, slots_after h c, at_least (after_call h c) cs)

pub slots_few : SlotsAreFew
slots_few d calls = omega (arith, few (empty_heap d) calls)
