-- A heap whose objects are as those of another one, but for strong numbers; and a step that stops the machine in such a heap.
use Rattle.std.proofs.Common.{◌≡◌, ◌∙◌, ◌+◌, ◌-◌, ◌⊎◌, inl, inr, ℕ, zero, suc, List, [], ◌∷◌, Bool, true, false, cond, Option, Some, None, length, refl, sym, ap, subst, nat_lt}
use Rattle.std.specs.Prelude.{find, option_map, set, slice_get, unwrap_or}
use Rattle.std.proofs.lemmas.Bool.{cases_eq}
use Rattle.std.proofs.lemmas.List.{length-set}
use Rattle.count_heap.specs.HeapModel.HeapCalls.{changed, one_less, one_more, released, retained}
use Rattle.count_heap.specs.HeapModel.HeapViews.{HeapObject, HeapView, object_in}
use Rattle.count_machine_model.specs.holder_model.declared.limits.TheConstants.{FRAMES}
use Rattle.count_machine_model.specs.declared.machine_steps.frame.Frame.{Frame}
use Rattle.count_machine_model.specs.MachineSteps.Calling.{enter}
use Rattle.count_machine_model.specs.MachineSteps.Operands.{is_missing, unless_missing, with_all}
use Rattle.count_machine_model.specs.MachineSteps.Turning.{frames_in, turn}
use Rattle.count_machine_model.specs.MachineSteps.Views.{Goes, MachineView, Stops, Went}
use Rattle.sil_ast.specs.declared.place.ObjectId.{ObjectId}
use Rattle.sil_ast.specs.declared.place.ValueId.{ValueId}
use Rattle.count_machine_laws.proofs.NumbersPut.{get_put_other}

-- one object, with a strong number of its own
abbrev pub OneAlone : Option HeapObject → Option HeapObject → Type 0
OneAlone None y = y ≡ None
OneAlone (Some x) y = (n : ℕ) × (y ≡ Some (record x { strong = n }))

pub record StrongsAlone (h h' : HeapView) : Type 0 where
  pub declarations : h'.declarations ≡ h.declarations
  pub objects : length h'.objects ≡ length h.objects
  pub each : (o : ObjectId) → OneAlone (object_in h o) (object_in h' o)

one_itself : (x : Option HeapObject) → OneAlone x x
one_itself None = refl
one_itself (Some x) = (x.strong, refl)

one_then : (x y z : Option HeapObject) → OneAlone x y → OneAlone y z → OneAlone x z
one_then None y z first then = at y first then
  where
    at : (u : Option HeapObject) → u ≡ None → OneAlone u z → z ≡ None
    at None e then = then
    at (Some u) e then = absurd (cc)
one_then (Some x) y z first then = at y first.0 first.1 then
  where
    at : (u : Option HeapObject) (n : ℕ) → u ≡ Some (record x { strong = n }) → OneAlone u z → (k : ℕ) × (z ≡ Some (record x { strong = k }))
    at None n e then = absurd (cc)
    at (Some u) n e then = let same : u ≡ record x { strong = n } = cc in (then.0, then.1 ∙ ap {A = HeapObject} (λ v. Some (record v { strong = then.0 })) same)

pub strongs_itself : (h : HeapView) → StrongsAlone h h
strongs_itself h = record { declarations = refl; objects = refl; each = λ o. one_itself (object_in h o) }

pub strongs_then : {h h' h'' : HeapView} → StrongsAlone h h' → StrongsAlone h' h'' → StrongsAlone h h''
strongs_then {h = h} {h' = h'} {h'' = h''} first then = record {
  declarations = then.declarations ∙ first.declarations;
  objects = then.objects ∙ first.objects;
  each = λ o. one_then (object_in h o) (object_in h' o) (object_in h'' o) (first.each o) (then.each o);
}

-- a change of one object that leaves all but its strong number

object_put : (xs : List (Option HeapObject)) (k : ℕ) (f : Option HeapObject → Option HeapObject) → f None ≡ None
    → unwrap_or (slice_get (set xs k (f (unwrap_or (slice_get xs k) None))) k) None ≡ f (unwrap_or (slice_get xs k) None)
object_put [] k f none = sym none
object_put (x ∷ xs) zero f none = refl
object_put (x ∷ xs) (suc k) f none = object_put xs k f none

module _ (f : HeapObject → HeapObject) (alone : (x : HeapObject) → (n : ℕ) × (f x ≡ record x { strong = n })) (h : HeapView) (o : ObjectId) where
  one_changed : (x : Option HeapObject) → OneAlone x (option_map f x)
  one_changed None = refl
  one_changed (Some x) = ((alone x).0, ap (λ y. Some y) (alone x).1)

  changed_each : (p : ObjectId) → OneAlone (object_in h p) (object_in (changed f h o) p)
  changed_each p = at (cases_eq o.0 p.0)
    where
      at : (o.0 ≡ p.0) ⊎ (o.0 ≡ p.0 → ⊥) → OneAlone (object_in h p) (object_in (changed f h o) p)
      at (inl e) =
          subst (λ k. OneAlone (unwrap_or (slice_get h.objects k) None) (unwrap_or (slice_get (set h.objects o.0 (option_map f (object_in h o))) k) None)) e
          (subst (λ y. OneAlone (object_in h o) y) (sym (object_put h.objects o.0 (option_map f) refl)) (one_changed (object_in h o)))
      at (inr ne) =
          subst (λ y. OneAlone (object_in h p) (unwrap_or y None)) (sym (get_put_other h.objects o.0 p.0 (option_map f (object_in h o)) ne)) (one_itself (object_in h p))

  changed_alone : (retains releases : ℕ) → StrongsAlone h (record (changed f h o) { retains = retains; releases = releases })
  changed_alone retains releases = record { declarations = refl; objects = length-set h.objects o.0 (option_map f (object_in h o)); each = changed_each }

pub retained_alone : (h : HeapView) (o : ObjectId) → StrongsAlone h (retained h o)
retained_alone h o = changed_alone one_more (λ x. (x.strong + 1, refl)) h o (h.retains + 1) h.releases

pub released_alone : (h : HeapView) (o : ObjectId) → StrongsAlone h (released h o)
released_alone h o = changed_alone one_less (λ x. (x.strong - 1, refl)) h o h.retains (h.releases + 1)

-- where a step stops the machine, it stops in such a heap
abbrev pub StopsAlone : HeapView → Went → Type 0
StopsAlone h (Goes st) = Unit {0}
StopsAlone h (Stops end st) = StrongsAlone h st.heap

pub stops_cond : (h : HeapView) (b : Bool) (w w' : Went) → StopsAlone h w → StopsAlone h w' → StopsAlone h (cond b w w')
stops_cond h true w w' set clear = set
stops_cond h false w w' set clear = clear

pub stops_turn : (bound : ℕ) (st : MachineView) (go : MachineView → Went) → StopsAlone st.heap (go (record st { turns = st.turns + 1 })) → StopsAlone st.heap (turn bound st go)
stops_turn bound st go goes = stops_cond st.heap (nat_lt st.turns bound) _ _ goes (strongs_itself st.heap)

pub stops_enter : (bound : ℕ) (st : MachineView) (go : MachineView → Went) → StopsAlone st.heap (go (record st { turns = st.turns + 1 })) → StopsAlone st.heap (enter bound st go)
stops_enter bound st go goes =
    stops_cond st.heap (nat_lt (frames_in st.tasks) FRAMES) _ _ (stops_turn bound st go goes) (strongs_itself st.heap)

pub stops_with_all : (st : MachineView) (fr : Frame) (vs : List ValueId) (w : Went) → StopsAlone st.heap w → StopsAlone st.heap (with_all st fr vs w)
stops_with_all st fr vs w stops = at (find (is_missing st fr) vs)
  where
    at : (v : Option ValueId) → StopsAlone st.heap (unless_missing v st w)
    at None = stops
    at (Some v) = strongs_itself st.heap
