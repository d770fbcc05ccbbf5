-- Weak or unowned places name a list of objects, one after another, or name them no longer.
use Rattle.std.proofs.Common.{◌≡◌, ◌-◌, ◌==◌, ℕ, zero, suc, List, [], ◌∷◌, Bool, true, false, cond, Some, None, refl, sym, ap, ◌∙◌, subst}
use Rattle.std.specs.Prelude.{find, option_and_then, option_map, set, slice_get, unwrap_or}
use Rattle.std.proofs.lemmas.Bool.{eqb-true}
use Rattle.std.proofs.lemmas.Option.{none-some}
use Rattle.count_heap.specs.HeapModel.HeapCalls as heap
use Rattle.count_heap.specs.HeapModel.HeapCalls.{unless_freed, unowned_named, unowned_unnamed, weakly_named, weakly_unnamed}
use Rattle.count_heap.specs.HeapModel.HeapViews.{HeapView, unowned_in, weak_in}
use Rattle.count_machine_model.specs.holder_model.Outcomes.{Numbers}
use Rattle.count_machine_model.specs.holder_model.LoweredRun.Stored.{changed, each_changed, less_unowned, less_weak, more_unowned, more_weak, no_numbers, numbers_of}
use Rattle.count_machine_model.specs.MachineSteps.Naming.{all_named, all_unnamed, less_named, more_named}
use Rattle.holder_model_values.specs.RunValues.Memory.{Memory, is_dead}
use Rattle.sil_ast.specs.declared.decl.Storage.{Storage}
use Rattle.sil_ast.specs.declared.decl.Storage.TheVariants as storage
use Rattle.sil_ast.specs.declared.module.Module.{Module}
use Rattle.sil_ast.specs.declared.place.ObjectId.{ObjectId}
use Rattle.holder_model_values.specs.ValueParts.inner.Suits.{ClassTest}
use Rattle.count_machine_laws.proofs.NamedOne.{one_less_unowned, one_less_weak, one_more_unowned, one_more_weak}
use Rattle.count_machine_laws.proofs.Numbers.{alive_there, unowned_agrees, weak_agrees}
use Rattle.count_machine_laws.proofs.NumbersPut.{counts_changed}
use Rattle.count_machine_laws.proofs.Objects.{ObjectsAgree}

-- what the run does for storage of a kind

abbrev pub run_named : Storage → List ObjectId → List Numbers → List Numbers
run_named storage.Strong os ns = ns
run_named storage.Weak os ns = each_changed more_weak os ns
run_named storage.Unowned os ns = each_changed more_unowned os ns

abbrev pub run_unnamed : Storage → List ObjectId → List Numbers → List Numbers
run_unnamed storage.Strong os ns = ns
run_unnamed storage.Weak os ns = each_changed less_weak os ns
run_unnamed storage.Unowned os ns = each_changed less_unowned os ns

-- numbers that are put back where they stood

put_back : (ns : List Numbers) (k : ℕ) → set ns k (unwrap_or (slice_get ns k) no_numbers) ≡ ns
put_back [] k = refl
put_back (n ∷ ns) zero = refl
put_back (n ∷ ns) (suc k) = ap (λ rest. n ∷ rest) (put_back ns k)

same_changed : (f : Numbers → Numbers) (ns : List Numbers) (o : ObjectId) → f (numbers_of ns o) ≡ numbers_of ns o → changed f ns o ≡ ns
same_changed f ns o e = ap (λ n. set ns o.0 n) e ∙ put_back ns o.0

no_less_weak : (n : Numbers) → n.weak ≡ 0 → less_weak n ≡ n
no_less_weak n e = ap (λ i. record n { weak = i }) (ap (λ i. i - 1) e ∙ sym e)

no_less_unowned : (n : Numbers) → n.unowned ≡ 0 → less_unowned n ≡ n
no_less_unowned n e = ap (λ i. record n { unowned = i }) (ap (λ i. i - 1) e ∙ sym e)

-- the objects of a memory, whatever its slots

module _ (m : Module) (test : ClassTest) (mem : Memory) where
  -- one object

  weakly_named_agrees : (ns : List Numbers) (h : HeapView) (o : ObjectId) → is_dead mem o ≡ false → ObjectsAgree m test mem.objects ns h.objects
      → ObjectsAgree m test mem.objects (changed more_weak ns o) (weakly_named h o).objects
  weakly_named_agrees ns h o alive a =
      counts_changed m test mem.objects ns h.objects a o.0 more_weak (option_map heap.more_weak)
      (λ x n y ex. one_more_weak m test x n y (alive_there mem o (Some x) ex alive))

  unowned_named_agrees : (ns : List Numbers) (h : HeapView) (o : ObjectId) → is_dead mem o ≡ false → ObjectsAgree m test mem.objects ns h.objects
      → ObjectsAgree m test mem.objects (changed more_unowned ns o) (unowned_named h o).objects
  unowned_named_agrees ns h o alive a =
      counts_changed m test mem.objects ns h.objects a o.0 more_unowned (option_map heap.more_unowned)
      (λ x n y ex. one_more_unowned m test x n y (alive_there mem o (Some x) ex alive))

  weakly_unnamed_agrees : (ns : List Numbers) (h : HeapView) (o : ObjectId) → ObjectsAgree m test mem.objects ns h.objects
      → ObjectsAgree m test mem.objects (changed less_weak ns o) (less_named storage.Weak h o).objects
  weakly_unnamed_agrees ns h o a = at (weak_in h o == 0) refl
    where
      at : (b : Bool) → (weak_in h o == 0) ≡ b → ObjectsAgree m test mem.objects (changed less_weak ns o) (cond b h (weakly_unnamed h o)).objects
      at true e =
          let none = sym (weak_agrees m test mem ns h o a) ∙ eqb-true (weak_in h o) 0 e in
          subst (λ ms. ObjectsAgree m test mem.objects ms h.objects) (sym (same_changed less_weak ns o (no_less_weak (numbers_of ns o) none))) a
      at false e =
          counts_changed m test mem.objects ns h.objects a o.0 less_weak (option_and_then (λ y. unless_freed (heap.less_weak y))) (λ x n y ex. one_less_weak m test x n y)

  unowned_unnamed_agrees : (ns : List Numbers) (h : HeapView) (o : ObjectId) → ObjectsAgree m test mem.objects ns h.objects
      → ObjectsAgree m test mem.objects (changed less_unowned ns o) (less_named storage.Unowned h o).objects
  unowned_unnamed_agrees ns h o a = at (unowned_in h o == 0) refl
    where
      at : (b : Bool) → (unowned_in h o == 0) ≡ b → ObjectsAgree m test mem.objects (changed less_unowned ns o) (cond b h (unowned_unnamed h o)).objects
      at true e =
          let none = sym (unowned_agrees m test mem ns h o a) ∙ eqb-true (unowned_in h o) 0 e in
          subst (λ ms. ObjectsAgree m test mem.objects ms h.objects) (sym (same_changed less_unowned ns o (no_less_unowned (numbers_of ns o) none))) a
      at false e =
          counts_changed m test mem.objects ns h.objects a o.0 less_unowned (option_and_then (λ y. unless_freed (heap.less_unowned y)))
          (λ x n y ex. one_less_unowned m test x n y)

  -- a list of them

  first_alive : (o : ObjectId) (os : List ObjectId) → find (is_dead mem) (o ∷ os) ≡ None → (is_dead mem o ≡ false) × (find (is_dead mem) os ≡ None)
  first_alive o os e = at (is_dead mem o) refl e
    where
      at : (b : Bool) → is_dead mem o ≡ b → cond b (Some o) (find (is_dead mem) os) ≡ None → (is_dead mem o ≡ false) × (find (is_dead mem) os ≡ None)
      at true d f = absurd (none-some o (sym f))
      at false d f = (d, f)

  pub named_agrees : (w : Storage) (os : List ObjectId) (ns : List Numbers) (h : HeapView) → find (is_dead mem) os ≡ None → ObjectsAgree m test mem.objects ns h.objects
      → ObjectsAgree m test mem.objects (run_named w os ns) (all_named w os h).objects
  named_agrees storage.Strong [] ns h e a = a
  named_agrees storage.Strong (o ∷ os) ns h e a = named_agrees storage.Strong os ns h (first_alive o os e).1 a
  named_agrees storage.Weak [] ns h e a = a
  named_agrees storage.Weak (o ∷ os) ns h e a =
      let parts = first_alive o os e in
      named_agrees storage.Weak os (changed more_weak ns o) (weakly_named h o) parts.1 (weakly_named_agrees ns h o parts.0 a)
  named_agrees storage.Unowned [] ns h e a = a
  named_agrees storage.Unowned (o ∷ os) ns h e a =
      let parts = first_alive o os e in
      named_agrees storage.Unowned os (changed more_unowned ns o) (unowned_named h o) parts.1 (unowned_named_agrees ns h o parts.0 a)

  pub unnamed_agrees : (w : Storage) (os : List ObjectId) (ns : List Numbers) (h : HeapView) → ObjectsAgree m test mem.objects ns h.objects
      → ObjectsAgree m test mem.objects (run_unnamed w os ns) (all_unnamed w os h).objects
  unnamed_agrees storage.Strong [] ns h a = a
  unnamed_agrees storage.Strong (o ∷ os) ns h a = unnamed_agrees storage.Strong os ns h a
  unnamed_agrees storage.Weak [] ns h a = a
  unnamed_agrees storage.Weak (o ∷ os) ns h a =
      unnamed_agrees storage.Weak os (changed less_weak ns o) (less_named storage.Weak h o) (weakly_unnamed_agrees ns h o a)
  unnamed_agrees storage.Unowned [] ns h a = a
  unnamed_agrees storage.Unowned (o ∷ os) ns h a =
      unnamed_agrees storage.Unowned os (changed less_unowned ns o) (less_named storage.Unowned h o) (unowned_unnamed_agrees ns h o a)

-- the heap's declarations and counters stay

pub record OnlyObjects (before after : HeapView) : Type 0 where
  pub declarations : after.declarations ≡ before.declarations
  pub retains : after.retains ≡ before.retains
  pub releases : after.releases ≡ before.releases

pub only_none : (h : HeapView) → OnlyObjects h h
only_none h = record { declarations = refl; retains = refl; releases = refl }

pub only_both : (h i j : HeapView) → OnlyObjects h i → OnlyObjects i j → OnlyObjects h j
only_both h i j a b = record { declarations = b.declarations ∙ a.declarations; retains = b.retains ∙ a.retains; releases = b.releases ∙ a.releases }

only_one_of : (b : Bool) (h i : HeapView) → OnlyObjects h i → OnlyObjects h (cond b h i)
only_one_of true h i a = only_none h
only_one_of false h i a = a

only_more : (w : Storage) (h : HeapView) (o : ObjectId) → OnlyObjects h (more_named w h o)
only_more storage.Strong h o = only_none h
only_more storage.Weak h o = record { declarations = refl; retains = refl; releases = refl }
only_more storage.Unowned h o = record { declarations = refl; retains = refl; releases = refl }

only_less : (w : Storage) (h : HeapView) (o : ObjectId) → OnlyObjects h (less_named w h o)
only_less storage.Strong h o = only_none h
only_less storage.Weak h o = only_one_of (weak_in h o == 0) h (weakly_unnamed h o) (record { declarations = refl; retains = refl; releases = refl })
only_less storage.Unowned h o = only_one_of (unowned_in h o == 0) h (unowned_unnamed h o) (record { declarations = refl; retains = refl; releases = refl })

pub only_all_named : (w : Storage) (os : List ObjectId) (h : HeapView) → OnlyObjects h (all_named w os h)
only_all_named w [] h = only_none h
only_all_named w (o ∷ os) h = only_both h (more_named w h o) (all_named w os (more_named w h o)) (only_more w h o) (only_all_named w os (more_named w h o))

pub only_all_unnamed : (w : Storage) (os : List ObjectId) (h : HeapView) → OnlyObjects h (all_unnamed w os h)
only_all_unnamed w [] h = only_none h
only_all_unnamed w (o ∷ os) h =
    only_both h (less_named w h o) (all_unnamed w os (less_named w h o)) (only_less w h o) (only_all_unnamed w os (less_named w h o))
