-- The heap in which the machine has stopped: its objects are those of the memory, with strong numbers as they are now and others as they were.
use Rattle.std.proofs.Common.{◌≡◌, ◌<◌, ◌==◌, ◌&&◌, ◌||◌, ◌∙◌, ℕ, zero, suc, List, [], ◌∷◌, Bool, true, false}
use Rattle.std.proofs.Common.{not, Option, Some, None, length, refl, sym, ap, subst, arith}
use Rattle.std.specs.Prelude.{slice_get, unwrap_or}
use Rattle.std.proofs.lemmas.Option.{none-some}
use Rattle.count_heap.specs.HeapModel.HeapViews.{HeapObject, HeapView, object_in}
use Rattle.count_machine_model.specs.holder_model.Outcomes.{Numbers, is_named}
use Rattle.count_machine_model.specs.holder_model.LoweredRun.Stored.{no_numbers, numbers_of}
use Rattle.holder_model_values.specs.RunValues.Cells.{Cell}
use Rattle.holder_model_values.specs.RunValues.Memory.{Memory, Object, is_dead_phase, object_at}
use Rattle.holder_model_values.specs.RunValues.Shapes.{Shape}
use Rattle.holder_model_values.specs.declared.run_values.leaf.Leaf.{Leaf}
use Rattle.sil_ast.specs.declared.module.Module.{Module}
use Rattle.sil_ast.specs.declared.place.ObjectId.{ObjectId}
use Rattle.sil_types_declarations.specs.TypeDefinitions.Declarations.{declarations_of}
use Rattle.holder_model_values.proofs.ValueParts.Suiting.{suits_fits}
use Rattle.holder_model_values.specs.ValueParts.inner.Suits.{ClassTest}
use Rattle.count_machine_laws.specs.inner.LastHeaps.{AreFieldsOf, IsFieldOf, IsHeapOf, IsKeptOrFreed}
use Rattle.count_machine_laws.proofs.LastStrongs.{StrongsAre}
use Rattle.count_machine_laws.proofs.Numbers.{object_there}
use Rattle.count_machine_laws.proofs.NumbersPut.{Found, found, missing, there}
use Rattle.count_machine_laws.proofs.Objects.{FieldHolds, FieldsHold, KeptAgrees, ObjectAgrees, ObjectsAgree}
use Rattle.count_machine_laws.proofs.StrongsAlone.{OneAlone, StrongsAlone}

-- fields

module _ (test : ClassTest) where
  field_is : (s : Shape) (cells : List Cell) (x : Option (List Leaf)) → FieldHolds test s cells x → IsFieldOf s cells x
  field_is s _ _ FieldHolds.unwritten = IsFieldOf.empty
  field_is s _ _ (FieldHolds.written x suit) = IsFieldOf.full x (suits_fits test s x suit)

  fields_are : (ss : List Shape) (cells : List Cell) (xs : List (Option (List Leaf))) → FieldsHold test ss cells xs → AreFieldsOf ss cells xs
  fields_are _ _ _ FieldsHold.none = AreFieldsOf.none
  fields_are _ _ _ (FieldsHold.more s ss own rest x xs first others) = AreFieldsOf.more s ss own rest x xs (field_is s own x first) (fields_are ss rest xs others)

-- one object

-- an object that is left isn't dead, or is named
named_if_left : (dead unowned weak : Bool) → not (dead && unowned && weak) ≡ true → (not dead || (not unowned || not weak)) ≡ true
named_if_left false unowned weak e = refl
named_if_left true false weak e = refl
named_if_left true true weak e = e

abbrev with_strong : ℕ → Numbers → Numbers
with_strong k n = record n { strong = k }

module _ (m : Module) (test : ClassTest) where
  one_left : (x : Object) (n : Numbers) (h : HeapObject) → KeptAgrees m test x n h → (not (is_dead_phase x.phase) || is_named n) ≡ true
  one_left x n h k =
      let left : not (is_dead_phase x.phase && n.unowned == 0 && n.weak == 0) ≡ true =
      rw (sym k.phase, sym k.unowned, sym k.weak) k.left in
      named_if_left (is_dead_phase x.phase) (n.unowned == 0) (n.weak == 0) left

  one_object : (x : Object) (n : Numbers) (y y' : Option HeapObject) (k : ℕ) → ObjectAgrees m test x n y → OneAlone y y'
      → ((z : HeapObject) → y' ≡ Some z → z.strong ≡ k) → IsKeptOrFreed m x (with_strong k n) y'
  one_object _ _ _ y' k (ObjectAgrees.freed x n dead cells unowned weak) gone strong =
      subst (IsKeptOrFreed m x (with_strong k n)) (sym gone) (IsKeptOrFreed.freed (rw (dead, unowned, weak)))
  one_object _ _ _ y' k (ObjectAgrees.kept x n h agrees) (j, is) strong =
      subst (IsKeptOrFreed m x (with_strong k n)) (sym is) (IsKeptOrFreed.kept (record h { strong = j }) (one_left x n h agrees) (record {
        class = agrees.class;
        phase = agrees.phase;
        strong = strong (record h { strong = j }) is;
        unowned = agrees.unowned;
        weak = agrees.weak;
        fields = λ alive. fields_are test _ x.cells h.fields (agrees.fields alive);
        none = λ dead. (agrees.ended dead).1;
      }))

-- an object that was made is there
none_missing : {A : Type 0} (xs : List A) (k : ℕ) → slice_get xs k ≡ None → k < length xs → ⊥
none_missing [] k none below = omega (arith, below)
none_missing (x ∷ xs) zero none below = none-some x (sym none)
none_missing (x ∷ xs) (suc k) none below = none_missing xs k none (omega (arith, below))

-- all objects

module _ (m : Module) (test : ClassTest) (memory : Memory) (numbers left : List Numbers) (h h' : HeapView) (a : ObjectsAgree m test memory.objects numbers h.objects)
    (declared : h.declarations ≡ declarations_of m) (alone : StrongsAlone h h') (strongs : StrongsAre h' left) where
  abbrev numbers_then : ObjectId → Numbers
  numbers_then o = with_strong (numbers_of left o).strong (numbers_of numbers o)

  object_is : (o : ObjectId) → o.0 < length memory.objects → IsKeptOrFreed m (object_at memory o) (numbers_then o) (object_in h' o)
  object_is o below = at (found m test memory.objects numbers h.objects a o.0)
    where
      at : Found m test memory.objects numbers h.objects a o.0 → IsKeptOrFreed m (object_at memory o) (numbers_then o) (object_in h' o)
      at (missing ex en eh) = absurd (none_missing memory.objects o.0 ex below)
      at (there x n y ex en eh agree) =
          let here : OneAlone y (object_in h' o) = subst (λ z. OneAlone z (object_in h' o)) (ap (λ u. unwrap_or u None) eh) (alone.each o) in
          let same_x : object_at memory o ≡ x = object_there memory o (Some x) ex in
          let same_n : numbers_of numbers o ≡ n = ap (λ u. unwrap_or u no_numbers) en in
          subst (λ z. IsKeptOrFreed m z (numbers_then o) (object_in h' o)) (sym same_x)
          (subst (λ z. IsKeptOrFreed m x (with_strong (numbers_of left o).strong z) (object_in h' o)) (sym same_n)
          (one_object m test x n y (object_in h' o) (numbers_of left o).strong agree here (λ z is. strongs o z is)))

  pub heap_is : IsHeapOf m memory numbers_then h'
  heap_is = record {
    declarations = alone.declarations ∙ declared;
    allocated = alone.objects ∙ a.kept;
    objects = object_is;
  }
