-- The fields of an object, in its cells and in the heap: which objects they name and keep, field by field.
use Rattle.std.proofs.Common.{◌≡◌, ◌++◌, ℕ, zero, suc, List, [], ◌∷◌, Option, Some, None, true, map, refl, sym, ap, ◌∙◌, subst}
use Rattle.std.specs.Prelude.{set, slice_get, unwrap_or}
use Rattle.std.specs.List.{AllZip}
use Rattle.count_heap.specs.HeapModel.HeapViews.{HeapView}
use Rattle.count_machine_model.specs.holder_model.ModuleShapes.{field_shape}
use Rattle.count_machine_model.specs.holder_model.Outcomes.{Numbers}
use Rattle.count_machine_model.specs.holder_model.LoweredRun.Stored.{changed, each_changed, less_unowned, less_weak, no_numbers, unnamed}
use Rattle.count_machine_model.specs.MachineSteps.Naming.{all_unnamed}
use Rattle.count_machine_model.specs.MachineSteps.Operands.{object_in_leaf, objects_among}
use Rattle.count_machine_model.specs.MachineSteps.Steps.{field_unnamed, fields_unnamed, strong_in_field, strong_in_fields}
use Rattle.numbered_form.specs.Lists.{Each}
use Rattle.count_machine_model.specs.ReadyCode.ReadyModules.{storage_of}
use Rattle.count_machine_model.specs.holder_model.RunTyping.FieldForms.{IsTypedField}
use Rattle.count_machine_model.specs.holder_model.RunTyping.StorageForms.{FieldShapeIs, IsNamed, named, plain}
use Rattle.holder_model_values.specs.RunValues.Cells.{Cell, cell_count}
use Rattle.holder_model_values.specs.RunValues.Leaves.{leaves_of}
use Rattle.holder_model_values.specs.RunValues.Memory.{Memory}
use Rattle.holder_model_values.specs.RunValues.Shapes.{Shape, Stored}
use Rattle.holder_model_values.specs.RunValues.Values.{Value, references_of}
use Rattle.holder_model_values.specs.declared.run_values.leaf.Leaf.{Leaf}
use Rattle.holder_model_values.specs.declared.run_values.leaf.Leaf.TheVariants as leaf
use Rattle.sil_ast.specs.declared.decl.Field.{Field}
use Rattle.sil_ast.specs.declared.decl.Storage.{Storage}
use Rattle.sil_ast.specs.declared.decl.Storage.TheVariants as storage
use Rattle.sil_ast.specs.declared.module.Module.{Module}
use Rattle.sil_ast.specs.declared.place.ObjectId.{ObjectId}
use Rattle.sil_types_declarations.specs.TypeDefinitions.Declarations.{Declarations}
use Rattle.holder_model_values.proofs.ValueParts.References.{suits_objects}
use Rattle.holder_model_values.proofs.ValueParts.Suiting.{suits_fits}
use Rattle.holder_model_values.specs.ValueParts.inner.LeafLists.{object_in, objects_in}
use Rattle.holder_model_values.specs.ValueParts.inner.Suits.{ClassTest, suits}
use Rattle.count_machine_laws.proofs.Named.{empty_unnamed, plain_unnamed, stored_unnamed}
use Rattle.count_machine_laws.proofs.NamedCells.{empty_kept, kept_among, kept-append, keeps_all}
use Rattle.count_machine_laws.proofs.NamedLists.{OnlyObjects, only_all_unnamed, only_both, only_none, run_unnamed, unnamed_agrees}
use Rattle.count_machine_laws.proofs.Objects.{FieldHolds, FieldsHold, ObjectsAgree, more, none, unwritten, written}

-- objects among leaves

object_in_is : (l : Leaf) → object_in_leaf l ≡ object_in l
object_in_is (leaf.Int n) = refl
object_in_is (leaf.Object o) = refl
object_in_is (leaf.Tag k) = refl
object_in_is leaf.Blank = refl

objects_in_are : (ls : List Leaf) → objects_among ls ≡ objects_in ls
objects_in_are [] = refl
objects_in_are (l ∷ ls) = ap (λ os. os ++ objects_among ls) (object_in_is l) ∙ ap (λ os. object_in l ++ os) (objects_in_are ls)

-- the objects among the leaves of a value are its references
pub references_among : (test : ClassTest) (s : Shape) (x : Value) → suits test s x ≡ true → objects_among (leaves_of s x) ≡ references_of x
references_among test s x fit = objects_in_are (leaves_of s x) ∙ suits_objects test s x fit

-- weak and unowned names may be taken away in any order

abbrev at_place : (Numbers → Numbers) → List Numbers → ℕ → List Numbers
at_place f ns k = set ns k (f (unwrap_or (slice_get ns k) no_numbers))

places_commute : (f g : Numbers → Numbers) → ((n : Numbers) → f (g n) ≡ g (f n)) → (ns : List Numbers) (j k : ℕ) → at_place f (at_place g ns j) k ≡ at_place g (at_place f ns k) j
places_commute f g c [] j k = refl
places_commute f g c (n ∷ ns) zero zero = ap (λ z. z ∷ ns) (c n)
places_commute f g c (n ∷ ns) zero (suc k) = refl
places_commute f g c (n ∷ ns) (suc j) zero = refl
places_commute f g c (n ∷ ns) (suc j) (suc k) = ap (λ rest. n ∷ rest) (places_commute f g c ns j k)

module _ (f g : Numbers → Numbers) (c : (n : Numbers) → f (g n) ≡ g (f n)) where
  one_commutes : (os : List ObjectId) (ns : List Numbers) (o : ObjectId) → each_changed g os (changed f ns o) ≡ changed f (each_changed g os ns) o
  one_commutes [] ns o = refl
  one_commutes (p ∷ os) ns o =
      ap (each_changed g os) (sym (places_commute f g c ns p.0 o.0)) ∙ one_commutes os (changed g ns p) o

  lists_commute : (os ps : List ObjectId) (ns : List Numbers) → each_changed f os (each_changed g ps ns) ≡ each_changed g ps (each_changed f os ns)
  lists_commute [] ps ns = refl
  lists_commute (o ∷ os) ps ns = ap (each_changed f os) (sym (one_commutes ps ns o)) ∙ lists_commute os ps (changed f ns o)

each-append : (f : Numbers → Numbers) (os ps : List ObjectId) (ns : List Numbers) → each_changed f (os ++ ps) ns ≡ each_changed f ps (each_changed f os ns)
each-append f [] ps ns = refl
each-append f (o ∷ os) ps ns = each-append f os ps (changed f ns o)

pub unnamed-append : (cs ds : List Cell) (ns : List Numbers) → unnamed (cs ++ ds) ns ≡ unnamed ds (unnamed cs ns)
unnamed-append cs ds ns =
    let weak : List Cell → List ObjectId = kept_among storage.Weak in
    let unowned : List Cell → List ObjectId = kept_among storage.Unowned in
    let first = each_changed less_unowned (unowned cs) ns in
    ap (λ os. each_changed less_weak os (each_changed less_unowned (unowned (cs ++ ds)) ns)) (kept-append storage.Weak cs ds)
    ∙ ap (λ os. each_changed less_weak (weak cs ++ weak ds) (each_changed less_unowned os ns)) (kept-append storage.Unowned cs ds)
    ∙ ap (each_changed less_weak (weak cs ++ weak ds)) (each-append less_unowned (unowned cs) (unowned ds) ns)
    ∙ each-append less_weak (weak cs) (weak ds) (each_changed less_unowned (unowned ds) first)
    ∙ ap (each_changed less_weak (weak ds)) (lists_commute less_weak less_unowned (λ n. refl) (weak cs) (unowned ds) first)

-- the shapes of fields

pub typed_shapes : (d : Declarations) (fs : List Field) → Each (IsTypedField d) fs → AllZip FieldShapeIs (map storage_of fs) (map (field_shape d) fs)
typed_shapes d [] each = tt
typed_shapes d (f ∷ fs) each = (each.0, typed_shapes d fs each.1)

module _ (test : ClassTest) where
  -- the references that fields keep strongly

  field_keeps : (w : Storage) (s : Shape) (own : List Cell) (x : Option (List Leaf)) → FieldShapeIs w s → FieldHolds test s own x → strong_in_field w x ≡ kept_among storage.Strong own
  field_keeps _ _ _ _ (plain s h) unwritten = sym (empty_kept storage.Strong (cell_count s))
  field_keeps _ _ _ _ (plain s h) (written x fit) = references_among test s x fit ∙ sym (keeps_all s h x (suits_fits test s x fit))
  field_keeps _ _ _ _ (named _ _ (IsNamed.weak _ _ _ _)) unwritten = refl
  field_keeps _ _ _ _ (named _ _ (IsNamed.weak _ _ _ _)) (written x fit) = refl
  field_keeps _ _ _ _ (named _ _ (IsNamed.unowned _)) unwritten = refl
  field_keeps _ _ _ _ (named _ _ (IsNamed.unowned _)) (written x fit) = refl

  pub fields_keep : (ws : List Storage) (ss : List Shape) (cs : List Cell) (xs : List (Option (List Leaf))) → AllZip FieldShapeIs ws ss → FieldsHold test ss cs xs
      → strong_in_fields ws xs ≡ kept_among storage.Strong cs
  fields_keep [] _ _ _ shapes none = refl
  fields_keep (w ∷ ws) _ _ _ shapes none = absurd shapes
  fields_keep [] _ _ _ shapes (more s ss own rest x xs hold holds) = absurd shapes
  fields_keep (w ∷ ws) _ _ _ shapes (more s ss own rest x xs hold holds) =
      ap (λ os. os ++ strong_in_fields ws xs) (field_keeps w s own x shapes.0 hold) ∙ ap (λ os. kept_among storage.Strong own ++ os) (fields_keep ws ss rest xs shapes.1 holds)
      ∙ sym (kept-append storage.Strong own rest)

  -- what weak and unowned fields name is named no longer

  module _ (m : Module) (mem : Memory) where
    field_forgets : (w : Storage) (s : Shape) (own : List Cell) (x : Option (List Leaf)) → FieldShapeIs w s → FieldHolds test s own x → (ns : List Numbers) (h : HeapView)
        → ObjectsAgree m test mem.objects ns h.objects → ObjectsAgree m test mem.objects (unnamed own ns) (field_unnamed w x h).objects
    field_forgets _ s _ _ shape unwritten ns h a = subst (λ ms. ObjectsAgree m test mem.objects ms h.objects) (sym (empty_unnamed (cell_count s) ns)) a
    field_forgets _ _ _ _ (plain s clear) (written x fit) ns h a =
        let forgotten = all_unnamed storage.Strong (objects_among (leaves_of s x)) h in
        subst (λ ms. ObjectsAgree m test mem.objects ms forgotten.objects) (sym (plain_unnamed s x ns clear))
        (unnamed_agrees m test mem storage.Strong (objects_among (leaves_of s x)) ns h a)
    field_forgets _ _ _ _ (named w s n) (written x fit) ns h a =
        let os = objects_among (leaves_of (Stored w s) x) in
        subst (λ ms. ObjectsAgree m test mem.objects ms (all_unnamed w os h).objects)
        (ap (λ ps. run_unnamed w ps ns) (references_among test (Stored w s) x fit) ∙ sym (stored_unnamed w s x ns)) (unnamed_agrees m test mem w os ns h a)

    pub fields_forget : (ws : List Storage) (ss : List Shape) (cs : List Cell) (xs : List (Option (List Leaf))) → AllZip FieldShapeIs ws ss → FieldsHold test ss cs xs
        → (ns : List Numbers) (h : HeapView) → ObjectsAgree m test mem.objects ns h.objects → ObjectsAgree m test mem.objects (unnamed cs ns) (fields_unnamed ws xs h).objects
    fields_forget [] _ _ _ shapes none ns h a = a
    fields_forget (w ∷ ws) _ _ _ shapes none ns h a = absurd shapes
    fields_forget [] _ _ _ shapes (more s ss own rest x xs hold holds) ns h a = absurd shapes
    fields_forget (w ∷ ws) _ _ _ shapes (more s ss own rest x xs hold holds) ns h a =
        subst (λ ms. ObjectsAgree m test mem.objects ms (fields_unnamed ws xs (field_unnamed w x h)).objects) (sym (unnamed-append own rest ns))
        (fields_forget ws ss rest xs shapes.1 holds (unnamed own ns) (field_unnamed w x h) (field_forgets w s own x shapes.0 hold ns h a))

-- only objects change

field_only : (w : Storage) (x : Option (List Leaf)) (h : HeapView) → OnlyObjects h (field_unnamed w x h)
field_only w None h = only_none h
field_only w (Some ls) h = only_all_unnamed w (objects_among ls) h

pub fields_only : (ws : List Storage) (xs : List (Option (List Leaf))) (h : HeapView) → OnlyObjects h (fields_unnamed ws xs h)
fields_only [] xs h = only_none h
fields_only (w ∷ ws) [] h = only_none h
fields_only (w ∷ ws) (x ∷ xs) h =
    only_both h (field_unnamed w x h) (fields_unnamed ws xs (field_unnamed w x h)) (field_only w x h) (fields_only ws xs (field_unnamed w x h))
