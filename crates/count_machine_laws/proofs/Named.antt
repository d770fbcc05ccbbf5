-- Weak and unowned storage: the machine counts the object in a leaf as the run counts those that cells keep.
use Rattle.std.proofs.Common.{◌≡◌, ℕ, List, [], None, Bool, true, false, cond, refl, sym, ap, ◌∙◌, subst}
use Rattle.std.specs.Prelude.{find, replicate}
use Rattle.std.proofs.lemmas.Bool.{false≢true}
use Rattle.std.proofs.lemmas.List.{append-nil}
use Rattle.count_heap.specs.HeapModel.HeapViews.{HeapView}
use Rattle.count_machine_model.specs.holder_model.Outcomes.{Numbers}
use Rattle.count_machine_model.specs.holder_model.LoweredRun.Stored.{each_changed, less_unowned, less_weak, more_unowned, more_weak, named, unnamed}
use Rattle.count_machine_model.specs.MachineSteps.Naming.{leaf_named, leaf_unnamed}
use Rattle.count_machine_model.specs.MachineSteps.Operands.{first_leaf, object_in_leaf}
use Rattle.count_machine_model.specs.MachineSteps.Views.{MachineView}
use Rattle.holder_model_values.specs.RunValues.Cells as cells
use Rattle.holder_model_values.specs.RunValues.Cells.{Cell, in_cells}
use Rattle.holder_model_values.specs.RunValues.inner.Fits.{is_name}
use Rattle.holder_model_values.specs.RunValues.Leaves.{leaves_of, name_leaf}
use Rattle.holder_model_values.specs.RunValues.Memory.{Memory, is_dead}
use Rattle.holder_model_values.specs.RunValues.Shapes.{Shape, Stored}
use Rattle.holder_model_values.specs.RunValues.Values.{Value, references_of}
use Rattle.holder_model_values.specs.declared.run_values.leaf.Leaf.{Leaf}
use Rattle.sil_ast.specs.declared.decl.Storage.{Storage}
use Rattle.sil_ast.specs.declared.decl.Storage.TheVariants as storage
use Rattle.sil_ast.specs.declared.module.Module.{Module}
use Rattle.holder_model_values.proofs.ValueParts.Names.{is_unowned_name, is_weak_name, stored_name}
use Rattle.holder_model_values.specs.ValueParts.inner.Storages.{holds_no_storage}
use Rattle.holder_model_values.specs.ValueParts.inner.StoredNames.{IsUnownedName, IsWeakName}
use Rattle.holder_model_values.specs.ValueParts.inner.Suits.{ClassTest, suits}
use Rattle.count_machine_laws.proofs.Memories.{MemoryAgrees}
use Rattle.count_machine_laws.proofs.NamedCells.{empty_kept, kept_among, keeps_none}
use Rattle.count_machine_laws.proofs.NamedLists.{OnlyObjects, named_agrees, only_all_named, only_all_unnamed, run_named, run_unnamed, unnamed_agrees}
use Rattle.count_machine_laws.proofs.Numbers.{heap_changed}
use Rattle.count_machine_laws.proofs.Objects.{ObjectsAgree, is_of_class}
use Rattle.count_machine_laws.proofs.Slots.{Made}

-- cells that keep nothing weakly or unowned name nothing

none_named : (cs : List Cell) (numbers : List Numbers) → kept_among storage.Weak cs ≡ [] → kept_among storage.Unowned cs ≡ [] → named cs numbers ≡ numbers
none_named cs numbers weak unowned = rw (weak, unowned)

none_unnamed : (cs : List Cell) (numbers : List Numbers) → kept_among storage.Weak cs ≡ [] → kept_among storage.Unowned cs ≡ [] → unnamed cs numbers ≡ numbers
none_unnamed cs numbers weak unowned = rw (weak, unowned)

-- where no storage is in a shape, its cells name nothing

pub plain_named : (s : Shape) (x : Value) (numbers : List Numbers) → holds_no_storage s ≡ true → named ((in_cells s).cells x) numbers ≡ numbers
plain_named s x numbers h = none_named ((in_cells s).cells x) numbers (keeps_none storage.Weak refl s h x) (keeps_none storage.Unowned refl s h x)

pub plain_unnamed : (s : Shape) (x : Value) (numbers : List Numbers) → holds_no_storage s ≡ true → unnamed ((in_cells s).cells x) numbers ≡ numbers
plain_unnamed s x numbers h = none_unnamed ((in_cells s).cells x) numbers (keeps_none storage.Weak refl s h x) (keeps_none storage.Unowned refl s h x)

-- nor do empty ones
pub empty_unnamed : (n : ℕ) (numbers : List Numbers) → unnamed (replicate n cells.Empty) numbers ≡ numbers
empty_unnamed n numbers = none_unnamed (replicate n cells.Empty) numbers (empty_kept storage.Weak n) (empty_kept storage.Unowned n)

-- a cell of storage names what its value refers to

pub stored_named : (w : Storage) (s : Shape) (x : Value) (numbers : List Numbers) → named ((in_cells (Stored w s)).cells x) numbers ≡ run_named w (references_of x) numbers
stored_named storage.Strong s x numbers = refl
stored_named storage.Weak s x numbers = ap (λ os. each_changed more_weak os numbers) (append-nil (references_of x))
stored_named storage.Unowned s x numbers = ap (λ os. each_changed more_unowned os numbers) (append-nil (references_of x))

pub stored_unnamed : (w : Storage) (s : Shape) (x : Value) (numbers : List Numbers) → unnamed ((in_cells (Stored w s)).cells x) numbers ≡ run_unnamed w (references_of x) numbers
stored_unnamed storage.Strong s x numbers = refl
stored_unnamed storage.Weak s x numbers = ap (λ os. each_changed less_weak os numbers) (append-nil (references_of x))
stored_unnamed storage.Unowned s x numbers = ap (λ os. each_changed less_unowned os numbers) (append-nil (references_of x))

-- storage has one leaf, with the object that it names

weak_is_leaf : (v : Value) → IsWeakName v → object_in_leaf (first_leaf (name_leaf (references_of v))) ≡ references_of v
weak_is_leaf _ IsWeakName.none = refl
weak_is_leaf _ (IsWeakName.names o) = refl

unowned_is_leaf : (v : Value) → IsUnownedName v → object_in_leaf (first_leaf (name_leaf (references_of v))) ≡ references_of v
unowned_is_leaf _ (IsUnownedName.names o) = refl

fit_is_leaf : (w : Storage) (v : Value) → is_name w v ≡ true → object_in_leaf (first_leaf (name_leaf (references_of v))) ≡ references_of v
fit_is_leaf storage.Strong v h = absurd (false≢true h)
fit_is_leaf storage.Weak v h = weak_is_leaf v (is_weak_name v h)
fit_is_leaf storage.Unowned v h = unowned_is_leaf v (is_unowned_name v h)

pub name_is_leaf : (test : ClassTest) (w : Storage) (s : Shape) (x : Value) → suits test (Stored w s) x ≡ true
    → object_in_leaf (first_leaf (leaves_of (Stored w s) x)) ≡ references_of x
name_is_leaf test w s x fit = fit_is_leaf w x (stored_name test w s x fit)

-- whatever names change, the heap's declarations and its two counters don't

pub leaf_named_only : (w : Storage) (l : Leaf) (h : HeapView) → OnlyObjects h (leaf_named w l h)
leaf_named_only w l h = only_all_named w (object_in_leaf l) h

pub leaf_unnamed_only : (w : Storage) (l : Leaf) (h : HeapView) → OnlyObjects h (leaf_unnamed w l h)
leaf_unnamed_only w l h = only_all_unnamed w (object_in_leaf l) h

module _ (m : Module) (made : List Made) (mem : Memory) (numbers : List Numbers) (st : MachineView) (w : Storage) (s : Shape) (x : Value)
    (fit : suits (is_of_class m mem) (Stored w s) x ≡ true) (a : MemoryAgrees m made mem numbers st) where
  abbrev leaf : Leaf
  leaf = first_leaf (leaves_of (Stored w s) x)

  same_leaf : object_in_leaf leaf ≡ references_of x
  same_leaf = name_is_leaf (is_of_class m mem) w s x fit

  -- storage begins to name an object, which isn't dead
  pub memory_named : find (is_dead mem) (references_of x) ≡ None
      → MemoryAgrees m made mem (named ((in_cells (Stored w s)).cells x) numbers) (record st { heap = leaf_named w (first_leaf (leaves_of (Stored w s) x)) st.heap })
  memory_named alive =
      let agree = named_agrees m (is_of_class m mem) mem w (object_in_leaf leaf) numbers st.heap (ap (find (is_dead mem)) same_leaf ∙ alive) a.objects in
      let as_run = ap (λ os. run_named w os numbers) same_leaf ∙ sym (stored_named w s x numbers) in
      heap_changed m made mem numbers (named ((in_cells (Stored w s)).cells x) numbers) st (leaf_named w leaf st.heap) a (leaf_named_only w leaf st.heap).declarations
      (subst (λ ns. ObjectsAgree m (is_of_class m mem) mem.objects ns (leaf_named w leaf st.heap).objects) as_run agree)

  -- or names it no longer
  pub memory_unnamed : MemoryAgrees m made mem (unnamed ((in_cells (Stored w s)).cells x) numbers) (record st { heap = leaf_unnamed w (first_leaf (leaves_of (Stored w s) x)) st.heap })
  memory_unnamed =
      let agree = unnamed_agrees m (is_of_class m mem) mem w (object_in_leaf leaf) numbers st.heap a.objects in
      let as_run = ap (λ os. run_unnamed w os numbers) same_leaf ∙ sym (stored_unnamed w s x numbers) in
      heap_changed m made mem numbers (unnamed ((in_cells (Stored w s)).cells x) numbers) st (leaf_unnamed w leaf st.heap) a (leaf_unnamed_only w leaf st.heap).declarations
      (subst (λ ns. ObjectsAgree m (is_of_class m mem) mem.objects ns (leaf_unnamed w leaf st.heap).objects) as_run agree)

-- storage is written: what it named before, if it isn't written for the first time, is named no longer, and then the new object is named
pub memory_renamed : (m : Module) (made : List Made) (mem : Memory) (numbers : List Numbers) (st : MachineView) (w : Storage) (s : Shape) (first : Bool) (cs : List Cell) (x y : Value)
    → cs ≡ (in_cells (Stored w s)).cells y → suits (is_of_class m mem) (Stored w s) y ≡ true → suits (is_of_class m mem) (Stored w s) x ≡ true
    → find (is_dead mem) (references_of x) ≡ None → MemoryAgrees m made mem numbers st
    → MemoryAgrees m made mem (named ((in_cells (Stored w s)).cells x) (cond first numbers (unnamed cs numbers)))
    (record st { heap = leaf_named w (first_leaf (leaves_of (Stored w s) x)) (cond first st.heap (leaf_unnamed w (first_leaf (leaves_of (Stored w s) y)) st.heap)) })
memory_renamed m made mem numbers st w s true cs x y keeps old fit alive a = memory_named m made mem numbers st w s x fit a alive
memory_renamed m made mem numbers st w s false cs x y keeps old fit alive a =
    rw keeps (memory_named m made mem (unnamed ((in_cells (Stored w s)).cells y) numbers)
    (record st { heap = leaf_unnamed w (first_leaf (leaves_of (Stored w s) y)) st.heap }) w s x fit (memory_unnamed m made mem numbers st w s y old a) alive)
