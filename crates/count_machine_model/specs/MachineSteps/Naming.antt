-- Weak and unowned storage in the machine: which object it names, and the numbers of those that it names.
use Rattle.std.specs.Prelude.{◌==◌, List, [], ◌∷◌, cond}
use Rattle.count_heap.specs.HeapModel.HeapCalls.{unowned_named, unowned_unnamed, weakly_named, weakly_unnamed}
use Rattle.count_heap.specs.HeapModel.HeapViews.{HeapView, unowned_in, weak_in}
use Rattle.holder_model.specs.holder_model_values.declared.run_values.leaf.Leaf.{Leaf}
use Rattle.holder_model.specs.holder_model_values.declared.run_values.leaf.Leaf.TheVariants as leaf
use Rattle.sil_ast.specs.declared.decl.Storage.{Storage}
use Rattle.sil_ast.specs.declared.decl.Storage.TheVariants as storage
use Rattle.sil_ast.specs.declared.place.ObjectId.{ObjectId}
use Rattle.count_machine_model.specs.MachineSteps.Operands.{first_leaf, object_in_leaf}

abbrev pub second_leaf : List Leaf → Leaf
second_leaf [] = leaf.Blank
second_leaf (l ∷ ls) = first_leaf ls

-- the leaf that storage keeps of a value
abbrev pub name_of : Storage → List Leaf → Leaf
name_of storage.Strong ls = leaf.Blank
name_of storage.Weak ls = second_leaf ls
name_of storage.Unowned ls = first_leaf ls

-- the leaves of the value that weak storage gives
abbrev pub none_leaves : List Leaf
none_leaves = leaf.Tag 0 ∷ leaf.Blank ∷ []

abbrev pub some_leaves : ObjectId → List Leaf
some_leaves o = leaf.Tag 1 ∷ leaf.Object o ∷ []

abbrev pub more_named : Storage → HeapView → ObjectId → HeapView
more_named storage.Strong h o = h
more_named storage.Weak h o = weakly_named h o
more_named storage.Unowned h o = unowned_named h o

-- one place less names the object, where one is counted
abbrev pub less_named : Storage → HeapView → ObjectId → HeapView
less_named storage.Strong h o = h
less_named storage.Weak h o = cond (weak_in h o == 0) h (weakly_unnamed h o)
less_named storage.Unowned h o = cond (unowned_in h o == 0) h (unowned_unnamed h o)

abbrev pub all_named : Storage → List ObjectId → HeapView → HeapView
all_named w [] h = h
all_named w (o ∷ os) h = all_named w os (more_named w h o)

abbrev pub all_unnamed : Storage → List ObjectId → HeapView → HeapView
all_unnamed w [] h = h
all_unnamed w (o ∷ os) h = all_unnamed w os (less_named w h o)

-- a leaf of storage begins to name its object, or names it no longer

abbrev pub leaf_named : Storage → Leaf → HeapView → HeapView
leaf_named w l h = all_named w (object_in_leaf l) h

abbrev pub leaf_unnamed : Storage → Leaf → HeapView → HeapView
leaf_unnamed w l h = all_unnamed w (object_in_leaf l) h
