-- Weak or unowned storage is given the object that it is to name.
use Rattle.std.proofs.Common.{◌≡◌, ◌∙◌, List, [], ◌∷◌, Bool, true, false, Option, None, Some, cond, not, refl, sym, ap, subst, ◌||◌, map}
use Rattle.std.proofs.lemmas.Bool.{false≢true}
use Rattle.std.specs.Prelude.{find, is_some}
use Rattle.count_heap.specs.HeapModel.HeapViews.{HeapView, is_dead_in}
use Rattle.count_machine_model.specs.holder_model.Data.{ValueOf}
use Rattle.count_machine_model.specs.holder_model.Effects.{Faults, effect_of}
use Rattle.count_machine_model.specs.holder_model.Outcomes.{Numbers}
use Rattle.count_machine_model.specs.holder_model.declared.row_effect.RowEffect.TheVariants as row
use Rattle.sil_cfg_items.specs.Parts.{inst_at}
use Rattle.count_machine_model.specs.holder_model.LoweredRun.LowEffects.{is_first_write}
use Rattle.count_machine_model.specs.holder_model.LoweredRun.Stored.{named, unnamed}
use Rattle.count_machine_model.specs.holder_model.declared.lowered_run.low_fault.LowFault.TheVariants as fault
use Rattle.count_machine_model.specs.MachineSteps.Held as held
use Rattle.count_machine_model.specs.MachineSteps.Held.{Held, held_at, write_at}
use Rattle.count_machine_model.specs.MachineSteps.Naming.{leaf_named, leaf_unnamed, name_of}
use Rattle.count_machine_model.specs.MachineSteps.Operands.{address_in, faults, first_leaf, go_on, object_in_leaf}
use Rattle.count_machine_model.specs.MachineSteps.Places as machine
use Rattle.count_machine_model.specs.MachineSteps.Views.{Went}
use Rattle.count_machine_model.specs.declared.machine_steps.address.Address.{Address}
use Rattle.count_machine_model.specs.memory_rules_accesses.declared.access.Operation.{Operation}
use Rattle.count_machine_model.specs.ReadyCode.Layout.{local, local_address, size_of}
use Rattle.count_machine_model.specs.ReadyCode.ReadyOps.{operands_of}
use Rattle.count_machine_model.specs.declared.ready_code.op.ReadyOp.TheVariants as op
use Rattle.count_machine_model.specs.holder_model.RunTyping.Forms.{OfPlace, form_of}
use Rattle.count_machine_model.specs.holder_model.RunTyping.RowForms.{operation_done}
use Rattle.holder_model_values.specs.RunValues.Cells.{in_cells}
use Rattle.holder_model_values.specs.RunValues.Leaves.{leaves_of, name_leaf}
use Rattle.holder_model_values.specs.RunValues.Memory.{is_dead, object_at}
use Rattle.holder_model_values.specs.RunValues.Places.{Place, cells_at}
use Rattle.holder_model_values.specs.RunValues.Shapes.{Shape, Stored, storage_in}
use Rattle.holder_model_values.specs.RunValues.Values.{Value, references_of}
use Rattle.holder_model_values.specs.declared.run_values.leaf.Leaf.{Leaf}
use Rattle.sil_ast.specs.declared.decl.Storage.{Storage}
use Rattle.sil_ast.specs.declared.module.Module.{Module}
use Rattle.sil_ast.specs.declared.place.ObjectId.{ObjectId}
use Rattle.sil_ast.specs.declared.place.ValueId.{ValueId}
use Rattle.holder_model_values.specs.ValueParts.inner.Paths.{IsPart}
use Rattle.holder_model_values.specs.ValueParts.inner.Suits.{suits}
use Rattle.count_machine_laws.proofs.Emptying.{field_is_typed, storage_is_whole}
use Rattle.count_machine_laws.proofs.Ending.{Alike, alike_by}
use Rattle.count_machine_laws.proofs.FrameSteps.{StandsAt}
use Rattle.count_machine_laws.proofs.Held.{HeldIs, IsReachable, held_agrees}
use Rattle.count_machine_laws.proofs.HeldObjects.{object_there}
use Rattle.count_machine_laws.proofs.LastStrongs.{SameStrongs, named_same, unnamed_same}
use Rattle.count_machine_laws.proofs.Memories.{MemoryAgrees, NamesPlace}
use Rattle.count_machine_laws.proofs.Named.{leaf_named_only, memory_named, memory_renamed, name_is_leaf}
use Rattle.count_machine_laws.proofs.NamedLists.{OnlyObjects}
use Rattle.count_machine_laws.proofs.NamedValues.{name_is, name_leaf_is, name_suits}
use Rattle.count_machine_laws.proofs.Objects.{is_of_class}
use Rattle.count_machine_laws.proofs.Operands.{read_place, read_value}
use Rattle.count_machine_laws.proofs.Rows.Effects.{RowAlike, Runs, d, does_at, forms_by, performed, row_by}
use Rattle.count_machine_laws.proofs.Rows.Gives.{faults_alike, no_values, two_read}
use Rattle.count_machine_laws.proofs.Rows.Places.{AccessAlike, access, access_alike, dead_alike}
use Rattle.count_machine_laws.proofs.Rows.PlacesChanged.{changed_alike}
use Rattle.count_machine_laws.proofs.Rows.PlacesForms.{name_store}
use Rattle.count_machine_laws.proofs.Rows.PlacesNames.{changed_behind, dead_found, leaf_renamed, leaf_renamed_only}
use Rattle.count_machine_laws.proofs.Rows.PlacesStore.{does_store, written}
use Rattle.count_machine_laws.proofs.Tasks.{Beginning}
use Rattle.count_machine_laws.proofs.Writing.{write_agrees}

module _ {m : Module} {entry : Beginning} (r : Runs m entry) where
  module _ (there : inst_at r.f r.lf.at ≡ Some r.i) (results : r.i.results ≡ []) (a : Address) (p : Place) (names : NamesPlace m r.made r.st.slots r.s.memory a p)
      (w : Storage) (s : Shape) (shape : p.shape ≡ Stored w s) (first : Bool) (x : Value) (fits : suits (is_of_class m r.s.memory) (Stored w s) x ≡ true) where
    abbrev leaf : Leaf
    leaf = first_leaf (leaves_of (Stored w s) x)

    abbrev numbers_behind : List Numbers
    numbers_behind = named ((in_cells (Stored w s)).cells x) (cond first r.s.numbers (unnamed (cells_at r.s.memory p) r.s.numbers))

    abbrev stores_so : Held → Went
    stores_so = machine.stores_name r.st r.mf r.rest' w first a leaf

    abbrev Stores : Held → Type 0
    Stores h = AccessAlike r p (references_of x) (not first) (written r p x) numbers_behind (stores_so h)

    first_same : (b : Bool) → SameStrongs (cond b r.s.numbers (unnamed (cells_at r.s.memory p) r.s.numbers)) r.s.numbers
    first_same true o = refl
    first_same false o = unnamed_same (cells_at r.s.memory p) r.s.numbers o

    behind_same : SameStrongs numbers_behind r.s.numbers
    behind_same o =
        named_same ((in_cells (Stored w s)).cells x) (cond first r.s.numbers (unnamed (cells_at r.s.memory p) r.s.numbers)) o ∙ first_same first o

    -- the storage has one leaf
    one_leaf : leaf ∷ [] ≡ leaves_of p.shape x
    one_leaf = by (references_of x) ∙ ap (λ t. leaves_of t x) (sym shape)
      where
        by : (os : List ObjectId) → first_leaf (name_leaf os) ∷ [] ≡ name_leaf os
        by [] = refl
        by (o ∷ os) = refl

    -- storage is no part of a place
    is_whole : p.is_part ≡ false
    is_whole = by names
      where
        by : NamesPlace m r.made r.st.slots r.s.memory a p → p.is_part ≡ false
        by (NamesPlace.in_slot index serial at names) =
            let typed_as = r.running.parts.memory.slots.shapes serial names.of names.there in
            names.no_part (storage_is_whole typed_as.0 w s names.of.shape typed_as.1 (subst (IsPart names.of.shape names.path) shape names.part))
        by (NamesPlace.in_field o k at names) =
            let found = object_there r.s.memory r.s.numbers r.st.heap r.running.parts.memory.objects o names.made in
            let is = r.running.parts.memory.objects.classes o.0 (object_at r.s.memory o) found.object in
            let typed_as = field_is_typed m r.typed (object_at r.s.memory o).class is k names.field names.there in
            names.no_part (storage_is_whole typed_as.0 w s names.field typed_as.1 (subst (IsPart names.field names.path) shape names.part))

    -- it names its object, and then it is written
    write : (h : HeapView) → OnlyObjects r.st.heap h → MemoryAgrees m r.made r.s.memory numbers_behind (record r.st { heap = h }) → IsReachable r.s.memory p
        → Alike m entry (performed r (record r.s { numbers = numbers_behind }) (written r p x)) (go_on (write_at (record r.st { heap = h }) a (leaf ∷ [])) r.mf r.rest')
    write h only now reach =
        let good = subst (λ t. suits (is_of_class m r.s.memory) t x ≡ true) (sym shape) fits in
        alike_by refl (ap (λ ls. go_on (write_at (record r.st { heap = h }) a ls) r.mf r.rest') one_leaf)
        (changed_alike r (changed_behind only (write_agrees m r.typed now a p x names reach (λ part. absurd (false≢true (sym is_whole ∙ part))) good)) there results)

    -- the objects that it is to name
    to_name : object_in_leaf leaf ≡ references_of x
    to_name = name_is_leaf (is_of_class m r.s.memory) w s x fits

    is_dead_so : (found : Option ObjectId) → find (is_dead r.s.memory) (references_of x) ≡ found → find (is_dead_in r.st.heap) (object_in_leaf leaf) ≡ found
    is_dead_so found is = ap (find (is_dead_in r.st.heap)) to_name ∙ dead_found m r.running.parts.memory (references_of x) ∙ is

    abbrev unless_dead : Option ObjectId → Went → Went
    unless_dead = machine.unless_dead r.st r.mf r.rest'

    abbrev alive_so : Held → Went
    alive_so = machine.stores_name_alive r.st r.mf r.rest' w first a leaf

    -- one of them is dead
    of_dead : (o : ObjectId) → find (is_dead r.s.memory) (references_of x) ≡ Some o → (h : Held) → HeldIs m r.s.memory p h → Stores h
    of_dead o dead =
        let is = is_dead_so (Some o) dead in
        dead_alike r p (references_of x) (not first) (written r p x) numbers_behind behind_same o dead stores_so refl
        (λ y. ap (λ u. unless_dead u (alive_so (held.OfDead y))) is) (ap (λ u. unless_dead u (alive_so held.Empty)) is) (λ ls. ap (λ u. unless_dead u (alive_so (held.Full ls))) is)

    -- empty storage is written for the first time alone
    in_empty : find (is_dead r.s.memory) (references_of x) ≡ None → (b : Bool) → first ≡ b → IsReachable r.s.memory p
        → Alike m entry (performed r (record r.s { numbers = numbers_behind }) (cond (not (not b) || false) (written r p x) (Faults fault.Empty)))
        (cond b (machine.named_anew r.st r.mf r.rest' w a leaf r.st.heap) (faults fault.Empty r.st))
    in_empty alive true is reach =
        write (leaf_named w leaf r.st.heap) (leaf_named_only w leaf r.st.heap)
        (subst (λ b. MemoryAgrees m r.made r.s.memory (named ((in_cells (Stored w s)).cells x) (cond b r.s.numbers (unnamed (cells_at r.s.memory p) r.s.numbers)))
        (record r.st { heap = leaf_named w leaf r.st.heap })) (sym is)
        (memory_named m r.made r.s.memory r.s.numbers r.st w s x fits r.running.parts.memory alive)) reach
    in_empty alive false is reach = faults_alike r numbers_behind behind_same fault.Empty

    in_full : find (is_dead r.s.memory) (references_of x) ≡ None → (y : Value) (ls : List Leaf) → IsReachable r.s.memory p → cells_at r.s.memory p ≡ (in_cells p.shape).cells y
        → suits (is_of_class m r.s.memory) p.shape y ≡ true → ls ≡ leaves_of p.shape y
        → Alike m entry (performed r (record r.s { numbers = numbers_behind }) (written r p x))
        (machine.named_anew r.st r.mf r.rest' w a leaf (cond first r.st.heap (leaf_unnamed w (first_leaf ls) r.st.heap)))
    in_full alive y ls reach has old leaves =
        let before = first_leaf (leaves_of (Stored w s) y) in
        alike_by refl
        (ap (λ l. machine.named_anew r.st r.mf r.rest' w a leaf (cond first r.st.heap (leaf_unnamed w (first_leaf l) r.st.heap))) (leaves ∙ ap (λ t. leaves_of t y) shape))
        (write (leaf_renamed first w leaf before r.st.heap) (leaf_renamed_only first w leaf before r.st.heap)
        (memory_renamed m r.made r.s.memory r.s.numbers r.st w s first (cells_at r.s.memory p) x y (has ∙ ap (λ t. (in_cells t).cells y) shape)
        (subst (λ t. suits (is_of_class m r.s.memory) t y ≡ true) shape old) fits alive r.running.parts.memory)
        reach)

    none_dead : find (is_dead r.s.memory) (references_of x) ≡ None → (h : Held) → HeldIs m r.s.memory p h → Stores h
    none_dead alive =
        let is = is_dead_so None alive in
        access_alike r p (references_of x) (not first) (written r p x) numbers_behind behind_same alive stores_so refl
        (λ o. ap (λ u. unless_dead u (alive_so (held.OfDead o))) is)
        (λ reach has. alike_by refl (ap (λ u. unless_dead u (alive_so held.Empty)) is) (in_empty alive first refl reach))
        (λ y ls reach has at old leaves. alike_by refl (ap (λ u. unless_dead u (alive_so (held.Full ls))) is) (in_full alive y ls reach has old leaves))

    pub store_name : (h : Held) → HeldIs m r.s.memory p h → Stores h
    store_name = by (find (is_dead r.s.memory) (references_of x)) refl
      where
        by : (o : Option ObjectId) → find (is_dead r.s.memory) (references_of x) ≡ o → (h : Held) → HeldIs m r.s.memory p h → Stores h
        by None alive = none_dead alive
        by (Some o) dead = of_dead o dead

  pub stores_name_alike : (v u : ValueId) (w : Storage) (s : Shape) (o : Operation) → effect_of r.i.op ≡ row.StoresValue → operands_of r.i ≡ v ∷ u ∷ []
      → form_of (d r) r.f u ≡ OfPlace (Stored w s) → operation_done r.i ≡ Some o
      → StandsAt m r.f r.lf r.i (op.StoreName w (is_first_write o) (local (d r) r.f v) (local_address (d r) r.f u))
      → RowAlike r (op.StoreName w (is_first_write o) (local (d r) r.f v) (local_address (d r) r.f u))
  stores_name_alike v u w s o is operands form done stands =
      let forms = name_store m r.i (form_of (d r) r.f v) w s (forms_by r stands row.StoresValue is)
      (ap (map (form_of (d r) r.f)) operands ∙ ap (λ y. form_of (d r) r.f v ∷ y ∷ []) form) in
      let results = sym (no_values (form_of (d r) r.f) r.i.results forms.none) in
      let a = address_in r.st r.mf (local_address (d r) r.f u) in
      let first = is_first_write o in
      row_by r stands row.StoresValue is (sym operands)
      (λ xs all.
      let two = two_read v u xs operands all in
      let place = read_place two.4 (Stored w s) form in
      let p = place.0 in
      let value = read_value two.3 s forms.value in
      let x = value.0 in
      let name = name_is (is_of_class m r.s.memory) w s x forms.named value.2 in
      let machine_so = machine.stores_name r.st r.mf r.rest' w first a in
      alike_by
      (ap (does_at r row.StoresValue) (two.2 ∙ ap (λ y. y ∷ two.1 ∷ []) value.1 ∙ ap (λ y. ValueOf x ∷ y ∷ []) place.1)
      ∙ ap (does_store r x p) done
      ∙ ap (λ t. performed r (record r.s { numbers = named ((in_cells t).cells x) (cond first r.s.numbers (unnamed (cells_at r.s.memory p) r.s.numbers)) })
      (access r p (cond (is_some (storage_in t)) (references_of x) []) (cond (is_some (storage_in t)) (not first) p.is_part) (written r p x))) place.2)
      (ap (λ ls. machine_so (name_of w ls) (held_at r.st a 1)) value.3
      ∙ ap (λ l. machine_so l (held_at r.st a 1)) (sym (ap first_leaf (name_leaf_is (is_of_class m r.s.memory) w s x name)))
      ∙ ap (λ t. machine_so (first_leaf (leaves_of (Stored w s) x)) (held_at r.st a (size_of t))) (sym place.2))
      (store_name stands.inst results a p place.3 w s place.2 first x (name_suits (is_of_class m r.s.memory) w s x name) (held_at r.st a (size_of p.shape))
      (held_agrees m r.running.parts.memory a p place.3)))
