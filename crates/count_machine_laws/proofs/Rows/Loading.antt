-- What weak or unowned storage names is loaded, with one reference more where it is live.
use Rattle.std.proofs.Common.{◌≡◌, ◌∙◌, ◌+◌, List, [], ◌∷◌, true, false, Bool, Some, cond, refl, sym, ap, subst}
use Rattle.std.proofs.lemmas.Bool.{cond-false, false≢true}
use Rattle.std.specs.Prelude.{◌&&◌, set}
use Rattle.count_heap.specs.HeapModel.HeapCalls.{retained}
use Rattle.count_heap.specs.HeapModel.HeapViews.{phase_in}
use Rattle.count_machine_model.specs.holder_model.Data.{ValueOf}
use Rattle.count_machine_model.specs.holder_model.Effects as effects
use Rattle.count_machine_model.specs.holder_model.Effects.{Effect, effect_of, unchanged, with_some}
use Rattle.count_machine_model.specs.holder_model.MemoryEffects.{all_live, loaded_name, named_again, takes}
use Rattle.count_machine_model.specs.holder_model.ModuleShapes.{shapes_of}
use Rattle.count_machine_model.specs.holder_model.Outcomes.{Numbers}
use Rattle.count_machine_model.specs.holder_model.States.{Trapped}
use Rattle.count_machine_model.specs.holder_model.declared.row_effect.RowEffect.TheVariants as row
use Rattle.count_machine_model.specs.holder_model.declared.trap.Trap.TheVariants as trap
use Rattle.sil_cfg_items.specs.Parts.{inst_at}
use Rattle.count_machine_model.specs.holder_model.LoweredRun.LowEffects.{names_by, place_taken}
use Rattle.count_machine_model.specs.holder_model.LoweredRun.LowStepParts.{LowNext, LowState, retains_each}
use Rattle.count_machine_model.specs.holder_model.LoweredRun.Stored.{changed, one_more, unnamed}
use Rattle.count_machine_model.specs.holder_model.declared.lowered_run.low_fault.LowFault.{LowFault}
use Rattle.count_machine_model.specs.holder_model.declared.lowered_run.low_fault.LowFault.TheVariants as fault
use Rattle.count_machine_model.specs.declared.machine_steps.address.Address.{Address}
use Rattle.count_machine_model.specs.declared.machine_steps.run_end.RunEnd.TheVariants as end
use Rattle.count_machine_model.specs.MachineSteps.Held.{held_at}
use Rattle.count_machine_model.specs.MachineSteps.Naming.{none_leaves, some_leaves}
use Rattle.count_machine_model.specs.MachineSteps.Operands.{address_in, first_leaf, gives, object_in_leaf}
use Rattle.count_machine_model.specs.MachineSteps.Places.{forgotten, given, loads_name, retained_and}
use Rattle.count_machine_model.specs.MachineSteps.Views.{MachineView, Stops, Went}
use Rattle.count_machine_model.specs.memory_rules_accesses.declared.access.Operation.{Operation}
use Rattle.count_machine_model.specs.ReadyCode.Layout.{local, local_address}
use Rattle.count_machine_model.specs.ReadyCode.ReadyOps.{operands_of}
use Rattle.count_machine_model.specs.declared.ready_code.op.ReadyOp.TheVariants as op
use Rattle.count_machine_model.specs.holder_model.RunTyping.CallForms.{IsOf}
use Rattle.count_machine_model.specs.holder_model.RunTyping.Forms.{OfPlace, OfValue, form_of}
use Rattle.count_machine_model.specs.holder_model.RunTyping.RowForms.{operation_done}
use Rattle.count_machine_model.specs.holder_model.RunTyping.StorageForms.{IsNamed}
use Rattle.holder_model_values.specs.RunValues.Cells.{in_cells}
use Rattle.holder_model_values.specs.RunValues.Leaves.{leaves_of}
use Rattle.holder_model_values.specs.RunValues.Memory.{Memory, is_dead, is_dead_phase, is_live, is_live_phase}
use Rattle.holder_model_values.specs.RunValues.Places.{Place, cells_at, emptied, value_at}
use Rattle.holder_model_values.specs.RunValues.Shapes.{Reference, Shape, Stored, storage_in}
use Rattle.holder_model_values.specs.RunValues.Values as value
use Rattle.holder_model_values.specs.RunValues.Values.{Value, references_of}
use Rattle.holder_model_values.specs.declared.run_values.leaf.Leaf.{Leaf}
use Rattle.holder_model_values.specs.declared.run_values.leaf.Leaf.TheVariants as leaf
use Rattle.holder_model_values.specs.declared.run_values.phase.Phase.{Phase}
use Rattle.holder_model_values.specs.declared.run_values.phase.Phase.TheVariants.{Dead, Deiniting, Live}
use Rattle.sil_ast.specs.declared.decl.Storage.{Storage}
use Rattle.sil_ast.specs.declared.module.Module.{Module}
use Rattle.sil_ast.specs.declared.place.ObjectId.{ObjectId}
use Rattle.sil_ast.specs.declared.place.ValueId.{ValueId}
use Rattle.holder_model_values.specs.ValueParts.inner.Suits.{suits}
use Rattle.count_machine_laws.specs.inner.Told.{unowned}
use Rattle.count_machine_laws.proofs.CountedSteps.{parts_retained}
use Rattle.count_machine_laws.proofs.Ending.{Alike, alike_by, ends_alike_with}
use Rattle.count_machine_laws.proofs.FrameSteps.{Running, StandsAt}
use Rattle.count_machine_laws.proofs.Grows.{suits_grows}
use Rattle.count_machine_laws.proofs.Held.{IsReachable}
use Rattle.count_machine_laws.proofs.LastStrongs.{SameStrongs, unnamed_same}
use Rattle.count_machine_laws.proofs.Memories.{NamesPlace}
use Rattle.count_machine_laws.proofs.Named.{name_is_leaf}
use Rattle.count_machine_laws.proofs.NamedValues.{NameIs, optional_shape, stored_name_is}
use Rattle.count_machine_laws.proofs.Numbers.{live_agrees, numbers_stay}
use Rattle.count_machine_laws.proofs.Objects.{is_of_class}
use Rattle.count_machine_laws.proofs.Operands.{read_place}
use Rattle.count_machine_laws.proofs.Rows.Effects.{RowAlike, Runs, d, does_at, forms_by, performed, results_of, row_by, values}
use Rattle.count_machine_laws.proofs.Rows.Gives.{faults_alike, first_form, one_of, one_read}
use Rattle.count_machine_laws.proofs.Rows.Makes.{makes_alike, one_put, value_given}
use Rattle.count_machine_laws.proofs.Rows.Places.{access, access_alike}
use Rattle.count_machine_laws.proofs.Rows.PlacesForms.{same_storage, same_stored}
use Rattle.count_machine_laws.proofs.Rows.Shapes.{same_place_form}
use Rattle.count_machine_laws.proofs.Rows.Steps.{counts_change, value_put}
use Rattle.count_machine_laws.proofs.Rows.Storing.{emptied_so, forgotten_runs, held_one}
use Rattle.count_machine_laws.proofs.Slots.{Made}
use Rattle.count_machine_laws.proofs.Tasks.{Beginning}

live_is_not_dead : (p : Phase) → is_live_phase p ≡ true → is_dead_phase p ≡ false
live_is_not_dead Live e = refl
live_is_not_dead Deiniting e = refl
live_is_not_dead Dead e = absurd (false≢true e)

-- in a memory that may have changed: where the storage is taken, it is empty and names nothing
module _ {m : Module} {entry : Beginning} (r : Runs m entry) {made : List Made} {mem : Memory} {ns : List Numbers} {st : MachineView}
    (running : Running m entry made (record r.s { memory = mem; numbers = ns }) st r.f r.lf r.mf r.below r.rest r.rest') (same : SameStrongs ns r.s.numbers)
    (there : inst_at r.f r.lf.at ≡ Some r.i) (u : ValueId) (results : r.i.results ≡ u ∷ []) (is_of : IsOf r.f u) where
  abbrev s1 : LowState
  s1 = record r.s { numbers = ns }

  plain_given : (t : Shape) → form_of (d r) r.f u ≡ OfValue t → (x : Value) → suits (is_of_class m mem) t x ≡ true → (ls : List Leaf) → ls ≡ leaves_of t x
      → Alike m entry (performed r s1 (effects.gives_value mem x)) (gives st r.mf r.rest' (local (d r) r.f u) ls)
  plain_given t form x fits ls is =
      value_given m entry r.bound r.f r.lf r.mf r.below r.rest r.rest' r.i there s1 (numbers_stay m (is_of_class m mem) mem ns st.heap running.parts.memory.objects) running u results
      is_of t form x fits ls is

  module _ (o : ObjectId) (live : is_live r.s.memory o ≡ true) where
    abbrev more : List Numbers
    more = changed one_more ns o

    retains_it : (go : LowState → LowNext) → retains_each (o ∷ []) s1 go ≡ go (record s1 { numbers = more; retains = r.s.retains + 1 })
    retains_it go = cond-false (is_dead r.s.memory o) _ _ (live_is_not_dead _ live)

    retained_given : (t : Shape) → form_of (d r) r.f u ≡ OfValue t → (x : Value) → suits (is_of_class m mem) t x ≡ true → (ls : List Leaf) → ls ≡ leaves_of t x
        → Alike m entry (performed r s1 (effects.Makes (record (unchanged mem) { results = ValueOf x ∷ []; retained = o ∷ [] })))
        (gives (record st { heap = retained st.heap o }) r.mf r.rest' (local (d r) r.f u) ls)
    retained_given t form x fits ls is =
        makes_alike m entry r.bound r.f r.lf r.mf r.below r.rest r.rest' r.i there s1 (record (unchanged mem) { results = ValueOf x ∷ []; retained = o ∷ [] })
        (record s1 { numbers = more; retains = r.s.retains + 1 }) more r.lf.slots (set r.lf.values u.0 (Some (ValueOf x))) retains_it refl
        (numbers_stay m (is_of_class m mem) mem more (retained st.heap o) counted.parts.memory.objects) refl
        (one_put m entry r.bound r.f r.lf r.mf r.below r.rest r.rest' r.i there u results (ValueOf x) r.lf.values)
        (value_put counted u is_of t form x fits ls is)
      where
        counted : Running m entry made (record r.s { memory = mem; numbers = more; retains = r.s.retains + 1 }) (record st { heap = retained st.heap o }) r.f r.lf r.mf r.below r.rest r.rest'
        counted = counts_change running more (r.s.retains + 1) (retained st.heap o) (parts_retained m made (record r.s { memory = mem; numbers = ns }) st o running.parts)

  machine_live : (o : ObjectId) → is_live_phase (phase_in r.st.heap o) ≡ is_live r.s.memory o
  machine_live o = live_agrees m (is_of_class m r.s.memory) r.s.memory r.s.numbers r.st.heap o r.running.parts.memory.objects

  -- the object is live, or it isn't and something else is done
  by_live : (o : ObjectId) (e e' : Effect LowFault) (w w' : Went) → (is_live r.s.memory o ≡ true → Alike m entry (performed r s1 e) w) → Alike m entry (performed r s1 e') w'
      → Alike m entry (performed r s1 (cond (all_live r.s.memory (o ∷ [])) e e')) (cond (is_live_phase (phase_in r.st.heap o)) w w')
  by_live o e e' w w' live else = alike_by refl (ap (λ b. cond b w w') (machine_live o)) (at (is_live r.s.memory o) refl)
    where
      at : (b : Bool) → is_live r.s.memory o ≡ b → Alike m entry (performed r s1 (cond (b && true) e e')) (cond b w w')
      at true is = live is
      at false is = else

  -- the machine traps before it empties the storage
  trapped : Alike m entry (performed r s1 (effects.Traps trap.Unowned)) (Stops end.Unowned r.st)
  trapped = ends_alike_with r.running.parts ns same (Trapped trap.Unowned) end.Unowned unowned refl

  -- what is named is given, or `none` or the trap where it isn't live
  pub loaded : (w : Storage) (s : Shape) (x : Value) → NameIs (is_of_class m r.s.memory) w s x → (suits (is_of_class m r.s.memory) s x ≡ true → suits (is_of_class m mem) s x ≡ true)
      → form_of (d r) r.f u ≡ OfValue s
      → Alike m entry (performed r s1 (loaded_name (Some w) r.s.memory mem x)) (given r.st r.mf r.rest' w st (local (d r) r.f u) (references_of x))
  loaded _ _ _ (NameIs.nothing name first second class) wider form = plain_given (optional_shape name first second class) form (value.Case 0) refl none_leaves refl
  loaded _ _ _ (NameIs.weakly name first second class o is) wider form =
      by_live o (named_again mem (value.Full 1 (value.Object o))) (effects.gives_value mem (value.Case 0)) (retained_and r.st r.mf r.rest' st (local (d r) r.f u) (some_leaves o) o)
      (gives st r.mf r.rest' (local (d r) r.f u) none_leaves)
      (λ live. retained_given o live (optional_shape name first second class) form (value.Full 1 (value.Object o)) (wider is) (some_leaves o) refl)
      (plain_given (optional_shape name first second class) form (value.Case 0) refl none_leaves refl)
  loaded _ _ _ (NameIs.unowned class o is) wider form =
      by_live o (named_again mem (value.Object o)) (effects.Traps trap.Unowned) (retained_and r.st r.mf r.rest' st (local (d r) r.f u) (leaf.Object o ∷ []) o) (Stops end.Unowned r.st)
      (λ live. retained_given o live (Reference class) form (value.Object o) (wider is) (leaf.Object o ∷ []) refl) trapped

module _ {m : Module} {entry : Beginning} (r : Runs m entry) where
  module _ (there : inst_at r.f r.lf.at ≡ Some r.i) (u : ValueId) (results : r.i.results ≡ u ∷ []) (is_of : IsOf r.f u) (a : Address) (p : Place) (w : Storage) (s : Shape)
      (stored : p.shape ≡ Stored w s) (names : NamesPlace m r.made r.st.slots r.s.memory a p) (named : IsNamed w s) (form : form_of (d r) r.f u ≡ OfValue s) where
    -- the storage is taken, or read
    abbrev numbers_by : Bool → List Numbers
    numbers_by b = cond b (unnamed (cells_at r.s.memory p) r.s.numbers) r.s.numbers

    abbrev memory_by : Bool → Memory
    memory_by b = cond b (emptied r.s.memory p) r.s.memory

    abbrev machine_by : Bool → Leaf → MachineView
    machine_by b l = cond b (forgotten r.st r.mf r.rest' w a l) r.st

    abbrev named_by : Bool → Effect LowFault
    named_by b = with_some (loaded_name (storage_in p.shape) r.s.memory (memory_by b)) (value_at r.s.memory p)

    module _ (x : Value) (ls : List Leaf) (reached : IsReachable r.s.memory p) (cells : cells_at r.s.memory p ≡ (in_cells p.shape).cells x) (is : value_at r.s.memory p ≡ Some x)
        (fits : suits (is_of_class m r.s.memory) p.shape x ≡ true) (leaves : ls ≡ leaves_of p.shape x) where
      fits_stored : suits (is_of_class m r.s.memory) (Stored w s) x ≡ true
      fits_stored = subst (λ t. suits (is_of_class m r.s.memory) t x ≡ true) stored fits

      name : NameIs (is_of_class m r.s.memory) w s x
      name = stored_name_is (is_of_class m r.s.memory) w s x named fits_stored

      found : object_in_leaf (first_leaf (leaves_of p.shape x)) ≡ references_of x
      found = ap (λ t. object_in_leaf (first_leaf (leaves_of t x))) stored ∙ name_is_leaf (is_of_class m r.s.memory) w s x fits_stored

      by_taking : (b : Bool) → Alike m entry (performed r (record r.s { numbers = numbers_by b }) (loaded_name (Some w) r.s.memory (memory_by b) x))
          (given r.st r.mf r.rest' w (machine_by b (first_leaf (leaves_of p.shape x))) (local (d r) r.f u) (references_of x))
      by_taking true =
          loaded r (forgotten_runs r a p w s stored names reached x cells fits) (unnamed_same (cells_at r.s.memory p) r.s.numbers) there u results is_of w s x name
          (suits_grows (emptied_so r a p w s stored names reached x cells fits).changes.grows s x) form
      by_taking false = loaded r r.running (λ o. refl) there u results is_of w s x name (λ h. h) form

      name_given : (b : Bool) → Alike m entry (performed r (record r.s { numbers = numbers_by b }) (named_by b))
          (given r.st r.mf r.rest' w (machine_by b (first_leaf ls)) (local (d r) r.f u) (object_in_leaf (first_leaf ls)))
      name_given b =
          alike_by
          (ap (λ y. performed r (record r.s { numbers = numbers_by b }) (with_some (loaded_name (storage_in p.shape) r.s.memory (memory_by b)) y)) is
          ∙ ap (λ t. performed r (record r.s { numbers = numbers_by b }) (loaded_name (storage_in t) r.s.memory (memory_by b) x)) stored)
          (ap (λ ms. given r.st r.mf r.rest' w (machine_by b (first_leaf ms)) (local (d r) r.f u) (object_in_leaf (first_leaf ms))) leaves
          ∙ ap (given r.st r.mf r.rest' w (machine_by b (first_leaf (leaves_of p.shape x))) (local (d r) r.f u)) found)
          (by_taking b)

    names_same : (b : Bool) → SameStrongs (numbers_by b) r.s.numbers
    names_same true o = unnamed_same (cells_at r.s.memory p) r.s.numbers o
    names_same false o = refl

    name_loaded : (b : Bool) → Alike m entry (performed r (record r.s { numbers = numbers_by b }) (access r p [] true (named_by b)))
        (loads_name r.st r.mf r.rest' w b a (local (d r) r.f u) (held_at r.st a 1))
    name_loaded b =
        access_alike r p [] true (named_by b) (numbers_by b) (names_same b) refl (loads_name r.st r.mf r.rest' w b a (local (d r) r.f u)) refl (λ o. refl)
        (λ reached cells. faults_alike r (numbers_by b) (names_same b) fault.Empty) (λ x ls reached cells is fits leaves. name_given x ls reached cells is fits leaves b)
        (held_at r.st a 1) (held_one r a p w s stored names)

  pub load_name_alike : (v u : ValueId) (w : Storage) (s : Shape) (o : Operation) → effect_of r.i.op ≡ row.LoadsName → operands_of r.i ≡ v ∷ [] → r.i.results ≡ u ∷ []
      → form_of (d r) r.f v ≡ OfPlace (Stored w s) → operation_done r.i ≡ Some o
      → StandsAt m r.f r.lf r.i (op.LoadName w (takes o) (local_address (d r) r.f v) (local (d r) r.f u)) → RowAlike r (op.LoadName w (takes o) (local_address (d r) r.f v) (local (d r) r.f u))
  load_name_alike v u w s o is operands results from done stands =
      let forms = forms_by r stands row.LoadsName is in
      let same = same_place_form (Stored forms.0 forms.1) (Stored w s)
      (sym (first_form (form_of (d r) r.f) (operands_of r.i) v [] (OfPlace (Stored forms.0 forms.1)) [] operands forms.6) ∙ from) in
      let inner : forms.1 ≡ s = same_stored forms.0 w forms.1 s same in
      let named : IsNamed w s = subst (λ k. IsNamed k s) (same_storage forms.0 w forms.1 s same) (subst (IsNamed forms.0) inner forms.3) in
      let form = first_form (form_of (d r) r.f) r.i.results u [] (OfValue forms.1) [] results forms.7 ∙ ap OfValue inner in
      row_by r stands row.LoadsName is (sym operands)
      (λ xs all.
      let one = one_read v xs operands all in
      let p = read_place one.2 (Stored w s) from in
      alike_by
      (ap (does_at r row.LoadsName) (one.1 ∙ ap (λ y. y ∷ []) p.1)
      ∙ ap (λ o. performed r (record r.s { numbers = place_taken (d r) (shapes_of m) (values r) r.s.memory r.i o (Some p.0) r.s.numbers })
      (with_some (λ k. names_by (d r) (shapes_of m) (values r) r.s.memory r.i k p.0) o)) done)
      refl
      (name_loaded stands.inst u results (one_of r.f r.i.results u [] results (results_of r stands row.LoadsName is)) (address_in r.st r.mf (local_address (d r) r.f v)) p.0 w s
      p.2 p.3 named form (takes o)))
