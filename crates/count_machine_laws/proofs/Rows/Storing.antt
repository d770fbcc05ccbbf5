-- Weak and unowned storage: its object is named no longer, and it is emptied.
use Rattle.std.proofs.Common.{◌≡◌, ◌∙◌, List, [], ◌∷◌, true, Some, refl, sym, ap, subst}
use Rattle.count_heap.specs.HeapModel.HeapViews.{HeapView}
use Rattle.count_machine_model.specs.holder_model.Effects as effects
use Rattle.count_machine_model.specs.holder_model.Effects.{effect_of, unchanged, with_some}
use Rattle.count_machine_model.specs.holder_model.ModuleShapes.{shapes_of}
use Rattle.count_machine_model.specs.holder_model.Outcomes.{Numbers}
use Rattle.count_machine_model.specs.holder_model.declared.row_effect.RowEffect.TheVariants as row
use Rattle.sil_cfg_items.specs.Parts.{inst_at}
use Rattle.count_machine_model.specs.holder_model.LoweredRun.LowEffects.{destroys_by, place_taken}
use Rattle.count_machine_model.specs.holder_model.LoweredRun.LowStepParts.{numbers_for}
use Rattle.count_machine_model.specs.holder_model.LoweredRun.Stored.{unnamed}
use Rattle.count_machine_model.specs.holder_model.declared.lowered_run.low_fault.LowFault.TheVariants as fault
use Rattle.count_machine_model.specs.declared.machine_steps.address.Address.{Address}
use Rattle.count_machine_model.specs.MachineSteps.Held.{held_at}
use Rattle.count_machine_model.specs.MachineSteps.Naming.{leaf_unnamed}
use Rattle.count_machine_model.specs.MachineSteps.Operands.{address_in, first_leaf, go_on}
use Rattle.count_machine_model.specs.MachineSteps.Places.{forgets_name, forgotten}
use Rattle.count_machine_model.specs.MachineSteps.Views.{MachineView}
use Rattle.count_machine_model.specs.memory_rules_accesses.declared.access.Operation.TheVariants as operation
use Rattle.count_machine_model.specs.ReadyCode.Layout.{local_address, size_of}
use Rattle.count_machine_model.specs.ReadyCode.ReadyOps.{operands_of}
use Rattle.count_machine_model.specs.declared.ready_code.op.ReadyOp.TheVariants as op
use Rattle.count_machine_model.specs.holder_model.RunTyping.Forms.{OfPlace, form_of}
use Rattle.holder_model_values.specs.RunValues.Cells.{in_cells}
use Rattle.holder_model_values.specs.RunValues.Leaves.{leaves_of}
use Rattle.holder_model_values.specs.RunValues.Places.{Place, cells_at, emptied}
use Rattle.holder_model_values.specs.RunValues.Shapes.{Shape, Stored}
use Rattle.holder_model_values.specs.RunValues.Values.{Value}
use Rattle.holder_model_values.specs.declared.run_values.leaf.Leaf.{Leaf}
use Rattle.sil_ast.specs.declared.decl.Storage.{Storage}
use Rattle.sil_ast.specs.declared.module.Module.{Module}
use Rattle.sil_ast.specs.declared.place.ValueId.{ValueId}
use Rattle.holder_model_values.specs.ValueParts.inner.Suits.{suits}
use Rattle.count_machine_laws.proofs.Changes.{HasChanged}
use Rattle.count_machine_laws.proofs.Emptying.{empty_agrees}
use Rattle.count_machine_laws.proofs.Ending.{Alike, alike_by}
use Rattle.count_machine_laws.proofs.FrameSteps.{Running, StandsAt}
use Rattle.count_machine_laws.proofs.Held.{HeldIs, IsReachable, held_agrees}
use Rattle.count_machine_laws.proofs.LastStrongs.{unnamed_same}
use Rattle.count_machine_laws.proofs.Memories.{MemoryAgrees, NamesPlace}
use Rattle.count_machine_laws.proofs.Named.{leaf_unnamed_only, memory_unnamed}
use Rattle.count_machine_laws.proofs.NamedLists.{OnlyObjects}
use Rattle.count_machine_laws.proofs.Numbers.{numbers_stay}
use Rattle.count_machine_laws.proofs.Objects.{is_of_class}
use Rattle.count_machine_laws.proofs.Operands.{read_place}
use Rattle.count_machine_laws.proofs.Rows.Effects.{RowAlike, Runs, d, does_at, forms_by, performed, row_by, values}
use Rattle.count_machine_laws.proofs.Rows.Gives.{faults_alike, no_values, one_read}
use Rattle.count_machine_laws.proofs.Rows.Makes.{nothing_given}
use Rattle.count_machine_laws.proofs.Rows.Places.{access_alike}
use Rattle.count_machine_laws.proofs.Rows.Steps.{counts_change, memory_changes}
use Rattle.count_machine_laws.proofs.Tasks.{Beginning}

module _ {m : Module} {entry : Beginning} (r : Runs m entry) where
  -- the numbers of what is named change
  pub names_change : (numbers : List Numbers) (h : HeapView) → MemoryAgrees m r.made r.s.memory numbers (record r.st { heap = h }) → OnlyObjects r.st.heap h
      → Running m entry r.made (record r.s { numbers = numbers }) (record r.st { heap = h }) r.f r.lf r.mf r.below r.rest r.rest'
  names_change numbers h agrees same = counts_change r.running numbers r.s.retains h (record {
    memory = agrees;
    events = r.running.parts.events;
    turns = r.running.parts.turns;
    retains = same.retains ∙ r.running.parts.retains;
    releases = same.releases ∙ r.running.parts.releases;
  })

  module _ (a : Address) (p : Place) (w : Storage) (s : Shape) (stored : p.shape ≡ Stored w s) (names : NamesPlace m r.made r.st.slots r.s.memory a p)
      (reached : IsReachable r.s.memory p) (x : Value) (cells : cells_at r.s.memory p ≡ (in_cells p.shape).cells x) (fits : suits (is_of_class m r.s.memory) p.shape x ≡ true) where
    abbrev unnamed_at : List Numbers
    unnamed_at = unnamed (cells_at r.s.memory p) r.s.numbers

    abbrev leaf_at : Leaf
    leaf_at = first_leaf (leaves_of p.shape x)

    abbrev without_name : MachineView
    without_name = record r.st { heap = leaf_unnamed w leaf_at r.st.heap }

    agrees_without : MemoryAgrees m r.made r.s.memory unnamed_at without_name
    agrees_without =
        subst (λ cs. MemoryAgrees m r.made r.s.memory (unnamed cs r.s.numbers) without_name) (sym cells)
        (subst (λ t. MemoryAgrees m r.made r.s.memory (unnamed ((in_cells t).cells x) r.s.numbers) (record r.st { heap = leaf_unnamed w (first_leaf (leaves_of t x)) r.st.heap })) (sym stored)
        (memory_unnamed m r.made r.s.memory r.s.numbers r.st w s x (subst (λ t. suits (is_of_class m r.s.memory) t x ≡ true) stored fits) r.running.parts.memory))

    pub emptied_so : HasChanged m r.made r.s.memory without_name (emptied r.s.memory p) unnamed_at (forgotten r.st r.mf r.rest' w a leaf_at)
    emptied_so = empty_agrees m r.typed agrees_without a p w s stored names reached

    -- the storage is emptied, and names its object no longer
    pub forgotten_runs : Running m entry emptied_so.changes.made' (record r.s { memory = emptied r.s.memory p; numbers = unnamed_at }) (forgotten r.st r.mf r.rest' w a leaf_at)
        r.f r.lf r.mf r.below r.rest r.rest'
    forgotten_runs =
        memory_changes (names_change unnamed_at (leaf_unnamed w leaf_at r.st.heap) agrees_without (leaf_unnamed_only w leaf_at r.st.heap)) emptied_so.changes emptied_so.slots

    pub forgotten_numbers : numbers_for (emptied r.s.memory p) unnamed_at ≡ unnamed_at
    forgotten_numbers =
        numbers_stay m (is_of_class m (emptied r.s.memory p)) (emptied r.s.memory p) unnamed_at (forgotten r.st r.mf r.rest' w a leaf_at).heap emptied_so.changes.agrees.objects

  -- a place of storage is held in one leaf
  pub held_one : (a : Address) (p : Place) (w : Storage) (s : Shape) → p.shape ≡ Stored w s → NamesPlace m r.made r.st.slots r.s.memory a p → HeldIs m r.s.memory p (held_at r.st a 1)
  held_one a p w s stored names = subst (λ n. HeldIs m r.s.memory p (held_at r.st a n)) (ap size_of stored) (held_agrees m r.running.parts.memory a p names)

  forgets : (a : Address) (p : Place) (w : Storage) (s : Shape) → p.shape ≡ Stored w s → NamesPlace m r.made r.st.slots r.s.memory a p → inst_at r.f r.lf.at ≡ Some r.i → r.i.results ≡ []
      → Alike m entry (performed r (record r.s { numbers = unnamed (cells_at r.s.memory p) r.s.numbers }) (destroys_by (d r) (shapes_of m) (values r) r.s.memory r.i operation.Take p))
      (forgets_name r.st r.mf r.rest' w a (held_at r.st a 1))
  forgets a p w s stored names there results =
      access_alike r p [] true (effects.Makes (unchanged (emptied r.s.memory p))) (unnamed (cells_at r.s.memory p) r.s.numbers) (unnamed_same (cells_at r.s.memory p) r.s.numbers) refl
      (forgets_name r.st r.mf r.rest' w a) refl (λ o. refl)
      (λ reached cells. faults_alike r (unnamed (cells_at r.s.memory p) r.s.numbers) (unnamed_same (cells_at r.s.memory p) r.s.numbers) fault.Empty)
      (λ x ls reached cells is fits leaves.
      alike_by refl (ap (λ ms. go_on (forgotten r.st r.mf r.rest' w a (first_leaf ms)) r.mf r.rest') leaves)
      (nothing_given m entry r.bound r.f r.lf r.mf r.below r.rest r.rest' r.i there (record r.s { numbers = unnamed (cells_at r.s.memory p) r.s.numbers })
      (forgotten_numbers a p w s stored names reached x cells fits) (forgotten_runs a p w s stored names reached x cells fits) results))
      (held_at r.st a 1) (held_one a p w s stored names)

  pub forget_name_alike : (v : ValueId) (w : Storage) (s : Shape) → effect_of r.i.op ≡ row.DestroysPlace → operands_of r.i ≡ v ∷ [] → form_of (d r) r.f v ≡ OfPlace (Stored w s)
      → StandsAt m r.f r.lf r.i (op.ForgetName w (local_address (d r) r.f v)) → RowAlike r (op.ForgetName w (local_address (d r) r.f v))
  forget_name_alike v w s is operands from stands =
      let forms = forms_by r stands row.DestroysPlace is in
      let results = sym (no_values (form_of (d r) r.f) r.i.results forms.5) in
      row_by r stands row.DestroysPlace is (sym operands)
      (λ xs all.
      let one = one_read v xs operands all in
      let p = read_place one.2 (Stored w s) from in
      alike_by
      (ap (does_at r row.DestroysPlace) (one.1 ∙ ap (λ y. y ∷ []) p.1)
      ∙ ap (λ o. performed r (record r.s { numbers = place_taken (d r) (shapes_of m) (values r) r.s.memory r.i o (Some p.0) r.s.numbers })
      (with_some (λ k. destroys_by (d r) (shapes_of m) (values r) r.s.memory r.i k p.0) o)) forms.3)
      refl (forgets (address_in r.st r.mf (local_address (d r) r.f v)) p.0 w s p.2 p.3 stands.inst results))
