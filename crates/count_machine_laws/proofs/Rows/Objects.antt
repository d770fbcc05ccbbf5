-- New objects and slots, and slots that go.
use Rattle.std.proofs.Common.{◌≡◌, ◌≤◌, ◌∙◌, ◌+◌, ℕ, [], ◌∷◌, Some, cond, length, refl, sym, ap, subst, arith}
use Rattle.std.proofs.lemmas.List.{length-append, length-take-le}
use Rattle.std.specs.Prelude.{is_some, option_and_then, set}
use Rattle.count_heap.specs.HeapModel.HeapCalls.{allocated_in}
use Rattle.count_machine_model.specs.holder_model.Data.{AddressOf, as_place}
use Rattle.count_machine_model.specs.holder_model.Effects as effects
use Rattle.count_machine_model.specs.holder_model.Effects.{Change, ClosesSlot, OpensSlot, effect_of, makes_object, only, result_shape_of, unchanged, with_some}
use Rattle.count_machine_model.specs.holder_model.ModuleShapes.{shapes_of}
use Rattle.count_machine_model.specs.holder_model.declared.row_effect.RowEffect.TheVariants as row
use Rattle.sil_cfg_items.specs.Parts.{inst_at}
use Rattle.count_machine_model.specs.holder_model.LoweredRun.LowEffects.{removes}
use Rattle.count_machine_model.specs.holder_model.LoweredRun.LowStepParts.{on_ok}
use Rattle.count_machine_model.specs.holder_model.declared.lowered_run.low_fault.LowFault.TheVariants as fault
use Rattle.count_machine_model.specs.MachineSteps.Operands.{address_in, faults, gives, gives_address}
use Rattle.count_machine_model.specs.MachineSteps.Places.{made_object, new_slot, removes_home, slot_address, with_slot}
use Rattle.count_machine_model.specs.MachineSteps.Views.{MachineView, Went}
use Rattle.numbered_form.specs.Names.{Name}
use Rattle.count_machine_model.specs.ReadyCode.Layout.{local, local_address, size_of}
use Rattle.count_machine_model.specs.ReadyCode.ReadyOps.{operands_of}
use Rattle.count_machine_model.specs.declared.ready_code.op.ReadyOp.TheVariants as op
use Rattle.count_machine_model.specs.holder_model.RunTyping.CallForms.{IsOf}
use Rattle.count_machine_model.specs.holder_model.RunTyping.Forms.{OfPlace, OfValue, form_of}
use Rattle.count_machine_model.specs.holder_model.RunTyping.StorageForms.{FieldShapeIs}
use Rattle.holder_model_values.specs.RunValues.Memory.{Memory, new_object}
use Rattle.holder_model_values.specs.RunValues.Places.{Place, removed}
use Rattle.holder_model_values.specs.RunValues.Shapes.{Reference, Shape, class_in}
use Rattle.holder_model_values.specs.RunValues.Values as value
use Rattle.holder_model_values.specs.declared.run_values.leaf.Leaf.TheVariants as leaf
use Rattle.sil_ast.specs.declared.module.Module.{Module}
use Rattle.sil_ast.specs.declared.place.ValueId.{ValueId}
use Rattle.sil_types_declarations.specs.TypeDefinitions.Lookups.{class_at}
use Rattle.count_machine_laws.proofs.Agreement.{ends_of}
use Rattle.count_machine_laws.proofs.Ending.{Alike, alike_by, fault_alike}
use Rattle.count_machine_laws.proofs.Entries.{Ends, FrameAgrees}
use Rattle.count_machine_laws.proofs.FrameSteps.{Running, StandsAt}
use Rattle.count_machine_laws.proofs.Numbers.{numbers_stay}
use Rattle.count_machine_laws.proofs.ObjectMade.{MakesObject, object_made}
use Rattle.count_machine_laws.proofs.Objects.{is_of_class}
use Rattle.count_machine_laws.proofs.Operands.{read_place}
use Rattle.count_machine_laws.proofs.PushesSlots.{newest_slot, slot_closes, slot_opens}
use Rattle.count_machine_laws.proofs.Rows.Effects.{RowAlike, Runs, d, forms_by, performed, results_of, row_by, values}
use Rattle.count_machine_laws.proofs.Rows.Gives.{first_form, no_values, one_of, one_read, same_numbers}
use Rattle.count_machine_laws.proofs.Rows.Makes.{makes_alike, none_put, one_put, value_given}
use Rattle.count_machine_laws.proofs.Rows.Shapes.{same_place_form, shape_in_form, shape_told}
use Rattle.count_machine_laws.proofs.Rows.Steps.{address_put, frame_changes, memory_changes}
use Rattle.count_machine_laws.proofs.SlotMade.{MakesSlot, slot_at_end, slot_made, slot_made_keeps, with_slot_at_end}
use Rattle.count_machine_laws.proofs.SlotRemoved.{RemovesIs, slot_removed, slot_removed_keeps, without_slot}
use Rattle.count_machine_laws.proofs.Tasks.{Beginning}

module _ {m : Module} {entry : Beginning} (r : Runs m entry) where
  -- the run finds the shape in the form of the result
  pub result_told : (u : ValueId) → r.i.results ≡ u ∷ []
      → result_shape_of (d r) (shapes_of m) (values r) r.s.memory r.i r.i.results ≡ shape_in_form (form_of (d r) r.f u)
  result_told u results = ap (result_shape_of (d r) (shapes_of m) (values r) r.s.memory r.i) results ∙ shape_told m r.lf.function r.f r.running.frame.there u

  -- an object

  object_given : (u : ValueId) (class : Name) (k : ℕ) → inst_at r.f r.lf.at ≡ Some r.i → r.i.results ≡ u ∷ [] → IsOf r.f u → form_of (d r) r.f u ≡ OfValue (Reference class)
      → MakesObject m r.made r.s.memory r.s.numbers r.st r.mf r.rest' k class
      → Alike m entry (performed r r.s (makes_object (d r) (shapes_of m) (values r) r.s.memory r.i class))
      (gives (record r.st { heap = allocated_in r.st.heap k }) r.mf r.rest' (local (d r) r.f u) (leaf.Object (made_object r.st r.mf r.rest' k) ∷ []))
  object_given u class k there results is_of form new =
      value_given m entry r.bound r.f r.lf r.mf r.below r.rest r.rest' r.i there r.s new.numbered (memory_changes r.running new.changes refl) u results is_of (Reference class) form
      (value.Object (new_object r.s.memory)) new.of_class (leaf.Object (made_object r.st r.mf r.rest' k) ∷ []) (ap (λ o. leaf.Object o ∷ []) new.object)

  pub object_alike : (class : Name) (k : ℕ) (u : ValueId) → effect_of r.i.op ≡ row.MakesObject → r.i.results ≡ u ∷ [] → form_of (d r) r.f u ≡ OfValue (Reference class)
      → class_at (d r) k ≡ Some class → StandsAt m r.f r.lf r.i (op.MakeObject k (local (d r) r.f u)) → RowAlike r (op.MakeObject k (local (d r) r.f u))
  object_alike class k u is results form at stands =
      let forms = forms_by r stands row.MakesObject is in
      let there : class_at r.st.heap.declarations k ≡ Some class = ap (λ ds. class_at ds k) r.running.parts.memory.declared ∙ at in
      row_by r stands row.MakesObject is (no_values (form_of (d r) r.f) (operands_of r.i) forms.2)
      (λ xs all.
      alike_by
      (ap (λ t. performed r r.s (with_some (makes_object (d r) (shapes_of m) (values r) r.s.memory r.i) (class_in t))) (result_told u results ∙ ap shape_in_form form))
      (ap (λ c. cond (is_some c) (gives (record r.st { heap = allocated_in r.st.heap k }) r.mf r.rest' (local (d r) r.f u)
      (leaf.Object (made_object r.st r.mf r.rest' k) ∷ [])) (faults fault.Slot r.st)) there)
      (object_given u class k stands.inst results (one_of r.f r.i.results u [] results (results_of r stands row.MakesObject is)) form
      (object_made m r.typed r.running.parts.memory r.mf r.rest' k class at)))

  -- a slot

  abbrev opening : Place → Memory → Change
  opening p mem = record (unchanged mem) { results = AddressOf p ∷ []; slots = OpensSlot p }

  module _ (there : inst_at r.f r.lf.at ≡ Some r.i) where
    slot_given : (u : ValueId) (s : Shape) → r.i.results ≡ u ∷ [] → IsOf r.f u → form_of (d r) r.f u ≡ OfPlace s → MakesSlot m r.made r.s.memory r.s.numbers r.st r.mf r.rest' s
        → Alike m entry (performed r r.s (effects.Makes (opening (slot_at_end r.s.memory s) (with_slot_at_end r.s.memory s))))
        (gives_address (with_slot r.st r.mf r.rest' (size_of s)) r.mf r.rest' (local_address (d r) r.f u) (slot_address r.st r.mf r.rest'))
    slot_given u s results is_of form new =
        makes_alike m entry r.bound r.f r.lf r.mf r.below r.rest r.rest' r.i there r.s (opening p mem') r.s r.s.numbers (p ∷ r.lf.slots) (set r.lf.values u.0 (Some (AddressOf p)))
        (λ go. refl) refl (same_numbers r) refl (one_put m entry r.bound r.f r.lf r.mf r.below r.rest r.rest' r.i there u results (AddressOf p) r.lf.values)
        (address_put opened u is_of p form (slot_address r.st r.mf r.rest') new.names)
      where
        p : Place
        p = slot_at_end r.s.memory s

        mem' : Memory
        mem' = with_slot_at_end r.s.memory s

        st' : MachineView
        st' = with_slot r.st r.mf r.rest' (size_of s)

        ends : Ends
        ends = record (ends_of r.st) { slots = length r.st.slots + 1 }

        same_ends : ends ≡ ends_of st'
        same_ends = ap {A = ℕ} (λ n. record (ends_of r.st) { slots = n }) (sym (length-append r.st.slots (new_slot r.st r.mf r.rest' ∷ [])))

        frame : FrameAgrees m new.changes.made' mem' st' r.f (record r.lf { slots = p ∷ r.lf.slots }) r.mf r.below (ends_of st')
        frame =
            subst (λ e. FrameAgrees m new.changes.made' mem' st' r.f (record r.lf { slots = p ∷ r.lf.slots }) r.mf r.below e) same_ends
            (subst (λ q. FrameAgrees m new.changes.made' mem' st' r.f (record r.lf { slots = q ∷ r.lf.slots }) r.mf r.below ends) new.place
            (slot_opens r.running.frame refl new.changes.grows (new_slot r.st r.mf r.rest') refl (slot_made_keeps r.st r.mf r.rest' (size_of s) (ends_of r.st) (omega arith))))

        opened : Running m entry new.changes.made' (record r.s { memory = mem' }) st' r.f (record r.lf { slots = p ∷ r.lf.slots }) r.mf r.below r.rest r.rest'
        opened = frame_changes r.running new.changes frame (slot_made_keeps r.st r.mf r.rest' (size_of s) r.below (omega (arith, r.running.frame.slots_end)))

  pub slot_alike : (s : Shape) (u : ValueId) → effect_of r.i.op ≡ row.MakesSlot → r.i.results ≡ u ∷ [] → form_of (d r) r.f u ≡ OfPlace s
      → StandsAt m r.f r.lf r.i (op.MakeSlot (size_of s) (local_address (d r) r.f u)) → RowAlike r (op.MakeSlot (size_of s) (local_address (d r) r.f u))
  slot_alike s u is results form stands =
      let forms = forms_by r stands row.MakesSlot is in
      let same : forms.1 ≡ s = same_place_form forms.1 s (sym (first_form (form_of (d r) r.f) r.i.results u [] (OfPlace forms.1) [] results forms.4) ∙ form) in
      let field : FieldShapeIs forms.0 s = subst (FieldShapeIs forms.0) same forms.2 in
      row_by r stands row.MakesSlot is (no_values (form_of (d r) r.f) (operands_of r.i) forms.3)
      (λ xs all.
      alike_by
      (ap (λ t. performed r r.s (effects.Makes (opening (slot_at_end r.s.memory t) (with_slot_at_end r.s.memory t)))) (result_told u results ∙ ap shape_in_form form))
      refl
      (slot_given stands.inst u s results (one_of r.f r.i.results u [] results (results_of r stands row.MakesSlot is)) form
      (slot_made m r.running.parts.memory r.mf r.rest' forms.0 s field)))

  -- a slot that goes

  abbrev closing : Place → Change
  closing p = record (unchanged (removed r.s.memory p)) { slots = ClosesSlot p }

  module _ (there : inst_at r.f r.lf.at ≡ Some r.i) (results : r.i.results ≡ []) where
    slot_gone : (p : Place) (w : Went) → RemovesIs m r.made r.s.memory r.s.numbers r.st r.mf r.rest' p r.lf.slots w → Alike m entry (performed r r.s (effects.Makes (closing p))) w
    slot_gone p _ (RemovesIs.faulted none_such) = alike_by (ap (on_ok r.s _) none_such) refl (fault_alike r.running.parts fault.Slot)
    slot_gone p _ (RemovesIs.goes index slot older at last low own newest changes) =
        makes_alike m entry r.bound r.f r.lf r.mf r.below r.rest r.rest' r.i there r.s (closing p) r.s r.s.numbers older r.lf.values
        (λ go. refl) refl (numbers_stay m (is_of_class m mem') mem' r.s.numbers st'.heap changes.agrees.objects) newest
        (none_put m entry r.bound r.f r.lf r.mf r.below r.rest r.rest' r.i there results r.lf.values) closed
      where
        mem' : Memory
        mem' = removed r.s.memory p

        st' : MachineView
        st' = without_slot r.st index slot

        within : r.below.slots ≤ index
        within = omega (arith, low, r.running.frame.slots)

        same_ends : record (ends_of r.st) { slots = index } ≡ ends_of st'
        same_ends = ap {A = ℕ} (λ n. record (ends_of r.st) { slots = n }) (sym (length-take-le index r.st.slots (omega (arith, last))))

        frame : FrameAgrees m changes.made' mem' st' r.f (record r.lf { slots = older }) r.mf r.below (ends_of st')
        frame =
            subst (λ e. FrameAgrees m changes.made' mem' st' r.f (record r.lf { slots = older }) r.mf r.below e) same_ends
            (slot_closes r.running.frame refl changes.grows index slot older last within at own (slot_removed_keeps r.st index slot (record (ends_of r.st) { slots = index }) (omega arith)))

        closed : Running m entry changes.made' (record r.s { memory = mem' }) st' r.f (record r.lf { slots = older }) r.mf r.below r.rest r.rest'
        closed = frame_changes r.running changes frame (slot_removed_keeps r.st index slot r.below within)

  pub removes_alike : (v : ValueId) → effect_of r.i.op ≡ row.RemovesSlot → operands_of r.i ≡ v ∷ [] → StandsAt m r.f r.lf r.i (op.RemoveSlot (local_address (d r) r.f v))
      → RowAlike r (op.RemoveSlot (local_address (d r) r.f v))
  removes_alike v is operands stands =
      let forms = forms_by r stands row.RemovesSlot is in
      let from = first_form (form_of (d r) r.f) (operands_of r.i) v [] (OfPlace forms.0) [] operands forms.1 in
      let results = sym (no_values (form_of (d r) r.f) r.i.results forms.2) in
      let a = address_in r.st r.mf (local_address (d r) r.f v) in
      row_by r stands row.RemovesSlot is (sym operands)
      (λ xs all.
      let one = one_read v xs operands all in
      let p = read_place one.2 forms.0 from in
      alike_by
      (ap (λ ys. performed r r.s (with_some (removes (d r) (shapes_of m) (values r) r.s.memory r.i) (option_and_then as_place (only ys)))) (one.1 ∙ ap (λ y. y ∷ []) p.1))
      refl
      (slot_gone stands.inst results p.0 (removes_home r.st r.mf r.rest' a.is_part a.home)
      (slot_removed m r.running.parts.memory r.mf r.rest' a p.0 r.lf r.below (newest_slot r.running.frame refl) r.running.frame.slots p.3)))
