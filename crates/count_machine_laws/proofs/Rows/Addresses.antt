-- Addresses of members and of fields.
use Rattle.std.proofs.Common.{◌≡◌, ◌∙◌, ℕ, [], ◌∷◌, true, false, Bool, None, Some, cond, refl, sym, ap}
use Rattle.std.proofs.lemmas.Option.{same_Some}
use Rattle.std.specs.Prelude.{option_map, slice_get}
use Rattle.count_machine_model.specs.holder_model.Data.{AddressOf, ValueOf}
use Rattle.count_machine_model.specs.holder_model.Effects as effects
use Rattle.count_machine_model.specs.holder_model.Effects.{Effect, effect_of, names_field, names_field_of, names_member, part_number, the_place, with_some}
use Rattle.count_machine_model.specs.holder_model.ModuleShapes.{field_shapes, shapes_of}
use Rattle.count_machine_model.specs.holder_model.declared.row_effect.RowEffect.TheVariants as row
use Rattle.count_heap.specs.HeapModel.HeapViews.{is_dead_in}
use Rattle.count_machine_model.specs.holder_model.LoweredRun.LowEffects.{dead_or, unless_dead}
use Rattle.count_machine_model.specs.holder_model.declared.lowered_run.low_fault.LowFault.{LowFault}
use Rattle.count_machine_model.specs.holder_model.declared.lowered_run.low_fault.LowFault.TheVariants as fault
use Rattle.count_machine_model.specs.MachineSteps.Operands.{address_in, faults, gives_address, objects_among}
use Rattle.count_machine_model.specs.MachineSteps.Places.{field_address}
use Rattle.count_machine_model.specs.MachineSteps.Views.{Went}
use Rattle.count_machine_model.specs.ReadyCode.Layout.{local, local_address}
use Rattle.count_machine_model.specs.ReadyCode.ReadyOps.{leaf_offset, operands_of}
use Rattle.count_machine_model.specs.declared.ready_code.op.ReadyOp.TheVariants as op
use Rattle.count_machine_model.specs.holder_model.RunTyping.Forms.{OfPlace, OfValue, form_of}
use Rattle.holder_model_values.specs.RunValues.Leaves.{leaves_of}
use Rattle.holder_model_values.specs.RunValues.Memory.{is_dead}
use Rattle.holder_model_values.specs.RunValues.Places.{field_in, part_of}
use Rattle.holder_model_values.specs.RunValues.Shapes.{Reference, Shape, member_shapes}
use Rattle.holder_model_values.specs.RunValues.Values as value
use Rattle.sil_ast.specs.declared.module.Module.{Module}
use Rattle.sil_ast.specs.declared.place.ObjectId.{ObjectId}
use Rattle.sil_ast.specs.declared.place.ValueId.{ValueId}
use Rattle.holder_model_values.proofs.ValueParts.Plain.{suits_reference}
use Rattle.count_machine_laws.proofs.Ending.{Alike, alike_by}
use Rattle.count_machine_laws.proofs.FrameSteps.{StandsAt}
use Rattle.count_machine_laws.proofs.Naming.{field_at, field_named, further, member_named}
use Rattle.count_machine_laws.proofs.Numbers.{dead_agrees}
use Rattle.count_machine_laws.proofs.Objects.{is_of_class}
use Rattle.count_machine_laws.proofs.Operands.{read_place, read_value}
use Rattle.count_machine_laws.proofs.Rows.Effects.{RowAlike, Runs, d, does_at, forms_by, performed, results_of, row_by, values}
use Rattle.count_machine_laws.proofs.Rows.Gives.{faults_alike, first_form, gives_place, one_of, one_read}
use Rattle.count_machine_laws.proofs.Rows.Shapes.{same_place_form}
use Rattle.count_machine_laws.proofs.Tasks.{Beginning}

module _ {m : Module} {entry : Beginning} (r : Runs m entry) where
  pub member_address_alike : (v u : ValueId) (s : Shape) (k : ℕ) → effect_of r.i.op ≡ row.AddressesMember → operands_of r.i ≡ v ∷ [] → r.i.results ≡ u ∷ []
      → form_of (d r) r.f v ≡ OfPlace s → part_number (d r) r.i ≡ Some k
      → StandsAt m r.f r.lf r.i (op.MemberAddress (local_address (d r) r.f v) (leaf_offset (member_shapes s) k) (local_address (d r) r.f u))
      → RowAlike r (op.MemberAddress (local_address (d r) r.f v) (leaf_offset (member_shapes s) k) (local_address (d r) r.f u))
  member_address_alike v u s k is operands results from at stands =
      let forms = forms_by r stands row.AddressesMember is in
      let same : forms.0 ≡ s = same_place_form forms.0 s (sym (first_form (form_of (d r) r.f) (operands_of r.i) v [] (OfPlace forms.0) [] operands forms.5) ∙ from) in
      let numbered : forms.2 ≡ k = same_Some forms.2 k (sym forms.3 ∙ at) in
      let part : slice_get (member_shapes s) k ≡ Some forms.1 = ap (λ t. slice_get (member_shapes t) k) (sym same) ∙ ap (slice_get (member_shapes forms.0)) (sym numbered) ∙ forms.4 in
      let form = first_form (form_of (d r) r.f) r.i.results u [] (OfPlace forms.1) [] results forms.6 in
      row_by r stands row.AddressesMember is (sym operands)
      (λ xs all.
      let one = one_read v xs operands all in
      let p = read_place one.2 s from in
      let there : slice_get (member_shapes p.0.shape) k ≡ Some forms.1 = ap (λ t. slice_get (member_shapes t) k) p.2 ∙ part in
      let a = address_in r.st r.mf (local_address (d r) r.f v) in
      alike_by
      (ap (λ ys. performed r r.s (the_place (d r) (shapes_of m) (values r) r.s.memory r.i (names_member (d r) (shapes_of m) (values r) r.s.memory r.i (part_number (d r) r.i)) ys))
      (one.1 ∙ ap (λ y. y ∷ []) p.1)
      ∙ ap (λ n. performed r r.s (names_member (d r) (shapes_of m) (values r) r.s.memory r.i n p.0)) at
      ∙ ap (λ t. performed r r.s (with_some (λ q. effects.gives r.s.memory (AddressOf q ∷ [])) (option_map (part_of p.0 (member_shapes p.0.shape) k) t))) there)
      (ap (λ t. gives_address r.st r.mf r.rest' (local_address (d r) r.f u) (further a (leaf_offset (member_shapes t) k))) (sym p.2))
      (gives_place r stands.inst u results (one_of r.f r.i.results u [] results (results_of r stands row.AddressesMember is))
      (part_of p.0 (member_shapes p.0.shape) k forms.1) form (further a (leaf_offset (member_shapes p.0.shape) k)) (member_named m a p.0 k forms.1 p.3 there)))

  -- an object that is dead is a fault of both
  pub unless_dead_alike : (o : ObjectId) (e : Effect LowFault) (w : Went) → Alike m entry (performed r r.s e) w
      → Alike m entry (performed r r.s (unless_dead (d r) (shapes_of m) (values r) r.s.memory r.i (o ∷ []) e)) (cond (is_dead_in r.st.heap o) (faults (fault.Dead o) r.st) w)
  unless_dead_alike o e w alike =
      alike_by refl (ap (λ b. cond b (faults (fault.Dead o) r.st) w) (dead_agrees m (is_of_class m r.s.memory) r.s.memory r.s.numbers r.st.heap o r.running.parts.memory.objects))
      (at (is_dead r.s.memory o))
    where
      at : (b : Bool) → Alike m entry (performed r r.s (dead_or (d r) (shapes_of m) (values r) r.s.memory r.i e (cond b (Some o) None))) (cond b (faults (fault.Dead o) r.st) w)
      at true = faults_alike r r.s.numbers (λ p. refl) (fault.Dead o)
      at false = alike

  pub field_address_alike : (v u : ValueId) (k : ℕ) → effect_of r.i.op ≡ row.AddressesField → operands_of r.i ≡ v ∷ [] → r.i.results ≡ u ∷ []
      → part_number (d r) r.i ≡ Some k → StandsAt m r.f r.lf r.i (op.FieldAddress (local (d r) r.f v) k (local_address (d r) r.f u))
      → RowAlike r (op.FieldAddress (local (d r) r.f v) k (local_address (d r) r.f u))
  field_address_alike v u k is operands results at stands =
      let forms = forms_by r stands row.AddressesField is in
      let owner = forms.0.owner in
      let from = first_form (form_of (d r) r.f) (operands_of r.i) v [] (OfValue (Reference owner)) [] operands forms.6 in
      let form = first_form (form_of (d r) r.f) r.i.results u [] (OfPlace forms.1) [] results forms.7 in
      let there : slice_get (field_shapes (shapes_of m) owner) k ≡ Some forms.1 = ap (slice_get (field_shapes (shapes_of m) owner)) (sym (same_Some forms.2 k (sym forms.4 ∙ at))) ∙ forms.5 in
      row_by r stands row.AddressesField is (sym operands)
      (λ xs all.
      let one = one_read v xs operands all in
      let x = read_value one.2 (Reference owner) from in
      let o = suits_reference (is_of_class m r.s.memory) owner x.0 x.2 in
      alike_by
      (ap (does_at r row.AddressesField) (one.1 ∙ ap (λ y. y ∷ []) (x.1 ∙ ap ValueOf o.1)))
      (ap (λ ls. field_address r.st r.mf r.rest' k (objects_among ls) (local_address (d r) r.f u)) (x.3 ∙ ap (leaves_of (Reference owner)) o.1))
      (unless_dead_alike o.0 (names_field (d r) (shapes_of m) (values r) r.s.memory r.i (value.Object o.0))
      (gives_address r.st r.mf r.rest' (local_address (d r) r.f u) (field_at o.0 k))
      (alike_by
      (ap (λ n. performed r r.s (names_field_of (d r) (shapes_of m) (values r) r.s.memory r.i n (part_number (d r) r.i) o.0)) forms.3
      ∙ ap (λ n. performed r r.s (names_field_of (d r) (shapes_of m) (values r) r.s.memory r.i (Some forms.0) n o.0)) at
      ∙ ap (λ t. performed r r.s (with_some (λ q. effects.gives r.s.memory (AddressOf q ∷ [])) (option_map (field_in o.0 (field_shapes (shapes_of m) owner) k) t))) there)
      refl
      (gives_place r stands.inst u results (one_of r.f r.i.results u [] results (results_of r stands row.AddressesField is))
      (field_in o.0 (field_shapes (shapes_of m) owner) k forms.1) form (field_at o.0 k)
      (field_named m r.typed r.running.parts.memory owner o.0 k forms.1 o.2 there)))))
