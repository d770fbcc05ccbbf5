-- References are made once more, or dropped.
use Rattle.std.proofs.Common.{◌≡◌, ◌∙◌, List, [], ◌∷◌, Some, refl, sym, ap}
use Rattle.count_machine_model.specs.holder_model.Data.{references_in}
use Rattle.count_machine_model.specs.holder_model.Effects as effects
use Rattle.count_machine_model.specs.holder_model.Effects.{Change, effect_of, only, unchanged, with_some}
use Rattle.count_machine_model.specs.holder_model.Standing.{point_behind}
use Rattle.count_machine_model.specs.holder_model.States as low
use Rattle.count_machine_model.specs.holder_model.declared.row_effect.RowEffect.TheVariants as row
use Rattle.count_machine_model.specs.holder_model.declared.lowered_run.low_fault.LowFault.TheVariants as fault
use Rattle.count_machine_model.specs.MachineSteps.Operands.{go_on, objects_among}
use Rattle.count_machine_model.specs.MachineSteps.Places.{drops}
use Rattle.count_machine_model.specs.MachineSteps.Turning.{retains_all}
use Rattle.count_machine_model.specs.ReadyCode.Layout.{local}
use Rattle.count_machine_model.specs.ReadyCode.ReadyOps.{operands_of}
use Rattle.count_machine_model.specs.declared.ready_code.op.ReadyOp.TheVariants as op
use Rattle.count_machine_model.specs.holder_model.RunTyping.Forms.{OfValue, form_of}
use Rattle.holder_model_values.specs.RunValues.Values.{references_of}
use Rattle.sil_ast.specs.declared.module.Module.{Module}
use Rattle.sil_ast.specs.declared.place.ObjectId.{ObjectId}
use Rattle.sil_ast.specs.declared.place.ValueId.{ValueId}
use Rattle.sil_cfg_items.specs.Parts.{inst_at}
use Rattle.count_machine_laws.proofs.CountedSteps.{RetainsSo, all, one_dead, retains_so}
use Rattle.count_machine_laws.proofs.Ending.{Alike, alike_by, fault_alike}
use Rattle.count_machine_laws.proofs.FinishedFields.{references_among}
use Rattle.count_machine_laws.proofs.FrameSteps.{StandsAt}
use Rattle.count_machine_laws.proofs.Numbers.{numbers_stay}
use Rattle.count_machine_laws.proofs.Objects.{is_of_class}
use Rattle.count_machine_laws.proofs.Operands.{read_value}
use Rattle.count_machine_laws.proofs.Rows.Effects.{RowAlike, Runs, d, forms_by, performed, row_by}
use Rattle.count_machine_laws.proofs.Rows.Gives.{first_form, no_values, one_read, same_numbers}
use Rattle.count_machine_laws.proofs.Rows.Makes.{makes_alike, makes_with, none_put}
use Rattle.count_machine_laws.proofs.Rows.Steps.{counts_change, goes_dropping}
use Rattle.count_machine_laws.proofs.Tasks.{Beginning}

module _ {m : Module} {entry : Beginning} (r : Runs m entry) where
  -- what it leaves has references that are made, or dropped

  abbrev retaining : List ObjectId → Change
  retaining os = record (unchanged r.s.memory) { retained = os }

  abbrev releasing : List ObjectId → Change
  releasing os = record (unchanged r.s.memory) { dropped = os }

  module _ (there : inst_at r.f r.lf.at ≡ Some r.i) (results : r.i.results ≡ []) where
    retained_alike : (os : List ObjectId) → RetainsSo m r.made r.s r.st os
        → Alike m entry (performed r r.s (effects.Makes (retaining os))) (retains_all os r.st (λ after. go_on after r.mf r.rest'))
    retained_alike os (all ns n h parts run mach) =
        alike_by refl (mach (λ after. go_on after r.mf r.rest'))
        (makes_alike m entry r.bound r.f r.lf r.mf r.below r.rest r.rest' r.i there r.s (retaining os) (record r.s { numbers = ns; retains = n }) ns r.lf.slots r.lf.values run refl
        (numbers_stay m (is_of_class m r.s.memory) r.s.memory ns h parts.memory.objects) refl
        (none_put m entry r.bound r.f r.lf r.mf r.below r.rest r.rest' r.i there results r.lf.values) (counts_change r.running ns n h parts))
    retained_alike os (one_dead o ns n h parts run mach) =
        alike_by
        (makes_with m entry r.bound r.f r.lf r.mf r.below r.rest r.rest' r.i there r.s (retaining os) r.lf.slots r.lf.values refl
        (none_put m entry r.bound r.f r.lf r.mf r.below r.rest r.rest' r.i there results r.lf.values) ∙ run _)
        (mach (λ after. go_on after r.mf r.rest')) (fault_alike parts (fault.Dead o))

    dropped_alike : (os : List ObjectId) → Alike m entry (performed r r.s (effects.Makes (releasing os))) (drops r.st r.mf r.rest' os)
    dropped_alike os =
        alike_by
        (makes_with m entry r.bound r.f r.lf r.mf r.below r.rest r.rest' r.i there r.s (releasing os) r.lf.slots r.lf.values refl
        (none_put m entry r.bound r.f r.lf r.mf r.below r.rest r.rest' r.i there results r.lf.values)
        ∙ ap (λ n. low.Goes (record r.s { tasks = low.dropping os (low.Runs (record r.lf { at = point_behind r.lf.at }) ∷ r.rest); numbers = n })) (same_numbers r))
        refl (goes_dropping r.running r.i there os)

  pub retain_alike : (v : ValueId) → effect_of r.i.op ≡ row.RetainsOperand → operands_of r.i ≡ v ∷ [] → StandsAt m r.f r.lf r.i (op.Retain (local (d r) r.f v))
      → RowAlike r (op.Retain (local (d r) r.f v))
  retain_alike v is operands stands =
      let forms = forms_by r stands row.RetainsOperand is in
      let from = first_form (form_of (d r) r.f) (operands_of r.i) v [] (OfValue forms.0) [] operands forms.1 in
      let results = sym (no_values (form_of (d r) r.f) r.i.results forms.2) in
      row_by r stands row.RetainsOperand is (sym operands)
      (λ xs all.
      let one = one_read v xs operands all in
      let x = read_value one.2 forms.0 from in
      alike_by
      (ap (λ ys. performed r r.s (with_some (λ y. effects.Makes (retaining (references_in y))) (only ys))) (one.1 ∙ ap (λ y. y ∷ []) x.1))
      (ap (λ os. retains_all os r.st (λ after. go_on after r.mf r.rest')) (ap objects_among x.3 ∙ references_among (is_of_class m r.s.memory) forms.0 x.0 x.2))
      (retained_alike stands.inst results (references_of x.0) (retains_so m r.made (references_of x.0) r.s r.st r.running.parts)))

  pub drop_alike : (v : ValueId) → effect_of r.i.op ≡ row.DropsOperand → operands_of r.i ≡ v ∷ [] → StandsAt m r.f r.lf r.i (op.Drop (local (d r) r.f v))
      → RowAlike r (op.Drop (local (d r) r.f v))
  drop_alike v is operands stands =
      let forms = forms_by r stands row.DropsOperand is in
      let from = first_form (form_of (d r) r.f) (operands_of r.i) v [] (OfValue forms.0) [] operands forms.1 in
      let results = sym (no_values (form_of (d r) r.f) r.i.results forms.2) in
      row_by r stands row.DropsOperand is (sym operands)
      (λ xs all.
      let one = one_read v xs operands all in
      let x = read_value one.2 forms.0 from in
      alike_by
      (ap (λ ys. performed r r.s (with_some (λ y. effects.Makes (releasing (references_in y))) (only ys))) (one.1 ∙ ap (λ y. y ∷ []) x.1))
      (ap (drops r.st r.mf r.rest') (ap objects_among x.3 ∙ references_among (is_of_class m r.s.memory) forms.0 x.0 x.2))
      (dropped_alike stands.inst results (references_of x.0)))
