-- A value is loaded from its place.
use Rattle.std.proofs.Common.{◌≡◌, ◌∙◌, [], ◌∷◌, true, Option, refl, sym, ap}
use Rattle.count_machine_model.specs.holder_model.Data.{ValueOf}
use Rattle.count_machine_model.specs.holder_model.Effects.{Effect, Makes, effect_of, unchanged, with_some}
use Rattle.count_machine_model.specs.holder_model.ModuleShapes.{shapes_of}
use Rattle.count_machine_model.specs.holder_model.declared.row_effect.RowEffect.TheVariants as row
use Rattle.count_machine_model.specs.holder_model.LoweredRun.LowEffects as low_effects
use Rattle.count_machine_model.specs.holder_model.declared.lowered_run.low_fault.LowFault.{LowFault}
use Rattle.count_machine_model.specs.MachineSteps.Held.{held_at}
use Rattle.count_machine_model.specs.MachineSteps.Operands.{address_in}
use Rattle.count_machine_model.specs.MachineSteps.Places as machine
use Rattle.count_machine_model.specs.memory_rules_accesses.declared.access.Operation.{Operation}
use Rattle.count_machine_model.specs.ReadyCode.Layout.{leaves_in, local, local_address, size_of}
use Rattle.count_machine_model.specs.ReadyCode.ReadyOps.{operands_of}
use Rattle.count_machine_model.specs.declared.ready_code.op.ReadyOp.TheVariants as op
use Rattle.count_machine_model.specs.holder_model.RunTyping.Forms.{OfPlace, OfValue, form_of}
use Rattle.holder_model_values.specs.RunValues.Places.{Place, value_at}
use Rattle.holder_model_values.specs.RunValues.Values.{Value}
use Rattle.sil_ast.specs.declared.module.Module.{Module}
use Rattle.sil_ast.specs.declared.place.ValueId.{ValueId}
use Rattle.count_machine_laws.proofs.Ending.{alike_by}
use Rattle.count_machine_laws.proofs.FrameSteps.{StandsAt}
use Rattle.count_machine_laws.proofs.Held.{held_agrees}
use Rattle.count_machine_laws.proofs.Operands.{read_place}
use Rattle.count_machine_laws.proofs.Rows.Effects.{RowAlike, Runs, d, does_at, forms_by, performed, results_of, row_by, values}
use Rattle.count_machine_laws.proofs.Rows.Gives.{faults_alike, first_form, gives_value, one_of, one_read}
use Rattle.count_machine_laws.proofs.Rows.Places.{access_alike}
use Rattle.count_machine_laws.proofs.Tasks.{Beginning}

module _ {m : Module} {entry : Beginning} (r : Runs m entry) where
  -- what the run loads
  abbrev loaded : Option Value → Effect LowFault
  loaded x = with_some (λ y. Makes (record (unchanged r.s.memory) { results = ValueOf y ∷ [] })) x

  abbrev loads : Place → Option Operation → Effect LowFault
  loads p o = with_some (λ x. low_effects.loads_by (d r) (shapes_of m) (values r) r.s.memory r.i x p) o

  pub loads_alike : (v w : ValueId) → effect_of r.i.op ≡ row.LoadsValue → operands_of r.i ≡ v ∷ [] → r.i.results ≡ w ∷ []
      → StandsAt m r.f r.lf r.i (op.Load (local_address (d r) r.f v) (local (d r) r.f w)) → RowAlike r (op.Load (local_address (d r) r.f v) (local (d r) r.f w))
  loads_alike v w is operands results stands =
      let forms = forms_by r stands row.LoadsValue is in
      let from = first_form (form_of (d r) r.f) (operands_of r.i) v [] (OfPlace forms.0) [] operands forms.3 in
      let form = first_form (form_of (d r) r.f) r.i.results w [] (OfValue forms.0) [] results forms.4 in
      let a = address_in r.st r.mf (local_address (d r) r.f v) in
      row_by r stands row.LoadsValue is (sym operands)
      (λ xs all.
      let one = one_read v xs operands all in
      let x = read_place one.2 forms.0 from in
      let p = x.0 in
      let go = machine.loads r.st r.mf r.rest' (local (d r) r.f w) in
      alike_by
      (ap (does_at r row.LoadsValue) (one.1 ∙ ap (λ y. y ∷ []) x.1)
      ∙ ap (λ o. performed r r.s (loads p o)) forms.1)
      (ap (λ n. go (held_at r.st a n)) (ap leaves_in form ∙ ap size_of (sym x.2)))
      (access_alike r p [] true (loaded (value_at r.s.memory p)) r.s.numbers (λ o. refl) refl go refl (λ o. refl) (λ reach has. faults_alike r r.s.numbers (λ o. refl) _)
      (λ y ls reach has at fits leaves.
      alike_by (ap (λ z. performed r r.s (loaded z)) at) refl
      (gives_value r stands.inst w results (one_of r.f r.i.results w [] results (results_of r stands row.LoadsValue is)) p.shape (form ∙ ap OfValue (sym x.2)) y fits ls leaves))
      (held_at r.st a (size_of p.shape)) (held_agrees m r.running.parts.memory a p x.3)))
