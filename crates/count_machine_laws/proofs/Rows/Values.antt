-- Instructions that give a value, or look at one: nothing in memory changes.
use Rattle.std.proofs.Common.{◌≡◌, ◌∙◌, ℕ, ℤ, List, [], ◌∷◌, Bool, true, false, Some, cond, refl, sym, ap, subst}
use Rattle.std.proofs.lemmas.Bool.{and_from, and_parts}
use Rattle.std.proofs.lemmas.Option.{same_Some}
use Rattle.numbered_form.specs.Names.{Name}
use Rattle.numbered_form.specs.inner.Literals.{is_residue}
use Rattle.count_machine_model.specs.holder_model.RunTyping.Classes.{ClassesAreSound, is_a}
use Rattle.holder_model_values.specs.RunValues.Leaves.{leaves_of}
use Rattle.holder_model_values.specs.RunValues.Memory.{Memory, object_at}
use Rattle.sil_ast.specs.declared.place.ObjectId.{ObjectId}
use Rattle.sil_types_declarations.specs.TypeDefinitions.Declarations.{declarations_of}
use Rattle.holder_model_values.specs.ValueParts.inner.Suits.{suits}
use Rattle.sil_ast.specs.declared.module.Module.{Module}
use Rattle.std.specs.Prelude.{length, nat_lt, slice_get, unwrap_or}
use Rattle.count_machine_model.specs.holder_model.Builtins.{is_set}
use Rattle.count_machine_model.specs.holder_model.Data.{FunctionOf, ValueOf}
use Rattle.count_machine_model.specs.holder_model.Effects as effects
use Rattle.count_machine_model.specs.holder_model.Effects.{Effect, effect_of, only, the_value, traps_where, with_some}
use Rattle.count_machine_model.specs.holder_model.ModuleShapes.{shapes_of}
use Rattle.count_machine_model.specs.holder_model.States.{Trapped}
use Rattle.count_machine_model.specs.holder_model.declared.row_effect.RowEffect.TheVariants as row
use Rattle.count_machine_model.specs.holder_model.declared.trap.Trap.TheVariants as trap
use Rattle.sil_cfg_items.specs.Parts.{inst_at}
use Rattle.count_machine_model.specs.holder_model.declared.lowered_run.low_fault.LowFault.{LowFault}
use Rattle.count_machine_model.specs.MachineSteps.Operands.{contents, go_on, int_among}
use Rattle.count_machine_model.specs.MachineSteps.Rows.{point}
use Rattle.count_machine_model.specs.MachineSteps.Views.{Stops, Went}
use Rattle.count_machine_model.specs.declared.machine_steps.run_end.RunEnd.TheVariants as end
use Rattle.count_machine_model.specs.ReadyCode.Layout.{local}
use Rattle.count_machine_model.specs.ReadyCode.ReadyOps.{operands_of}
use Rattle.count_machine_model.specs.declared.ready_code.op.ReadyOp.TheVariants as op
use Rattle.count_machine_model.specs.holder_model.RunTyping.Forms.{OfFunction, OfValue, form_of}
use Rattle.count_machine_model.specs.holder_model.RunTyping.RowForms.{bit}
use Rattle.holder_model_values.specs.RunValues.Shapes.{Integer, Reference}
use Rattle.holder_model_values.specs.RunValues.Values as value
use Rattle.holder_model_values.specs.RunValues.Values.{integer_of}
use Rattle.holder_model_values.specs.declared.run_values.leaf.Leaf.TheVariants as leaf
use Rattle.sil_ast.specs.declared.place.PointId.{PointId}
use Rattle.sil_ast.specs.declared.place.ValueId.{ValueId}
use Rattle.holder_model_values.proofs.ValueParts.Plain.{integer_suits, suits_integer, suits_reference}
use Rattle.count_machine_laws.specs.inner.Told.{IsEnding, cond_fail}
use Rattle.count_machine_laws.proofs.Ending.{Alike, alike_by, ends, strongs_of}
use Rattle.count_machine_laws.proofs.FrameSteps.{StandsAt}
use Rattle.count_machine_laws.proofs.Objects.{is_of_class}
use Rattle.count_machine_laws.proofs.Operands.{read_value}
use Rattle.count_machine_laws.proofs.Rows.Effects.{RowAlike, Runs, d, forms_by, performed, results_of, row_by, values}
use Rattle.count_machine_laws.proofs.Rows.Gives.{first_form, gives_function, gives_nothing, gives_value, no_values, one_of, one_read}
use Rattle.count_machine_laws.proofs.Tasks.{Beginning}

-- an object of a class is one of each that the class inherits from
upcast : {m : Module} → ClassesAreSound m → (mem : Memory) (class above : Name) → is_a (declarations_of m) class above ≡ true → (o : ObjectId) → is_of_class m mem class o ≡ true
    → is_of_class m mem above o ≡ true
upcast {m = m} sound mem class above is o of_class =
    let both = and_parts (nat_lt o.0 (length mem.objects)) (is_a (declarations_of m) (object_at mem o).class class) of_class in
    and_from (nat_lt o.0 (length mem.objects)) (is_a (declarations_of m) (object_at mem o).class above) both.0 (sound.passes (object_at mem o).class class above both.1 is)

module _ {m : Module} {entry : Beginning} (r : Runs m entry) where
  -- a look at a value does nothing
  pub look_alike : (v : ValueId) → effect_of r.i.op ≡ row.NoEffect → operands_of r.i ≡ v ∷ [] → StandsAt m r.f r.lf r.i (op.Look v) → RowAlike r (op.Look v)
  look_alike v is operands stands =
      row_by r stands row.NoEffect is (sym operands)
      (λ xs all. gives_nothing r stands.inst (sym (no_values (form_of (d r) r.f) r.i.results (forms_by r stands row.NoEffect is))))

  pub literal_alike : (n : ℤ) (v : ValueId) → effect_of r.i.op ≡ row.GivesLiteral → r.i.number ≡ Some n → r.i.results ≡ v ∷ []
      → StandsAt m r.f r.lf r.i (op.Literal n (local (d r) r.f v)) → RowAlike r (op.Literal n (local (d r) r.f v))
  literal_alike n v is number results stands =
      let forms = forms_by r stands row.GivesLiteral is in
      let form = first_form (form_of (d r) r.f) r.i.results v [] (OfValue (Integer forms.1)) [] results forms.5 in
      let within = subst (λ k. is_residue forms.1 k ≡ true) (same_Some forms.0 n (sym forms.2 ∙ number)) forms.3 in
      row_by r stands row.GivesLiteral is (no_values (form_of (d r) r.f) (operands_of r.i) forms.4)
      (λ xs all. alike_by (ap (λ k. performed r r.s (with_some (λ j. effects.gives_value r.s.memory (value.Int j)) k)) number) refl
      (gives_value r stands.inst v results (one_of r.f r.i.results v [] results (results_of r stands row.GivesLiteral is)) (Integer forms.1) form (value.Int n)
      (integer_suits (is_of_class m r.s.memory) forms.1 n within) (leaf.Int n ∷ []) refl))

  pub function_alike : (v : ValueId) → effect_of r.i.op ≡ row.GivesFunction → r.i.results ≡ v ∷ [] → StandsAt m r.f r.lf r.i (op.Function v) → RowAlike r (op.Function v)
  function_alike v is results stands =
      let forms = forms_by r stands row.GivesFunction is in
      let form = first_form (form_of (d r) r.f) r.i.results v [] (OfFunction forms.0) [] results forms.3 in
      row_by r stands row.GivesFunction is (no_values (form_of (d r) r.f) (operands_of r.i) forms.2)
      (λ xs all. alike_by (ap (λ g. performed r r.s (with_some (λ h. effects.gives r.s.memory (FunctionOf h ∷ [])) g)) forms.1) refl
      (gives_function r stands.inst v results (one_of r.f r.i.results v [] results (results_of r stands row.GivesFunction is)) forms.0 form))

  -- an upcast gives the object that it has
  pub same_alike : (v w : ValueId) → effect_of r.i.op ≡ row.GivesOperand → operands_of r.i ≡ v ∷ [] → r.i.results ≡ w ∷ []
      → StandsAt m r.f r.lf r.i (op.Same (local (d r) r.f v) (local (d r) r.f w)) → RowAlike r (op.Same (local (d r) r.f v) (local (d r) r.f w))
  same_alike v w is operands results stands =
      let forms = forms_by r stands row.GivesOperand is in
      let from = first_form (form_of (d r) r.f) (operands_of r.i) v [] (OfValue (Reference forms.0)) [] operands forms.3 in
      let form = first_form (form_of (d r) r.f) r.i.results w [] (OfValue (Reference forms.1)) [] results forms.4 in
      row_by r stands row.GivesOperand is (sym operands)
      (λ xs all.
      let one = one_read v xs operands all in
      let x = read_value one.2 (Reference forms.0) from in
      let o = suits_reference (is_of_class m r.s.memory) forms.0 x.0 x.2 in
      let fits : suits (is_of_class m r.s.memory) (Reference forms.1) x.0 ≡ true =
      subst (λ y. suits (is_of_class m r.s.memory) (Reference forms.1) y ≡ true) (sym o.1) (upcast r.typed.classes r.s.memory forms.0 forms.1 forms.2 o.0 o.2) in
      alike_by (ap (λ ys. performed r r.s (with_some (λ y. effects.gives r.s.memory (y ∷ [])) (only ys))) (one.1 ∙ ap (λ y. y ∷ []) x.1)) refl
      (gives_value r stands.inst w results (one_of r.f r.i.results w [] results (results_of r stands row.GivesOperand is)) (Reference forms.1) form x.0 fits
      (contents r.st r.mf (local (d r) r.f v)) x.3))

  -- the program traps where the bit is set

  at_point : point r.ready r.bound r.st r.mf r.rest' ≡ r.lf.at
  at_point =
      ap {A = ℕ} {B = PointId} (λ n. record { block = record { 0 = n }; index = r.mf.index }) r.running.frame.at_block
      ∙ ap {A = ℕ} {B = PointId} (λ n. record { block = r.lf.at.block; index = n }) r.running.frame.at_index

  trapped : (text : List ℕ) → inst_at r.f r.lf.at ≡ Some r.i → r.i.text ≡ Some text
      → Alike m entry (performed r r.s (effects.Traps (trap.CondFail (unwrap_or r.i.text [])))) (Stops (end.CondFail r.mf.function (point r.ready r.bound r.st r.mf r.rest')) r.st)
  trapped text there is =
      ends r.s r.st (Trapped (trap.CondFail (unwrap_or r.i.text []))) (end.CondFail r.mf.function (point r.ready r.bound r.st r.mf r.rest'))
      (subst (λ t. IsEnding m entry.gives r.st (end.CondFail r.mf.function (point r.ready r.bound r.st r.mf r.rest')) (Trapped (trap.CondFail (unwrap_or t [])))) (sym is)
      (cond_fail r.mf.function (point r.ready r.bound r.st r.mf r.rest') r.f r.i text (ap (λ g. slice_get m.functions g.0) r.running.frame.same ∙ r.running.frame.there)
      (ap (inst_at r.f) at_point ∙ there) is))
      (rw (r.running.parts.events, r.running.parts.retains, r.running.parts.releases))
      (strongs_of r.running.parts)

  pub traps_alike : (v : ValueId) → effect_of r.i.op ≡ row.TrapsWhereSet → operands_of r.i ≡ v ∷ [] → StandsAt m r.f r.lf r.i (op.TrapWhereSet (local (d r) r.f v))
      → RowAlike r (op.TrapWhereSet (local (d r) r.f v))
  traps_alike v is operands stands =
      let forms = forms_by r stands row.TrapsWhereSet is in
      let from = first_form (form_of (d r) r.f) (operands_of r.i) v [] (OfValue bit) [] operands forms.2 in
      let results = sym (no_values (form_of (d r) r.f) r.i.results forms.3) in
      row_by r stands row.TrapsWhereSet is (sym operands)
      (λ xs all.
      let one = one_read v xs operands all in
      let x = read_value one.2 bit from in
      let n = suits_integer (is_of_class m r.s.memory) 1 x.0 x.2 in
      let read : int_among (contents r.st r.mf (local (d r) r.f v)) ≡ n.0 = ap int_among (x.3 ∙ ap (leaves_of bit) n.1) in
      alike_by
      (ap (λ ys. performed r r.s (the_value (d r) (shapes_of m) (values r) r.s.memory r.i
      (λ y. with_some (traps_where (d r) (shapes_of m) (values r) r.s.memory r.i) (integer_of y)) ys)) (one.1 ∙ ap (λ y. y ∷ []) (x.1 ∙ ap ValueOf n.1)))
      (ap (λ k. cond (is_set k) (Stops (end.CondFail r.mf.function (point r.ready r.bound r.st r.mf r.rest')) r.st) (go_on r.st r.mf r.rest')) read)
      (by_bit (is_set n.0) _ _ _ _ (trapped forms.0 stands.inst forms.1) (gives_nothing r stands.inst results)))
    where
      by_bit : (b : Bool) (e e' : Effect LowFault) (w w' : Went) → Alike m entry (performed r r.s e) w → Alike m entry (performed r r.s e') w'
          → Alike m entry (performed r r.s (cond b e e')) (cond b w w')
      by_bit true e e' w w' set clear = set
      by_bit false e e' w w' set clear = clear
