-- The cases of an enum: their leaves are a tag, those of the payload, and blanks.
use Rattle.std.proofs.Common.{◌≡◌, ◌+◌, ◌-◌, ◌∙◌, ◌++◌, ℕ, List, [], ◌∷◌, None, Some, length, refl, sym, ap, subst, arith}
use Rattle.std.proofs.lemmas.Option.{same_Some}
use Rattle.std.specs.Prelude.{replicate, slice_get}
use Rattle.count_machine_model.specs.holder_model.Data.{values_of}
use Rattle.count_machine_model.specs.holder_model.Effects.{chooses, effect_of, result_shape_of, with_some}
use Rattle.count_machine_model.specs.holder_model.ModuleShapes.{case_place, shapes_of}
use Rattle.count_machine_model.specs.holder_model.declared.row_effect.RowEffect.TheVariants as row
use Rattle.count_machine_model.specs.MachineSteps.Operands.{contents}
use Rattle.count_machine_model.specs.ReadyCode.Layout.{leaves_in, local, size_of}
use Rattle.count_machine_model.specs.ReadyCode.ReadyOps.{operands_of}
use Rattle.count_machine_model.specs.declared.ready_code.op.ReadyOp.TheVariants as op
use Rattle.count_machine_model.specs.holder_model.RunTyping.Forms.{Form, OfValue, form_of, forms_of}
use Rattle.holder_model_values.specs.RunValues.Layers.{CaseLayer}
use Rattle.holder_model_values.specs.RunValues.Leaves.{leaves_of}
use Rattle.holder_model_values.specs.RunValues.Shapes.{Shape, case_shapes}
use Rattle.holder_model_values.specs.RunValues.Values as value
use Rattle.holder_model_values.specs.RunValues.Values.{Value}
use Rattle.holder_model_values.specs.declared.run_values.leaf.Leaf.{Leaf}
use Rattle.holder_model_values.specs.declared.run_values.leaf.Leaf.TheVariants as leaf
use Rattle.sil_ast.specs.declared.inst.Inst.{Inst}
use Rattle.sil_ast.specs.declared.module.Module.{Module}
use Rattle.sil_ast.specs.declared.place.ValueId.{ValueId}
use Rattle.holder_model_values.proofs.ValueParts.Cases.{case_leaves, case_suits, full_leaves, full_suits}
use Rattle.holder_model_values.proofs.ValueParts.LeafParts.{suits_leaves_length}
use Rattle.holder_model_values.proofs.ValueParts.Suiting.{suits_fits}
use Rattle.count_machine_laws.proofs.Ending.{alike_by}
use Rattle.count_machine_laws.proofs.FrameSteps.{StandsAt}
use Rattle.count_machine_laws.proofs.Objects.{is_of_class}
use Rattle.count_machine_laws.proofs.Operands.{read_value}
use Rattle.count_machine_laws.proofs.Rows.Effects.{RowAlike, Runs, d, forms_by, performed, results_of, row_by, values}
use Rattle.count_machine_laws.proofs.Rows.Forms.{ChoiceForms}
use Rattle.count_machine_laws.proofs.Rows.Gives.{first_form, gives_value, none_read, one_of, one_read}
use Rattle.count_machine_laws.proofs.Rows.Shapes.{same_value_form, shape_in_form, shape_told}
use Rattle.count_machine_laws.proofs.Tasks.{Beginning}

-- a choice without a payload, and with one

abbrev PlainChoice : (m : Module) (i : Inst) → List Form → Type 0
PlainChoice m i outs =
    (s : Shape) × (k : ℕ) × (c : CaseLayer Shape) × (case_place s i.member ≡ Some k) × (slice_get (case_shapes s) k ≡ Some c) × (c.payload ≡ None) × (outs ≡ OfValue s ∷ [])

abbrev FullChoice : (m : Module) (i : Inst) → Form → List Form → Type 0
FullChoice m i form outs = (s : Shape) × (t : Shape) × (k : ℕ) × (c : CaseLayer Shape) × (case_place s i.member ≡ Some k) × (slice_get (case_shapes s) k ≡ Some c)
    × (c.payload ≡ Some t) × (form ≡ OfValue t) × (outs ≡ OfValue s ∷ [])

plain_choice : (m : Module) (i : Inst) (outs : List Form) → ChoiceForms m i [] outs → PlainChoice m i outs
plain_choice m i _ (ChoiceForms.plain s k c is at there no_payload) = (s, k, c, at, there, no_payload, refl)

full_choice : (m : Module) (i : Inst) (form : Form) (outs : List Form) → ChoiceForms m i (form ∷ []) outs → FullChoice m i form outs
full_choice m i _ _ (ChoiceForms.full s t k c is at there has_payload) = (s, t, k, c, at, there, has_payload, refl, refl)

module _ {m : Module} {entry : Beginning} (r : Runs m entry) where
  -- the run finds the shape in the form of the result
  case_found : (u : ValueId) (s : Shape) (k : ℕ) → r.i.results ≡ u ∷ [] → form_of (d r) r.f u ≡ OfValue s → case_place s r.i.member ≡ Some k
      → case_place (result_shape_of (d r) (shapes_of m) (values r) r.s.memory r.i r.i.results) r.i.member ≡ Some k
  case_found u s k results form at =
      ap (λ t. case_place t r.i.member)
      (ap (result_shape_of (d r) (shapes_of m) (values r) r.s.memory r.i) results ∙ shape_told m r.lf.function r.f r.running.frame.there u ∙ ap shape_in_form form) ∙ at

  pub chooses_plain_alike : (u : ValueId) (s : Shape) (k : ℕ) → effect_of r.i.op ≡ row.ChoosesCase → operands_of r.i ≡ [] → r.i.results ≡ u ∷ []
      → form_of (d r) r.f u ≡ OfValue s → case_place s r.i.member ≡ Some k → StandsAt m r.f r.lf r.i (op.Choose k None (local (d r) r.f u))
      → RowAlike r (op.Choose k None (local (d r) r.f u))
  chooses_plain_alike u s k is operands results form at stands =
      let choice = plain_choice m r.i (forms_of (d r) r.f r.i.results)
      (subst (λ vs. ChoiceForms m r.i (forms_of (d r) r.f vs) (forms_of (d r) r.f r.i.results)) operands (forms_by r stands row.ChoosesCase is)) in
      let same : choice.0 ≡ s = same_value_form choice.0 s (sym (first_form (form_of (d r) r.f) r.i.results u [] (OfValue choice.0) [] results choice.6) ∙ form) in
      let numbered : choice.1 ≡ k = same_Some choice.1 k (sym choice.3 ∙ ap (λ t. case_place t r.i.member) same ∙ at) in
      let there : slice_get (case_shapes s) k ≡ Some choice.2 = ap (λ t. slice_get (case_shapes t) k) (sym same) ∙ ap (slice_get (case_shapes choice.0)) (sym numbered) ∙ choice.4 in
      row_by r stands row.ChoosesCase is (sym operands)
      (λ xs all.
      alike_by
      (ap (λ n. performed r r.s (with_some (λ j. with_some (chooses (d r) (shapes_of m) (values r) r.s.memory r.i j) (values_of xs)) n)) (case_found u s k results form at)
      ∙ ap (λ ys. performed r r.s (with_some (chooses (d r) (shapes_of m) (values r) r.s.memory r.i k) (values_of ys))) (none_read xs operands all))
      refl
      (gives_value r stands.inst u results (one_of r.f r.i.results u [] results (results_of r stands row.ChoosesCase is)) s form (value.Case k)
      (case_suits (is_of_class m r.s.memory) s k choice.2 there choice.5)
      (leaf.Tag k ∷ replicate ((local (d r) r.f u).size - 1) leaf.Blank)
      (ap (λ n. leaf.Tag k ∷ replicate (n - 1) leaf.Blank) (ap leaves_in form) ∙ sym (case_leaves s k choice.2 there choice.5))))

  pub chooses_full_alike : (v u : ValueId) (s : Shape) (k : ℕ) → effect_of r.i.op ≡ row.ChoosesCase → operands_of r.i ≡ v ∷ [] → r.i.results ≡ u ∷ []
      → form_of (d r) r.f u ≡ OfValue s → case_place s r.i.member ≡ Some k → StandsAt m r.f r.lf r.i (op.Choose k (Some (local (d r) r.f v)) (local (d r) r.f u))
      → RowAlike r (op.Choose k (Some (local (d r) r.f v)) (local (d r) r.f u))
  chooses_full_alike v u s k is operands results form at stands =
      let choice = full_choice m r.i (form_of (d r) r.f v) (forms_of (d r) r.f r.i.results)
      (subst (λ vs. ChoiceForms m r.i (forms_of (d r) r.f vs) (forms_of (d r) r.f r.i.results)) operands (forms_by r stands row.ChoosesCase is)) in
      let same : choice.0 ≡ s = same_value_form choice.0 s (sym (first_form (form_of (d r) r.f) r.i.results u [] (OfValue choice.0) [] results choice.8) ∙ form) in
      let numbered : choice.2 ≡ k = same_Some choice.2 k (sym choice.4 ∙ ap (λ t. case_place t r.i.member) same ∙ at) in
      let there : slice_get (case_shapes s) k ≡ Some choice.3 = ap (λ t. slice_get (case_shapes t) k) (sym same) ∙ ap (slice_get (case_shapes choice.0)) (sym numbered) ∙ choice.5 in
      row_by r stands row.ChoosesCase is (sym operands)
      (λ xs all.
      let one = one_read v xs operands all in
      let x = read_value one.2 choice.1 choice.7 in
      let test = is_of_class m r.s.memory in
      alike_by
      (ap (λ n. performed r r.s (with_some (λ j. with_some (chooses (d r) (shapes_of m) (values r) r.s.memory r.i j) (values_of xs)) n)) (case_found u s k results form at)
      ∙ ap (λ ys. performed r r.s (with_some (chooses (d r) (shapes_of m) (values r) r.s.memory r.i k) (values_of ys))) (one.1 ∙ ap (λ y. y ∷ []) x.1))
      refl
      (gives_value r stands.inst u results (one_of r.f r.i.results u [] results (results_of r stands row.ChoosesCase is)) s form (value.Full k x.0)
      (full_suits test s k choice.3 choice.1 x.0 there choice.6 x.2)
      (leaf.Tag k ∷ (contents r.st r.mf (local (d r) r.f v) ++ replicate ((local (d r) r.f u).size - (1 + length (contents r.st r.mf (local (d r) r.f v)))) leaf.Blank))
      (full_is s choice.1 k x.0 (contents r.st r.mf (local (d r) r.f v)) (local (d r) r.f u).size (ap leaves_in form) x.3 (suits_leaves_length test choice.1 x.0 x.2)
      ∙ sym (full_leaves s k choice.3 choice.1 x.0 there choice.6 (suits_fits test choice.1 x.0 x.2)))))
    where
      full_is : (s t : Shape) (k : ℕ) (x : Value) (ls : List Leaf) (n : ℕ) → n ≡ size_of s → ls ≡ leaves_of t x → length (leaves_of t x) ≡ size_of t
          → ◌≡◌ {A = List Leaf} (leaf.Tag k ∷ (ls ++ replicate (n - (1 + length ls)) leaf.Blank)) (leaf.Tag k ∷ (leaves_of t x ++ replicate (size_of s - 1 - size_of t) leaf.Blank))
      full_is s t k x ls n size read long =
          ap (λ ms. leaf.Tag k ∷ (ms ++ replicate (n - (1 + length ms)) leaf.Blank)) read
          ∙ ap (λ j. leaf.Tag k ∷ (leaves_of t x ++ replicate j leaf.Blank)) (omega (arith, size, long))
