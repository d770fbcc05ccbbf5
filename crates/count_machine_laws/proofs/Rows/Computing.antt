-- Builtin operations: the machine computes the leaves of what the run computes.
use Rattle.std.proofs.Common.{◌≡◌, ◌∙◌, ℕ, ℤ, List, [], ◌∷◌, Bool, true, Some, map, pos, refl, sym, ap, subst}
use Rattle.std.proofs.lemmas.Bool.{and_from}
use Rattle.std.proofs.lemmas.Option.{same_Some}
use Rattle.std.specs.Prelude.{bit_and, bit_or, bit_xor, option_and_then}
use Rattle.std.specs.Option.{option_to_list}
use Rattle.instruction_table.specs.declared.builtin_names.names.Operation.{Operation}
use Rattle.instruction_table.specs.declared.builtin_names.names.Operation.TheVariants as o
use Rattle.instruction_table.specs.declared.builtin_names.names.Width.{Width}
use Rattle.count_machine_model.specs.holder_model.Builtins.{bit, builtin_value, combined, computed, computed_by, magnitude, signed, unsigned}
use Rattle.count_machine_model.specs.holder_model.Data.{all_of, values_of}
use Rattle.count_machine_model.specs.holder_model.Effects as effects
use Rattle.count_machine_model.specs.holder_model.Effects.{effect_of, with_some}
use Rattle.count_machine_model.specs.holder_model.declared.row_effect.RowEffect.TheVariants as row
use Rattle.count_machine_model.specs.MachineSteps.Computing.{computed_leaves}
use Rattle.count_machine_model.specs.ReadyCode.Layout.{local}
use Rattle.count_machine_model.specs.ReadyCode.ReadyOps.{first_of, operands_of}
use Rattle.count_machine_model.specs.declared.ready_code.op.ReadyOp.TheVariants as op
use Rattle.count_machine_model.specs.holder_model.RunTyping.Forms.{Form, OfValue, form_of, forms_of}
use Rattle.count_machine_model.specs.holder_model.RunTyping.RowForms.{computed_shape, operand_shapes, shape_by, shapes_by}
use Rattle.holder_model_values.specs.RunValues.Leaves.{leaves_of}
use Rattle.holder_model_values.specs.RunValues.Values as value
use Rattle.holder_model_values.specs.RunValues.Values.{integer_of}
use Rattle.sil_ast.specs.declared.module.Module.{Module}
use Rattle.sil_ast.specs.declared.place.ValueId.{ValueId}
use Rattle.sil_types.specs.Typing.Builtins.{Builtin, Sort, bits, builtin_named, combining, comparing, overflowing, sort_of}
use Rattle.holder_model_values.specs.ValueParts.inner.Suits.{ClassTest, suits}
use Rattle.count_machine_laws.proofs.Ending.{alike_by}
use Rattle.count_machine_laws.proofs.FrameSteps.{StandsAt}
use Rattle.count_machine_laws.proofs.Objects.{is_of_class}
use Rattle.count_machine_laws.proofs.Operands.{AllRead}
use Rattle.count_machine_laws.proofs.Rows.Effects.{RowAlike, Runs, d, forms_by, performed, results_of, row_by}
use Rattle.count_machine_laws.proofs.Rows.Forms.{FormsAt}
use Rattle.count_machine_laws.proofs.Rows.Gives.{first_form, gives_value, one_of}
use Rattle.count_machine_laws.proofs.Rows.Integers.{int_at, ints_read, numbers_listed, of_width}
use Rattle.count_machine_laws.proofs.Rows.Residues.{bit_is_residue, signed_is_residue}
use Rattle.count_machine_laws.proofs.Tasks.{Beginning}

-- what is computed is of the shape that the operation gives

module _ (test : ClassTest) (w : Width) where
  computed_int : (f : ℕ → ℕ → ℕ) (a b : ℤ) → suits test (shape_by combining (bits w)) (combined (bits w) f a b) ≡ true
  computed_int f a b = signed_is_residue w (pos (f (magnitude (unsigned (bits w) a)) (magnitude (unsigned (bits w) b))))

  computed_pair : (n : ℤ) (b : Bool) → suits test (shape_by overflowing (bits w)) (value.grouped (value.Int (signed (bits w) n) ∷ value.Int (bit b) ∷ [])) ≡ true
  computed_pair n b = and_from _ _ (signed_is_residue w n) (and_from _ _ (bit_is_residue b) refl)

  pub computed_suits : (x : Operation) (a b : ℤ) → suits test (shape_by (sort_of x) (bits w)) (computed_by x (bits w) a b) ≡ true
  computed_suits o.AddWithOverflow a b = computed_pair _ _
  computed_suits o.SubWithOverflow a b = computed_pair _ _
  computed_suits o.MulWithOverflow a b = computed_pair _ _
  computed_suits o.Equal a b = bit_is_residue _
  computed_suits o.NotEqual a b = bit_is_residue _
  computed_suits o.Less a b = bit_is_residue _
  computed_suits o.LessOrEqual a b = bit_is_residue _
  computed_suits o.Greater a b = bit_is_residue _
  computed_suits o.GreaterOrEqual a b = bit_is_residue _
  computed_suits o.And a b = computed_int bit_and a b
  computed_suits o.Or a b = computed_int bit_or a b
  computed_suits o.Xor a b = computed_int bit_xor a b

pub computed_as_leaves : (x : Operation) (w : ℕ) (a b : ℤ) → computed_leaves x w a b ≡ leaves_of (shape_by (sort_of x) w) (computed_by x w a b)
computed_as_leaves o.AddWithOverflow w a b = refl
computed_as_leaves o.SubWithOverflow w a b = refl
computed_as_leaves o.MulWithOverflow w a b = refl
computed_as_leaves o.Equal w a b = refl
computed_as_leaves o.NotEqual w a b = refl
computed_as_leaves o.Less w a b = refl
computed_as_leaves o.LessOrEqual w a b = refl
computed_as_leaves o.Greater w a b = refl
computed_as_leaves o.GreaterOrEqual w a b = refl
computed_as_leaves o.And w a b = refl
computed_as_leaves o.Or w a b = refl
computed_as_leaves o.Xor w a b = refl

-- the widths of the operands

abbrev widths_by : Sort → ℕ → List ℕ
widths_by overflowing w = w ∷ w ∷ 1 ∷ []
widths_by comparing w = w ∷ w ∷ []
widths_by combining w = w ∷ w ∷ []

forms_by_width : (x : Sort) (w : ℕ) → map OfValue (shapes_by x w) ≡ map of_width (widths_by x w)
forms_by_width overflowing w = refl
forms_by_width comparing w = refl
forms_by_width combining w = refl

-- there are at most three
few_more : {A : Type 0} (g : A → Form) (x : Sort) (k : ℕ) (v w : A) (vs : List A) → map g (v ∷ w ∷ vs) ≡ map of_width (widths_by x k) → option_to_list (first_of vs) ≡ vs
few_more g x k v w [] e = refl
few_more g x k v w (u ∷ []) e = refl
few_more g overflowing k v w (u ∷ t ∷ vs) e = absurd (cc)
few_more g comparing k v w (u ∷ t ∷ vs) e = absurd (cc)
few_more g combining k v w (u ∷ t ∷ vs) e = absurd (cc)

module _ {m : Module} {entry : Beginning} (r : Runs m entry) where
  pub computes_alike : (b : Builtin) (v w u : ValueId) (others : List ValueId) → effect_of r.i.op ≡ row.Computes → option_and_then builtin_named r.i.text ≡ Some b
      → operands_of r.i ≡ v ∷ w ∷ others → r.i.results ≡ u ∷ []
      → StandsAt m r.f r.lf r.i (op.Compute b.operation b.width (local (d r) r.f v) (local (d r) r.f w) (first_of others) (local (d r) r.f u))
      → RowAlike r (op.Compute b.operation b.width (local (d r) r.f v) (local (d r) r.f w) (first_of others) (local (d r) r.f u))
  computes_alike b v w u others is named operands results stands =
      row_by r stands row.Computes is (ap (λ vs. v ∷ w ∷ vs) (few_more (form_of (d r) r.f) (sort_of b.operation) (bits b.width) v w others from) ∙ sym operands)
      (λ xs all.
      let read = ints_read r.f r.mf (v ∷ w ∷ others) xs (widths_by (sort_of b.operation) (bits b.width)) from (subst (λ vs. AllRead m r.made r.s.memory r.st r.f r.mf vs xs) operands all) in
      alike_by
      (ap (λ ys. performed r r.s (with_some (effects.gives_value r.s.memory) (option_and_then (builtin_value r.i.text) (option_and_then (all_of integer_of) (values_of ys))))) read
      ∙ ap (λ ns. performed r r.s (with_some (effects.gives_value r.s.memory) (option_and_then (builtin_value r.i.text) ns))) (numbers_listed int (v ∷ w ∷ others))
      ∙ ap (λ c. performed r r.s (with_some (effects.gives_value r.s.memory) (option_and_then (λ k. computed k (map int (v ∷ w ∷ others))) c))) named)
      refl
      (gives_value r stands.inst u results (one_of r.f r.i.results u [] results (results_of r stands row.Computes is)) (computed_shape b) form
      (computed_by b.operation (bits b.width) (int v) (int w)) (computed_suits (is_of_class m r.s.memory) b.width b.operation (int v) (int w))
      (computed_leaves b.operation (bits b.width) (int v) (int w)) (computed_as_leaves b.operation (bits b.width) (int v) (int w))))
    where
      int : ValueId → ℤ
      int = int_at m r.st r.f r.mf

      forms_are : FormsAt m r.i row.Computes (forms_of (d r) r.f (operands_of r.i)) (forms_of (d r) r.f r.i.results)
      forms_are = forms_by r stands row.Computes is

      same : forms_are.0 ≡ b
      same = same_Some forms_are.0 b (sym forms_are.1 ∙ named)

      from : map (form_of (d r) r.f) (v ∷ w ∷ others) ≡ map of_width (widths_by (sort_of b.operation) (bits b.width))
      from = sym (ap (map (form_of (d r) r.f)) operands) ∙ forms_are.2 ∙ ap (λ c. map OfValue (operand_shapes c)) same ∙ forms_by_width (sort_of b.operation) (bits b.width)

      form : form_of (d r) r.f u ≡ OfValue (computed_shape b)
      form = first_form (form_of (d r) r.f) r.i.results u [] (OfValue (computed_shape b)) [] results (forms_are.3 ∙ ap (λ c. OfValue (computed_shape c) ∷ []) same)
