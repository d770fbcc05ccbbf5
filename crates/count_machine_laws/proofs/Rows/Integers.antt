-- Operands that are integers: what the run reads of them is what the machine has in their leaves.
use Rattle.std.proofs.Common.{◌≡◌, ◌∙◌, ℕ, ℤ, List, [], ◌∷◌, Some, map, refl, sym, ap}
use Rattle.std.specs.Prelude.{option_and_then}
use Rattle.count_machine_model.specs.holder_model.Data.{Datum, ValueOf, all_of, values_of, with_first}
use Rattle.count_machine_model.specs.MachineSteps.Operands.{contents, int_among}
use Rattle.count_machine_model.specs.MachineSteps.Views.{MachineView}
use Rattle.count_machine_model.specs.declared.machine_steps.frame.Frame.{Frame}
use Rattle.count_machine_model.specs.ReadyCode.Layout.{local}
use Rattle.count_machine_model.specs.holder_model.RunTyping.Forms.{Form, OfValue, form_of}
use Rattle.holder_model_values.specs.RunValues.Leaves.{leaves_of}
use Rattle.holder_model_values.specs.RunValues.Memory.{Memory}
use Rattle.holder_model_values.specs.RunValues.Shapes.{Integer}
use Rattle.holder_model_values.specs.RunValues.Values as value
use Rattle.holder_model_values.specs.RunValues.Values.{integer_of}
use Rattle.sil_ast.specs.declared.function.Function.{Function}
use Rattle.sil_ast.specs.declared.module.Module.{Module}
use Rattle.sil_ast.specs.declared.place.ValueId.{ValueId}
use Rattle.sil_types_declarations.specs.TypeDefinitions.Declarations.{declarations_of}
use Rattle.holder_model_values.proofs.ValueParts.Plain.{suits_integer}
use Rattle.count_machine_laws.proofs.Objects.{is_of_class}
use Rattle.count_machine_laws.proofs.Operands.{AllRead, IsRead, more, none, read_value}
use Rattle.count_machine_laws.proofs.Rows.Gives.{first_form, other_forms}
use Rattle.count_machine_laws.proofs.Slots.{Made}

abbrev pub of_width : ℕ → Form
of_width w = OfValue (Integer w)

-- the numbers of data that are integers
module _ {A : Type 0} (g : A → ℤ) where
  abbrev pub datum_of : A → Datum
  datum_of v = ValueOf (value.Int (g v))

  values_listed : (vs : List A) → values_of (map datum_of vs) ≡ Some (map (λ v. value.Int (g v)) vs)
  values_listed [] = refl
  values_listed (v ∷ vs) = ap (with_first (Some (value.Int (g v)))) (values_listed vs)

  integers_listed : (vs : List A) → all_of integer_of (map (λ v. value.Int (g v)) vs) ≡ Some (map g vs)
  integers_listed [] = refl
  integers_listed (v ∷ vs) = ap (with_first (Some (g v))) (integers_listed vs)

  pub numbers_listed : (vs : List A) → option_and_then (all_of integer_of) (values_of (map datum_of vs)) ≡ Some (map g vs)
  numbers_listed vs = ap (option_and_then (all_of integer_of)) (values_listed vs) ∙ integers_listed vs

-- the integer in a value's leaves
abbrev pub int_at : Module → MachineView → Function → Frame → ValueId → ℤ
int_at m st f mf v = int_among (contents st mf (local (declarations_of m) f v))

module _ {m : Module} {made : List Made} {mem : Memory} {st : MachineView} (f : Function) (mf : Frame) where
  int_read : (v : ValueId) (x : Datum) (w : ℕ) → form_of (declarations_of m) f v ≡ of_width w → IsRead m made mem st f mf v x → x ≡ datum_of (int_at m st f mf) v
  int_read v x w form is =
      let read = read_value is (Integer w) form in
      let n = suits_integer (is_of_class m mem) w read.0 read.2 in
      read.1 ∙ ap ValueOf n.1 ∙ ap (λ k. ValueOf (value.Int k)) (sym (ap int_among (read.3 ∙ ap (leaves_of (Integer w)) n.1)))

  pub ints_read : (vs : List ValueId) (xs : List Datum) (ws : List ℕ) → map (form_of (declarations_of m) f) vs ≡ map of_width ws → AllRead m made mem st f mf vs xs
      → xs ≡ map (datum_of (int_at m st f mf)) vs
  ints_read _ _ ws forms none = refl
  ints_read _ _ [] forms (more v x vs xs is all) = absurd (cc)
  ints_read _ _ (w ∷ ws) forms (more v x vs xs is all) =
      ap (λ y. y ∷ xs) (int_read v x w (first_form (form_of (declarations_of m) f) (v ∷ vs) v vs (of_width w) (map of_width ws) refl forms) is)
      ∙ ap (λ ys. datum_of (int_at m st f mf) v ∷ ys)
      (ints_read vs xs ws (other_forms (form_of (declarations_of m) f) (v ∷ vs) v vs (of_width w) (map of_width ws) refl forms) all)
