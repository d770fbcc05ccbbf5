-- The values that a program has: what each stands for, form by form, and that a value told to a program is that value again.
use Rattle.std.proofs.Common.{◌≡◌, ◌∙◌, ℕ, ℤ, List, None, Some, Option, map, refl, sym, ap, ap₂}
use Rattle.std.specs.Prelude.{option_map}
use Rattle.holder_model_values.specs.RunValues.Values.{Value, Values, Int, Object, Group, Case, Full, NoValue, More, chosen, grouped, val_of, vals_of, values_of}
use Rattle.holder_model_values.specs.declared.run_values.value.Val.{Val, Val-F, fold-roll-Val}
use Rattle.holder_model_values.specs.declared.run_values.value.Val.TheVariants as val
use Rattle.holder_model_values.specs.declared.run_values.value.Val.TheVariants.{rolls-Int, rolls-Object, rolls-Group, rolls-Chosen}
use Rattle.sil_ast.specs.declared.place.ObjectId.{ObjectId}
use Rattle.module_runner_report.specs.RunOutcomes.{value_of, value_over}

pub value-Int : (n : ℤ) → value_of (val.Int n) ≡ Int n
value-Int n = ap value_of (sym (rolls-Int n)) ∙ fold-roll-Val Value value_over (Val-F.Int n)

pub value-Object : (o : ObjectId) → value_of (val.Object o) ≡ Object o
value-Object o = ap value_of (sym (rolls-Object o)) ∙ fold-roll-Val Value value_over (Val-F.Object o)

pub value-Group : (vs : List Val) → value_of (val.Group vs) ≡ grouped (map value_of vs)
value-Group vs = ap value_of (sym (rolls-Group vs)) ∙ fold-roll-Val Value value_over (Val-F.Group vs)

pub value-Chosen : (k : ℕ) (payload : Option Val) → value_of (val.Chosen k payload) ≡ chosen k (option_map value_of payload)
value-Chosen k None = ap value_of (sym (rolls-Chosen k None)) ∙ fold-roll-Val Value value_over (Val-F.Chosen k None)
value-Chosen k (Some v) = ap value_of (sym (rolls-Chosen k (Some v))) ∙ fold-roll-Val Value value_over (Val-F.Chosen k (Some v))

mutual
  -- a value is told as one that stands for it
  pub value_told : (x : Value) → value_of (val_of x) ≡ x
  value_told (Int n) = value-Int n
  value_told (Object o) = value-Object o
  value_told (Group members) = value-Group (vals_of members) ∙ ap Group (values_told members)
  value_told (Case index) = value-Chosen index None
  value_told (Full index payload) = value-Chosen index (Some (val_of payload)) ∙ ap (Full index) (value_told payload)

  pub values_told : (xs : Values) → values_of (map value_of (vals_of xs)) ≡ xs
  values_told NoValue = refl
  values_told (More x xs) = ap₂ More (value_told x) (values_told xs)
