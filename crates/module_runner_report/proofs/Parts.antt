-- The parts of the values that a program has, by the form of the value.
use Rattle.std.proofs.Common.{◌≡◌, ◌∙◌, ℕ, ℤ, List, None, Some, Option, map, refl, ap}
use Rattle.std.specs.Prelude.{option_map}
use Rattle.holder_model_values.specs.RunValues.Values.{Value, Case, Full, case_of, chosen, integer_of, members_of, object_of}
use Rattle.holder_model_values.specs.declared.run_values.value.Val.{Val}
use Rattle.holder_model_values.specs.declared.run_values.value.Val.TheVariants as val
use Rattle.sil_ast.specs.declared.place.ObjectId.{ObjectId}
use Rattle.holder_model_values.proofs.ValueParts.Members.{listed_again}
use Rattle.module_runner_report.specs.RunOutcomes.{value_of}
use Rattle.module_runner_report.proofs.Told.{value-Chosen, value-Group, value-Int, value-Object}

-- what is the same of an enum's case with any payload, and with none
of_chosen : {A : Type 0} (part : Value → A) (a : A) (k : ℕ) → part (Case k) ≡ a → ((x : Value) → part (Full k x) ≡ a) → (payload : Option Value)
    → part (chosen k payload) ≡ a
of_chosen part a k plain full None = plain
of_chosen part a k plain full (Some x) = full x

case_in_chosen : (k : ℕ) (payload : Option Value) → case_of (chosen k payload) ≡ Some (record { index = k; payload = payload })
case_in_chosen k None = refl
case_in_chosen k (Some x) = refl

pub integer-Int : (n : ℤ) → integer_of (value_of (val.Int n)) ≡ Some n
integer-Int n = ap integer_of (value-Int n)

pub integer-Object : (o : ObjectId) → integer_of (value_of (val.Object o)) ≡ None
integer-Object o = ap integer_of (value-Object o)

pub integer-Group : (vs : List Val) → integer_of (value_of (val.Group vs)) ≡ None
integer-Group vs = ap integer_of (value-Group vs)

pub integer-Chosen : (k : ℕ) (payload : Option Val) → integer_of (value_of (val.Chosen k payload)) ≡ None
integer-Chosen k payload = ap integer_of (value-Chosen k payload) ∙ of_chosen integer_of None k refl (λ x. refl) (option_map value_of payload)

pub object-Int : (n : ℤ) → object_of (value_of (val.Int n)) ≡ None
object-Int n = ap object_of (value-Int n)

pub object-Object : (o : ObjectId) → object_of (value_of (val.Object o)) ≡ Some o
object-Object o = ap object_of (value-Object o)

pub object-Group : (vs : List Val) → object_of (value_of (val.Group vs)) ≡ None
object-Group vs = ap object_of (value-Group vs)

pub object-Chosen : (k : ℕ) (payload : Option Val) → object_of (value_of (val.Chosen k payload)) ≡ None
object-Chosen k payload = ap object_of (value-Chosen k payload) ∙ of_chosen object_of None k refl (λ x. refl) (option_map value_of payload)

pub members-Int : (n : ℤ) → members_of (value_of (val.Int n)) ≡ None
members-Int n = ap members_of (value-Int n)

pub members-Object : (o : ObjectId) → members_of (value_of (val.Object o)) ≡ None
members-Object o = ap members_of (value-Object o)

pub members-Group : (vs : List Val) → members_of (value_of (val.Group vs)) ≡ Some (map value_of vs)
members-Group vs = ap members_of (value-Group vs) ∙ ap Some (listed_again (map value_of vs))

pub members-Chosen : (k : ℕ) (payload : Option Val) → members_of (value_of (val.Chosen k payload)) ≡ None
members-Chosen k payload = ap members_of (value-Chosen k payload) ∙ of_chosen members_of None k refl (λ x. refl) (option_map value_of payload)

pub case-Int : (n : ℤ) → case_of (value_of (val.Int n)) ≡ None
case-Int n = ap case_of (value-Int n)

pub case-Object : (o : ObjectId) → case_of (value_of (val.Object o)) ≡ None
case-Object o = ap case_of (value-Object o)

pub case-Group : (vs : List Val) → case_of (value_of (val.Group vs)) ≡ None
case-Group vs = ap case_of (value-Group vs)

pub case-Chosen : (k : ℕ) (payload : Option Val) → case_of (value_of (val.Chosen k payload)) ≡ Some (record { index = k; payload = option_map value_of payload })
case-Chosen k payload = ap case_of (value-Chosen k payload) ∙ case_in_chosen k (option_map value_of payload)

pub ruleset integers = (integer-Int, integer-Object, integer-Group, integer-Chosen)

pub ruleset objects = (object-Int, object-Object, object-Group, object-Chosen)

pub ruleset members = (members-Int, members-Object, members-Group, members-Chosen)

pub ruleset cases = (case-Int, case-Object, case-Group, case-Chosen)
