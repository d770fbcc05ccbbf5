-- A value is the one that its form and its parts make.
use Rattle.std.proofs.Common.{◌≡◌, ℤ, List, Some, sym, ap, ◌∙◌, refl}
use Rattle.sil_ast.specs.declared.place.ObjectId.{ObjectId}
use Rattle.holder_model_values.specs.RunValues.Values.{ChosenCase, Value, Int, Object, Group, Case, Full, Values, NoValue, More}
use Rattle.holder_model_values.specs.RunValues.Values.{case_of, chosen, grouped, integer_of, listed, members_of, object_of, values_of}

within : {A : Type 0} (x y : A) → Some x ≡ Some y → x ≡ y
within x y h = cc

pub is_integer : (v : Value) (n : ℤ) → integer_of v ≡ Some n → v ≡ Int n
is_integer (Int k) n h = ap Int (within k n h)
is_integer (Object o) n h = cc
is_integer (Group members) n h = cc
is_integer (Case index) n h = cc
is_integer (Full index payload) n h = cc

pub is_object : (v : Value) (o : ObjectId) → object_of v ≡ Some o → v ≡ Object o
is_object (Int k) o h = cc
is_object (Object p) o h = ap Object (within p o h)
is_object (Group members) o h = cc
is_object (Case index) o h = cc
is_object (Full index payload) o h = cc

values_again : (vs : Values) → values_of (listed vs) ≡ vs
values_again NoValue = refl
values_again (More first others) = ap (More first) (values_again others)

pub is_group : (v : Value) (vs : List Value) → members_of v ≡ Some vs → v ≡ grouped vs
is_group (Int k) vs h = cc
is_group (Object o) vs h = cc
is_group (Group members) vs h = sym (ap Group (values_again members)) ∙ ap grouped (within (listed members) vs h)
is_group (Case index) vs h = cc
is_group (Full index payload) vs h = cc

pub is_chosen : (v : Value) (c : ChosenCase) → case_of v ≡ Some c → v ≡ chosen c.index c.payload
is_chosen (Int k) c h = cc
is_chosen (Object o) c h = cc
is_chosen (Group members) c h = cc
is_chosen (Case index) c h = ap (λ k. chosen k.index k.payload) (within _ c h)
is_chosen (Full index payload) c h = ap (λ k. chosen k.index k.payload) (within _ c h)
