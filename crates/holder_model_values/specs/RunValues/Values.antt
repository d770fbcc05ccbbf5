-- What values are in a run, apart from addresses and functions.
use Rattle.std.specs.Prelude.{ℕ, ℤ, List, [], ◌∷◌, ◌++◌, Option, Some, None}
use Rattle.sil_ast.specs.declared.place.ObjectId.{ObjectId}
use Rattle.holder_model_values.specs.declared.run_values.value.Val.{Val}
use Rattle.holder_model_values.specs.declared.run_values.value.Val.TheVariants as val

mutual
  -- an integer, as a signed residue; a reference; a struct or a tuple; an enum's case by its place, without or with a payload
  pub data Value : Type 0 where
    Int : (n : ℤ) → Value
    Object : (o : ObjectId) → Value
    Group : (members : Values) → Value
    Case : (index : ℕ) → Value
    Full : (index : ℕ) (payload : Value) → Value

  pub data Values : Type 0 where
    NoValue : Values
    More : (first : Value) (others : Values) → Values

-- the references of a value, in the order of its leaves
abbrev mutual
  pub references_of : Value → List ObjectId
  references_of (Int n) = []
  references_of (Object o) = o ∷ []
  references_of (Group members) = references_in_each members
  references_of (Case index) = []
  references_of (Full index payload) = references_of payload

  pub references_in_each : Values → List ObjectId
  references_in_each NoValue = []
  references_in_each (More first others) = references_of first ++ references_in_each others

-- the value as a program has it
abbrev mutual
  pub val_of : Value → Val
  val_of (Int n) = val.Int n
  val_of (Object o) = val.Object o
  val_of (Group members) = val.Group (vals_of members)
  val_of (Case index) = val.Chosen index None
  val_of (Full index payload) = val.Chosen index (Some (val_of payload))

  pub vals_of : Values → List Val
  vals_of NoValue = []
  vals_of (More first others) = val_of first ∷ vals_of others

abbrev pub listed : Values → List Value
listed NoValue = []
listed (More first others) = first ∷ listed others

abbrev pub values_of : List Value → Values
values_of [] = NoValue
values_of (v ∷ vs) = More v (values_of vs)

-- the struct or tuple with these members
abbrev pub grouped : List Value → Value
grouped vs = Group (values_of vs)

-- the case with this payload, or with none
abbrev pub chosen : ℕ → Option Value → Value
chosen index None = Case index
chosen index (Some payload) = Full index payload

abbrev pub integer_of : Value → Option ℤ
integer_of (Int n) = Some n
integer_of (Object o) = None
integer_of (Group members) = None
integer_of (Case index) = None
integer_of (Full index payload) = None

abbrev pub object_of : Value → Option ObjectId
object_of (Int n) = None
object_of (Object o) = Some o
object_of (Group members) = None
object_of (Case index) = None
object_of (Full index payload) = None

-- the members of a struct or tuple
abbrev pub members_of : Value → Option (List Value)
members_of (Int n) = None
members_of (Object o) = None
members_of (Group members) = Some (listed members)
members_of (Case index) = None
members_of (Full index payload) = None

-- the case that an enum is in
pub record ChosenCase : Type 0 where
  pub index : ℕ
  pub payload : Option Value

abbrev pub case_of : Value → Option ChosenCase
case_of (Int n) = None
case_of (Object o) = None
case_of (Group members) = None
case_of (Case index) = Some (record { index = index; payload = None })
case_of (Full index payload) = Some (record { index = index; payload = Some payload })
