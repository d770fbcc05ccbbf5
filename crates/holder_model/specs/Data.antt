-- What the values of a function are in a run.
use Rattle.std.specs.Prelude.{List, [], ◌∷◌, Option, Some, None}
use Rattle.sil_ast.specs.declared.place.FuncId.{FuncId}
use Rattle.sil_ast.specs.declared.place.ObjectId.{ObjectId}
use Rattle.holder_model_values.specs.RunValues.Places.{Home, Inside, OnStack, Place}
use Rattle.holder_model_values.specs.RunValues.Values.{Value, references_of}

-- a value of an object type, the address of a place, or the function that the result of a `function_ref` stands for
pub data Datum : Type 0 where
  ValueOf : (x : Value) → Datum
  AddressOf : (p : Place) → Datum
  FunctionOf : (g : FuncId) → Datum

abbrev pub home_references : Home → List ObjectId
home_references OnStack = []
home_references (Inside o) = o ∷ []

-- the references of a datum, in leaf order. The address of a field names its object
abbrev pub references_in : Datum → List ObjectId
references_in (ValueOf x) = references_of x
references_in (AddressOf p) = home_references p.home
references_in (FunctionOf g) = []

abbrev pub as_value : Datum → Option Value
as_value (ValueOf x) = Some x
as_value (AddressOf p) = None
as_value (FunctionOf g) = None

abbrev pub as_place : Datum → Option Place
as_place (ValueOf x) = None
as_place (AddressOf p) = Some p
as_place (FunctionOf g) = None

abbrev pub as_function : Datum → Option FuncId
as_function (ValueOf x) = None
as_function (AddressOf p) = None
as_function (FunctionOf g) = Some g

abbrev pub with_first : {A : Type 0} → Option A → Option (List A) → Option (List A)
with_first None xs = None
with_first (Some x) None = None
with_first (Some x) (Some xs) = Some (x ∷ xs)

-- all of some, where each is there
abbrev pub all_of : {A B : Type 0} → (A → Option B) → List A → Option (List B)
all_of f [] = Some []
all_of f (x ∷ xs) = with_first (f x) (all_of f xs)

abbrev pub values_of : List Datum → Option (List Value)
values_of xs = all_of as_value xs
