-- A value as the leaves of its shape, and back.
use Rattle.std.specs.Prelude.{ℕ, ◌+◌, ◌-◌, List, [], ◌∷◌, ◌++◌, Option, Some, None, map, option_map, option_and_then}
use Rattle.std.specs.Prelude.{unwrap_or, slice_get, length, replicate, take, drop, sum, ℤ}
use Rattle.std.specs.Option.{option_to_list}
use Rattle.std.specs.List.{flat_map}
use Rattle.sil_ast.specs.TypeName.{largest}
use Rattle.sil_ast.specs.declared.decl.Storage.{Storage}
use Rattle.sil_ast.specs.declared.decl.Storage.TheVariants as storage
use Rattle.sil_ast.specs.declared.place.ObjectId.{ObjectId}
use Rattle.holder_model_values.specs.declared.run_values.leaf.Leaf.{Leaf}
use Rattle.holder_model_values.specs.declared.run_values.leaf.Leaf.TheVariants as leaf
use Rattle.holder_model_values.specs.RunValues.Values as value
use Rattle.holder_model_values.specs.RunValues.Layers.{CaseLayer, Layer, Integer, Reference, Struct, Tuple, Enum, Stored, Unknown}
use Rattle.holder_model_values.specs.RunValues.Shapes.{Shape, by_layers}
use Rattle.holder_model_values.specs.RunValues.Values.{ChosenCase, Value, case_of, integer_of, members_of, object_of, references_of, chosen, grouped}

-- how the values of a shape are kept as leaves: how many there are, those of a value, and the value that has them
pub record InLeaves : Type 0 where
  pub size : ℕ
  pub leaves : Value → List Leaf
  pub value : List Leaf → Option Value

abbrev pub size_of : InLeaves → ℕ
size_of t = t.size

abbrev pub with_more : Option Value → Option (List Value) → Option (List Value)
with_more None vs = None
with_more (Some v) vs = option_map (λ more. v ∷ more) vs

-- integers

abbrev pub integer_leaf : Option ℤ → List Leaf
integer_leaf None = []
integer_leaf (Some n) = leaf.Int n ∷ []

abbrev pub integer_at : List Leaf → Option Value
integer_at [] = None
integer_at (leaf.Int n ∷ ls) = Some (value.Int n)
integer_at (leaf.Object o ∷ ls) = None
integer_at (leaf.Tag k ∷ ls) = None
integer_at (leaf.Blank ∷ ls) = None

abbrev pub of_integer : InLeaves
of_integer = record { size = 1; leaves = λ v. integer_leaf (integer_of v); value = integer_at }

-- references

abbrev pub object_leaf : Option ObjectId → List Leaf
object_leaf None = []
object_leaf (Some o) = leaf.Object o ∷ []

abbrev pub object_at : List Leaf → Option Value
object_at [] = None
object_at (leaf.Int n ∷ ls) = None
object_at (leaf.Object o ∷ ls) = Some (value.Object o)
object_at (leaf.Tag k ∷ ls) = None
object_at (leaf.Blank ∷ ls) = None

abbrev pub of_reference : InLeaves
of_reference = record { size = 1; leaves = λ v. object_leaf (object_of v); value = object_at }

-- structs and tuples

abbrev pub leaves_each : List InLeaves → List Value → List Leaf
leaves_each [] vs = []
leaves_each (t ∷ ts) [] = []
leaves_each (t ∷ ts) (v ∷ vs) = t.leaves v ++ leaves_each ts vs

abbrev pub values_each : List InLeaves → List Leaf → Option (List Value)
values_each [] ls = Some []
values_each (t ∷ ts) ls = with_more (t.value (take t.size ls)) (values_each ts (drop t.size ls))

abbrev pub of_members : List InLeaves → InLeaves
of_members ts = record {
  size = sum (map size_of ts);
  leaves = λ v. leaves_each ts (unwrap_or (members_of v) []);
  value = λ ls. option_map grouped (values_each ts ls);
}

-- enums: the case, its payload, and blanks up to the longest payload

abbrev pub payload_sizes : CaseLayer InLeaves → List ℕ
payload_sizes c = map size_of (option_to_list c.payload)

abbrev pub longest_payload : List (CaseLayer InLeaves) → ℕ
longest_payload cases = largest (flat_map payload_sizes cases)

abbrev pub filled_up : ℕ → List Leaf → List Leaf
filled_up n ls = ls ++ replicate (n - length ls) leaf.Blank

abbrev pub payload_leaves : Option InLeaves → Option Value → List Leaf
payload_leaves None v = []
payload_leaves (Some t) None = []
payload_leaves (Some t) (Some v) = t.leaves v

abbrev pub payload_of : CaseLayer InLeaves → Option InLeaves
payload_of c = c.payload

abbrev pub payload_at : List (CaseLayer InLeaves) → ℕ → Option InLeaves
payload_at cases index = option_and_then payload_of (slice_get cases index)

abbrev pub chosen_leaves : List (CaseLayer InLeaves) → Option ChosenCase → List Leaf
chosen_leaves cases None = []
chosen_leaves cases (Some c) = leaf.Tag c.index ∷ filled_up (longest_payload cases) (payload_leaves (payload_at cases c.index) c.payload)

abbrev pub payload_value : ℕ → Option InLeaves → List Leaf → Option Value
payload_value index None ls = Some (chosen index None)
payload_value index (Some t) ls = option_map (λ v. chosen index (Some v)) (t.value (take t.size ls))

abbrev pub case_value : ℕ → Option (CaseLayer InLeaves) → List Leaf → Option Value
case_value index None ls = None
case_value index (Some c) ls = payload_value index c.payload ls

abbrev pub chosen_at : List (CaseLayer InLeaves) → List Leaf → Option Value
chosen_at cases [] = None
chosen_at cases (leaf.Int n ∷ ls) = None
chosen_at cases (leaf.Object o ∷ ls) = None
chosen_at cases (leaf.Tag k ∷ ls) = case_value k (slice_get cases k) ls
chosen_at cases (leaf.Blank ∷ ls) = None

abbrev pub of_cases : List (CaseLayer InLeaves) → InLeaves
of_cases cases = record {
  size = 1 + longest_payload cases;
  leaves = λ v. chosen_leaves cases (case_of v);
  value = chosen_at cases;
}

-- weak and unowned storage: the object that it names, if it names one

abbrev pub name_leaf : List ObjectId → List Leaf
name_leaf [] = leaf.Blank ∷ []
name_leaf (o ∷ os) = leaf.Object o ∷ []

abbrev pub named_value : Storage → List Leaf → Option Value
named_value storage.Strong ls = None
named_value storage.Weak [] = None
named_value storage.Weak (leaf.Int n ∷ ls) = None
named_value storage.Weak (leaf.Object o ∷ ls) = Some (value.Full 1 (value.Object o))
named_value storage.Weak (leaf.Tag k ∷ ls) = None
named_value storage.Weak (leaf.Blank ∷ ls) = Some (value.Case 0)
named_value storage.Unowned ls = object_at ls

abbrev pub of_storage : Storage → InLeaves
of_storage s = record { size = 1; leaves = λ v. name_leaf (references_of v); value = named_value s }

abbrev pub of_nothing : InLeaves
of_nothing = record { size = 0; leaves = λ v. []; value = λ ls. None }

abbrev pub leaves_layer : Layer InLeaves → InLeaves
leaves_layer (Integer width) = of_integer
leaves_layer (Reference class) = of_reference
leaves_layer (Struct name fields) = of_members fields
leaves_layer (Tuple elements) = of_members elements
leaves_layer (Enum name cases) = of_cases cases
leaves_layer (Stored s inner) = of_storage s
leaves_layer Unknown = of_nothing

abbrev pub in_leaves : Shape → InLeaves
in_leaves s = by_layers leaves_layer s

-- the leaves of a value of a shape
abbrev pub leaves_of : Shape → Value → List Leaf
leaves_of s v = (in_leaves s).leaves v

-- the value of a shape that has these leaves
abbrev pub value_of : Shape → List Leaf → Option Value
value_of s ls = (in_leaves s).value ls
