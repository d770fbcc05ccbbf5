-- A value that fits a shape has as many leaves as the shape.
use Rattle.std.proofs.Common.{◌≡◌, ◌≤◌, ◌+◌, ◌-◌, ℕ, zero, suc, List, Option, Some, None, true, refl, ◌∙◌, arith}
use Rattle.std.specs.Prelude.{map, length, sum, replicate, slice_get}
use Rattle.std.specs.List.{AllByRecursion}
use Rattle.std.proofs.lemmas.Bool.{and_parts, false≢true}
use Rattle.std.proofs.lemmas.List.{length-append, length-replicate}
use Rattle.std.proofs.lemmas.List.Sums.{sum_by-cons}
use Rattle.sil_ast.specs.declared.decl.Storage.{Storage}
use Rattle.sil_ast.specs.declared.decl.Storage.TheVariants as storage
use Rattle.sil_types_declarations.specs.numbered_form.Names.{Name}
use Rattle.holder_model_values.specs.declared.run_values.leaf.Leaf.{Leaf}
use Rattle.holder_model_values.specs.declared.run_values.leaf.Leaf.TheVariants as leaf
use Rattle.holder_model_values.specs.RunValues.inner.Fits.{are_members, fit_each, fits, fits_case, fits_layer, is_case, is_name}
use Rattle.holder_model_values.specs.RunValues.Leaves.{InLeaves, filled_up, leaves_each, leaves_layer, leaves_of, longest_payload, name_leaf, payload_at, payload_leaves, size_of}
use Rattle.holder_model_values.specs.RunValues.Shapes.{CaseShapes, NoCase, PlainCase, FullCase, Shape, Shapes, NoMember, Member, listed, listed_cases}
use Rattle.holder_model_values.specs.RunValues.Shapes.{Integer, Reference, Struct, Tuple, Enum, Stored, Unknown, cases_by_layers, each_by_layers}
use Rattle.holder_model_values.specs.RunValues.Values.{Value, Int, Object, Group, Case, Full, Values, NoValue, More, case_of, members_of, references_of}
use Rattle.holder_model_values.specs.RunValues.Values as value
use Rattle.holder_model_values.specs.ValueParts.inner.Paths.{leaf_count}
use Rattle.holder_model_values.specs.ValueParts.inner.StoredNames.{IsUnownedName, IsWeakName}
use Rattle.holder_model_values.proofs.ValueParts.Inductions.{InParts, OfCase, by_parts}
use Rattle.holder_model_values.proofs.ValueParts.Names.{is_unowned_name, is_weak_name}

abbrev told : Shapes → List InLeaves
told ss = each_by_layers leaves_layer ss

abbrev counts : Shapes → ℕ
counts ss = sum (map size_of (told ss))

abbrev HasCount : Shape → Type 0
HasCount s = (v : Value) → fits s v ≡ true → length (leaves_of s v) ≡ leaf_count s

-- structs and tuples

each_count : (ss : Shapes) → AllByRecursion HasCount (listed ss) → (vs : Values) → fit_each (each_by_layers fits_layer ss) (value.listed vs) ≡ true
    → length (leaves_each (told ss) (value.listed vs)) ≡ counts ss
each_count NoMember hs NoValue h = refl
each_count NoMember hs (More v vs) h = absurd (false≢true h)
each_count (Member s ss) hs NoValue h = absurd (false≢true h)
each_count (Member s ss) hs (More v vs) h =
    let parts = and_parts (fits s v) (fit_each (each_by_layers fits_layer ss) (value.listed vs)) h in
    let first = hs.0 v parts.0 in
    let others = each_count ss hs.1 vs parts.1 in
    let all : counts (Member s ss) ≡ leaf_count s + counts ss = sum_by-cons (λ n. n) (leaf_count s) (map size_of (told ss)) in
    length-append (leaves_of s v) (leaves_each (told ss) (value.listed vs)) ∙ omega (arith, first, others, all)

group_count : (ss : Shapes) → AllByRecursion HasCount (listed ss) → (v : Value) → are_members (each_by_layers fits_layer ss) (members_of v) ≡ true
    → length (leaves_of (Tuple ss) v) ≡ counts ss
group_count ss hs (Group vs) h = each_count ss hs vs h
group_count ss hs v h = absurd (false≢true h)

-- enums

abbrev longest : CaseShapes → ℕ
longest cs = longest_payload (cases_by_layers leaves_layer cs)

abbrev payload_of : CaseShapes → ℕ → Option Value → List Leaf
payload_of cs k payload = payload_leaves (payload_at (cases_by_layers leaves_layer cs) k) payload

payload_count : (cs : CaseShapes) → AllByRecursion (OfCase HasCount) (listed_cases cs) → (k : ℕ) (payload : Option Value)
    → fits_case (slice_get (cases_by_layers fits_layer cs) k) payload ≡ true → length (payload_of cs k payload) ≤ longest cs
payload_count NoCase hs k payload h = absurd (false≢true h)
payload_count (PlainCase name others) hs zero payload h = omega arith
payload_count (PlainCase name others) hs (suc k) payload h = payload_count others hs.1 k payload h
payload_count (FullCase name s others) hs zero None h = absurd (false≢true h)
payload_count (FullCase name s others) hs zero (Some x) h =
    let mine = hs.0 x h in
    omega (arith, mine)
payload_count (FullCase name s others) hs (suc k) payload h =
    let behind = payload_count others hs.1 k payload h in
    omega (arith, behind)

pub filled_length : (n : ℕ) (ls : List Leaf) → length ls ≤ n → length (filled_up n ls) ≡ n
filled_length n ls le = length-append ls (replicate (n - length ls) leaf.Blank) ∙ omega (arith, length-replicate (n - length ls) leaf.Blank)

chosen_count : (cs : CaseShapes) → AllByRecursion (OfCase HasCount) (listed_cases cs) → (k : ℕ) (payload : Option Value)
    → fits_case (slice_get (cases_by_layers fits_layer cs) k) payload ≡ true → suc (length (filled_up (longest cs) (payload_of cs k payload))) ≡ 1 + longest cs
chosen_count cs hs k payload h =
    let count = filled_length (longest cs) (payload_of cs k payload) (payload_count cs hs k payload h) in
    omega (arith, count)

enum_count : (cs : CaseShapes) → AllByRecursion (OfCase HasCount) (listed_cases cs) → (v : Value) (name : Name) → is_case (cases_by_layers fits_layer cs) (case_of v) ≡ true
    → length (leaves_of (Enum name cs) v) ≡ 1 + longest cs
enum_count cs hs (Case k) name h = chosen_count cs hs k None h
enum_count cs hs (Full k x) name h = chosen_count cs hs k (Some x) h
enum_count cs hs v name h = absurd (false≢true h)

-- storage

weak_count : (v : Value) → IsWeakName v → length (name_leaf (references_of v)) ≡ 1
weak_count _ IsWeakName.none = refl
weak_count _ (IsWeakName.names o) = refl

unowned_count : (v : Value) → IsUnownedName v → length (name_leaf (references_of v)) ≡ 1
unowned_count _ (IsUnownedName.names o) = refl

name_count : (s : Storage) (v : Value) → is_name s v ≡ true → length (name_leaf (references_of v)) ≡ 1
name_count storage.Strong v h = absurd (false≢true h)
name_count storage.Weak v h = weak_count v (is_weak_name v h)
name_count storage.Unowned v h = unowned_count v (is_unowned_name v h)

shape_count : (s : Shape) → InParts HasCount s → HasCount s
shape_count (Integer width) hs (Int n) h = refl
shape_count (Integer width) hs v h = absurd (false≢true h)
shape_count (Reference class) hs (Object o) h = refl
shape_count (Reference class) hs v h = absurd (false≢true h)
shape_count (Struct name fields) hs v h = group_count fields hs v h
shape_count (Tuple elements) hs v h = group_count elements hs v h
shape_count (Enum name cases) hs v h = enum_count cases hs v name h
shape_count (Stored s inner) hs v h = name_count s v h
shape_count Unknown hs v h = absurd (false≢true h)

pub leaves_length : (s : Shape) (v : Value) → fits s v ≡ true → length (leaves_of s v) ≡ leaf_count s
leaves_length = by_parts HasCount shape_count
