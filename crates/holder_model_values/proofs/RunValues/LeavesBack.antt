-- A value that fits a shape comes back from its leaves, of which it has just as many as the shape.
use Rattle.std.proofs.Common.{◌≡◌, ◌≤◌, ◌+◌, ◌-◌, ◌++◌, ℕ, ℤ, zero, suc, List, [], ◌∷◌, Option}
use Rattle.std.proofs.Common.{Some, None, Bool, true, false, ◌&&◌, ◌==◌, cond, refl, sym, ap, ◌∙◌, arith}
use Rattle.std.specs.Prelude.{map, length, take, drop, sum, option_map, option_and_then, is_some, replicate, slice_get, unwrap_or}
use Rattle.std.specs.List.{flat_map}
use Rattle.std.specs.Option.{option_to_list}
use Rattle.std.proofs.lemmas.Bool.{and_parts, eqb-true, false≢true}
use Rattle.std.proofs.lemmas.List.{length-append, length-replicate}
use Rattle.std.proofs.lemmas.List.Sums.{sum_by-cons}
use Rattle.sil_ast.specs.TypeName.{largest}
use Rattle.sil_ast.specs.declared.decl.Storage.{Storage}
use Rattle.sil_ast.specs.declared.decl.Storage.TheVariants as storage
use Rattle.sil_ast.specs.declared.place.ObjectId.{ObjectId}
use Rattle.holder_model_values.specs.declared.run_values.leaf.Leaf.{Leaf}
use Rattle.holder_model_values.specs.declared.run_values.leaf.Leaf.TheVariants as leaf
use Rattle.holder_model_values.specs.RunValues.Layers.{CaseLayer, Layer}
use Rattle.holder_model_values.specs.RunValues.Leaves.{InLeaves, case_value, chosen_at, chosen_leaves, filled_up, integer_at, integer_leaf, leaves_each, leaves_layer, longest_payload, name_leaf}
use Rattle.holder_model_values.specs.RunValues.Leaves.{named_value}
use Rattle.holder_model_values.specs.RunValues.Leaves.{object_at, object_leaf, payload_leaves, payload_of, payload_sizes, payload_value, size_of, values_each, with_more}
use Rattle.holder_model_values.specs.RunValues.inner.Fits.{Test, are_members, fit_each, fits_case, fits_layer, fits_payload, fits_width, is_case, is_name}
use Rattle.holder_model_values.specs.RunValues.Values.{ChosenCase, Value, Int, Object, Group, Case, Full, chosen, grouped, case_of, integer_of, members_of, object_of, references_of}
use Rattle.holder_model_values.specs.RunValues.inner.Laws.{LeavesComeBack}
use Rattle.holder_model_values.proofs.RunValues.Forms.{is_integer, is_object, is_group, is_chosen}
use Rattle.holder_model_values.proofs.RunValues.Fronts.{front, rest}
use Rattle.holder_model_values.proofs.RunValues.Related.{Alike, AreCases, Both, Pairwise, are_told, both, ends, enums, integers, neither, pair, pair_at, references, stores, structs, tuples, unknowns}

abbrev ComesBack : Test → InLeaves → Type 0
ComesBack test t = (v : Value) → test v ≡ true → (t.value (t.leaves v) ≡ Some v) × (length (t.leaves v) ≡ t.size)

integer_back : (width : ℕ) (v : Value) (n : Option ℤ) → integer_of v ≡ n → fits_width width n ≡ true → (integer_at (integer_leaf n) ≡ Some v) × (length (integer_leaf n) ≡ 1)
integer_back width v None e h = absurd (false≢true h)
integer_back width v (Some n) e h = (ap Some (sym (is_integer v n e)), refl)

object_back : (v : Value) (o : Option ObjectId) → object_of v ≡ o → is_some o ≡ true → (object_at (object_leaf o) ≡ Some v) × (length (object_leaf o) ≡ 1)
object_back v None e h = absurd (false≢true h)
object_back v (Some o) e h = (ap Some (sym (is_object v o e)), refl)

-- structs and tuples

each_back : (tests : List Test) (ts : List InLeaves) → Pairwise ComesBack tests ts → (vs : List Value) → fit_each tests vs ≡ true
    → (values_each ts (leaves_each ts vs) ≡ Some vs) × (length (leaves_each ts vs) ≡ sum (map size_of ts))
each_back _ _ ends [] h = (refl, refl)
each_back _ _ ends (v ∷ vs) h = absurd (false≢true h)
each_back _ _ (pair test t tests ts back more) [] h = absurd (false≢true h)
each_back _ _ (pair test t tests ts back more) (v ∷ vs) h =
    let parts = and_parts (test v) (fit_each tests vs) h in
    let here = back v parts.0 in
    let behind = each_back tests ts more vs parts.1 in
    let all = t.leaves v ++ leaves_each ts vs in
    let count : sum (t.size ∷ map size_of ts) ≡ t.size + sum (map size_of ts) = sum_by-cons (λ n. n) t.size (map size_of ts) in (
      ap (λ ls. with_more (t.value ls) (values_each ts (drop t.size all))) (front t.size (t.leaves v) (leaves_each ts vs) here.1)
          ∙ ap (λ ls. with_more (t.value (t.leaves v)) (values_each ts ls)) (rest t.size (t.leaves v) (leaves_each ts vs) here.1)
          ∙ ap (λ x. with_more x (values_each ts (leaves_each ts vs))) here.0
          ∙ ap (with_more (Some v)) behind.0,
      length-append (t.leaves v) (leaves_each ts vs) ∙ omega (arith, count, here.1, behind.1),
    )

members_back : (tests : List Test) (ts : List InLeaves) → Pairwise ComesBack tests ts → (v : Value) (vs : Option (List Value)) → members_of v ≡ vs → are_members tests vs ≡ true
    → (option_map grouped (values_each ts (leaves_each ts (unwrap_or vs []))) ≡ Some v) × (length (leaves_each ts (unwrap_or vs [])) ≡ sum (map size_of ts))
members_back tests ts each v None e h = absurd (false≢true h)
members_back tests ts each v (Some vs) e h =
    let back = each_back tests ts each vs h in
    (ap (option_map grouped) back.0 ∙ ap Some (sym (is_group v vs e)), back.1)

-- enums

first_within : (o : Option InLeaves) (ns : List ℕ) (t : InLeaves) → o ≡ Some t → t.size ≤ largest (map size_of (option_to_list o) ++ ns)
first_within None ns t e = cc
first_within (Some u) ns t e = let same : u ≡ t = cc in let sizes : u.size ≡ t.size = ap size_of same in omega arith

rest_within : (o : Option InLeaves) (ns : List ℕ) → largest ns ≤ largest (map size_of (option_to_list o) ++ ns)
rest_within None ns = omega arith
rest_within (Some t) ns = omega arith

longest_within : (ks : List (CaseLayer InLeaves)) (i : ℕ) (k : CaseLayer InLeaves) (t : InLeaves) → slice_get ks i ≡ Some k → k.payload ≡ Some t → t.size ≤ longest_payload ks
longest_within [] i k t e p = cc
longest_within (l ∷ ks) zero k t e p =
    let same : l ≡ k = cc in
    first_within l.payload (flat_map payload_sizes ks) t (ap payload_of same ∙ p)
longest_within (l ∷ ks) (suc i) k t e p =
    let behind : t.size ≤ longest_payload ks = longest_within ks i k t e p in
    omega (arith, behind, rest_within l.payload (flat_map payload_sizes ks))

filled_front : (longest n : ℕ) (ls : List Leaf) → length ls ≡ n → n ≤ longest → (take n (filled_up longest ls) ≡ ls) × (length (filled_up longest ls) ≡ longest)
filled_front longest n ls e le = (
  front n ls (replicate (longest - length ls) leaf.Blank) e,
  length-append ls (replicate (longest - length ls) leaf.Blank) ∙ omega (arith, length-replicate (longest - length ls) leaf.Blank),
)

payload_back : (longest index : ℕ) (v : Value) (payload : Option Value) → v ≡ chosen index payload → (test : Option Test) (t : Option InLeaves) → Both ComesBack test t
    → ((u : InLeaves) → t ≡ Some u → u.size ≤ longest) → fits_payload test payload ≡ true
    → (payload_value index t (filled_up longest (payload_leaves t payload)) ≡ Some v) × (length (filled_up longest (payload_leaves t payload)) ≡ longest)
payload_back longest index v None e _ _ neither within h = (ap Some (sym e), (filled_front longest 0 [] refl (omega arith)).1)
payload_back longest index v (Some w) e _ _ neither within h = absurd (false≢true h)
payload_back longest index v None e _ _ (both test t back) within h = absurd (false≢true h)
payload_back longest index v (Some w) e _ _ (both test t back) within h =
    let here = back w h in
    let filled = filled_front longest t.size (t.leaves w) here.1 (within t refl) in
    (ap (λ ls. option_map (λ x. chosen index (Some x)) (t.value ls)) filled.0 ∙ ap (option_map (λ x. chosen index (Some x))) here.0 ∙ ap Some (sym e), filled.1)

case_back : (longest : ℕ) (v : Value) (c : ChosenCase) → v ≡ chosen c.index c.payload → (x : Option (CaseLayer Test)) (k : Option (CaseLayer InLeaves)) → Both (AreCases ComesBack) x k
    → ((l : CaseLayer InLeaves) (u : InLeaves) → k ≡ Some l → l.payload ≡ Some u → u.size ≤ longest) → fits_case x c.payload ≡ true
    → (case_value c.index k (filled_up longest (payload_leaves (option_and_then payload_of k) c.payload)) ≡ Some v)
    × (length (filled_up longest (payload_leaves (option_and_then payload_of k) c.payload)) ≡ longest)
case_back longest v c e _ _ neither within h = absurd (false≢true h)
case_back longest v c e _ _ (both x k are) within h = payload_back longest c.index v c.payload e x.payload k.payload are.payloads (λ u p. within k u refl p) h

cases_back : (cs : List (CaseLayer Test)) (ks : List (CaseLayer InLeaves)) → Pairwise (AreCases ComesBack) cs ks → (v : Value) (c : Option ChosenCase) → case_of v ≡ c → is_case cs c ≡ true
    → (chosen_at ks (chosen_leaves ks c) ≡ Some v) × (length (chosen_leaves ks c) ≡ 1 + longest_payload ks)
cases_back cs ks each v None e h = absurd (false≢true h)
cases_back cs ks each v (Some c) e h =
    let at = pair_at (AreCases ComesBack) cs ks each c.index in
    let back = case_back (longest_payload ks) v c (is_chosen v c e) (slice_get cs c.index) (slice_get ks c.index) at (λ l u p q. longest_within ks c.index l u p q) h in
    (back.0, omega (arith, back.1))

-- weak and unowned storage

is_empty_case : (a b : Bool) → cond a true (b && false) ≡ true → a ≡ true
is_empty_case true b h = refl
is_empty_case false true h = absurd (false≢true h)
is_empty_case false false h = absurd (false≢true h)

is_full_case : (a b c : Bool) → cond a false (b && c) ≡ true → (b ≡ true) × (c ≡ true)
is_full_case true b c h = absurd (false≢true h)
is_full_case false b c h = and_parts b c h

weak_back : (index : ℕ) (payload : Value) (o : Option ObjectId) → object_of payload ≡ o → cond (index == 0) false ((index == 1) && is_some o) ≡ true
    → (named_value storage.Weak (name_leaf (references_of (Full index payload))) ≡ Some (Full index payload))
    × (length (name_leaf (references_of (Full index payload))) ≡ 1)
weak_back index payload None e h = absurd (false≢true (is_full_case (index == 0) (index == 1) false h).1)
weak_back index payload (Some o) e h =
    let first : index ≡ 1 = eqb-true index 1 (is_full_case (index == 0) (index == 1) true h).0 in
    let names : payload ≡ Object o = is_object payload o e in (
      ap (λ p. named_value storage.Weak (name_leaf (references_of p))) names
          ∙ ap (λ k. Some (Full k (Object o))) (sym first)
          ∙ ap (λ p. Some (Full index p)) (sym names),
      ap (λ p. length (name_leaf (references_of p))) names,
    )

unowned_back : (v : Value) (o : Option ObjectId) → object_of v ≡ o → is_some o ≡ true
    → (named_value storage.Unowned (name_leaf (references_of v)) ≡ Some v) × (length (name_leaf (references_of v)) ≡ 1)
unowned_back v None e h = absurd (false≢true h)
unowned_back v (Some o) e h =
    let names : v ≡ Object o = is_object v o e in
    (ap (λ p. named_value storage.Unowned (name_leaf (references_of p))) names ∙ ap Some (sym names), ap (λ p. length (name_leaf (references_of p))) names)

name_back : (s : Storage) (v : Value) → is_name s v ≡ true
    → (named_value s (name_leaf (references_of v)) ≡ Some v) × (length (name_leaf (references_of v)) ≡ 1)
name_back storage.Strong v h = absurd (false≢true h)
name_back storage.Weak (Int n) h = absurd (false≢true h)
name_back storage.Weak (Object o) h = absurd (false≢true h)
name_back storage.Weak (Group members) h = absurd (false≢true h)
name_back storage.Weak (Case index) h =
    let first : index ≡ 0 = eqb-true index 0 (is_empty_case (index == 0) (index == 1) h) in
    (ap (λ k. Some (Case k)) (sym first), refl)
name_back storage.Weak (Full index payload) h = weak_back index payload (object_of payload) refl h
name_back storage.Unowned v h = unowned_back v (object_of v) refl h

of_layer : (x : Layer Test) (y : Layer InLeaves) → Alike ComesBack x y → ComesBack (fits_layer x) (leaves_layer y)
of_layer _ _ (integers width) v h = integer_back width v (integer_of v) refl h
of_layer _ _ (references class) v h = object_back v (object_of v) refl h
of_layer _ _ (structs name tests ts each) v h = members_back tests ts each v (members_of v) refl h
of_layer _ _ (tuples tests ts each) v h = members_back tests ts each v (members_of v) refl h
of_layer _ _ (enums name cs ks each) v h = cases_back cs ks each v (case_of v) refl h
of_layer _ _ (stores s test t back) v h = name_back s v h
of_layer _ _ unknowns v h = absurd (false≢true h)

pub come_back : LeavesComeBack
come_back = are_told ComesBack fits_layer leaves_layer of_layer
