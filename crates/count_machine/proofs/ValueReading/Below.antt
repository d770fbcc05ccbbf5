-- A value is read as one of its type's parts are.
use Rattle.std.proofs.Common.{◌≡◌, ◌+◌, ◌≤◌, ℕ, List, [], ◌∷◌, Some, map, take, drop, sym, ap, ◌∙◌, subst}
use Rattle.std.specs.Prelude.{IfOk, Result, Ok, Err, option_map, slice_get}
use Rattle.std.specs.List.{flat_map}
use Rattle.std.specs.Option.{option_to_list}
use Rattle.numbered_form.specs.Lists.{Each}
use Rattle.numbered_form.specs.Names.{Name}
use Rattle.holder_model_typing.proofs.RunTypingLaws.ListFacts.{each_within}
use Rattle.holder_model_values.specs.RunValues.Leaves.{in_leaves}
use Rattle.holder_model_values.specs.RunValues.Shapes.{Enum, Tuple, cases_of, members_of, shape_of}
use Rattle.holder_model_values.specs.declared.run_values.leaf.Leaf.{Leaf}
use Rattle.holder_model_values.specs.declared.run_values.leaf.Leaf.TheVariants as leaf
use Rattle.holder_model_values.specs.declared.run_values.value.Val.{Val}
use Rattle.holder_model_values.specs.declared.run_values.value.Val.TheVariants as val
use Rattle.sil_ast.specs.declared.decl.Case.{Case}
use Rattle.sil_ast.specs.declared.decl.Decl.{Decl}
use Rattle.sil_ast.specs.declared.decl.Decl.TheVariants as decl
use Rattle.sil_ast.specs.declared.decl.Field.{Field}
use Rattle.sil_ast.specs.declared.exhausted.Exhausted.{Exhausted}
use Rattle.sil_ast.specs.declared.type_name.TypeName.{TypeName}
use Rattle.sil_ast.specs.declared.type_name.TypeName.TheVariants as type
use Rattle.sil_rules.specs.declared.limits.TheConstants.{LEAVES}
use Rattle.sil_types_declarations.specs.TypeDefinitions.Contained.{field_type, payload_types}
use Rattle.sil_types_declarations.specs.TypeDefinitions.Declarations.{Declarations, decl_of}
use Rattle.sil_types_declarations.specs.TypeDefinitions.Measures.{leaves_of}
use Rattle.count_machine.specs.ValueReading.inner.Reading.{IsValueOf}
use Rattle.count_machine.specs.ValueReading.inner.Levels.{IsReadable}
use Rattle.count_machine.specs.ValueReading.inner.Payloads.{IsCaseOf, case_layer_of}
use Rattle.count_machine.proofs.ValueReading.Cases.{case_read, first_is, full_read}
use Rattle.count_machine.proofs.ValueReading.Parts.{enum_parts, struct_parts, tuple_parts}
use Rattle.count_machine.proofs.ValueReading.Shaped.{enum_is, struct_is, tuple_is}
use Rattle.count_machine.proofs.ValueReading.Sized.{size_measured}

if_ok : (P Q : Val → Type 0) → ((v : Val) → P v → Q v) → (result : Result Val Exhausted) → IfOk result P → IfOk result Q
if_ok P Q then (Ok v) h = then v h
if_ok P Q then (Err e) h = h

module _ (d : Declarations) (ls : List Leaf) (result : Result Val Exhausted) where
  pub tuple_below : (levels below : ℕ) (t : TypeName) (ts elements : List TypeName) → levels ≡ below + 1 → t ≡ type.Tuple ts → elements ≡ ts
      → (Each (IsReadable d below) elements → IfOk result (IsValueOf (Tuple (members_of (map (shape_of d) elements))) ls))
      → IsReadable d levels t → IfOk result (IsValueOf (shape_of d t) ls)
  tuple_below levels below t ts elements lower is same read r =
      let here : IsReadable d (below + 1) (type.Tuple ts) = subst (λ u. IsReadable d (below + 1) u) is (subst (λ n. IsReadable d n t) lower r) in
      let parts = tuple_parts d below ts here in
      let shape : Tuple (members_of (map (shape_of d) elements)) ≡ shape_of d t =
      ap (λ us. Tuple (members_of (map (shape_of d) us))) same ∙ sym (tuple_is d r.runnable ts) ∙ ap (shape_of d) (sym is) in
      subst (λ s. IfOk result (IsValueOf s ls)) shape (read (subst (Each (IsReadable d below)) (sym same) parts))

  pub struct_below : (levels : ℕ) (name n : Name) (x : Decl) (fields given : List Field) → Some x ≡ decl_of d name → x ≡ decl.Struct n fields → given ≡ fields
      → (Each (IsReadable d levels) (map field_type given) → IfOk result (IsValueOf (Tuple (members_of (map (shape_of d) (map field_type given)))) ls))
      → IsReadable d (levels + 1) (type.Named name) → IfOk result (IsValueOf (shape_of d (type.Named name)) ls)
  struct_below levels name n x fields given found is same read r =
      let there : decl_of d name ≡ Some (decl.Struct n fields) = sym found ∙ ap Some is in
      let parts = struct_parts d r.runnable levels name n fields there r in
      let IsRead : List Field → Type 0 = λ fs. IfOk result (IsValueOf (Tuple (members_of (map (shape_of d) (map field_type fs)))) ls) in
      let whole : IsRead fields = subst IsRead same (read (subst (λ fs. Each (IsReadable d levels) (map field_type fs)) (sym same) parts)) in
      subst (λ s. IfOk result (IsValueOf s ls)) (sym (struct_is d r.runnable name n fields there)) whole

  pub enum_below : (levels : ℕ) (name n : Name) (x : Decl) (cases given : List Case) → Some x ≡ decl_of d name → x ≡ decl.Enum n cases → given ≡ cases
      → (Each (IsReadable d levels) (flat_map payload_types given) → IfOk result (IsValueOf (Enum [] (cases_of (map (case_layer_of d) given))) ls))
      → IsReadable d (levels + 1) (type.Named name) → IfOk result (IsValueOf (shape_of d (type.Named name)) ls)
  enum_below levels name n x cases given found is same read r =
      let there : decl_of d name ≡ Some (decl.Enum n cases) = sym found ∙ ap Some is in
      let parts = enum_parts d r.runnable levels name n cases there r in
      let IsRead : List Case → Type 0 = λ cs. IfOk result (IsValueOf (Enum [] (cases_of (map (case_layer_of d) cs))) ls) in
      let whole : IsRead cases = subst IsRead same (read (subst (λ cs. Each (IsReadable d levels) (flat_map payload_types cs)) (sym same) parts)) in
      subst (λ s. IfOk result (IsValueOf s ls)) (sym (enum_is d r.runnable name n cases there)) whole

  pub case_below : (levels : ℕ) (cases : List Case) (k : ℕ) (c : Case) (l : Leaf) (behind : List Leaf) → slice_get cases k ≡ Some c
      → Some l ≡ slice_get ls 0 → l ≡ leaf.Tag k → behind ≡ drop 1 ls
      → (Each (IsReadable d levels) (option_to_list c.payload) → IfOk result (IsCaseOf k (option_map (shape_of d) c.payload) behind))
      → Each (IsReadable d levels) (flat_map payload_types cases) → IfOk result (IsValueOf (Enum [] (cases_of (map (case_layer_of d) cases))) ls)
  case_below levels cases k c l behind there first tag is_behind read each =
      let leaves : leaf.Tag k ∷ behind ≡ ls = ap (λ ks. leaf.Tag k ∷ ks) is_behind ∙ sym (first_is ls (leaf.Tag k) (sym first ∙ ap Some tag)) in
      let payload = each_within payload_types (IsReadable d levels) cases k c each there in
      let IsRead : List Leaf → Val → Type 0 = λ ks. IsValueOf (Enum [] (cases_of (map (case_layer_of d) cases))) ks in
      subst (λ ks. IfOk result (IsRead ks)) leaves
      (if_ok (IsCaseOf k (option_map (shape_of d) c.payload) behind) (IsRead (leaf.Tag k ∷ behind)) (λ v h. case_read d [] cases k c behind v there h) result (read payload))

-- the payload is read from the first leaves
pub full_below : (d : Declarations) (levels k : ℕ) (t : TypeName) (ls first : List Leaf) (count : ℕ) (v payload : Val) → (leaves_of d t ≤ LEAVES → count ≡ leaves_of d t)
    → first ≡ take count ls → (IsReadable d levels t → IsValueOf (shape_of d t) first v) → payload ≡ v
    → IsReadable d levels t → IsCaseOf k (Some (shape_of d t)) ls (val.Chosen k (Some payload))
full_below d levels k t ls first count v payload counted is_first read same r =
    let size : count ≡ (in_leaves (shape_of d t)).size = counted r.leaves ∙ sym (size_measured d r.runnable t r.plain) in
    let here = subst (λ ls. IsValueOf (shape_of d t) ls v) (is_first ∙ ap (λ n. take n ls) size) (read r) in
    subst (λ w. IsCaseOf k (Some (shape_of d t)) ls (val.Chosen k (Some w))) (sym same) (full_read k (shape_of d t) ls v here)
