-- Types whose values are read one after another.
use Rattle.std.proofs.Common.{◌≡◌, ◌+◌, ◌<◌, ◌≤◌, ◌++◌, ℕ, zero, suc, List, [], ◌∷◌, true, false, cond, not, map, take, drop, length, get_or, refl, sym, ap, ◌∙◌, subst, arith, add-one, drop-cons}
use Rattle.argument_conventions.specs.Arguments.{direct_results}
use Rattle.numbered_form.specs.Lists.{Each}
use Rattle.holder_model_values.specs.RunValues.Leaves.{in_leaves}
use Rattle.holder_model_values.specs.RunValues.Shapes.{Tuple, members_of, shape_of}
use Rattle.holder_model_values.specs.declared.run_values.leaf.Leaf.{Leaf}
use Rattle.holder_model_values.specs.declared.run_values.value.Val.{Val}
use Rattle.holder_model_values.specs.declared.run_values.value.Val.TheVariants as val
use Rattle.sil_ast.specs.declared.decl.Field.{Field}
use Rattle.sil_ast.specs.declared.signature.Given.{Given}
use Rattle.sil_ast.specs.declared.type_name.TypeName.{TypeName}
use Rattle.sil_rules.specs.declared.limits.TheConstants.{LEAVES}
use Rattle.sil_types_declarations.specs.TypeDefinitions.Contained.{field_type}
use Rattle.sil_types_declarations.specs.TypeDefinitions.Declarations.{Declarations}
use Rattle.sil_types_declarations.specs.TypeDefinitions.Measures.{leaves_of}
use Rattle.sil_types_declarations.specs.TypeDefinitions.Mentions.{direct_types, result_type}
use Rattle.count_machine.specs.ValueReading.inner.Reading.{IsValueOf}
use Rattle.count_machine.specs.ValueReading.inner.Levels.{IsReadable}
use Rattle.count_machine.proofs.ValueReading.Members.{ReadsOn, ends, goes_on, group_read}
use Rattle.count_machine.proofs.ValueReading.Sized.{size_measured}

-- of types that can all be read some are read, and others are still to be read from the rest
abbrev pub ReadsTypes : Declarations → ℕ → List TypeName → List Leaf → List Val → List TypeName → List Leaf → Type 0
ReadsTypes d levels types ls vs more rest =
    Each (IsReadable d levels) types → Each (IsReadable d levels) more × ReadsOn (map (shape_of d) types) ls vs (map (shape_of d) more) rest

-- what is left begins with what stands at the index

pub first_of : {X : Type 0} (xs : List X) (i : ℕ) (x : X) → i < length xs → x ≡ get_or xs i x → drop i xs ≡ x ∷ drop (i + 1) xs
first_of xs i x lt is = drop-cons xs i x lt ∙ ap (λ k. get_or xs i x ∷ drop k xs) (sym (add-one i)) ∙ ap (λ y. y ∷ drop (i + 1) xs) (sym is)

pub field_left : (fields : List Field) (i : ℕ) (x : Field) → i < length fields → x ≡ get_or fields i x
    → map field_type (drop i fields) ≡ x.ty ∷ map field_type (drop (i + 1) fields)
field_left fields i x lt is = ap (map field_type) (first_of fields i x lt is)

-- a direct result, or one that goes elsewhere

pub direct_left : (results : List Given) (i : ℕ) (x : Given) → i < length results → x ≡ get_or results i x → x.out ≡ false
    → direct_types (drop i results) ≡ x.ty ∷ direct_types (drop (i + 1) results)
direct_left results i x lt is direct =
    let rest = direct_results (drop (i + 1) results) in
    ap direct_types (first_of results i x lt is) ∙ ap (λ b. map result_type (cond (not b) (x ∷ rest) rest)) direct

pub out_left : (results : List Given) (i : ℕ) (x : Given) → i < length results → x ≡ get_or results i x → x.out ≡ true
    → direct_types (drop i results) ≡ direct_types (drop (i + 1) results)
out_left results i x lt is out =
    let rest = direct_results (drop (i + 1) results) in
    ap direct_types (first_of results i x lt is) ∙ ap (λ b. map result_type (cond (not b) (x ∷ rest) rest)) out

pub none_left : {X : Type 0} (xs : List X) (i : ℕ) → length xs ≤ i → drop i xs ≡ []
none_left [] zero le = refl
none_left [] (suc i) le = refl
none_left (x ∷ xs) zero le = absurd (omega arith)
none_left (x ∷ xs) (suc i) le = none_left xs i (omega arith)

module _ (d : Declarations) (levels : ℕ) (types : List TypeName) (ls : List Leaf) where
  -- the next of them is read from the first leaves of the rest
  pub next_read : (t : TypeName) (left more : List TypeName) (vs longer : List Val) (rest first behind : List Leaf) (count : ℕ) (v : Val) → left ≡ t ∷ more
      → ReadsTypes d levels types ls vs left rest → (leaves_of d t ≤ LEAVES → count ≡ leaves_of d t) → first ≡ take count rest
      → (IsReadable d levels t → IsValueOf (shape_of d t) first v) → longer ≡ vs ++ v ∷ [] → behind ≡ drop count rest
      → ReadsTypes d levels types ls longer more behind
  next_read t left more vs longer rest first behind count v begins on counted is_first read is_longer is_behind h =
      let so_far = subst (λ ts. Each (IsReadable d levels) ts × ReadsOn (map (shape_of d) types) ls vs (map (shape_of d) ts) rest) begins (on h) in
      let r = so_far.0.0 in
      let shapes = map (shape_of d) types in
      let shapes_left = map (shape_of d) more in
      let size : count ≡ (in_leaves (shape_of d t)).size = counted r.leaves ∙ sym (size_measured d r.runnable t r.plain) in
      let here = subst (λ ls. IsValueOf (shape_of d t) ls v) (is_first ∙ ap (λ n. take n rest) size) (read r) in
      let goes = goes_on shapes shapes_left (shape_of d t) ls rest vs v so_far.1 here in
      let so = subst (λ ws. ReadsOn shapes ls ws shapes_left (drop (in_leaves (shape_of d t)).size rest)) (sym is_longer) goes in
      (so_far.0.1, subst (λ ks. ReadsOn shapes ls longer shapes_left ks) (ap (λ n. drop n rest) (sym size) ∙ sym is_behind) so)

  -- nothing is read of what isn't one of them
  pub same_read : (left more : List TypeName) (vs same : List Val) (rest still : List Leaf) → left ≡ more → ReadsTypes d levels types ls vs left rest
      → same ≡ vs → still ≡ rest → ReadsTypes d levels types ls same more still
  same_read left more vs same rest still are on is_same is_still =
      subst (λ ws. ReadsTypes d levels types ls ws more still) (sym is_same)
      (subst (λ ks. ReadsTypes d levels types ls vs more ks) (sym is_still) (subst (λ ts. ReadsTypes d levels types ls vs ts rest) are on))

  -- where none is left, the values are those of the members
  pub all_read : (left : List TypeName) (vs members : List Val) (rest : List Leaf) → left ≡ [] → ReadsTypes d levels types ls vs left rest → members ≡ vs
      → Each (IsReadable d levels) types → IsValueOf (Tuple (members_of (map (shape_of d) types))) ls (val.Group members)
  all_read left vs members rest none on same h =
      let shapes = map (shape_of d) types in
      let at_end = subst (λ ts. ReadsOn shapes ls vs (map (shape_of d) ts) rest) none (on h).1 in
      subst (λ ws. IsValueOf (Tuple (members_of shapes)) ls (val.Group ws)) (sym same) (group_read shapes ls vs (ends shapes ls rest vs at_end))
