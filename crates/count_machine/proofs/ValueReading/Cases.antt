-- A case is read by its tag, and its payload from the first leaves behind it.
use Rattle.std.proofs.Common.{◌≡◌, ℕ, List, [], ◌∷◌, Option, Some, None, map, take, drop, refl, sym, ap, ◌∙◌}
use Rattle.std.specs.Prelude.{option_map, slice_get}
use Rattle.std.proofs.lemmas.Option.{slice_get-map}
use Rattle.holder_model_values.specs.RunValues.Layers.{CaseLayer}
use Rattle.holder_model_values.specs.RunValues.Leaves.{InLeaves, case_value, in_leaves, leaves_layer}
use Rattle.holder_model_values.specs.RunValues.Shapes.{CaseShapes, Enum, Shape, cases_by_layers, cases_of, shape_of, with_case}
use Rattle.holder_model_values.specs.RunValues.Values.{Value, Full, chosen, val_of}
use Rattle.holder_model_values.specs.declared.run_values.leaf.Leaf.{Leaf}
use Rattle.holder_model_values.specs.declared.run_values.leaf.Leaf.TheVariants as leaf
use Rattle.holder_model_values.specs.declared.run_values.value.Val.{Val}
use Rattle.holder_model_values.specs.declared.run_values.value.Val.TheVariants as val
use Rattle.numbered_form.specs.Names.{Name}
use Rattle.sil_ast.specs.declared.decl.Case.{Case}
use Rattle.sil_types_declarations.specs.TypeDefinitions.Declarations.{Declarations}
use Rattle.count_machine.specs.ValueReading.inner.Reading.{IsValueOf}
use Rattle.count_machine.specs.ValueReading.inner.Payloads.{IsCaseOf, case_layer_of}

pub first_is : (ls : List Leaf) (l : Leaf) → slice_get ls 0 ≡ Some l → ls ≡ l ∷ drop 1 ls
first_is [] l e = cc
first_is (x ∷ ls) l e = let same : x ≡ l = cc in ap (λ y. y ∷ ls) same

abbrev case_in_leaves : CaseLayer Shape → CaseLayer InLeaves
case_in_leaves c = record { name = c.name; payload = option_map in_leaves c.payload }

one_case : (name : Name) (payload : Option Shape) (others : CaseShapes)
    → cases_by_layers leaves_layer (with_case name payload others) ≡ record { name = name; payload = option_map in_leaves payload } ∷ cases_by_layers leaves_layer others
one_case name None others = refl
one_case name (Some s) others = refl

cases_in_leaves : (cs : List (CaseLayer Shape)) → cases_by_layers leaves_layer (cases_of cs) ≡ map case_in_leaves cs
cases_in_leaves [] = refl
cases_in_leaves (c ∷ cs) = one_case c.name c.payload (cases_of cs) ∙ ap (λ ks. case_in_leaves c ∷ ks) (cases_in_leaves cs)

-- what stands at the place of a case among those of an enum
case_there : (d : Declarations) (cases : List Case) (k : ℕ)
    → slice_get (cases_by_layers leaves_layer (cases_of (map (case_layer_of d) cases))) k ≡ option_map case_in_leaves (option_map (case_layer_of d) (slice_get cases k))
case_there d cases k =
    ap (λ ks. slice_get ks k) (cases_in_leaves (map (case_layer_of d) cases))
    ∙ slice_get-map case_in_leaves (map (case_layer_of d) cases) k
    ∙ ap (option_map case_in_leaves) (slice_get-map (case_layer_of d) cases k)

pub case_read : (d : Declarations) (name : Name) (cases : List Case) (k : ℕ) (c : Case) (rest : List Leaf) (v : Val) → slice_get cases k ≡ Some c
    → IsCaseOf k (option_map (shape_of d) c.payload) rest v → IsValueOf (Enum name (cases_of (map (case_layer_of d) cases))) (leaf.Tag k ∷ rest) v
case_read d name cases k c rest v there is x e =
    is x (ap (λ o. case_value k o rest) (sym (case_there d cases k ∙ ap (λ o. option_map case_in_leaves (option_map (case_layer_of d) o)) there)) ∙ e)

pub no_case : (d : Declarations) (name : Name) (cases : List Case) (k : ℕ) (rest : List Leaf) (v : Val) → slice_get cases k ≡ None
    → IsValueOf (Enum name (cases_of (map (case_layer_of d) cases))) (leaf.Tag k ∷ rest) v
no_case d name cases k rest v there x e =
    let none : case_value k None rest ≡ Some x =
    ap (λ o. case_value k o rest) (sym (case_there d cases k ∙ ap (λ o. option_map case_in_leaves (option_map (case_layer_of d) o)) there)) ∙ e in
    cc

full_there : (k : ℕ) (o : Option Value) (x : Value) → option_map (λ v. chosen k (Some v)) o ≡ Some x → (y : Value) × (o ≡ Some y) × (x ≡ Full k y)
full_there k None x e = cc
full_there k (Some y) x e = (y, refl, cc)

pub full_read : (k : ℕ) (s : Shape) (rest : List Leaf) (v : Val) → IsValueOf s (take (in_leaves s).size rest) v → IsCaseOf k (Some s) rest (val.Chosen k (Some v))
full_read k s rest v is x e =
    let there = full_there k ((in_leaves s).value (take (in_leaves s).size rest)) x e in
    ap (λ w. val.Chosen k (Some w)) (is there.0 there.1) ∙ ap val_of (sym there.2)
