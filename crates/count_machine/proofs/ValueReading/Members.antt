-- Members are read one after another, each from the first leaves of those that are left.
use Rattle.std.proofs.Common.{◌≡◌, ◌++◌, List, [], ◌∷◌, Option, Some, None, map, take, drop, refl, sym, ap, ap₂, ◌∙◌, subst}
use Rattle.std.specs.Prelude.{option_map}
use Rattle.std.proofs.Common.{append_assoc}
use Rattle.std.proofs.lemmas.List.{append-nil}
use Rattle.holder_model_values.specs.RunValues.Leaves.{in_leaves, leaves_layer, values_each, with_more}
use Rattle.holder_model_values.specs.RunValues.Shapes.{Shape, Tuple, each_by_layers, members_of}
use Rattle.holder_model_values.specs.RunValues.Values.{Value, grouped, val_of, vals_of, values_of}
use Rattle.holder_model_values.specs.declared.run_values.leaf.Leaf.{Leaf}
use Rattle.holder_model_values.specs.declared.run_values.value.Val.{Val}
use Rattle.holder_model_values.specs.declared.run_values.value.Val.TheVariants as val
use Rattle.count_machine.specs.ValueReading.inner.Reading.{IsValueOf}

pub each_in_leaves : (ss : List Shape) → each_by_layers leaves_layer (members_of ss) ≡ map in_leaves ss
each_in_leaves [] = refl
each_in_leaves (s ∷ ss) = ap (λ ts. in_leaves s ∷ ts) (each_in_leaves ss)

-- the values are those of the shapes, side by side, with these leaves, where some have them
abbrev pub AreValuesOf : List Shape → List Leaf → List Val → Type 0
AreValuesOf ss ls vs = (xs : List Value) → values_each (map in_leaves ss) ls ≡ Some xs → vs ≡ map val_of xs

none_of : (ls : List Leaf) → AreValuesOf [] ls []
none_of ls xs e = let same : [] ≡ xs = cc in ap (map val_of) same

both_there : (o : Option Value) (os : Option (List Value)) (xs : List Value) → with_more o os ≡ Some xs
    → (y : Value) × (ys : List Value) × (o ≡ Some y) × (os ≡ Some ys) × (xs ≡ y ∷ ys)
both_there None os xs e = cc
both_there (Some y) None xs e = cc
both_there (Some y) (Some ys) xs e = (y, ys, refl, refl, cc)

one_more : (s : Shape) (ss : List Shape) (ls : List Leaf) (v : Val) (vs : List Val) → IsValueOf s (take (in_leaves s).size ls) v
    → AreValuesOf ss (drop (in_leaves s).size ls) vs → AreValuesOf (s ∷ ss) ls (v ∷ vs)
one_more s ss ls v vs first others xs e =
    let t = in_leaves s in
    let there = both_there (t.value (take t.size ls)) (values_each (map in_leaves ss) (drop t.size ls)) xs e in
    ap₂ (λ w ws. w ∷ ws) (first there.0 there.2) (others there.1 there.3) ∙ ap (map val_of) (sym there.4)

-- once the values of some of the shapes are read, those of the others are still to be read from the rest
abbrev pub ReadsOn : List Shape → List Leaf → List Val → List Shape → List Leaf → Type 0
ReadsOn ss ls vs more rest = (tail : List Val) → AreValuesOf more rest tail → AreValuesOf ss ls (vs ++ tail)

pub goes_on : (ss more : List Shape) (s : Shape) (ls rest : List Leaf) (vs : List Val) (v : Val) → ReadsOn ss ls vs (s ∷ more) rest
    → IsValueOf s (take (in_leaves s).size rest) v → ReadsOn ss ls (vs ++ v ∷ []) more (drop (in_leaves s).size rest)
goes_on ss more s ls rest vs v on first tail h =
    subst (AreValuesOf ss ls) (sym (append_assoc vs (v ∷ []) tail)) (on (v ∷ tail) (one_more s more rest v tail first h))

pub ends : (ss : List Shape) (ls rest : List Leaf) (vs : List Val) → ReadsOn ss ls vs [] rest → AreValuesOf ss ls vs
ends ss ls rest vs on = subst (AreValuesOf ss ls) (append-nil vs) (on [] (none_of rest))

-- the values of all members are those of a struct or tuple

vals_listed : (xs : List Value) → vals_of (values_of xs) ≡ map val_of xs
vals_listed [] = refl
vals_listed (x ∷ xs) = ap (λ vs. val_of x ∷ vs) (vals_listed xs)

grouped_there : (o : Option (List Value)) (x : Value) → option_map grouped o ≡ Some x → (xs : List Value) × (o ≡ Some xs) × (x ≡ grouped xs)
grouped_there None x e = cc
grouped_there (Some xs) x e = (xs, refl, cc)

pub group_read : (ss : List Shape) (ls : List Leaf) (vs : List Val) → AreValuesOf ss ls vs → IsValueOf (Tuple (members_of ss)) ls (val.Group vs)
group_read ss ls vs each x e =
    let there = grouped_there (values_each (each_by_layers leaves_layer (members_of ss)) ls) x e in
    let xs = there.0 in
    let found : values_each (map in_leaves ss) ls ≡ Some xs = ap (λ ts. values_each ts ls) (sym (each_in_leaves ss)) ∙ there.1 in
    ap val.Group (each xs found ∙ sym (vals_listed xs)) ∙ ap val_of (sym there.2)
