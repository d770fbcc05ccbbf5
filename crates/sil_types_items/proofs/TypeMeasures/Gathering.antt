-- What measures that are counted just past the limits come to.
use Rattle.std.proofs.Common.{◌≡◌, ℕ, ◌+◌, ◌<◌, length, get_or, take, List, [], ◌∷◌, ◌++◌, map, refl, sym, ap, ◌∙◌, arith, Bool, true, false, append_assoc, drop, add-one}
use Rattle.std.specs.Prelude.{min, max, sum, cond, ◌&&◌, fold}
use Rattle.std.proofs.Math.Seq.{drop-cons}
use Rattle.std.specs.List.{flat_map}
use Rattle.std.proofs.lemmas.List.{map-append, append-nil, take_more}
use Rattle.std.proofs.lemmas.Grind.{flat_map-append}
use Rattle.std.proofs.lemmas.List.Folds.{list_all-append}
use Rattle.std.proofs.lemmas.List.Sums.{sum_by-append}
use Rattle.sil_ast.specs.TypeName.{largest}
use Rattle.sil_ast.specs.declared.signature.Given.{Given}
use Rattle.sil_ast.specs.declared.type_name.TypeName.{TypeName}
use Rattle.argument_conventions.specs.Arguments.{direct_results, is_direct}
use Rattle.sil_types_declarations.specs.TypeDefinitions.Measures.{all_trivial, all_leaves, most_leaves, most_depth, of_members, of_payloads, of_storage, leaves_in, depth_in, is_trivial_measure}
use Rattle.sil_types_declarations.specs.TypeDefinitions.Measures.{measured}
use Rattle.sil_types_declarations.specs.declared.type_definitions.measure.Measure.{Measure}
use Rattle.sil_types_declarations.specs.TypeDefinitions.Mentions.{direct_types, result_type}
use Rattle.sil_types_items.specs.declared.type_measures.gathered.Gathered.{Gathered}
use Rattle.sil_types_items.specs.TypeMeasures.inner.Gathered.{capped, gathered, with_member, with_members, as_members, as_payloads}
use Rattle.sil_types_items.specs.declared.type_measures.gathered.TheConstants.{MOST_DEPTH, MOST_LEAVES}

all_leaves-push : (ms : List Measure) (m : Measure) → all_leaves (ms ++ m ∷ []) ≡ all_leaves ms + m.leaves
all_leaves-push ms m = ap sum (map-append leaves_in ms (m ∷ [])) ∙ sum_by-append (λ n. n) (map leaves_in ms) (m.leaves ∷ []) ∙ omega arith

largest-push : (ns : List ℕ) (n : ℕ) → largest (ns ++ n ∷ []) ≡ max (largest ns) n
largest-push [] n = omega arith
largest-push (k ∷ ns) n = let rest = largest-push ns n in ap (max k) rest ∙ omega arith

most-push : (f : Measure → ℕ) (ms : List Measure) (m : Measure) → largest (map f (ms ++ m ∷ [])) ≡ max (largest (map f ms)) (f m)
most-push f ms m = ap largest (map-append f ms (m ∷ [])) ∙ largest-push (map f ms) (f m)

and_true : (b : Bool) → (b && true) ≡ b
and_true true = refl
and_true false = refl

all_trivial-push : (ms : List Measure) (m : Measure) → all_trivial (ms ++ m ∷ []) ≡ (all_trivial ms && m.trivial)
all_trivial-push ms m = list_all-append is_trivial_measure ms (m ∷ []) ∙ ap (λ b. all_trivial ms && b) (and_true m.trivial)

abbrev make : Bool → ℕ → ℕ → ℕ → Gathered
make trivial leaves most depth = record { trivial = trivial; leaves = leaves; most = most; depth = depth }

make_same : (a a' : Bool) (b b' c c' d d' : ℕ) → a ≡ a' → b ≡ b' → c ≡ c' → d ≡ d' → make a b c d ≡ make a' b' c' d'
make_same a a' b b' c c' d d' ea eb ec ed = ap (λ x. make x b c d) ea ∙ ap (λ x. make a' x c d) eb ∙ ap (λ x. make a' b' x d) ec ∙ ap (λ x. make a' b' c' x) ed

measured_same : (a : Bool) (b b' c c' : ℕ) → b ≡ b' → c ≡ c' → measured a b c ≡ measured a b' c'
measured_same a b b' c c' eb ec = ap (λ x. measured a x c) eb ∙ ap (λ x. measured a b' x) ec

sum_capped : (n k all : ℕ) → all ≡ n + k → min (min n MOST_LEAVES + min k MOST_LEAVES) MOST_LEAVES ≡ min all MOST_LEAVES
sum_capped n k all e = omega (arith, e)

max_capped : (limit n k all : ℕ) → all ≡ max n k → max (min n limit) (min k limit) ≡ min all limit
max_capped limit n k all e = omega (arith, e)

next_capped : (limit n : ℕ) → 0 < limit → min (min n limit + 1) limit ≡ min (1 + n) limit
next_capped limit n h = omega (arith, h)

-- one more measure
pub gathered_push : (ms : List Measure) (m : Measure) → with_member (gathered ms) (capped m) ≡ gathered (ms ++ m ∷ [])
gathered_push ms m =
    make_same _ _ _ _ _ _ _ _
    (sym (all_trivial-push ms m))
    (sum_capped (all_leaves ms) m.leaves (all_leaves (ms ++ m ∷ [])) (all_leaves-push ms m))
    (max_capped MOST_LEAVES (most_leaves ms) m.leaves (most_leaves (ms ++ m ∷ [])) (most-push leaves_in ms m))
    (max_capped MOST_DEPTH (most_depth ms) m.depth (most_depth (ms ++ m ∷ [])) (most-push depth_in ms m))

pub members_capped : (ms : List Measure) → as_members (gathered ms) ≡ capped (of_members ms)
members_capped ms = ap (λ d. measured (all_trivial ms) (min (all_leaves ms) MOST_LEAVES) d) (next_capped MOST_DEPTH (most_depth ms) (omega arith))

pub payloads_capped : (ms : List Measure) → as_payloads (gathered ms) ≡ capped (of_payloads ms)
payloads_capped ms = measured_same (all_trivial ms) _ _ _ _ (next_capped MOST_LEAVES (most_leaves ms) (omega arith)) (next_capped MOST_DEPTH (most_depth ms) (omega arith))

-- all of them, from one on
pub gathered_behind : (before ms : List Measure) → fold with_member (gathered before) (map capped ms) ≡ gathered (before ++ ms)
gathered_behind before [] = ap gathered (sym (append-nil before))
gathered_behind before (m ∷ ms) =
    ap (λ g. fold with_member g (map capped ms)) (gathered_push before m)
    ∙ gathered_behind (before ++ m ∷ []) ms
    ∙ ap gathered (append_assoc before (m ∷ []) ms)

-- what measures come to goes by what they are just past the limits
pub gathered_same : (ms ns : List Measure) → map capped ms ≡ map capped ns → gathered ms ≡ gathered ns
gathered_same ms ns e = sym (gathered_behind [] ms) ∙ ap (fold with_member (gathered [])) e ∙ gathered_behind [] ns

pub storage_capped : (m : Measure) → measured false 1 (min ((capped m).depth + 1) MOST_DEPTH) ≡ capped (of_storage m)
storage_capped m = ap (λ d. measured false 1 d) (next_capped MOST_DEPTH m.depth (omega arith))

pub capped_twice : (m : Measure) → capped (capped m) ≡ capped m
capped_twice m = measured_same m.trivial _ _ _ _ (omega arith) (omega arith)

map_next : {X : Type 0} (F : X → Measure) (xs : List X) (i : ℕ) (x : X) → i < length xs → x ≡ get_or xs i x → map F (take (i + 1) xs) ≡ map F (take i xs) ++ F x ∷ []
map_next F xs i x lt is = ap (map F) (take_more xs i x lt) ∙ map-append F (take i xs) (get_or xs i x ∷ []) ∙ ap (λ y. map F (take i xs) ++ F y ∷ []) (sym is)

-- the next of some measures
pub gathered_next : {X : Type 0} (F : X → Measure) (xs : List X) (i : ℕ) (x : X) (new old : Gathered) (m : Measure) → i < length xs → x ≡ get_or xs i x → old ≡ gathered (map F (take i xs))
    → m ≡ capped (F x) → new ≡ with_member old m → new ≡ gathered (map F (take (i + 1) xs))
gathered_next F xs i x new old m lt is so_far this more =
    more ∙ ap (λ g. with_member g m) so_far ∙ ap (with_member (gathered (map F (take i xs)))) this ∙ gathered_push (map F (take i xs)) (F x) ∙ ap gathered (sym (map_next F xs i x lt is))

map_twice : {X Y : Type 0} (F : X → Measure) (f : Y → X) (ys : List Y) → map F (map f ys) ≡ map (λ y. F (f y)) ys
map_twice F f [] = refl
map_twice F f (y ∷ ys) = ap (λ r. F (f y) ∷ r) (map_twice F f ys)

pub gathered_next_of : {X Y : Type 0} (F : X → Measure) (f : Y → X) (ys : List Y) (i : ℕ) (y : Y) (new old : Gathered) (m : Measure) → i < length ys → y ≡ get_or ys i y
    → old ≡ gathered (map F (map f (take i ys))) → m ≡ capped (F (f y)) → new ≡ with_member old m → new ≡ gathered (map F (map f (take (i + 1) ys)))
gathered_next_of F f ys i y new old m lt is so_far this more =
    gathered_next (λ z. F (f z)) ys i y new old m lt is (so_far ∙ ap gathered (map_twice F f (take i ys))) this more ∙ ap gathered (sym (map_twice F f (take (i + 1) ys)))

-- of one part more, which has some types
pub gathered_flat : {X Y : Type 0} (F : X → Measure) (f : Y → List X) (ys : List Y) (i : ℕ) (y : Y) → i < length ys → y ≡ get_or ys i y
    → map F (flat_map f (take (i + 1) ys)) ≡ map F (flat_map f (take i ys)) ++ map F (f y)
gathered_flat F f ys i y lt is =
    ap (map F) (ap (flat_map f) (take_more ys i y lt) ∙ flat_map-append f (take i ys) (get_or ys i y ∷ []) ∙ ap (λ z. flat_map f (take i ys) ++ (f z ++ [])) (sym is)
    ∙ ap (λ r. flat_map f (take i ys) ++ r) (append-nil (f y)))
    ∙ map-append F (flat_map f (take i ys)) (f y)

one_result : (F : TypeName → Measure) (b : Bool) (x : Given) (ms : List Measure) (g : Gathered) →
    with_members (with_members g (map F (map result_type (cond b (x ∷ []) [])))) ms ≡ with_members g (map F (map result_type (cond b (x ∷ []) [])) ++ ms)
one_result F true x ms g = refl
one_result F false x ms g = refl

split_results : (b : Bool) (x : Given) (xs : List Given) → cond b (x ∷ xs) xs ≡ cond b (x ∷ []) [] ++ xs
split_results true x xs = refl
split_results false x xs = refl

-- what the results from the next one on come to, with those before it
pub next_result : (F : TypeName → Measure) (rs : List Given) (i : ℕ) (r : Given) (old new : Gathered) → i < length rs → r ≡ get_or rs i r
    → new ≡ with_members old (map F (direct_types (r ∷ []))) → with_members new (map F (direct_types (drop (i + 1) rs))) ≡ with_members old (map F (direct_types (drop i rs)))
next_result F rs i r old new lt is one =
    let behind = direct_results (drop (i + 1) rs) in
    ap (λ g. with_members g (map F (map result_type behind))) one
    ∙ one_result F (is_direct r) r (map F (map result_type behind)) old
    ∙ ap (with_members old) (sym (ap (map F) (ap (map result_type) (split_results (is_direct r) r behind)
    ∙ map-append result_type (cond (is_direct r) (r ∷ []) []) behind)
    ∙ map-append F (map result_type (cond (is_direct r) (r ∷ []) [])) (map result_type behind)))
    ∙ ap (λ y. with_members old (map F (direct_types (y ∷ drop (i + 1) rs)))) is
    ∙ ap (λ k. with_members old (map F (direct_types (get_or rs i r ∷ drop k rs)))) (add-one i)
    ∙ ap (λ ys. with_members old (map F (direct_types ys))) (sym (drop-cons rs i r lt))
