-- A step of the loop that lays what was gathered over the leaves of a frame.
use Rattle.std.proofs.Common.{◌≡◌, ℕ, ◌+◌, ◌-◌, ◌<◌, ◌≤◌, min, List, [], ◌∷◌, ◌++◌, length, take, drop, get_or, length-append, sym, ap, ◌∙◌, arith}
use Rattle.std.specs.List.{flat_map}
use Rattle.std.proofs.lemmas.List.{take_more}
use Rattle.std.proofs.lemmas.List.Folds.{length-flat_map-take}
use Rattle.std.proofs.lemmas.List.Sums.{fold_more}
use Rattle.std.proofs.lemmas.Grind.{flat_map-append}
use Rattle.std.proofs.lemmas.List.{append-nil}
use Rattle.count_machine_model.specs.declared.ready_code.local.Carry.{Carry}
use Rattle.holder_model_values.specs.declared.run_values.leaf.Leaf.{Leaf}
use Rattle.count_machine_model.specs.MachineSteps.Operands.{laid_over}
use Rattle.count_machine_leaves.specs.LeafWindows.inner.Carried.{all_laid, carried_from, laid_by}
use Rattle.count_machine_leaves.proofs.LeafWindows.Pieces.{laid_over-capped, length-window, piece}

length-flat_map-more : {X A : Type 0} (f : X → List A) (xs : List X) (i : ℕ) (d : X) → i < length xs →
    length (flat_map f (take (i + 1) xs)) ≡ length (flat_map f (take i xs)) + length (f (get_or xs i d))
length-flat_map-more f xs i d h =
    ap (λ ys. length (flat_map f ys)) (take_more xs i d h) ∙ ap length (flat_map-append f (take i xs) (get_or xs i d ∷ []))
    ∙ length-append (flat_map f (take i xs)) (f (get_or xs i d) ++ []) ∙ ap (λ ys. length (flat_map f (take i xs)) + length ys) (append-nil (f (get_or xs i d)))

module _ (from to cap : ℕ) (leaves now moving : List Leaf) (cs : List Carry) (i : ℕ) (d : Carry) (begin at base : ℕ) (read v next : List Leaf)
    (in_list : i < length cs)
    (fits : length leaves ≤ cap)
    (same_length : length now ≡ length leaves)
    (gathered : moving ≡ flat_map (carried_from from leaves) cs)
    (begun : begin ≡ length (flat_map (carried_from from leaves) (take i cs)))
    (laid : now ≡ all_laid (carried_from from leaves) to (take i cs) leaves)
    (at-is : at ≡ min (from + (get_or cs i d).from.at) cap)
    (read-is : read ≡ take (get_or cs i d).from.size (drop at now))
    (base-is : base ≡ min (to + (get_or cs i d).to.at) cap)
    (v-is : v ≡ take (length read) (drop begin moving))
    (next-is : next ≡ laid_over base v now)
  where
    abbrev c : Carry
    c = get_or cs i d

    abbrev f : Carry → List Leaf
    f = carried_from from leaves

    size-is : length read ≡ length (f c)
    size-is = ap length read-is ∙ length-window c.from.size at now ∙ (let e : min c.from.size (length now - at) ≡ min c.from.size (length leaves - (from + c.from.at)) = omega arith in e)
        ∙ sym (length-window c.from.size (from + c.from.at) leaves)

    pub within : begin + length read ≤ length moving
    within = omega (arith, size-is, ap length gathered, length-flat_map-take f cs i d in_list)

    pub begun-more : begin + length read ≡ length (flat_map f (take (i + 1) cs))
    begun-more = omega (arith, size-is, length-flat_map-more f cs i d in_list)

    carried-is : v ≡ f c
    carried-is =
        v-is ∙ ap (λ n. take n (drop begin moving)) size-is ∙ ap (λ n. take (length (f c)) (drop n moving)) begun
        ∙ ap (λ xs. take (length (f c)) (drop (length (flat_map f (take i cs))) xs)) gathered ∙ piece f cs i d in_list

    pub laid-more : next ≡ all_laid f to (take (i + 1) cs) leaves
    laid-more =
        next-is ∙ laid_over-capped (to + c.to.at) base cap v now base-is (omega arith) ∙ ap (λ xs. laid_over (to + c.to.at) xs now) carried-is
        ∙ ap (λ xs. laid_over (to + c.to.at) (f c) xs) laid ∙ sym (fold_more (laid_by f to) leaves cs i d in_list)
