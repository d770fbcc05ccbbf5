-- Parts of a shape whose paths part ways have no cell in common.
use Rattle.std.proofs.Common.{◌≡◌, ◌≢◌, ℕ, zero, suc, ◌+◌, ◌<◌, ◌≤◌, List, [], ◌∷◌, map, take, sym, ap, ◌∙◌, subst, arith, ◌⊎◌, inl, inr, false, ◌&&◌, Some, eq-eqb}
use Rattle.std.specs.Prelude.{slice_get, unwrap_or}
use Rattle.std.specs.List.{starts_with}
use Rattle.std.proofs.lemmas.Bool.{cases_eq, cases_lt, true≢false}
use Rattle.std.proofs.lemmas.List.Sums.{sum_by-cons}
use Rattle.std.proofs.lemmas.Option.{none-some, same_Some}
use Rattle.sil_verifier_values.specs.memory_rules_accesses.Locations.{same_step}
use Rattle.sil_verifier_values.specs.holder_model_values.RunValues.Cells.{cell_count}
use Rattle.sil_verifier_values.specs.holder_model_values.RunValues.Places.{offset}
use Rattle.sil_verifier_values.specs.holder_model_values.RunValues.Shapes.{Shape, Unknown, member_shapes}
use Rattle.sil_verifier_values.specs.holder_model_values.ValueParts.inner.Paths.{IsPart, cells_before, here, inside}
use Rattle.sil_verifier_values.proofs.holder_model_values.ValueParts.Paths.{part_cells_fit}
use Rattle.sil_verifier_trails.specs.AcceptedPlaces.inner.Loans.{AreApartByCells, IsBefore}

-- a member ends before a later one begins
member_ends : (ss : List Shape) (k l : ℕ) (t : Shape) → slice_get ss k ≡ Some t → k < l → offset ss k + cell_count t ≤ offset ss l
member_ends [] k l t e lt = absurd (none-some t e)
member_ends (s ∷ ss) k zero t e lt = absurd (omega arith)
member_ends (s ∷ ss) zero (suc l) t e lt =
    let same = ap cell_count (same_Some s t e) in
    let all : offset (s ∷ ss) (suc l) ≡ cell_count s + offset ss l = sum_by-cons (λ n. n) (cell_count s) (map cell_count (take l ss)) in
    omega (arith, same, all)
member_ends (s ∷ ss) (suc k) (suc l) t e lt =
    let others = member_ends ss k l t e (omega arith) in
    let one : offset (s ∷ ss) (suc k) ≡ cell_count s + offset ss k = sum_by-cons (λ n. n) (cell_count s) (map cell_count (take k ss)) in
    let other : offset (s ∷ ss) (suc l) ≡ cell_count s + offset ss l = sum_by-cons (λ n. n) (cell_count s) (map cell_count (take l ss)) in
    omega (arith, others, one, other)

inner : (s t : Shape) (k : ℕ) (path : List ℕ) → slice_get (member_shapes s) k ≡ Some t → cells_before s (k ∷ path) ≡ offset (member_shapes s) k + cells_before t path
inner s t k path e = ap (λ o. offset (member_shapes s) k + cells_before (unwrap_or o Unknown) path) e

-- parts of an earlier and of a later member
ends_before : (s t u p q : Shape) (k l : ℕ) (a b : List ℕ) → slice_get (member_shapes s) k ≡ Some t → slice_get (member_shapes s) l ≡ Some u
    → IsPart t a p → IsPart u b q → k < l → IsBefore s (k ∷ a) p (l ∷ b)
ends_before s t u p q k l a b e g one other lt =
    let fits = part_cells_fit one in
    let ends = member_ends (member_shapes s) k l t e lt in
    let first = inner s t k a e in
    let second = inner s u l b g in
    omega (arith, fits, ends, first, second)

apart : {s p q : Shape} {a b : List ℕ} → IsPart s a p → IsPart s b q → starts_with same_step a b ≡ false → starts_with same_step b a ≡ false
    → IsBefore s a p b ⊎ IsBefore s b q a
apart here other no_b no_a = absurd (true≢false no_a)
apart (inside e one) here no_b no_a = absurd (true≢false no_b)
apart (inside {s = s} {t = t} {u = p} {k = k} {path = a} e one) (inside {t = u} {u = q} {k = l} {path = b} g other) no_b no_a =
    by (cases_eq k l) (λ more no yes. apart one more no yes)
  where
    deeper : IsPart t b q → k ≡ l → IsBefore t a p b ⊎ IsBefore t b q a → IsBefore s (k ∷ a) p (l ∷ b) ⊎ IsBefore s (l ∷ b) q (k ∷ a)
    deeper more same (inl before) =
        let first = inner s t k a e in
        let second = inner s u l b g in
        let one_shape : u ≡ t = same_Some u t (sym g ∙ ap (slice_get (member_shapes s)) (sym same) ∙ e) in
        let cells = ap (λ x. cells_before x b) one_shape in
        let start = ap (offset (member_shapes s)) same in
        inl (omega (arith, first, second, cells, start, before))
    deeper more same (inr before) =
        let first = inner s t k a e in
        let second = inner s u l b g in
        let one_shape : u ≡ t = same_Some u t (sym g ∙ ap (slice_get (member_shapes s)) (sym same) ∙ e) in
        let cells = ap (λ x. cells_before x b) one_shape in
        let start = ap (offset (member_shapes s)) same in
        inr (omega (arith, first, second, cells, start, before))

    by : (k ≡ l) ⊎ (k ≢ l) → (IsPart t b q → starts_with same_step a b ≡ false → starts_with same_step b a ≡ false → IsBefore t a p b ⊎ IsBefore t b q a)
        → IsBefore s (k ∷ a) p (l ∷ b) ⊎ IsBefore s (l ∷ b) q (k ∷ a)
    by (inl same) further =
        let one_shape : u ≡ t = same_Some u t (sym g ∙ ap (slice_get (member_shapes s)) (sym same) ∙ e) in
        let more = subst (λ x. IsPart x b q) one_shape other in
        deeper more same (further more (sym (ap (λ x. x && starts_with same_step a b) (eq-eqb l k (sym same))) ∙ no_b)
        (sym (ap (λ x. x && starts_with same_step b a) (eq-eqb k l same)) ∙ no_a))
    by (inr differ) further = at (cases_lt k l)
      where
        at : (k < l) ⊎ (l ≤ k) → IsBefore s (k ∷ a) p (l ∷ b) ⊎ IsBefore s (l ∷ b) q (k ∷ a)
        at (inl lt) = inl (ends_before s t u p q k l a b e g one other lt)
        at (inr le) = inr (ends_before s u t q p l k b a g e other one (omega (arith, differ)))

pub apart_by_cells : AreApartByCells
apart_by_cells s p q a b one other no_b no_a = apart one other no_b no_a
