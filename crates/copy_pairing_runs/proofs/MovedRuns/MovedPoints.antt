-- Where frames of the function stand next, in the two runs.
use Rattle.std.proofs.Common.{◌≡◌, ◌⊎◌, inl, inr, ℕ, suc, ◌+◌, ◌<◌, ◌≤◌, length, refl, sym, ap, ap₂, ◌∙◌, arith, ⊎_elim}
use Rattle.std.proofs.lemmas.Bool.{cases_eq, cases_lt}
use Rattle.sil_ast.specs.declared.function.Function.{Function}
use Rattle.sil_ast.specs.declared.place.PointId.{PointId}
use Rattle.sil_ast.specs.declared.place.ValueId.{ValueId}
use Rattle.sil_cfg.specs.Items.{point_at}
use Rattle.holder_model_laws.specs.holder_model.Standing.{first_point, point_behind}
use Rattle.copy_pairing_acceptance.specs.MovedFunctions.inner.Structure.{old_point}
use Rattle.copy_pairing_acceptance.proofs.MovedFunctions.Lists.{stood_before, stood_behind}
use Rattle.copy_pairing_acceptance.proofs.MovedFunctions.Places.{old_block, old_elsewhere, old_here}
use Rattle.copy_pairing_acceptance.proofs.MovedFunctions.Split.{IsSplit}
use Rattle.copy_pairing_runs.specs.MovedRuns.inner.MovedFrames.{Lags}

module _ {f : Function} {p : PointId} {last : ℕ} {c v : ValueId} (s : IsSplit f p last c v) where
  abbrev LagsAt : PointId → Type 0
  LagsAt q = Lags p c v last q

  pub copy_first : p.index < last
  copy_first =
      let first : length s.front ≡ p.index = s.at_copy in
      let second : length s.front + suc (length s.middle) ≡ last = s.at_destroy in
      omega arith

  one_point : (q r : PointId) → q.block.0 ≡ r.block.0 → q.index ≡ r.index → q ≡ r
  one_point q r b i = ap₂ (λ x y. point_at x y) b i

  -- the old point of one before the destroy, and of one behind it
  pub old_before : (q : PointId) → q.block.0 ≡ p.block.0 → q.index < last → old_point p last q ≡ q
  old_before q e lt = old_here s q e ∙ ap (point_at q.block.0) (stood_before last q.index lt)

  pub old_behind : (q : PointId) → q.block.0 ≡ p.block.0 → last ≤ q.index → old_point p last q ≡ point_behind q
  old_behind q e le = old_here s q e ∙ ap (point_at q.block.0) (stood_behind last q.index le)

  pub old_copy : old_point p last p ≡ p
  old_copy = old_before p refl copy_first

  -- what stands at the point of the copy did so before
  pub at_copy : (q : PointId) → p ≡ old_point p last q → q ≡ p
  at_copy q e = by (cases_lt q.index last)
    where
      block : q.block.0 ≡ p.block.0
      block = sym (ap (λ (r : PointId). r.block.0) e ∙ old_block s q)

      by : (q.index < last) ⊎ (last ≤ q.index) → q ≡ p
      by (inl lt) = sym (e ∙ old_before q block lt)
      by (inr le) =
          let i : p.index ≡ suc q.index = ap (λ (r : PointId). r.index) (e ∙ old_behind q block le) in
          let lt = copy_first in
          absurd (omega arith)

  -- in the block, where a frame doesn't lag, it stands before the copy or behind the destroy
  before_copy : (q : PointId) → (LagsAt q → ⊥) → (q ≡ p → ⊥) → q.block.0 ≡ p.block.0 → q.index < last → q.index < p.index
  before_copy q outside ne block lt = by (cases_lt q.index p.index) (cases_eq q.index p.index)
    where
      by : (q.index < p.index) ⊎ (p.index ≤ q.index) → (q.index ≡ p.index) ⊎ (q.index ≡ p.index → ⊥) → q.index < p.index
      by (inl x) y = x
      by (inr x) (inl y) = absurd (ne (one_point q p block y))
      by (inr x) (inr y) = absurd (outside (record { block = block; behind = beyond p.index q.index x y; until = omega arith }))
        where
          beyond : (a b : ℕ) → a ≤ b → (b ≡ a → ⊥) → a < b
          beyond a b le other = ⊎_elim (λ (x : a < b). x) (λ (x : b ≤ a). absurd (other (omega (arith, x, le)))) (cases_lt a b)

  -- behind another item than the copy
  pub level_behind : (q q' : PointId) → q ≡ old_point p last q' → (LagsAt q → ⊥) → (q ≡ p → ⊥)
      → (point_behind q ≡ old_point p last (point_behind q')) × (LagsAt (point_behind q) → ⊥)
  level_behind q q' e outside ne = by_block (cases_eq q'.block.0 p.block.0)
    where
      by_place : q'.block.0 ≡ p.block.0 → (q'.index < last) ⊎ (last ≤ q'.index)
          → (point_behind q ≡ old_point p last (point_behind q')) × (LagsAt (point_behind q) → ⊥)
      by_place b (inl lt) =
          let same : q ≡ q' = e ∙ old_before q' b lt in
          let index : q.index ≡ q'.index = ap (λ (r : PointId). r.index) same in
          let block : q.block.0 ≡ p.block.0 = ap (λ (r : PointId). r.block.0) same ∙ b in
          let before : q.index < p.index = before_copy q outside ne block (let a = index in omega (arith, a, lt)) in
          let first = copy_first in
          (ap point_behind same ∙ sym (old_before (point_behind q') b (omega arith)), λ lags. let after = lags.behind in absurd (omega arith))
      by_place b (inr le) =
          let same : q ≡ point_behind q' = e ∙ old_behind q' b le in
          let index : q.index ≡ suc q'.index = ap (λ (r : PointId). r.index) same in
          (ap point_behind same ∙ sym (old_behind (point_behind q') b (omega arith)), λ lags. let end = lags.until in absurd (omega arith))

      by_block : (q'.block.0 ≡ p.block.0) ⊎ (q'.block.0 ≡ p.block.0 → ⊥)
          → (point_behind q ≡ old_point p last (point_behind q')) × (LagsAt (point_behind q) → ⊥)
      by_block (inl b) = by_place b (cases_lt q'.index last)
      by_block (inr other) =
          let same : q ≡ q' = e ∙ old_elsewhere s q' other in
          (ap point_behind same ∙ sym (old_elsewhere s (point_behind q') other), λ lags. other (sym (ap (λ (r : PointId). r.block.0) same) ∙ lags.block))

  pub lags_behind_copy : LagsAt (point_behind p)
  lags_behind_copy = let lt = copy_first in record { block = refl; behind = omega arith; until = omega arith }

  pub lags_behind : (q : PointId) → LagsAt q → (q ≡ point_at p.block.0 last → ⊥) → LagsAt (point_behind q)
  lags_behind q h ne = record {
    block = h.block;
    behind = let lt = h.behind in omega arith;
    until = by (cases_lt q.index last);
  }
    where
      by : (q.index < last) ⊎ (last ≤ q.index) → suc q.index ≤ last
      by (inl lt) = omega (arith, lt)
      by (inr le) = let end = h.until in absurd (ne (one_point q (point_at p.block.0 last) h.block (omega (arith, le, end))))

  -- the destroy is alone in the first run, which then stands where the second one does
  pub level_behind_gone : (point_behind (point_at p.block.0 last) ≡ old_point p last (point_at p.block.0 last)) × (LagsAt (point_behind (point_at p.block.0 last)) → ⊥)
  level_behind_gone = (
    sym (old_behind (point_at p.block.0 last) refl (omega arith)),
    λ lags. let end = lags.until in absurd (omega arith),
  )

  -- the first point of a block
  pub level_first : (b : ℕ) → (first_point b ≡ old_point p last (first_point b)) × (LagsAt (first_point b) → ⊥)
  level_first b = (by (cases_eq b p.block.0), λ lags. let after = lags.behind in absurd (omega arith))
    where
      by : (b ≡ p.block.0) ⊎ (b ≡ p.block.0 → ⊥) → first_point b ≡ old_point p last (first_point b)
      by (inl e) = sym (old_before (first_point b) e (let lt = copy_first in omega arith))
      by (inr other) = sym (old_elsewhere s (first_point b) other)
