-- What is read off the moved rows of a block: which subjects its items bring to state 2.
use Rattle.std.proofs.Common.{◌≡◌, ◌⊎◌, inl, inr, ℕ, ◌+◌, ◌*◌, ◌<◌, ◌≤◌, List, sym, ◌∙◌, Bool, true, arith}
use Rattle.sil_cfg.specs.Flow.{Flow, items_at}
use Rattle.reach_engine.specs.declared.scan.Step.{Step}
use Rattle.reach_engine.specs.inner.Bits.{bit_in}
use Rattle.reach_engine.specs.inner.Columns.{AllMoved, Has, cell}
use Rattle.reach_engine_marks.specs.KeptSubjects.inner.Broken.{AreMarked, GoesBroken, is_broken}

-- the marks are the same where this is the same of each subject
pub marked_as : (first count : ℕ) (One Other : ℕ → Type 0) (old new : List Bool) → ((u : ℕ) → u < count → One u → Other u) → ((u : ℕ) → u < count → Other u → One u)
    → AreMarked first count One old new → AreMarked first count Other old new
marked_as first count One Other old new forth back h v = (λ t. on ((h v).0 t), λ t. (h v).1 (off t))
  where
    on : (is_broken old v ≡ true) ⊎ ((u : ℕ) × (u < count) × (v ≡ first + u) × One u) → (is_broken old v ≡ true) ⊎ ((u : ℕ) × (u < count) × (v ≡ first + u) × Other u)
    on (inl e) = inl e
    on (inr p) = inr (p.0, p.1, p.2, forth p.0 p.1 p.3)

    off : (is_broken old v ≡ true) ⊎ ((u : ℕ) × (u < count) × (v ≡ first + u) × Other u) → (is_broken old v ≡ true) ⊎ ((u : ℕ) × (u < count) × (v ≡ first + u) × One u)
    off (inl e) = inl e
    off (inr p) = inr (p.0, p.1, p.2, back p.0 p.1 p.3)

module _ (g : Flow ℕ) (f : ℕ → ℕ → ℕ → Step) (wide width b first count : ℕ) (words old new before end : List ℕ) (fits : count ≤ 64 * width)
    (rows : (s u : ℕ) → s < 3 → u < 64 * width → bit_in old (cell width s u) ≡ bit_in words (cell wide (b * 3 + s) u))
    (h : AllMoved f 3 count width (items_at g b) old new before end) where
  goes : (u : ℕ) → u < count → Has new width 2 u → GoesBroken g f wide words b u
  goes u lu has =
      let p = (h.moved u lu).from 2 (omega arith) has in
      let within : u < 64 * width = omega arith in
      record { state = p.0; within = p.1; there = sym (rows p.0 u p.1 within) ∙ p.2; runs = p.3 }

  comes : (u : ℕ) → u < count → GoesBroken g f wide words b u → Has new width 2 u
  comes u lu x =
      let within : u < 64 * width = omega arith in
      (h.moved u lu).to x.state 2 x.within (rows x.state u x.within within ∙ x.there) x.runs

  pub block_marked : (marks marked : List Bool) → AreMarked first count (Has new width 2) marks marked → AreMarked first count (GoesBroken g f wide words b) marks marked
  block_marked marks marked = marked_as first count (Has new width 2) (GoesBroken g f wide words b) marks marked goes comes
