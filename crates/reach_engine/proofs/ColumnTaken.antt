use Rattle.std.proofs.Common.{◌≡◌, ◌≢◌, ℕ, zero, suc, ◌+◌, ◌*◌, ◌/◌, ◌%◌, ◌<◌, ◌≤◌, List, length, get_or, replicate, refl, sym, ap, ◌∙◌, arith, ◌⊎◌, inl, inr}
use Rattle.std.specs.Prelude.{◌↔◌}
use Rattle.std.proofs.lemmas.Bool.{cases_eq}
use Rattle.std.proofs.lemmas.List.{length-replicate}
use Rattle.std.proofs.lemmas.Nat.{same_from_place}
use Rattle.std.proofs.lemmas.Nat.Bits.{bit_at-lt}
use Rattle.reach_engine.specs.inner.Bits.{bit_in}
use Rattle.reach_engine.specs.inner.Columns.{cell, Has, OthersStay}

-- a bit is 0 where it isn't 1
pub bit_zero : (words : List ℕ) (k : ℕ) → (bit_in words k ≡ 1 → ⊥) → bit_in words k ≡ 0
bit_zero words k h = at (bit_in words k) refl (bit_at-lt (get_or words (k / 64) 0) (k % 64))
  where
    at : (n : ℕ) → bit_in words k ≡ n → n < 2 → bit_in words k ≡ 0
    at zero e lt = e
    at (suc zero) e lt = absurd (h e)
    at (suc (suc n)) e lt = absurd (omega arith)

-- two cells are one only where both the row and the subject are
pub cell_apart : (width s t u v : ℕ) → u < 64 * width → v < 64 * width → ((s ≡ t) → (u ≡ v) → ⊥) → cell width s u ≢ cell width t v
cell_apart width s t u v lu lv h e = let p = same_from_place s u t v (64 * width) lu lv e in h p.0 p.1

-- what is kept while a column is taken out, up to row i
pub record Taking (states width u : ℕ) (first bundle taken : List ℕ) (i : ℕ) : Type 0 where
  pub size : length bundle ≡ length first
  pub taken_size : length taken ≡ 4
  pub taken_is : (s : ℕ) → s < i → (bit_in taken s ≡ 1) ↔ Has first width s u
  pub clear : (s : ℕ) → s < i → bit_in bundle (cell width s u) ≡ 0
  pub rest : (s : ℕ) → s < states → i ≤ s → bit_in bundle (cell width s u) ≡ bit_in first (cell width s u)
  pub others : OthersStay states width u first bundle

-- row i has the subject
pub take_yes : (states width u : ℕ) (first bundle next taken marked : List ℕ) (i : ℕ) → u < 64 * width → i < states → Taking states width u first bundle taken i →
    bit_in bundle (cell width i u) ≡ 1 → length next ≡ length bundle → bit_in next (cell width i u) ≡ 0 → ((j : ℕ) → j ≢ cell width i u → bit_in next j ≡ bit_in bundle j) →
    length marked ≡ length taken → bit_in marked i ≡ 1 → ((j : ℕ) → j ≢ i → bit_in marked j ≡ bit_in taken j) →
    Taking states width u first next marked (i + 1)
take_yes states width u first bundle next taken marked i lu li h has size same others marked_size is_marked stay = record {
  size = size ∙ h.size;
  taken_size = marked_size ∙ h.taken_size;
  taken_is = λ s l. taken_at s l (cases_eq s i);
  clear = λ s l. clear_at s l (cases_eq s i);
  rest = λ s ls le. others (cell width s u) (cell_apart width s i u u lu lu (λ e _. absurd (omega arith))) ∙ h.rest s ls (omega arith);
  others = λ s v ls lv ne. others (cell width s v) (cell_apart width s i v u lv lu (λ _ e. ne e)) ∙ h.others s v ls lv ne;
}
  where
    taken_at : (s : ℕ) → s < i + 1 → (s ≡ i) ⊎ (s ≢ i) → (bit_in marked s ≡ 1) ↔ Has first width s u
    taken_at s l (inl e) =
        (λ t. ap (λ x. bit_in first (cell width x u)) e ∙ sym (h.rest i li (omega arith)) ∙ has, λ t. ap (bit_in marked) e ∙ is_marked)
    taken_at s l (inr n) = let p = h.taken_is s (omega arith) in let stays = stay s n in
        (λ t. p.0 (sym stays ∙ t), λ t. stays ∙ p.1 t)

    clear_at : (s : ℕ) → s < i + 1 → (s ≡ i) ⊎ (s ≢ i) → bit_in next (cell width s u) ≡ 0
    clear_at s l (inl e) = ap (λ x. bit_in next (cell width x u)) e ∙ same
    clear_at s l (inr n) = others (cell width s u) (cell_apart width s i u u lu lu (λ e _. n e)) ∙ h.clear s (omega arith)

-- row i doesn't have the subject
pub take_no : (states width u : ℕ) (first bundle taken : List ℕ) (i : ℕ) → i < states → Taking states width u first bundle taken i →
    (bit_in bundle (cell width i u) ≡ 1 → ⊥) → bit_in taken i ≡ 0 → Taking states width u first bundle taken (i + 1)
take_no states width u first bundle taken i li h none off = record {
  size = h.size;
  taken_size = h.taken_size;
  taken_is = λ s l. taken_at s l (cases_eq s i);
  clear = λ s l. clear_at s l (cases_eq s i);
  rest = λ s ls le. h.rest s ls (omega arith);
  others = h.others;
}
  where
    taken_at : (s : ℕ) → s < i + 1 → (s ≡ i) ⊎ (s ≢ i) → (bit_in taken s ≡ 1) ↔ Has first width s u
    taken_at s l (inl e) = (
      λ t. absurd (let f : bit_in taken s ≡ 0 = ap (bit_in taken) e ∙ off in omega (arith, f, t)),
      λ t. absurd (none (h.rest i li (omega arith) ∙ ap (λ x. bit_in first (cell width x u)) (sym e) ∙ t)),
    )
    taken_at s l (inr n) = h.taken_is s (omega arith)

    clear_at : (s : ℕ) → s < i + 1 → (s ≡ i) ⊎ (s ≢ i) → bit_in bundle (cell width s u) ≡ 0
    clear_at s l (inl e) = ap (λ x. bit_in bundle (cell width x u)) e ∙ bit_zero bundle (cell width i u) none
    clear_at s l (inr n) = h.clear s (omega arith)

pub take_none : (states width u : ℕ) (first taken : List ℕ) → taken ≡ replicate 4 0 → Taking states width u first first taken 0
take_none states width u first taken e = record {
  size = refl;
  taken_size = ap length e ∙ length-replicate {A = ℕ} 4 0;
  taken_is = λ s lt. absurd (omega arith);
  clear = λ s lt. absurd (omega arith);
  rest = λ s lt le. refl;
  others = λ s v ls lv ne. refl;
}
