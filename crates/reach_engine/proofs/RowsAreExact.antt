use Rattle.std.proofs.Common.{◌≡◌, ℕ, zero, suc, ◌+◌, ◌*◌, ◌/◌, ◌%◌, ◌<◌, ◌≤◌, List, [], ◌++◌, length, take, replicate, get_or, refl, sym, ap, ◌∙◌, subst, arith, ◌⊎◌, inl, inr}
use Rattle.std.specs.Int.{bit_at}
use Rattle.std.proofs.lemmas.Bool.{cases_lt}
use Rattle.std.proofs.lemmas.List.{get_or-replicate, get_or_past, length-replicate, take_at}
use Rattle.std.proofs.lemmas.Nat.Bits.{bit_at-zero}
use Rattle.sil_ast.specs.declared.place.EdgeId.{EdgeId}
use Rattle.sil_cfg.specs.Flow.{Flow, block_count, IsEdge, edge_to}
use Rattle.reach_engine.specs.declared.scan.Step.{Step}
use Rattle.reach_engine.specs.declared.scan.Step.TheVariants.{Go}
use Rattle.reach_engine.specs.inner.Reach.{Enters}
use Rattle.reach_engine.proofs.AlongWalks.{PairDone, in_along, known_along}
use Rattle.reach_engine.proofs.EveryWalk.{ReachesFrom_entry}
use Rattle.reach_engine.specs.inner.Bits.{bit_in}
use Rattle.reach_engine.specs.inner.Columns.{cell}
use Rattle.reach_engine.specs.inner.Reached.{RowHas, IsSoFar, IsClosed, AreExact, AreBad}
use Rattle.reach_engine.proofs.ColumnTaken.{bit_zero}

-- words of zeros have no bit
pub zero_bits : (words : List ℕ) (n k : ℕ) → words ≡ replicate n 0 → bit_in words k ≡ 0
zero_bits words n k e = ap (λ ws. bit_at (get_or ws (k / 64) 0) (k % 64)) e ∙ ap (λ x. bit_at x (k % 64)) (read (cases_lt (k / 64) n)) ∙ bit_at-zero (k % 64)
  where
    read : (k / 64 < n) ⊎ (n ≤ k / 64) → ◌≡◌ {A = ℕ} (get_or (replicate n 0) (k / 64) 0) 0
    read (inl lt) = get_or-replicate n (k / 64) 0 0 lt
    read (inr le) = let zeros : List ℕ = replicate n 0 in let l : length zeros ≡ n = length-replicate n 0 in get_or_past zeros (k / 64) 0 (omega arith)

zero_one : ◌≡◌ {A = ℕ} 0 1 → ⊥
zero_one h = omega arith

-- the search begins with every subject at the entry
pub so_far_first : (g : Flow ℕ) (f : ℕ → ℕ → ℕ → Step) (states subjects width : ℕ) (rows bad : List ℕ) → subjects ≤ 64 * width → length rows ≡ block_count g * (states * width) → length bad ≡ width →
    ((k : ℕ) → k < subjects → bit_in rows k ≡ 1) → ((k : ℕ) → subjects ≤ k → bit_in rows k ≡ 0) → ((k : ℕ) → bit_in bad k ≡ 0) → IsSoFar g f states subjects width rows bad
so_far_first g f states subjects width rows bad fits size bad_size set rest clear = record {
  size = size;
  bad_size = bad_size;
  entry = λ u lu. let place : cell width (0 * states + 0) u ≡ u = omega arith in ap (bit_in rows) place ∙ set u lu;
  entered = λ b s u ls lu x. at b s u ls lu x (cases_lt (cell width (b * states + s) u) subjects);
  unused = λ b s v ls le lv x. let high : subjects ≤ cell width (b * states + s) v = omega arith in zero_one (sym (rest (cell width (b * states + s) v) high) ∙ x);
  reached = λ u lu x. absurd (zero_one (sym (clear u) ∙ x));
}
  where
    row_zero : (r u : ℕ) → cell width r u < subjects → r ≡ 0
    row_zero zero u lt = refl
    row_zero (suc r) u lt =
        let big : 64 * width ≤ suc r * (64 * width) = grind arith in
        absurd (omega arith)

    both_zero : (b s : ℕ) → b * states + s ≡ 0 → s < states → (b ≡ 0) × (s ≡ 0)
    both_zero zero s e ls = (refl, omega arith)
    both_zero (suc b) s e ls = absurd (let big : states ≤ suc b * states = grind arith in omega arith)

    at : (b s u : ℕ) → s < states → u < subjects → RowHas rows states width b s u → (cell width (b * states + s) u < subjects) ⊎ (subjects ≤ cell width (b * states + s) u)
        → (w : List EdgeId) × Enters g (f u) w b s
    at b s u ls lu x (inr le) = absurd (zero_one (sym (rest (cell width (b * states + s) u) le) ∙ x))
    at b s u ls lu x (inl lt) =
        let e : b * states + s ≡ 0 = row_zero (b * states + s) u lt in
        let zeros = both_zero b s e ls in
        ([], record { walk = tt; to = sym zeros.0; runs = ap Go (sym zeros.1) })

module _ (g : Flow ℕ) (f : ℕ → ℕ → ℕ → Step) (states subjects width : ℕ) (rows bad : List ℕ) (some_block : 0 < block_count g) (target : (e : EdgeId) → IsEdge g e → edge_to g e < block_count g)
    (some_state : 0 < states) (fits : subjects ≤ 64 * width) (h : IsClosed g f states subjects width rows bad) where
  pairs : (u : ℕ) → u < subjects → (b s n : ℕ) → (b < block_count g) × (s < states) × RowHas rows states width b s u →
      PairDone g (f u) (λ b s n. (b < block_count g) × (s < states) × RowHas rows states width b s u) (λ code n. bit_in bad u ≡ 1) b s n
  pairs u lu b s n x = record {
    block = λ code r. (h.done b x.0).block s code u x.1 lu x.2 r;
    goes = λ e is from t r. let p = (h.done b x.0).goes e s t u is from x.1 lu x.2 r in (target e is, p.0, p.1);
    breaks = λ e is from m code r y. (h.done b x.0).breaks e s m code u is from x.1 lu x.2 r y;
  }

  -- what a walk enters is in the rows
  in_rows : (u : ℕ) → u < subjects → (w : List EdgeId) (b s : ℕ) → Enters g (f u) w b s → RowHas rows states width b s u
  in_rows u lu w b s e =
      let r = in_along g (f u) (λ b s n. (b < block_count g) × (s < states) × RowHas rows states width b s u) (λ code n. bit_in bad u ≡ 1) (λ b s n m le x. x) (λ code n m le x. x) (pairs u lu)
      w 0 0 0 s (some_block, some_state, h.so_far.entry u lu) e.walk e.runs in
      subst (λ c. RowHas rows states width c s u) e.to r.2

  pub closed_exact : AreExact g f states subjects width rows
  closed_exact = record {
    size = h.so_far.size;
    entered = λ b s u lb ls lu. (λ x. h.so_far.entered b s u ls lu x, λ p. in_rows u lu p.0 b s p.1);
    unused = λ b s u lb ls le lv. bit_zero rows (cell width (b * states + s) u) (λ x. h.so_far.unused b s u ls le lv x);
  }

  pub closed_bad : AreBad g f subjects width bad
  closed_bad = record {
    size = h.so_far.bad_size;
    reached = λ u lu x clean. let r = h.so_far.reached u lu x in clean r.0 r.1 r.2 r.3;
    clean = λ u lu none w code item r. none
        (known_along g (f u) (λ b s n. (b < block_count g) × (s < states) × RowHas rows states width b s u) (λ code n. bit_in bad u ≡ 1) (λ b s n m le x. x) (λ code n m le x. x) (pairs u lu)
        w 0 0 0 code item (some_block, some_state, h.so_far.entry u lu) (ReachesFrom_entry g (f u) w code item r));
  }

-- a list that stands in a vector's place
pub whole_again : (n : ℕ) (xs rest : List ℕ) → length xs ≡ n → xs ≡ take n (xs ++ rest)
whole_again n xs rest e = sym (take_at xs rest n e)
