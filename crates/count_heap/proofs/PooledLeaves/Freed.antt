-- The free pieces in the lists of a pool.
use Rattle.std.proofs.Common.{◌≡◌, ℕ, zero, suc, ◌+◌, ◌<◌, ◌≤◌, ◌^◌, List, [], ◌∷◌, ◌++◌, Bool, false, cond, inl, inr, length, length-append, length-set, set, replicate, refl, sym, ap, ◌∙◌, subst}
use Rattle.std.proofs.Common.{arith}
use Rattle.std.specs.Prelude.{count_by, slice_index_or, ◌==◌, ◌&&◌, not}
use Rattle.std.proofs.lemmas.Bool.{cases_eq, eq-eqb, ne_eqb}
use Rattle.std.proofs.lemmas.List.{get_or-set_same, get_or-set_other, get_or_append_left, get_or_push}
use Rattle.std.proofs.lemmas.List.Sums.{count_by-le-length, sum_by-append, sum_by-set}
use Rattle.count_heap.specs.declared.pooled_leaves.piece.Piece.{Piece}
use Rattle.count_heap.specs.PooledLeaves.inner.Layout.{AreFreeListed, depth_at, given_back, given_out, is_free_of, next_at, no_piece, size_at, top_at}
use Rattle.count_heap.specs.PooledLeaves.inner.Stacks.{AreStacks, IsFreeRef, level}
use Rattle.std.proofs.Math.Path.{fun_ext}
use Rattle.count_heap.proofs.PooledLeaves.Stacks.{one_more, popped, pushed}

abbrev pub piece_at : List Piece → ℕ → Piece
piece_at pieces p = slice_index_or pieces p no_piece

-- ---- one piece

module _ (pieces : List Piece) (p : ℕ) (x : Piece) where
  pub at_same : p < length pieces → piece_at (set pieces p x) p ≡ x
  at_same lt = get_or-set_same pieces p x no_piece lt

  pub at_other : (q : ℕ) → (q ≡ p → ⊥) → piece_at (set pieces p x) q ≡ piece_at pieces q
  at_other q differs = get_or-set_other pieces p q x no_piece differs

  -- where something of the piece stays, it stays of all
  pub all_same : (f : Piece → ℕ) → p < length pieces → f x ≡ f (piece_at pieces p) → (q : ℕ) → f (piece_at (set pieces p x) q) ≡ f (piece_at pieces q)
  all_same f lt same q =
      elim (cases_eq q p) [
        | inl is ↦ ap (λ n. f (piece_at (set pieces p x) n)) is ∙ ap f (at_same lt) ∙ same ∙ ap (λ n. f (piece_at pieces n)) (sym is)
        | inr differs ↦ ap f (at_other q differs)
      ]

abbrev as_one : Bool → ℕ
as_one b = cond b 1 0

abbrev pub first_of : Piece → ℕ
first_of x = x.first

abbrev pub size_of : Piece → ℕ
size_of x = x.size

abbrev depth_of : Piece → ℕ
depth_of x = x.depth

abbrev next_of : Piece → ℕ
next_of x = x.next

-- ---- how many pieces of a size are free

free_when : (s : ℕ) (x : Piece) → 1 ≤ x.depth → is_free_of s x ≡ (x.size == s)
free_when s x free = ap (λ b. not b && x.size == s) (ne_eqb x.depth 0 (λ none. omega arith))

free_not : (s : ℕ) (x : Piece) → x.depth ≡ 0 → is_free_of s x ≡ false
free_not s x none = ap (λ b. not b && x.size == s) (eq-eqb x.depth 0 none)

module _ (pieces : List Piece) (p : ℕ) (x : Piece) (lt : p < length pieces) (same : x.size ≡ size_at pieces p) (s : ℕ) where
  count_change : count_by (is_free_of s) (set pieces p x) + as_one (is_free_of s (piece_at pieces p)) ≡ count_by (is_free_of s) pieces + as_one (is_free_of s x)
  count_change = sum_by-set (λ y. as_one (is_free_of s y)) pieces p x no_piece lt

  -- a free piece is given out
  pub count_less : 1 ≤ depth_at pieces p → x.depth ≡ 0 → count_by (is_free_of s) (set pieces p x) + as_one (size_at pieces p == s) ≡ count_by (is_free_of s) pieces
  count_less free none = omega (arith, count_change, ap as_one (free_when s (piece_at pieces p) free), ap as_one (free_not s x none))

  -- a piece is given back
  pub count_more : depth_at pieces p ≡ 0 → 1 ≤ x.depth → count_by (is_free_of s) (set pieces p x) ≡ count_by (is_free_of s) pieces + as_one (x.size == s)
  count_more none free = omega (arith, count_change, ap as_one (free_not s (piece_at pieces p) none), ap as_one (free_when s x free))

-- not all pieces are free, where one is given out
pub not_all_free : (pieces : List Piece) (p s : ℕ) → p < length pieces → depth_at pieces p ≡ 0 → size_at pieces p ≡ s → count_by (is_free_of s) pieces < length pieces
not_all_free pieces p s lt none is =
    let x : Piece = record (piece_at pieces p) { depth = 1 } in
    omega (arith, count_more pieces p x lt refl s none (omega arith), ap as_one (eq-eqb (size_at pieces p) s is), count_by-le-length (is_free_of s) (set pieces p x), length-set pieces p x)

-- ---- no piece is free where a stack is empty

pub none_free : (pieces : List Piece) (tops : List ℕ) → AreFreeListed pieces tops → (s : ℕ) → top_at tops s ≡ 0
    → (p : ℕ) → p < length pieces → size_at pieces p ≡ s → depth_at pieces p ≡ 0
none_free pieces tops are s none p lt size =
    elim (cases_eq (depth_at pieces p) 0) [
      | inl out ↦ out
      | inr free ↦
          let some : 1 ≤ depth_at pieces p = omega arith in
          let high : depth_at pieces p ≤ level (depth_at pieces) (top_at tops (size_at pieces p)) = are.stacks.top_highest p lt some in
          let bottom : level (depth_at pieces) (top_at tops (size_at pieces p)) ≡ 0 = ap (λ t. level (depth_at pieces) (top_at tops t)) size ∙ ap (level (depth_at pieces)) none in
          absurd (omega arith)
    ]

-- ---- the top of a stack is taken

module _ (pieces : List Piece) (tops : List ℕ) (are : AreFreeListed pieces tops) (s p : ℕ) (within : s < length tops) (is_top : top_at tops s ≡ suc p) where
  pub top_was : (p < length pieces) × (size_at pieces p ≡ s) × (1 ≤ depth_at pieces p)
  top_was = are.stacks.top_free s p is_top

  abbrev out : List Piece
  out = set pieces p (given_out (piece_at pieces p))

  abbrev tops_then : List ℕ
  tops_then = set tops s (next_at pieces p)

  depth_out : depth_at out p ≡ 0
  depth_out = ap depth_of (at_same pieces p (given_out (piece_at pieces p)) top_was.0)

  depth_other : (q : ℕ) → (q ≡ p → ⊥) → depth_at out q ≡ depth_at pieces q
  depth_other q differs = ap depth_of (at_other pieces p (given_out (piece_at pieces p)) q differs)

  top_new : top_at tops_then s ≡ next_at pieces p
  top_new = get_or-set_same tops s (next_at pieces p) 0 within

  top_other : (t : ℕ) → (t ≡ s → ⊥) → top_at tops_then t ≡ top_at tops t
  top_other t differs = get_or-set_other tops s t (next_at pieces p) 0 differs

  sizes_same : (q : ℕ) → size_at out q ≡ size_at pieces q
  sizes_same = all_same pieces p (given_out (piece_at pieces p)) size_of top_was.0 refl

  nexts_same : (q : ℕ) → next_at out q ≡ next_at pieces q
  nexts_same = all_same pieces p (given_out (piece_at pieces p)) next_of top_was.0 refl

  stacks_then : AreStacks (length pieces) (size_at pieces) (depth_at out) (next_at pieces) (top_at tops_then)
  stacks_then =
      popped (length pieces) (size_at pieces) (depth_at pieces) (next_at pieces) (top_at tops) are.stacks s p is_top (depth_at out) (top_at tops_then)
      depth_out depth_other top_new top_other

  counts_then : (t : ℕ) → level (depth_at out) (top_at tops_then t) ≡ count_by (is_free_of t) out
  counts_then t =
      let was = are.counts t in
      let counted = count_less pieces p (given_out (piece_at pieces p)) top_was.0 refl t top_was.2 refl in
      elim (cases_eq t s) [
        | inl is ↦
            let one : as_one (size_at pieces p == t) ≡ 1 = ap as_one (eq-eqb (size_at pieces p) t (top_was.1 ∙ sym is)) in
            let top : level (depth_at pieces) (top_at tops t) ≡ depth_at pieces p = ap (λ u. level (depth_at pieces) (top_at tops u)) is ∙ ap (level (depth_at pieces)) is_top in
            let lower : level (depth_at pieces) (next_at pieces p) + 1 ≡ depth_at pieces p = are.stacks.next_lower p top_was.0 top_was.2 in
            let now : level (depth_at out) (top_at tops_then t) ≡ level (depth_at pieces) (next_at pieces p) =
            ap (λ u. level (depth_at out) (top_at tops_then u)) is ∙ ap (level (depth_at out)) top_new
            ∙ level_kept (next_at pieces p) (λ same. let up : level (depth_at pieces) (next_at pieces p) ≡ depth_at pieces p = ap (level (depth_at pieces)) same in omega arith) in
            omega arith
        | inr differs ↦
            let none : as_one (size_at pieces p == t) ≡ 0 = ap as_one (ne_eqb (size_at pieces p) t (λ same. differs (sym same ∙ top_was.1))) in
            let now : level (depth_at out) (top_at tops_then t) ≡ level (depth_at pieces) (top_at tops t) =
            ap (level (depth_at out)) (top_other t differs) ∙ level_kept (top_at tops t) (λ same. differs (sym (are.stacks.top_free t p same).1 ∙ top_was.1)) in
            omega arith
      ]
    where
      level_kept : (e : ℕ) → (e ≡ suc p → ⊥) → level (depth_at out) e ≡ level (depth_at pieces) e
      level_kept zero h = refl
      level_kept (suc q) h = depth_other q (λ same. h (ap suc same))

  pub popped_listed : AreFreeListed out tops_then
  popped_listed = record {
    few = rw length-set are.few;
    stacks =
        subst (λ n. AreStacks n (size_at out) (depth_at out) (next_at out) (top_at tops_then)) (sym (length-set pieces p (given_out (piece_at pieces p))))
        (subst (λ f. AreStacks (length pieces) f (depth_at out) (next_at out) (top_at tops_then)) (sym (fun_ext sizes_same))
        (subst (λ f. AreStacks (length pieces) (size_at pieces) (depth_at out) f (top_at tops_then)) (sym (fun_ext nexts_same)) stacks_then));
    sizes = λ q lt. omega (arith, are.sizes q (rw length-set at lt), sizes_same q, length-set tops s (next_at pieces p));
    counts = counts_then;
  }

-- ---- a piece is put on the top of its stack

module _ (pieces : List Piece) (tops : List ℕ) (are : AreFreeListed pieces tops) (p : ℕ) (there : p < length pieces) (taken : depth_at pieces p ≡ 0) where
  abbrev back : List Piece
  back = set pieces p (given_back pieces tops (piece_at pieces p))

  abbrev tops_now : List ℕ
  tops_now = set tops (size_at pieces p) (suc p)

  depth_back : depth_at back p ≡ level (depth_at pieces) (top_at tops (size_at pieces p)) + 1
  depth_back = ap depth_of (at_same pieces p (given_back pieces tops (piece_at pieces p)) there)

  depth_rest : (q : ℕ) → (q ≡ p → ⊥) → depth_at back q ≡ depth_at pieces q
  depth_rest q differs = ap depth_of (at_other pieces p (given_back pieces tops (piece_at pieces p)) q differs)

  next_back : next_at back p ≡ top_at tops (size_at pieces p)
  next_back = ap next_of (at_same pieces p (given_back pieces tops (piece_at pieces p)) there)

  next_rest : (q : ℕ) → (q ≡ p → ⊥) → next_at back q ≡ next_at pieces q
  next_rest q differs = ap next_of (at_other pieces p (given_back pieces tops (piece_at pieces p)) q differs)

  top_back : top_at tops_now (size_at pieces p) ≡ suc p
  top_back = get_or-set_same tops (size_at pieces p) (suc p) 0 (are.sizes p there)

  top_rest : (t : ℕ) → (t ≡ size_at pieces p → ⊥) → top_at tops_now t ≡ top_at tops t
  top_rest t differs = get_or-set_other tops (size_at pieces p) t (suc p) 0 differs

  sizes_kept : (q : ℕ) → size_at back q ≡ size_at pieces q
  sizes_kept = all_same pieces p (given_back pieces tops (piece_at pieces p)) size_of there refl

  stacks_back : AreStacks (length pieces) (size_at pieces) (depth_at back) (next_at back) (top_at tops_now)
  stacks_back =
      pushed (length pieces) (size_at pieces) (depth_at pieces) (next_at pieces) (top_at tops) are.stacks p there taken (depth_at back) (next_at back) (top_at tops_now)
      depth_back depth_rest next_back next_rest top_back top_rest

  counts_back : (t : ℕ) → level (depth_at back) (top_at tops_now t) ≡ count_by (is_free_of t) back
  counts_back t =
      let was = are.counts t in
      let deep : 1 ≤ (given_back pieces tops (piece_at pieces p)).depth = omega arith in
      let counted = count_more pieces p (given_back pieces tops (piece_at pieces p)) there refl t taken deep in
      elim (cases_eq t (size_at pieces p)) [
        | inl is ↦
            let one : as_one (size_at pieces p == t) ≡ 1 = ap as_one (eq-eqb (size_at pieces p) t (sym is)) in
            let now : level (depth_at back) (top_at tops_now t) ≡ depth_at back p = ap (λ u. level (depth_at back) (top_at tops_now u)) is ∙ ap (level (depth_at back)) top_back in
            let before : level (depth_at pieces) (top_at tops t) ≡ level (depth_at pieces) (top_at tops (size_at pieces p)) = ap (λ u. level (depth_at pieces) (top_at tops u)) is in
            omega (arith, depth_back)
        | inr differs ↦
            let none : as_one (size_at pieces p == t) ≡ 0 = ap as_one (ne_eqb (size_at pieces p) t (λ same. differs (sym same))) in
            let now : level (depth_at back) (top_at tops_now t) ≡ level (depth_at pieces) (top_at tops t) =
            ap (level (depth_at back)) (top_rest t differs) ∙ level_kept (top_at tops t) (λ same. let was = are.stacks.top_free t p same in omega (arith, was.2)) in
            omega arith
      ]
    where
      level_kept : (e : ℕ) → (e ≡ suc p → ⊥) → level (depth_at back) e ≡ level (depth_at pieces) e
      level_kept zero h = refl
      level_kept (suc q) h = depth_rest q (λ same. h (ap suc same))

  pub pushed_listed : AreFreeListed back tops_now
  pushed_listed = record {
    few = rw length-set are.few;
    stacks =
        subst (λ n. AreStacks n (size_at back) (depth_at back) (next_at back) (top_at tops_now)) (sym (length-set pieces p (given_back pieces tops (piece_at pieces p))))
        (subst (λ f. AreStacks (length pieces) f (depth_at back) (next_at back) (top_at tops_now)) (sym (fun_ext sizes_kept)) stacks_back);
    sizes = λ q lt. omega (arith, are.sizes q (rw length-set at lt), sizes_kept q, length-set tops (size_at pieces p) (suc p));
    counts = counts_back;
  }

  -- the stack isn't as deep as there are pieces
  pub shallow : level (depth_at pieces) (top_at tops (size_at pieces p)) < length pieces
  shallow = omega (arith, are.counts (size_at pieces p), not_all_free pieces p (size_at pieces p) there taken refl)

-- ---- more stacks, a further piece

zeros_at : (n i : ℕ) → top_at (replicate n 0) i ≡ 0
zeros_at zero i = refl
zeros_at (suc n) zero = refl
zeros_at (suc n) (suc i) = zeros_at n i

tops_longer : (tops : List ℕ) (n s : ℕ) → top_at (tops ++ replicate n 0) s ≡ top_at tops s
tops_longer [] n s = zeros_at n s
tops_longer (t ∷ tops) n zero = refl
tops_longer (t ∷ tops) n (suc s) = tops_longer tops n s

pub longer_listed : (pieces : List Piece) (tops : List ℕ) (n : ℕ) → AreFreeListed pieces tops → AreFreeListed pieces (tops ++ replicate n 0)
longer_listed pieces tops n are = record {
  few = are.few;
  stacks = subst (λ f. AreStacks (length pieces) (size_at pieces) (depth_at pieces) (next_at pieces) f) (sym (fun_ext (tops_longer tops n))) are.stacks;
  sizes = λ q lt. omega (arith, are.sizes q lt, length-append tops (replicate n 0));
  counts = λ s. ap (level (depth_at pieces)) (tops_longer tops n s) ∙ are.counts s;
}

module _ (pieces : List Piece) (tops : List ℕ) (are : AreFreeListed pieces tops) (x : Piece) (out : x.depth ≡ 0) (fits : x.size < length tops) (few : length pieces + 1 < 2 ^ 32) where
  pub at_new : piece_at (pieces ++ x ∷ []) (length pieces) ≡ x
  at_new = get_or_push pieces x no_piece (length pieces) refl

  pub at_old : (q : ℕ) → q < length pieces → piece_at (pieces ++ x ∷ []) q ≡ piece_at pieces q
  at_old q lt = get_or_append_left pieces (x ∷ []) no_piece q lt

  count_same : length (pieces ++ x ∷ []) ≡ length pieces + 1
  count_same = omega (arith, length-append pieces (x ∷ []))

  pub more_listed : AreFreeListed (pieces ++ x ∷ []) tops
  more_listed = record {
    few = omega (arith, count_same);
    stacks =
        subst (λ n. AreStacks n (size_at (pieces ++ x ∷ [])) (depth_at (pieces ++ x ∷ [])) (next_at (pieces ++ x ∷ [])) (top_at tops)) (sym count_same)
        (one_more (length pieces) (size_at pieces) (depth_at pieces) (next_at pieces) (top_at tops) are.stacks
        (size_at (pieces ++ x ∷ [])) (depth_at (pieces ++ x ∷ [])) (next_at (pieces ++ x ∷ [])) (ap depth_of at_new ∙ out)
        (λ q lt. ap size_of (at_old q lt)) (λ q lt. ap depth_of (at_old q lt)) (λ q lt. ap next_of (at_old q lt)));
    sizes = λ q lt. elim (cases_eq q (length pieces)) [
      | inl is ↦ let new : size_at (pieces ++ x ∷ []) q ≡ x.size = ap (size_at (pieces ++ x ∷ [])) is ∙ ap size_of at_new in omega arith
      | inr differs ↦
          let old : q < length pieces = omega (arith, count_same) in
          omega (arith, are.sizes q old, ap size_of (at_old q old))
    ];
    counts = λ s.
        let more : count_by (is_free_of s) (pieces ++ x ∷ []) ≡ count_by (is_free_of s) pieces =
        omega (arith, sum_by-append (λ y. as_one (is_free_of s y)) pieces (x ∷ []), ap as_one (free_not s x out)) in
        level_old (top_at tops s) (are.stacks.top_free s) ∙ are.counts s ∙ sym more;
  }
    where
      level_old : {s : ℕ} (e : ℕ) → IsFreeRef (length pieces) (size_at pieces) (depth_at pieces) s e → level (depth_at (pieces ++ x ∷ [])) e ≡ level (depth_at pieces) e
      level_old zero ref = refl
      level_old (suc q) ref = ap depth_of (at_old q (ref q refl).0)
