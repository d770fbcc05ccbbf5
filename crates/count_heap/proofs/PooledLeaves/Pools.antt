-- What contracts see of a pool, through its calls.
use Rattle.std.proofs.Common.{append-nil, ◌≡◌, ℕ, zero, suc, ◌+◌, ◌<◌, ◌≤◌, List, [], ◌∷◌, ◌++◌, true, cond, Option, Some, None, is_some, inl, inr, length, length-append, length-set, set}
use Rattle.std.proofs.Common.{replicate, map, get_or, refl, sym, ap, ◌∙◌, subst, arith}
use Rattle.std.specs.Prelude.{option_map, slice_get, take, drop, ◌==◌}
use Rattle.std.proofs.lemmas.Bool.{cases_eq, cases_lt, cases_order, eq-eqb, false≢true, ne_eqb}
use Rattle.std.proofs.lemmas.List.{drop_all, get_or_append_left, get_or_past, get_or_push, length-drop, length-map, length-replicate, length-take-le}
use Rattle.holder_model_values.specs.declared.run_values.leaf.Leaf.{Leaf}
use Rattle.holder_model_values.specs.declared.run_values.leaf.Leaf.TheVariants.{Blank}
use Rattle.count_heap.specs.PooledLeaves.Pieces.{HasFree, IsChanged, piece_in, put_leaves}
use Rattle.count_heap.specs.declared.pooled_leaves.piece.Piece.{Piece}
use Rattle.count_heap.specs.PooledLeaves.inner.Layout.{AreLaidOut, depth_at, first_at, given_out, held_by, leaves_of, no_piece, piece_size, pieces_in, size_at}
use Rattle.count_heap.proofs.PooledLeaves.Freed.{all_same, at_other, at_same, first_of, piece_at, size_of}
use Rattle.count_heap.proofs.PooledLeaves.ListParts.{new_part, part_after, part_before, part_inside, part_of_longer}
use Rattle.std.proofs.Math.Path.{fun_ext}

mapped : {X Y : Type 0} (f : X → Y) (xs : List X) (i : ℕ) (d : X) (e : Y) → i < length xs → get_or (map f xs) i e ≡ f (get_or xs i d)
mapped f [] i d e lt = absurd (omega arith)
mapped f (x ∷ xs) zero d e lt = refl
mapped f (x ∷ xs) (suc i) d e lt = mapped f xs i d e (omega arith)

module _ (leaves : List Leaf) (pieces : List Piece) where
  pub seen : (q : ℕ) → q < length pieces → piece_in (pieces_in leaves pieces) q ≡ held_by leaves (piece_at pieces q)
  seen q lt = mapped (held_by leaves) pieces q no_piece None lt

  pub not_seen : (q : ℕ) → length pieces ≤ q → piece_in (pieces_in leaves pieces) q ≡ None
  not_seen q le = get_or_past (map (held_by leaves) pieces) q None (omega (arith, length-map pieces (held_by leaves)))

  held_out : (x : Piece) → x.depth ≡ 0 → held_by leaves x ≡ Some (leaves_of leaves x)
  held_out x none = ap (λ b. cond b (Some (leaves_of leaves x)) None) (eq-eqb x.depth 0 none)

  held_free : (x : Piece) → 1 ≤ x.depth → held_by leaves x ≡ None
  held_free x free = ap (λ b. cond b (Some (leaves_of leaves x)) None) (ne_eqb x.depth 0 (λ none. omega arith))

  -- a piece that is given out
  pub seen_out : (p : ℕ) → p < length pieces → depth_at pieces p ≡ 0 → piece_in (pieces_in leaves pieces) p ≡ Some (leaves_of leaves (piece_at pieces p))
  seen_out p lt none = seen p lt ∙ held_out (piece_at pieces p) none

  pub seen_free : (p : ℕ) → p < length pieces → 1 ≤ depth_at pieces p → piece_in (pieces_in leaves pieces) p ≡ None
  seen_free p lt free = seen p lt ∙ held_free (piece_at pieces p) free

  pub is_out : (p : ℕ) → is_some (piece_in (pieces_in leaves pieces) p) ≡ true → (p < length pieces) × (depth_at pieces p ≡ 0)
  is_out p some =
      elim (cases_lt p (length pieces)) [
        | inl lt ↦ elim (cases_eq (depth_at pieces p) 0) [
          | inl none ↦ (lt, none)
          | inr free ↦
              let deep : 1 ≤ depth_at pieces p = omega arith in
              absurd (false≢true (sym (ap is_some (seen_free p lt deep)) ∙ some))
        ]
        | inr le ↦ absurd (false≢true (sym (ap is_some (not_seen p le)) ∙ some))
      ]

-- how many leaves pieces have

size_told : (pieces : List Piece) (p s : ℕ) → p < length pieces → size_at pieces p ≡ s → slice_get (map piece_size pieces) p ≡ Some s
size_told [] p s lt is = absurd (omega arith)
size_told (x ∷ pieces) zero s lt is = ap Some is
size_told (x ∷ pieces) (suc p) s lt is = size_told pieces p s (omega arith) is

size_there : (pieces : List Piece) (p s : ℕ) → slice_get (map piece_size pieces) p ≡ Some s → (p < length pieces) × (size_at pieces p ≡ s)
size_there [] p s is = absurd (cc)
size_there (x ∷ pieces) zero s is = (omega arith, let same : Some x.size ≡ Some s = is in cc)
size_there (x ∷ pieces) (suc p) s is = let rest = size_there pieces p s is in (omega (arith, rest.0), rest.1)

pub sizes_set : (pieces : List Piece) (p : ℕ) (x : Piece) → x.size ≡ size_at pieces p → map piece_size (set pieces p x) ≡ map piece_size pieces
sizes_set [] p x same = refl
sizes_set (y ∷ pieces) zero x same = ap (λ n. n ∷ map piece_size pieces) same
sizes_set (y ∷ pieces) (suc p) x same = ap (λ ns. y.size ∷ ns) (sizes_set pieces p x same)

module _ (leaves : List Leaf) (pieces : List Piece) where
  pub has_free : (p s : ℕ) → p < length pieces → size_at pieces p ≡ s → 1 ≤ depth_at pieces p → HasFree (pieces_in leaves pieces) s
  has_free p s lt size free = (p, size_told pieces p s lt size, seen_free leaves pieces p lt free)

  pub no_free : (s : ℕ) → ((p : ℕ) → p < length pieces → size_at pieces p ≡ s → depth_at pieces p ≡ 0) → HasFree (pieces_in leaves pieces) s → ⊥
  no_free s none free =
      let there = size_there pieces free.0 s free.1 in
      let out = seen_out leaves pieces free.0 there.0 (none free.0 there.0 there.1) in
      let impossible : None ≡ Some (leaves_of leaves (piece_at pieces free.0)) = sym free.2 ∙ out in cc

-- one piece holds something else
changed_at : (leaves : List Leaf) (pieces : List Piece) (leaves' : List Leaf) (pieces' : List Piece) (p : ℕ) (x : Option (List Leaf))
    → p < length pieces → length pieces' ≡ length pieces → held_by leaves' (piece_at pieces' p) ≡ x
    → ((q : ℕ) → (q ≡ p → ⊥) → q < length pieces → held_by leaves' (piece_at pieces' q) ≡ held_by leaves (piece_at pieces q))
    → IsChanged (pieces_in leaves pieces) (pieces_in leaves' pieces') p x
changed_at leaves pieces leaves' pieces' p x lt count here others q =
    elim (cases_eq q p) [
      | inl is ↦
          ap (piece_in (pieces_in leaves' pieces')) is ∙ seen leaves' pieces' p (omega arith) ∙ here
          ∙ sym (ap (λ b. cond b x (piece_in (pieces_in leaves pieces) q)) (eq-eqb q p is))
      | inr differs ↦
          let same : piece_in (pieces_in leaves' pieces') q ≡ piece_in (pieces_in leaves pieces) q =
          elim (cases_lt q (length pieces)) [
            | inl within ↦ seen leaves' pieces' q (omega arith) ∙ others q differs within ∙ sym (seen leaves pieces q within)
            | inr le ↦ not_seen leaves' pieces' q (omega arith) ∙ sym (not_seen leaves pieces q le)
          ] in
          same ∙ sym (ap (λ b. cond b x (piece_in (pieces_in leaves pieces) q)) (ne_eqb q p differs))
    ]

module _ (leaves : List Leaf) (pieces : List Piece) (laid : AreLaidOut (length pieces) (length leaves) (first_at pieces) (size_at pieces)) where
  -- ---- leaves are put into a piece

  module _ (p from : ℕ) (ys : List Leaf) (lt : p < length pieces) (fits : from + length ys ≤ size_at pieces p) where
    abbrev put_then : List Leaf
    put_then = put_leaves (first_at pieces p + from) ys leaves

    put_other : (q : ℕ) → (q ≡ p → ⊥) → q < length pieces → leaves_of put_then (piece_at pieces q) ≡ leaves_of leaves (piece_at pieces q)
    put_other q differs within =
        let inside : first_at pieces p + from ≤ length leaves = omega (arith, laid.within p lt) in
        elim (cases_lt q p) [
          | inl less ↦ part_before (first_at pieces q) (size_at pieces q) (first_at pieces p + from) ys leaves (omega (arith, laid.in_order q p less lt)) inside
          | inr le ↦
              let more : p < q = omega arith in
              part_after (first_at pieces q) (size_at pieces q) (first_at pieces p + from) ys leaves (omega (arith, laid.in_order p q more within)) inside
        ]

    pub put_here : leaves_of put_then (piece_at pieces p) ≡ put_leaves from ys (leaves_of leaves (piece_at pieces p))
    put_here = part_inside (first_at pieces p) (size_at pieces p) from ys leaves fits (laid.within p lt)

    held_other : (q : ℕ) → (q ≡ p → ⊥) → q < length pieces → held_by put_then (piece_at pieces q) ≡ held_by leaves (piece_at pieces q)
    held_other q differs within = ap (λ xs. cond (depth_at pieces q == 0) (Some xs) None) (put_other q differs within)

    pub put_view : depth_at pieces p ≡ 0 → IsChanged (pieces_in leaves pieces) (pieces_in put_then pieces) p (option_map (put_leaves from ys) (piece_in (pieces_in leaves pieces) p))
    put_view out =
        changed_at leaves pieces put_then pieces p (option_map (put_leaves from ys) (piece_in (pieces_in leaves pieces) p)) lt refl
        (held_out put_then pieces (piece_at pieces p) out ∙ ap Some put_here ∙ sym (ap (option_map (put_leaves from ys)) (seen_out leaves pieces p lt out)))
        held_other

  -- how many leaves a piece has
  pub size_is : (p : ℕ) → p < length pieces → length (leaves_of leaves (piece_at pieces p)) ≡ size_at pieces p
  size_is p lt = length-take-le (size_at pieces p) (drop (first_at pieces p) leaves) (omega (arith, length-drop (first_at pieces p) leaves, laid.within p lt))

  -- ---- a piece changes that lies where it lay

  module _ (p : ℕ) (x : Piece) (lt : p < length pieces) (first : x.first ≡ first_at pieces p) (size : x.size ≡ size_at pieces p) where
    firsts : (q : ℕ) → first_at (set pieces p x) q ≡ first_at pieces q
    firsts = all_same pieces p x first_of lt first

    sizes : (q : ℕ) → size_at (set pieces p x) q ≡ size_at pieces q
    sizes = all_same pieces p x size_of lt size

    pub set_laid : AreLaidOut (length (set pieces p x)) (length leaves) (first_at (set pieces p x)) (size_at (set pieces p x))
    set_laid =
        subst (λ n. AreLaidOut n (length leaves) (first_at (set pieces p x)) (size_at (set pieces p x))) (sym (length-set pieces p x))
        (subst (λ f. AreLaidOut (length pieces) (length leaves) f (size_at (set pieces p x))) (sym (fun_ext firsts))
        (subst (λ f. AreLaidOut (length pieces) (length leaves) (first_at pieces) f) (sym (fun_ext sizes)) laid))

    pub freed_view : 1 ≤ x.depth → IsChanged (pieces_in leaves pieces) (pieces_in leaves (set pieces p x)) p None
    freed_view free =
        changed_at leaves pieces leaves (set pieces p x) p None lt (length-set pieces p x)
        (ap (held_by leaves) (at_same pieces p x lt) ∙ held_free leaves pieces x free)
        (λ q differs _. ap (held_by leaves) (at_other pieces p x q differs))

  -- ---- a free piece is given out, blank

  module _ (p : ℕ) (lt : p < length pieces) (free : 1 ≤ depth_at pieces p) where
    abbrev out : List Piece
    out = set pieces p (given_out (piece_at pieces p))

    abbrev blank : List Leaf
    blank = replicate (size_at pieces p) Blank

    blank_fits : 0 + length blank ≤ size_at pieces p
    blank_fits = omega (arith, length-replicate (size_at pieces p) Blank)

    at_first : first_at pieces p + 0 ≡ first_at pieces p
    at_first = omega arith

    whole : put_leaves 0 blank (leaves_of leaves (piece_at pieces p)) ≡ blank
    whole =
        let none : drop (0 + length blank) (leaves_of leaves (piece_at pieces p)) ≡ [] =
        drop_all (0 + length blank) (leaves_of leaves (piece_at pieces p)) (omega (arith, size_is p lt, length-replicate (size_at pieces p) Blank)) in
        ap (λ xs. blank ++ xs) none ∙ append-nil blank

    pub taken_view : IsChanged (pieces_in leaves pieces) (pieces_in (put_leaves (first_at pieces p) blank leaves) out) p (Some blank)
    taken_view =
        subst (λ n. IsChanged (pieces_in leaves pieces) (pieces_in (put_leaves n blank leaves) out) p (Some blank)) at_first
        (changed_at leaves pieces (put_leaves (first_at pieces p + 0) blank leaves) out p (Some blank) lt (length-set pieces p (given_out (piece_at pieces p)))
        (ap (held_by (put_leaves (first_at pieces p + 0) blank leaves)) (at_same pieces p (given_out (piece_at pieces p)) lt)
        ∙ ap Some (put_here p 0 blank lt blank_fits ∙ whole))
        (λ q differs within. ap (held_by (put_leaves (first_at pieces p + 0) blank leaves)) (at_other pieces p (given_out (piece_at pieces p)) q differs)
        ∙ held_other p 0 blank lt blank_fits q differs within))

  -- ---- a further piece

  module _ (more : List Leaf) (x : Piece) (out : x.depth ≡ 0) (first : x.first ≡ length leaves) (size : x.size ≡ length more) where
    abbrev pieces_then : List Piece
    pieces_then = pieces ++ x ∷ []

    new_is : piece_at pieces_then (length pieces) ≡ x
    new_is = get_or_push pieces x no_piece (length pieces) refl

    old_is : (q : ℕ) → q < length pieces → piece_at pieces_then q ≡ piece_at pieces q
    old_is q lt = get_or_append_left pieces (x ∷ []) no_piece q lt

    count_then : length pieces_then ≡ length pieces + 1
    count_then = omega (arith, length-append pieces (x ∷ []))

    held_old : (q : ℕ) → q < length pieces → held_by (leaves ++ more) (piece_at pieces_then q) ≡ held_by leaves (piece_at pieces q)
    held_old q lt =
        ap (held_by (leaves ++ more)) (old_is q lt)
        ∙ ap (λ xs. cond (depth_at pieces q == 0) (Some xs) None) (part_of_longer (first_at pieces q) (size_at pieces q) leaves more (laid.within q lt))

    held_new : held_by (leaves ++ more) (piece_at pieces_then (length pieces)) ≡ Some more
    held_new =
        let part : leaves_of (leaves ++ more) x ≡ more =
        ap (λ n. take x.size (drop n (leaves ++ more))) first ∙ new_part x.size leaves more (sym size) in
        ap (held_by (leaves ++ more)) new_is ∙ held_out (leaves ++ more) pieces x out ∙ ap Some part

    pub added_view : IsChanged (pieces_in leaves pieces) (pieces_in (leaves ++ more) pieces_then) (length pieces) (Some more)
    added_view q =
        elim (cases_order q (length pieces)) [
          | inl is ↦
              ap (piece_in (pieces_in (leaves ++ more) pieces_then)) is ∙ seen (leaves ++ more) pieces_then (length pieces) (omega (arith, count_then)) ∙ held_new
              ∙ sym (ap (λ b. cond b (Some more) (piece_in (pieces_in leaves pieces) q)) (eq-eqb q (length pieces) is))
          | inr (inl lt) ↦
              let differs : q ≡ length pieces → ⊥ = λ is. omega arith in
              seen (leaves ++ more) pieces_then q (omega (arith, count_then)) ∙ held_old q lt ∙ sym (seen leaves pieces q lt)
              ∙ sym (ap (λ b. cond b (Some more) (piece_in (pieces_in leaves pieces) q)) (ne_eqb q (length pieces) differs))
          | inr (inr gt) ↦
              let differs : q ≡ length pieces → ⊥ = λ is. omega arith in
              not_seen (leaves ++ more) pieces_then q (omega (arith, count_then)) ∙ sym (not_seen leaves pieces q (omega arith))
              ∙ sym (ap (λ b. cond b (Some more) (piece_in (pieces_in leaves pieces) q)) (ne_eqb q (length pieces) differs))
        ]

    pub added_laid : AreLaidOut (length pieces_then) (length (leaves ++ more)) (first_at pieces_then) (size_at pieces_then)
    added_laid = record {
      within = λ q lt. elim (cases_eq q (length pieces)) [
        | inl is ↦
            omega (arith, ap (λ n. first_at pieces_then n) is ∙ ap first_of new_is, ap (λ n. size_at pieces_then n) is ∙ ap size_of new_is, length-append leaves more)
        | inr differs ↦
            let old : q < length pieces = omega (arith, count_then) in
            omega (arith, ap first_of (old_is q old), ap size_of (old_is q old), laid.within q old, length-append leaves more)
      ];
      in_order = λ q r less lt.
          let old : q < length pieces = omega (arith, count_then) in
          elim (cases_eq r (length pieces)) [
            | inl is ↦
                omega (arith, ap (λ n. first_at pieces_then n) is ∙ ap first_of new_is, ap first_of (old_is q old), ap size_of (old_is q old), laid.within q old)
            | inr differs ↦
                let old_r : r < length pieces = omega (arith, count_then) in
                omega (arith, ap first_of (old_is q old), ap size_of (old_is q old), ap first_of (old_is r old_r), laid.in_order q r less old_r)
          ];
    }
