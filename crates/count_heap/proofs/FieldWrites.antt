-- The fields of an object after a write to its leaves.
use Rattle.std.proofs.Common.{◌≡◌, ℕ, zero, suc, ◌+◌, ◌<◌, ◌≤◌, List, [], ◌∷◌, ◌++◌, Bool, true, false, cond, Option, Some, None, inl, inr, length, length-set, set, map, take, drop, get_or, refl}
use Rattle.std.proofs.Common.{sym, ap, ◌∙◌, arith, append-nil, length-drop}
use Rattle.std.specs.Prelude.{slice_index_or}
use Rattle.std.proofs.lemmas.Bool.{cases_eq, cases_lt}
use Rattle.std.proofs.lemmas.List.{drop-drop, drop-take, drop_all, ext_get_or, get_or-drop, get_or-set_same, get_or-set_other, get_or-take, length-map, length-take-le}
use Rattle.holder_model_values.specs.declared.run_values.leaf.Leaf.{Leaf}
use Rattle.holder_model_values.specs.declared.run_values.leaf.Leaf.TheVariants.{Blank, Tag}
use Rattle.count_heap.specs.PooledLeaves.Pieces.{put_leaves}
use Rattle.count_heap.proofs.PooledLeaves.ListParts.{length_put, part_after, part_before, part_inside}
use Rattle.count_heap.specs.LayoutsByClass.Layouts.{places_from, size_of}
use Rattle.count_heap.specs.declared.layouts_by_class.field_place.FieldPlace.{FieldPlace}
use Rattle.count_heap.proofs.LayoutsByClass.Lists.{length_places}
use Rattle.count_heap.proofs.LayoutsByClass.PlacesApart.{count_at, no_place, place_at, place_within, places_apart}
use Rattle.count_heap.specs.inner.Objects.{field_at, is_mark}
use Rattle.count_heap.specs.inner.Written.{written}

-- ---- a field is told by its window: the leaf in front and its own

abbrev window : List Leaf → FieldPlace → List Leaf
window leaves p = take (1 + p.count) (drop p.from leaves)

abbrev in_window : List Leaf → Option (List Leaf)
in_window w = cond (is_mark (slice_index_or w 0 Blank)) (Some (drop 1 w)) None

by_window : (leaves : List Leaf) (p : FieldPlace) → field_at leaves p ≡ in_window (window leaves p)
by_window leaves p =
    let front : slice_index_or (window leaves p) 0 Blank ≡ slice_index_or leaves p.from Blank =
    get_or-take (1 + p.count) (drop p.from leaves) 0 Blank (omega arith) ∙ get_or-drop p.from leaves 0 Blank
    ∙ ap (λ n. slice_index_or leaves n Blank) (let e : p.from + 0 ≡ p.from = omega arith in e) in
    let own : drop 1 (window leaves p) ≡ take p.count (drop (p.from + 1) leaves) = drop-take 1 p.count (drop p.from leaves) ∙ ap (take p.count) (drop-drop 1 p.from leaves) in
    ap (λ x. cond (is_mark x) (Some (take p.count (drop (p.from + 1) leaves))) None) (sym front)
    ∙ ap (λ xs. cond (is_mark (slice_index_or (window leaves p) 0 Blank)) (Some xs) None) (sym own)

mapped : {X Y : Type 0} (f : X → Y) (xs : List X) (i : ℕ) (d : X) (e : Y) → i < length xs → get_or (map f xs) i e ≡ f (get_or xs i d)
mapped f [] i d e lt = absurd (omega arith)
mapped f (x ∷ xs) zero d e lt = refl
mapped f (x ∷ xs) (suc i) d e lt = mapped f xs i d e (omega arith)

module _ (counts : List ℕ) (leaves : List Leaf) (size : length leaves ≡ size_of counts) where
  abbrev places : List FieldPlace
  places = places_from 0 counts

  abbrev place : ℕ → FieldPlace
  place i = place_at 0 counts i

  fits : (i : ℕ) → i < length counts → (place i).from + (1 + (place i).count) ≤ length leaves
  fits i lt = omega (arith, place_within 0 counts i lt)

  pub field_is : (i : ℕ) → i < length counts → slice_index_or (map (field_at leaves) places) i None ≡ field_at leaves (place i)
  field_is i lt = mapped (field_at leaves) places i no_place None (omega (arith, length_places 0 counts))

  window_length : (i : ℕ) → i < length counts → length (window leaves (place i)) ≡ 1 + (place i).count
  window_length i lt = length-take-le (1 + (place i).count) (drop (place i).from leaves) (omega (arith, fits i lt, length-drop (place i).from leaves))

  -- one field has changed, and the windows of the others are as before
  one_field : (leaves' : List Leaf) (i : ℕ) (x : Option (List Leaf)) → i < length counts → in_window (window leaves' (place i)) ≡ x
      → ((j : ℕ) → j < length counts → (j ≡ i → ⊥) → window leaves' (place j) ≡ window leaves (place j))
      → map (field_at leaves') places ≡ set (map (field_at leaves) places) i x
  one_field leaves' i x lt here others =
      ext_get_or None (map (field_at leaves') places) (set (map (field_at leaves) places) i x)
      (length-map places (field_at leaves') ∙ sym (length-set (map (field_at leaves) places) i x ∙ length-map places (field_at leaves)))
      (λ j within.
      let lt_j : j < length counts = omega (arith, length-map places (field_at leaves'), length_places 0 counts) in
      let is_j = mapped (field_at leaves') places j no_place None (omega (arith, length_places 0 counts)) in
      elim (cases_eq j i) [
        | inl is ↦
            is_j ∙ by_window leaves' (place j) ∙ ap (λ n. in_window (window leaves' (place n))) is ∙ here
            ∙ sym (ap (λ n. slice_index_or (set (map (field_at leaves) places) i x) n None) is
            ∙ get_or-set_same (map (field_at leaves) places) i x None (omega (arith, length-map places (field_at leaves), length_places 0 counts)))
        | inr differs ↦
            is_j ∙ by_window leaves' (place j) ∙ ap in_window (others j lt_j differs) ∙ sym (by_window leaves (place j)) ∙ sym (field_is j lt_j)
            ∙ sym (get_or-set_other (map (field_at leaves) places) i j x None differs)
      ])

  -- ---- leaves are put into a field's window

  module _ (i at : ℕ) (ys : List Leaf) (lt : i < length counts) (inside : at + length ys ≤ 1 + (place i).count) where
    abbrev put_then : List Leaf
    put_then = put_leaves ((place i).from + at) ys leaves

    pub put_size : length put_then ≡ length leaves
    put_size = length_put ((place i).from + at) ys leaves (omega (arith, fits i lt))

    put_here : window put_then (place i) ≡ put_leaves at ys (window leaves (place i))
    put_here = part_inside (place i).from (1 + (place i).count) at ys leaves inside (fits i lt)

    put_elsewhere : (j : ℕ) → j < length counts → (j ≡ i → ⊥) → window put_then (place j) ≡ window leaves (place j)
    put_elsewhere j lt_j differs =
        let within : (place i).from + at ≤ length leaves = omega (arith, fits i lt) in
        elim (cases_lt j i) [
          | inl less ↦ part_before (place j).from (1 + (place j).count) ((place i).from + at) ys leaves (omega (arith, places_apart 0 counts j i less lt)) within
          | inr le ↦
              let more : i < j = omega arith in
              part_after (place j).from (1 + (place j).count) ((place i).from + at) ys leaves (omega (arith, places_apart 0 counts i j more lt_j)) within
        ]

-- ---- a field is written whole

-- a window with a mark and new leaves
marked_window : (w : List Leaf) (ys : List Leaf) → length w ≡ 1 + length ys → put_leaves 1 ys (put_leaves 0 (Tag 1 ∷ []) w) ≡ Tag 1 ∷ ys
marked_window [] ys size = absurd (omega arith)
marked_window (x ∷ w) ys size =
    let none : drop (1 + length ys) (Tag 1 ∷ w) ≡ [] = drop_all (1 + length ys) (Tag 1 ∷ w) (omega arith) in
    ap (λ zs. Tag 1 ∷ (ys ++ zs)) none ∙ ap (λ zs. Tag 1 ∷ zs) (append-nil ys)

module _ (counts : List ℕ) (leaves : List Leaf) (size : length leaves ≡ size_of counts) (i : ℕ) (ys : List Leaf) (lt : i < length counts) (count : slice_index_or counts i 0 ≡ length ys) where
  abbrev p : FieldPlace
  p = place_at 0 counts i

  count_is : p.count ≡ length ys
  count_is = count_at 0 counts i ∙ count

  abbrev once : List Leaf
  once = put_leaves (p.from + 0) (Tag 1 ∷ []) leaves

  once_size : length once ≡ length leaves
  once_size = put_size counts leaves size i 0 (Tag 1 ∷ []) lt (omega arith)

  once_fits : length once ≡ size_of counts
  once_fits = once_size ∙ size

  abbrev twice : List Leaf
  twice = put_leaves (p.from + 1) ys once

  both : written p ys leaves ≡ twice
  both = ap (λ n. put_leaves (p.from + 1) ys (put_leaves n (Tag 1 ∷ []) leaves)) (let e : p.from ≡ p.from + 0 = omega arith in e)

  window_is : window twice p ≡ Tag 1 ∷ ys
  window_is =
      put_here counts once once_fits i 1 ys lt (omega (arith, count_is))
      ∙ ap (put_leaves 1 ys) (put_here counts leaves size i 0 (Tag 1 ∷ []) lt (omega arith))
      ∙ marked_window (window leaves p) ys (window_length counts leaves size i lt ∙ ap (λ n. 1 + n) count_is)

  pub written_size : length (written p ys leaves) ≡ length leaves
  written_size = ap (λ xs. length xs) both ∙ put_size counts once once_fits i 1 ys lt (omega (arith, count_is)) ∙ once_size

  pub written_fields : map (field_at (written p ys leaves)) (places_from 0 counts) ≡ set (map (field_at leaves) (places_from 0 counts)) i (Some ys)
  written_fields =
      ap (λ xs. map (field_at xs) (places_from 0 counts)) both
      ∙ one_field counts leaves size twice i (Some ys) lt (ap in_window window_is)
      (λ j lt_j differs. put_elsewhere counts once once_fits i 1 ys lt (omega (arith, count_is)) j lt_j differs
      ∙ put_elsewhere counts leaves size i 0 (Tag 1 ∷ []) lt (omega arith) j lt_j differs)

-- ---- a field is emptied

module _ (counts : List ℕ) (leaves : List Leaf) (size : length leaves ≡ size_of counts) (i : ℕ) (lt : i < length counts) where
  abbrev e : FieldPlace
  e = place_at 0 counts i

  at_front : e.from ≡ e.from + 0
  at_front = omega arith

  pub cleared_size : length (put_leaves (place_at 0 counts i).from (Blank ∷ []) leaves) ≡ length leaves
  cleared_size = ap (λ n. length (put_leaves n (Blank ∷ []) leaves)) at_front ∙ put_size counts leaves size i 0 (Blank ∷ []) lt (omega arith)

  pub cleared_fields : map (field_at (put_leaves (place_at 0 counts i).from (Blank ∷ []) leaves)) (places_from 0 counts) ≡ set (map (field_at leaves) (places_from 0 counts)) i None
  cleared_fields =
      ap (λ n. map (field_at (put_leaves n (Blank ∷ []) leaves)) (places_from 0 counts)) at_front
      ∙ one_field counts leaves size (put_leaves (e.from + 0) (Blank ∷ []) leaves) i None lt (ap in_window (put_here counts leaves size i 0 (Blank ∷ []) lt (omega arith)))
      (put_elsewhere counts leaves size i 0 (Blank ∷ []) lt (omega arith))

-- ---- a part of a written field is written anew

-- behind the leaf in front
behind_front : (w : List Leaf) (from : ℕ) (ys old : List Leaf) → in_window w ≡ Some old → in_window (put_leaves (1 + from) ys w) ≡ Some (put_leaves from ys old)
behind_front [] from ys old is = absurd (let impossible : None ≡ Some old = is in cc)
behind_front (x ∷ w) from ys old is = by (is_mark x) refl is
  where
    step : put_leaves (1 + from) ys (x ∷ w) ≡ x ∷ put_leaves from ys w
    step =
        ap (λ n. take n (x ∷ w) ++ (ys ++ drop (1 + from + length ys) (x ∷ w))) (let e : 1 + from ≡ suc from = omega arith in e)
        ∙ ap (λ n. x ∷ (take from w ++ (ys ++ drop n (x ∷ w)))) (let e : 1 + from + length ys ≡ suc (from + length ys) = omega arith in e)

    by : (b : Bool) → is_mark x ≡ b → in_window (x ∷ w) ≡ Some old → in_window (put_leaves (1 + from) ys (x ∷ w)) ≡ Some (put_leaves from ys old)
    by true e seen =
        let own : w ≡ old = let some : Some w ≡ Some old = sym (ap (λ b. cond b (Some w) None) e) ∙ seen in cc in
        ap in_window step ∙ ap (λ b. cond b (Some (put_leaves from ys w)) None) e ∙ ap (λ zs. Some (put_leaves from ys zs)) own
    by false e seen = absurd (let impossible : None ≡ Some old = sym (ap (λ b. cond b (Some w) None) e) ∙ seen in cc)

-- how many leaves a written field has
written_count : (w : List Leaf) (n : ℕ) (old : List Leaf) → length w ≡ 1 + n → in_window w ≡ Some old → length old ≡ n
written_count [] n old size is = absurd (omega arith)
written_count (x ∷ w) n old size is = by (is_mark x) refl is
  where
    by : (b : Bool) → is_mark x ≡ b → in_window (x ∷ w) ≡ Some old → length old ≡ n
    by true e seen =
        let own : w ≡ old = let some : Some w ≡ Some old = sym (ap (λ b. cond b (Some w) None) e) ∙ seen in cc in
        omega (arith, ap (λ xs. length xs) own)
    by false e seen = absurd (let impossible : None ≡ Some old = sym (ap (λ b. cond b (Some w) None) e) ∙ seen in cc)

module _ (counts : List ℕ) (leaves : List Leaf) (size : length leaves ≡ size_of counts) (i from : ℕ) (ys old : List Leaf) (lt : i < length counts)
    (is : field_at leaves (place_at 0 counts i) ≡ Some old) (fits_old : from + length ys ≤ length old) where
  abbrev q : FieldPlace
  q = place_at 0 counts i

  seen : in_window (window leaves q) ≡ Some old
  seen = sym (by_window leaves q) ∙ is

  old_count : length old ≡ q.count
  old_count = written_count (window leaves q) q.count old (window_length counts leaves size i lt) seen

  pub part_within : q.from + 1 + from + length ys ≤ length leaves
  part_within = omega (arith, fits counts leaves size i lt, old_count)

  same_place : q.from + 1 + from ≡ q.from + (1 + from)
  same_place = omega arith

  pub part_size : length (put_leaves (q.from + 1 + from) ys leaves) ≡ length leaves
  part_size = ap (λ n. length (put_leaves n ys leaves)) same_place ∙ put_size counts leaves size i (1 + from) ys lt (omega (arith, old_count))

  pub part_fields : map (field_at (put_leaves (q.from + 1 + from) ys leaves)) (places_from 0 counts) ≡ set (map (field_at leaves) (places_from 0 counts)) i (Some (put_leaves from ys old))
  part_fields =
      ap (λ n. map (field_at (put_leaves n ys leaves)) (places_from 0 counts)) same_place
      ∙ one_field counts leaves size (put_leaves (q.from + (1 + from)) ys leaves) i (Some (put_leaves from ys old)) lt
      (ap in_window (put_here counts leaves size i (1 + from) ys lt (omega (arith, old_count))) ∙ behind_front (window leaves q) from ys old seen)
      (put_elsewhere counts leaves size i (1 + from) ys lt (omega (arith, old_count)))
