-- What tables tell of the values: the same, row by row, where they tell the same of the move as of the copy.
use Rattle.std.proofs.Common.{◌≡◌, ℕ, zero, suc, ◌+◌, List, [], ◌∷◌, ◌++◌, length, map, refl, sym, ap, ap₂, ◌∙◌, arith, None, Some, length-append}
use Rattle.std.specs.List.{flat_map, slice_get}
use Rattle.std.proofs.lemmas.Grind.{flat_map-append}
use Rattle.std.proofs.lemmas.List.{length-map}
use Rattle.std.proofs.lemmas.Option.{same_Some}
use Rattle.numbered_form.specs.Insts.{insts_of}
use Rattle.numbered_form.specs.Numbering.{AreCountedFrom, defined_in, results_of, value_of, values_of}
use Rattle.numbered_form.specs.PointChecks.Points.{IsAt}
use Rattle.sil_ast.specs.declared.function.Block.{Block}
use Rattle.sil_ast.specs.declared.function.BlockArg.{BlockArg}
use Rattle.sil_ast.specs.declared.function.Function.{Function}
use Rattle.sil_ast.specs.declared.inst.Inst.{Inst}
use Rattle.sil_ast.specs.declared.place.PointId.{PointId}
use Rattle.sil_ast.specs.declared.place.ValueId.{ValueId}
use Rattle.numbered_form.specs.ValueTables.ValueRows.{block_rows, rows_from, value_rows}
use Rattle.copy_pairing_model.specs.Rewritten.{changed_at, moved_block}
use Rattle.copy_pairing_acceptance.proofs.MovedFunctions.Lists.{get_behind, told_alike}
use Rattle.copy_pairing_acceptance.proofs.MovedFunctions.Places.{after, new_block}
use Rattle.copy_pairing_acceptance.proofs.MovedFunctions.Split.{IsSplit, insts_moved, move_of}

module _ {f : Function} {p : PointId} {last : ℕ} {c v : ValueId} (s : IsSplit f p last c v) where
  -- ---- what is told of the results of the instructions of the block

  pub insts_told : {A : Type 0} (tell : Inst → List A) → tell (move_of s.copy) ≡ tell s.copy → tell s.destroy ≡ []
      → flat_map tell (insts_of (new_block s)) ≡ flat_map tell (insts_of s.block)
  insts_told tell same none =
      flat_map-append tell (new_block s).insts (s.block.terminator ∷ [])
      ∙ ap (λ xs. xs ++ flat_map tell (s.block.terminator ∷ []))
      (ap (flat_map tell) (insts_moved s) ∙ flat_map-append tell s.front (move_of s.copy ∷ (s.middle ++ s.back))
      ∙ ap₂ (λ x y. flat_map tell s.front ++ (x ++ y)) same
      (flat_map-append tell s.middle s.back ∙ ap (λ x. flat_map tell s.middle ++ (x ++ flat_map tell s.back)) (sym none)
      ∙ sym (flat_map-append tell s.middle (s.destroy ∷ s.back)))
      ∙ sym (flat_map-append tell s.front (s.copy ∷ (s.middle ++ s.destroy ∷ s.back))) ∙ ap (flat_map tell) (sym s.insts))
      ∙ sym (flat_map-append tell s.block.insts (s.block.terminator ∷ []))

  pub values_same : s.destroy.results ≡ [] → values_of (after s).blocks ≡ values_of f.blocks
  values_same none = told_alike (moved_block p.index last) defined_in p.block.0 f.blocks s.block s.there (ap (λ xs. map value_of s.block.args ++ xs) (insts_told results_of refl none))

  module _ {A : Type 0} (args others : ℕ → List BlockArg → List A) (results : Inst → List A)
      (args_same : (n : ℕ) (xs : List BlockArg) → others n xs ≡ args n xs) (copy_same : results (move_of s.copy) ≡ results s.copy) (none : results s.destroy ≡ []) where
    by_args : (n : ℕ) (bs : List Block) → rows_from others results n bs ≡ rows_from args results n bs
    by_args n [] = refl
    by_args n (b ∷ bs) = ap₂ (λ x y. (x ++ flat_map results (insts_of b)) ++ y) (args_same n b.args) (by_args (n + 1) bs)

    from : (n k : ℕ) (bs : List Block) → slice_get bs k ≡ Some s.block → rows_from others results n (changed_at k (moved_block p.index last) bs) ≡ rows_from args results n bs
    from n k [] e = refl
    from n zero (b ∷ bs) e = ap₂ (λ x y. x ++ y) block (by_args (n + 1) bs)
      where
        here : b ≡ s.block
        here = same_Some b s.block e

        block : block_rows others results n (moved_block p.index last b) ≡ block_rows args results n b
        block =
            ap (λ x. block_rows others results n (moved_block p.index last x)) here
            ∙ ap₂ (λ x y. x ++ y) (args_same n s.block.args) (insts_told results copy_same none)
            ∙ ap (block_rows args results n) (sym here)
    from n (suc k) (b ∷ bs) e = ap₂ (λ x y. (x ++ flat_map results (insts_of b)) ++ y) (args_same n b.args) (from (n + 1) k bs e)

    pub rows_same : value_rows others results (after s) ≡ value_rows args results f
    rows_same = from 0 p.block.0 f.blocks s.there

-- ---- the row of a result

-- a place in the list of values, and the row there
record IsRow {A : Type 0} (values : List ValueId) (rows : List A) (w : ValueId) (row : A) : Type 0 where
  place : ℕ
  value_there : slice_get values place ≡ Some w
  row_there : slice_get rows place ≡ Some row

get_before : {X : Type 0} (xs ys : List X) (k : ℕ) (x : X) → slice_get xs k ≡ Some x → slice_get (xs ++ ys) k ≡ Some x
get_before [] ys k x e = absurd (let no : None ≡ Some x = e in cc)
get_before (y ∷ xs) ys zero x e = e
get_before (y ∷ xs) ys (suc k) x e = get_before xs ys k x e

row_behind : {A : Type 0} (vs values : List ValueId) (rs rows : List A) (w : ValueId) (row : A) → length rs ≡ length vs → IsRow values rows w row → IsRow (vs ++ values) (rs ++ rows) w row
row_behind vs values rs rows w row size h = record {
  place = length vs + h.place;
  value_there = get_behind vs values h.place ∙ h.value_there;
  row_there = ap (λ n. slice_get (rs ++ rows) (n + h.place)) (sym size) ∙ get_behind rs rows h.place ∙ h.row_there;
}

row_before : {A : Type 0} (vs values : List ValueId) (rs rows : List A) (w : ValueId) (row : A) → IsRow vs rs w row → IsRow (vs ++ values) (rs ++ rows) w row
row_before vs values rs rows w row h = record {
  place = h.place;
  value_there = get_before vs values h.place w h.value_there;
  row_there = get_before rs rows h.place row h.row_there;
}

counted_place : (n : ℕ) (vs : List ValueId) (k : ℕ) (w : ValueId) → AreCountedFrom n vs → slice_get vs k ≡ Some w → w.0 ≡ n + k
counted_place n [] k w h e = absurd (let no : None ≡ Some w = e in cc)
counted_place n (x ∷ vs) zero w h e = let first : x.0 ≡ n = h.0 in ap (λ (y : ValueId). y.0) (sym (same_Some x w e)) ∙ first ∙ omega arith
counted_place n (x ∷ vs) (suc k) w h e = let next : w.0 ≡ (n + 1) + k = counted_place (n + 1) vs k w h.1 e in omega arith

module _ {A : Type 0} (args : ℕ → List BlockArg → List A) (results : Inst → List A)
    (of_args : (n : ℕ) (xs : List BlockArg) → length (args n xs) ≡ length xs) (of_results : (i : Inst) → length (results i) ≡ length i.results) where
  insts_level : (is : List Inst) → length (flat_map results is) ≡ length (flat_map results_of is)
  insts_level [] = refl
  insts_level (i ∷ is) =
      length-append (results i) (flat_map results is) ∙ ap₂ (λ x y. x + y) (of_results i) (insts_level is)
      ∙ sym (length-append i.results (flat_map results_of is))

  args_level : (n : ℕ) (xs : List BlockArg) → length (args n xs) ≡ length (map value_of xs)
  args_level n xs = of_args n xs ∙ sym (length-map xs value_of)

  block_level : (n : ℕ) (b : Block) → length (block_rows args results n b) ≡ length (defined_in b)
  block_level n b =
      length-append (args n b.args) (flat_map results (insts_of b)) ∙ ap₂ (λ x y. x + y) (args_level n b.args) (insts_level (insts_of b))
      ∙ sym (length-append (map value_of b.args) (flat_map results_of (insts_of b)))

  in_insts : (is : List Inst) (k r : ℕ) (i : Inst) (w : ValueId) (row : A) → slice_get is k ≡ Some i → slice_get i.results r ≡ Some w → slice_get (results i) r ≡ Some row
      → IsRow (flat_map results_of is) (flat_map results is) w row
  in_insts [] k r i w row e at is_row = absurd (let no : None ≡ Some i = e in cc)
  in_insts (x ∷ is) zero r i w row e at is_row =
      let same : x ≡ i = same_Some x i e in
      row_before x.results (flat_map results_of is) (results x) (flat_map results is) w row
      (record { place = r; value_there = ap (λ (y : Inst). slice_get y.results r) same ∙ at; row_there = ap (λ y. slice_get (results y) r) same ∙ is_row })
  in_insts (x ∷ is) (suc k) r i w row e at is_row =
      row_behind x.results (flat_map results_of is) (results x) (flat_map results is) w row (of_results x) (in_insts is k r i w row e at is_row)

  in_blocks : (n : ℕ) (bs : List Block) (j k r : ℕ) (b : Block) (i : Inst) (w : ValueId) (row : A) → slice_get bs j ≡ Some b → slice_get (insts_of b) k ≡ Some i
      → slice_get i.results r ≡ Some w → slice_get (results i) r ≡ Some row → IsRow (values_of bs) (rows_from args results n bs) w row
  in_blocks n [] j k r b i w row there e at is_row = absurd (let no : None ≡ Some b = there in cc)
  in_blocks n (x ∷ bs) zero k r b i w row there e at is_row =
      let same : x ≡ b = same_Some x b there in
      row_before (defined_in x) (values_of bs) (block_rows args results n x) (rows_from args results (n + 1) bs) w row
      (row_behind (map value_of x.args) (flat_map results_of (insts_of x)) (args n x.args) (flat_map results (insts_of x)) w row (args_level n x.args)
      (in_insts (insts_of x) k r i w row (ap (λ y. slice_get (insts_of y) k) same ∙ e) at is_row))
  in_blocks n (x ∷ bs) (suc j) k r b i w row there e at is_row =
      row_behind (defined_in x) (values_of bs) (block_rows args results n x) (rows_from args results (n + 1) bs) w row (block_level n x)
      (in_blocks (n + 1) bs j k r b i w row there e at is_row)

  -- the row of a result is the one that its instruction's results have there
  pub row_of_result : (f : Function) → AreCountedFrom 0 (values_of f.blocks) → (block index r : ℕ) (i : Inst) (w : ValueId) (row : A) → IsAt f block index i
      → slice_get i.results r ≡ Some w → slice_get (results i) r ≡ Some row → slice_get (value_rows args results f) w.0 ≡ Some row
  row_of_result f counted block index r i w row h at is_row =
      let it = in_blocks 0 f.blocks block index r h.within i w row h.is_block h.is_inst at is_row in
      let number : w.0 ≡ 0 + it.place = counted_place 0 (values_of f.blocks) it.place w counted it.value_there in
      ap (slice_get (value_rows args results f)) (let e : w.0 ≡ it.place = omega arith in e) ∙ it.row_there
