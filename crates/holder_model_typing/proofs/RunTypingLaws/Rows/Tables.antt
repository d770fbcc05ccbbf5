-- What a table of a function's values tells of the results of an instruction: just what it has for them.
use Rattle.std.proofs.Common.{◌≡◌, ℕ, zero, suc, ◌+◌, List, [], ◌∷◌, ◌++◌, length, map, refl, sym, ap, ap₂, ◌∙◌, subst, arith, append_assoc, append-nil, length-append}
use Rattle.std.proofs.Common.{Some}
use Rattle.std.specs.Prelude.{slice_get, unwrap_or}
use Rattle.std.specs.List.{flat_map}
use Rattle.sil_ast.specs.declared.function.Block.{Block}
use Rattle.sil_ast.specs.declared.function.BlockArg.{BlockArg}
use Rattle.sil_ast.specs.declared.function.Function.{Function}
use Rattle.sil_ast.specs.declared.inst.Inst.{Inst}
use Rattle.sil_ast.specs.declared.place.ValueId.{ValueId}
use Rattle.numbered_form.specs.Insts.{insts_of}
use Rattle.numbered_form.specs.Numbering.{AreCountedFrom, defined_in, results_of, value_of, values_of}
use Rattle.numbered_form.specs.PointChecks.Points.{IsAt}
use Rattle.numbered_form.specs.ValueTables.ValueRows.{block_rows, rows_from, value_rows}
use Rattle.std.proofs.lemmas.List.{length-map}
use Rattle.numbered_form.proofs.ValueTables.Rows.{rows_count}

-- the rows of some values among all, at the same place as these values among all values
pub record Among {A : Type 0} (all mine : List A) (values own : List ValueId) : Type 0 where
  pub before : List A
  pub after : List A
  pub values_before : List ValueId
  pub values_after : List ValueId
  pub rows : all ≡ before ++ (mine ++ after)
  pub numbered : values ≡ values_before ++ (own ++ values_after)
  pub level : length before ≡ length values_before

-- ---- rows around those that are there

three : {A : Type 0} (a b c d : List A) → (a ++ (b ++ c)) ++ d ≡ a ++ (b ++ (c ++ d))
three a b c d = append_assoc a (b ++ c) d ∙ ap (λ x. a ++ x) (append_assoc b c d)

behind : {A : Type 0} (all mine : List A) (values own : List ValueId) (xs : List A) (vs : List ValueId) → length xs ≡ length vs → Among all mine values own
    → Among (xs ++ all) mine (vs ++ values) own
behind all mine values own xs vs e s = record {
  before = xs ++ s.before;
  after = s.after;
  values_before = vs ++ s.values_before;
  values_after = s.values_after;
  rows = ap (λ x. xs ++ x) s.rows ∙ sym (append_assoc xs s.before (mine ++ s.after));
  numbered = ap (λ x. vs ++ x) s.numbered ∙ sym (append_assoc vs s.values_before (own ++ s.values_after));
  level = length-append xs s.before ∙ ap₂ (λ a b. a + b) e s.level ∙ sym (length-append vs s.values_before);
}

in_front : {A : Type 0} (all mine : List A) (values own : List ValueId) (ys : List A) (ws : List ValueId) → Among all mine values own
    → Among (all ++ ys) mine (values ++ ws) own
in_front all mine values own ys ws s = record {
  before = s.before;
  after = s.after ++ ys;
  values_before = s.values_before;
  values_after = s.values_after ++ ws;
  rows = ap (λ x. x ++ ys) s.rows ∙ three s.before mine s.after ys;
  numbered = ap (λ x. x ++ ws) s.numbered ∙ three s.values_before own s.values_after ws;
  level = s.level;
}

whole : {A : Type 0} (mine : List A) (own : List ValueId) → Among mine mine own own
whole mine own = record {
  before = [];
  after = [];
  values_before = [];
  values_after = [];
  rows = sym (append-nil mine);
  numbered = sym (append-nil own);
  level = refl;
}

through : {A : Type 0} (all middle mine : List A) (values between own : List ValueId) → Among all middle values between → Among middle mine between own → Among all mine values own
through all middle mine values between own s t =
    subst (λ x. Among x mine values own) (sym s.rows)
    (subst (λ x. Among (s.before ++ (middle ++ s.after)) mine x own) (sym s.numbered)
    (behind (middle ++ s.after) mine (between ++ s.values_after) own s.before s.values_before s.level (in_front middle mine between own s.after s.values_after t)))

-- ---- what is told of values that are counted

counted_behind : (n : ℕ) (vs ws : List ValueId) → AreCountedFrom n (vs ++ ws) → AreCountedFrom (n + length vs) ws
counted_behind n [] ws h = let same : n ≡ n + 0 = omega arith in subst (λ k. AreCountedFrom k ws) same h
counted_behind n (v ∷ vs) ws h = let same : (n + 1) + length vs ≡ n + suc (length vs) = omega arith in subst (λ k. AreCountedFrom k ws) same (counted_behind (n + 1) vs ws h.1)

stands_there : {A : Type 0} (xs ys : List A) (x : A) → slice_get (xs ++ x ∷ ys) (length xs) ≡ Some x
stands_there [] ys x = refl
stands_there (y ∷ xs) ys x = stands_there xs ys x

-- what a table has for the value with this number
abbrev pub row_at : {A : Type 0} → A → List A → ValueId → A
row_at d rows v = unwrap_or (slice_get rows v.0) d

told_each : {A : Type 0} (d : A) (before after mine : List A) (vs rest : List ValueId) → length mine ≡ length vs → AreCountedFrom (length before) (vs ++ rest)
    → map (row_at d (before ++ (mine ++ after))) vs ≡ mine
told_each d before after [] [] rest e h = refl
told_each d before after (x ∷ mine) [] rest e h = absurd (omega arith)
told_each d before after [] (v ∷ vs) rest e h = absurd (omega arith)
told_each d before after (x ∷ mine) (v ∷ vs) rest e h =
    let one_more : length before + 1 ≡ length (before ++ x ∷ []) = sym (length-append before (x ∷ [])) in
    ap₂ (λ a b. a ∷ b)
    (ap (λ k. unwrap_or (slice_get (before ++ (x ∷ mine ++ after)) k) d) h.0 ∙ ap (λ o. unwrap_or o d) (stands_there before (mine ++ after) x))
    (ap (λ rows. map (row_at d rows) vs) (sym (append_assoc before (x ∷ []) (mine ++ after)))
    ∙ told_each d (before ++ x ∷ []) after mine vs rest (omega arith) (subst (λ k. AreCountedFrom k (vs ++ rest)) one_more h.1))

told_among : {A : Type 0} (d : A) (all mine : List A) (values own : List ValueId) → Among all mine values own → length mine ≡ length own → AreCountedFrom 0 values
    → map (row_at d all) own ≡ mine
told_among d all mine values own s e h =
    let level : length s.values_before ≡ length s.before = sym s.level in
    let start : 0 + length s.values_before ≡ length s.before = omega arith in
    ap (λ rows. map (row_at d rows) own) s.rows
    ∙ told_each d s.before s.after mine own s.values_after e
    (subst (λ k. AreCountedFrom k (own ++ s.values_after)) start (counted_behind 0 s.values_before (own ++ s.values_after) (subst (AreCountedFrom 0) s.numbered h)))

-- ---- tables by blocks and instructions

module _ {A : Type 0} (args : ℕ → List BlockArg → List A) (results : Inst → List A)
    (of_args : (n : ℕ) (xs : List BlockArg) → length (args n xs) ≡ length xs) (of_results : (i : Inst) → length (results i) ≡ length i.results) where
  block_level : (n : ℕ) (b : Block) → length (block_rows args results n b) ≡ length (defined_in b)
  block_level n b =
      sym (ap length (append-nil (block_rows args results n b))) ∙ rows_count args results of_args of_results n (b ∷ []) ∙ ap length (append-nil (defined_in b))

  in_insts : (is : List Inst) (k : ℕ) (i : Inst) → slice_get is k ≡ Some i → Among (flat_map results is) (results i) (flat_map results_of is) i.results
  in_insts [] k i e = absurd (cc)
  in_insts (j ∷ is) zero i e =
      let same : j ≡ i = cc in
      subst (λ x. Among (flat_map results (j ∷ is)) (results x) (flat_map results_of (j ∷ is)) x.results) same
      (in_front (results j) (results j) j.results j.results (flat_map results is) (flat_map results_of is) (whole (results j) j.results))
  in_insts (j ∷ is) (suc k) i e = behind (flat_map results is) (results i) (flat_map results_of is) i.results (results j) j.results (of_results j) (in_insts is k i e)

  in_blocks : (n : ℕ) (bs : List Block) (k : ℕ) (b : Block) → slice_get bs k ≡ Some b
      → Among (rows_from args results n bs) (block_rows args results (n + k) b) (values_of bs) (defined_in b)
  in_blocks n [] k b e = absurd (cc)
  in_blocks n (c ∷ bs) zero b e =
      let same : c ≡ b = cc in
      let here : n ≡ n + 0 = omega arith in
      subst (λ x. Among (rows_from args results n (c ∷ bs)) (block_rows args results (n + 0) x) (values_of (c ∷ bs)) (defined_in x)) same
      (subst (λ x. Among (rows_from args results n (c ∷ bs)) (block_rows args results x c) (values_of (c ∷ bs)) (defined_in c)) here
      (in_front (block_rows args results n c) (block_rows args results n c) (defined_in c) (defined_in c) (rows_from args results (n + 1) bs) (values_of bs)
      (whole (block_rows args results n c) (defined_in c))))
  in_blocks n (c ∷ bs) (suc k) b e =
      let there : (n + 1) + k ≡ n + suc k = omega arith in
      subst (λ x. Among (rows_from args results n (c ∷ bs)) (block_rows args results x b) (values_of (c ∷ bs)) (defined_in b)) there
      (behind (rows_from args results (n + 1) bs) (block_rows args results ((n + 1) + k) b) (values_of bs) (defined_in b) (block_rows args results n c) (defined_in c) (block_level n c)
      (in_blocks (n + 1) bs k b e))

  module _ (d : A) (f : Function) (counted : AreCountedFrom 0 (values_of f.blocks)) where
    -- of the results of the instruction or terminator at a point
    pub told_of_results : (block index : ℕ) (i : Inst) → IsAt f block index i → map (row_at d (value_rows args results f)) i.results ≡ results i
    told_of_results block index i here =
        let b : Block = here.within in
        let in_block = behind (flat_map results (insts_of b)) (results i) (flat_map results_of (insts_of b)) i.results (args (0 + block) b.args) (map value_of b.args)
        (of_args (0 + block) b.args ∙ sym (length-map b.args value_of)) (in_insts (insts_of b) index i here.is_inst) in
        told_among d (value_rows args results f) (results i) (values_of f.blocks) i.results
        (through (value_rows args results f) (block_rows args results (0 + block) b) (results i) (values_of f.blocks) (defined_in b) i.results
        (in_blocks 0 f.blocks block b here.is_block) in_block)
        (of_results i) counted

    -- of the arguments of the block with this number
    pub told_of_args : (k : ℕ) (b : Block) → slice_get f.blocks k ≡ Some b → map (row_at d (value_rows args results f)) (map value_of b.args) ≡ args k b.args
    told_of_args k b e =
        let here : 0 + k ≡ k = omega arith in
        let own = args (0 + k) b.args in
        let in_block = in_front own own (map value_of b.args) (map value_of b.args) (flat_map results (insts_of b)) (flat_map results_of (insts_of b)) (whole own (map value_of b.args)) in
        told_among d (value_rows args results f) own (values_of f.blocks) (map value_of b.args)
        (through (value_rows args results f) (block_rows args results (0 + k) b) own (values_of f.blocks) (defined_in b) (map value_of b.args) (in_blocks 0 f.blocks k b e) in_block)
        (of_args (0 + k) b.args ∙ sym (length-map b.args value_of)) counted
        ∙ ap (λ n. args n b.args) here
