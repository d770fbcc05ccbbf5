-- Rows by value, block by block: how they grow, how many there are, what holds of each, and when two lists of them are the same.
use Rattle.std.proofs.Common.{◌≡◌, ℕ, ◌+◌, ◌<◌, ◌≤◌, List, [], ◌∷◌, ◌++◌, length, map, get_or, take, refl, sym, ap, ap₂, ◌∙◌, arith, append_assoc, length-append}
use Rattle.std.specs.List.{flat_map}
use Rattle.std.proofs.lemmas.List.{append-nil, length-map, length-take-le, map-append, take_more}
use Rattle.sil_ast.specs.declared.function.Block.{Block}
use Rattle.sil_ast.specs.declared.function.BlockArg.{BlockArg}
use Rattle.sil_ast.specs.declared.inst.Inst.{Inst}
use Rattle.numbered_form.specs.Insts.{EachInBlock, insts_in, insts_of}
use Rattle.numbered_form.specs.Lists.{Each}
use Rattle.numbered_form.specs.Numbering.{defined_in, results_of, value_of, values_of}
use Rattle.numbered_form.specs.ValueTables.ValueRows.{block_rows, rows_from}

module _ {A : Type 0} (args : ℕ → List BlockArg → List A) (results : Inst → List A) where
  rows_push : (n : ℕ) (bs : List Block) (b : Block) (k : ℕ) → k ≡ n + length bs →
      rows_from args results n (bs ++ b ∷ []) ≡ rows_from args results n bs ++ block_rows args results k b
  rows_push n [] b k e = let same : n ≡ k = omega arith in append-nil (block_rows args results n b) ∙ ap (λ m. block_rows args results m b) same
  rows_push n (x ∷ bs) b k e =
      ap (λ r. block_rows args results n x ++ r) (rows_push (n + 1) bs b k (omega arith))
      ∙ sym (append_assoc (block_rows args results n x) (rows_from args results (n + 1) bs) (block_rows args results k b))

  pub rows_more : (bs : List Block) (k : ℕ) (b : Block) → k < length bs → b ≡ get_or bs k b →
      rows_from args results 0 (take (k + 1) bs) ≡ rows_from args results 0 (take k bs) ++ block_rows args results k b
  rows_more bs k b lt is =
      let long : length (take k bs) ≡ k = length-take-le k bs (omega arith) in
      ap (rows_from args results 0) (take_more bs k b lt ∙ ap (λ x. take k bs ++ x ∷ []) (sym is)) ∙ rows_push 0 (take k bs) b k (omega arith)

  -- a table that told of the values of the first blocks tells of those of one block more
  pub rows_next : (blocks slice : List Block) (k : ℕ) (b : Block) (before old new : List A) → slice ≡ blocks → k < length slice → b ≡ get_or slice k b →
      old ≡ before ++ rows_from args results 0 (take k blocks) → new ≡ old ++ block_rows args results k b → new ≡ before ++ rows_from args results 0 (take (k + 1) blocks)
  rows_next blocks slice k b before old new all lt is told added =
      let len : length slice ≡ length blocks = ap length all in
      added
      ∙ ap (λ x. x ++ block_rows args results k b) told
      ∙ append_assoc before (rows_from args results 0 (take k blocks)) (block_rows args results k b)
      ∙ ap (λ x. before ++ x) (sym (rows_more blocks k b (omega arith) (is ∙ ap (λ xs. get_or xs k b) all)))

  -- as many as there are values, where there are as many of each block's arguments and of each instruction's results
  module _ (of_args : (n : ℕ) (xs : List BlockArg) → length (args n xs) ≡ length xs) (of_results : (i : Inst) → length (results i) ≡ length i.results) where
    results_count : (is : List Inst) → length (flat_map results is) ≡ length (flat_map results_of is)
    results_count [] = refl
    results_count (i ∷ is) =
        length-append (results i) (flat_map results is) ∙ ap₂ (λ a b. a + b) (of_results i) (results_count is) ∙ sym (length-append (results_of i) (flat_map results_of is))

    block_count : (n : ℕ) (b : Block) → length (block_rows args results n b) ≡ length (defined_in b)
    block_count n b =
        length-append (args n b.args) (flat_map results (insts_of b))
        ∙ ap₂ (λ a b. a + b) (of_args n b.args ∙ sym (length-map b.args value_of)) (results_count (insts_of b))
        ∙ sym (length-append (map value_of b.args) (flat_map results_of (insts_of b)))

    pub rows_count : (n : ℕ) (bs : List Block) → length (rows_from args results n bs) ≡ length (values_of bs)
    rows_count n [] = refl
    rows_count n (b ∷ bs) =
        length-append (block_rows args results n b) (rows_from args results (n + 1) bs)
        ∙ ap₂ (λ a b. a + b) (block_count n b) (rows_count (n + 1) bs)
        ∙ sym (length-append (defined_in b) (values_of bs))

-- P holds of each row, where it holds of those of each block's arguments and of the results of each instruction of which Q holds
pub each_append : {A : Type 0} (P : A → Type 0) (xs ys : List A) → Each P xs → Each P ys → Each P (xs ++ ys)
each_append P [] ys g h = h
each_append P (x ∷ xs) ys g h = (g.0, each_append P xs ys g.1 h)

pub each_flat : {A B : Type 0} (f : A → List B) (P : A → Type 0) (Q : B → Type 0) → ((x : A) → P x → Each Q (f x)) → (xs : List A) → Each P xs → Each Q (flat_map f xs)
each_flat f P Q e [] h = tt
each_flat f P Q e (x ∷ xs) h = each_append Q (f x) (flat_map f xs) (e x h.0) (each_flat f P Q e xs h.1)

pub each_row : {A : Type 0} (args : ℕ → List BlockArg → List A) (results : Inst → List A) (P : A → Type 0) (Q : Inst → Type 0) →
    ((n : ℕ) (xs : List BlockArg) → Each P (args n xs)) → ((i : Inst) → Q i → Each P (results i)) → (n : ℕ) (bs : List Block) → Each (EachInBlock Q) bs → Each P (rows_from args results n bs)
each_row args results P Q of_args of_results n [] h = tt
each_row args results P Q of_args of_results n (b ∷ bs) h =
    each_append P (block_rows args results n b) (rows_from args results (n + 1) bs)
    (each_append P (args n b.args) (flat_map results (insts_of b)) (of_args n b.args) (each_flat results Q P of_results (insts_of b) (each_append Q b.insts (b.terminator ∷ []) h.0.0 (h.0.1, tt))))
    (each_row args results P Q of_args of_results (n + 1) bs h.1)

-- what is told of arguments is the same where it is so of those of the blocks that there are
pub same_args : {A : Type 0} (args others : ℕ → List BlockArg → List A) (results : Inst → List A) (n : ℕ) (bs : List Block) →
    ((k : ℕ) (xs : List BlockArg) → n ≤ k → k < n + length bs → args k xs ≡ others k xs) → rows_from args results n bs ≡ rows_from others results n bs
same_args args others results n [] same = refl
same_args args others results n (b ∷ bs) same =
    ap₂ (λ x y. (x ++ flat_map results (insts_of b)) ++ y) (same n b.args (omega arith) (omega arith))
    (same_args args others results (n + 1) bs (λ k xs le lt. same k xs (omega arith) (omega arith)))

-- where one thing is told of each instruction and none of arguments, the rows are those of the instructions, in order
rows_of_insts : {A : Type 0} (of : Inst → A) (is : List Inst) → flat_map (λ i. of i ∷ []) is ≡ map of is
rows_of_insts of [] = refl
rows_of_insts of (i ∷ is) = ap (λ r. of i ∷ r) (rows_of_insts of is)

pub rows_by_inst : {A : Type 0} (of : Inst → A) (n : ℕ) (bs : List Block) → rows_from (λ k args. []) (λ i. of i ∷ []) n bs ≡ map of (insts_in bs)
rows_by_inst of n [] = refl
rows_by_inst of n (b ∷ bs) =
    ap₂ (λ x y. x ++ y) (rows_of_insts of (insts_of b)) (rows_by_inst of (n + 1) bs)
    ∙ sym (map-append of (insts_of b) (insts_in bs))
