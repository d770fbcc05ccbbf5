-- The rows of the values of a function in which a copy is lent: those of the function's values, but for the copy's own.
use Rattle.std.proofs.Common.{◌≡◌, ℕ, ◌+◌, List, [], ◌∷◌, ◌++◌, length, map, replicate, refl, sym, ap, ap₂, ◌∙◌}
use Rattle.std.specs.Prelude.{cond, slice_get, unwrap_or}
use Rattle.std.specs.List.{flat_map, range_with_len}
use Rattle.std.proofs.lemmas.Grind.{flat_map-append}
use Rattle.std.proofs.lemmas.List.{map-append}
use Rattle.instruction_table.specs.Forms.{result_kind_of}
use Rattle.instruction_table.specs.declared.op.Op.TheVariants as op
use Rattle.numbered_form.specs.Insts.{insts_of}
use Rattle.ownership_kinds_chains.specs.OwnershipChains.Chains.{operands_at}
use Rattle.ownership_kinds_chains.specs.declared.ownership_chains.definition.Definition.{Definition}
use Rattle.copy_pairing_model.specs.ownership_kinds_origins.Origins.{arg_definition, arg_definitions, chain_operands, definitions_of, is_zero, result_definition, result_definitions}
use Rattle.copy_pairing_model.specs.ownership_kinds_origins.Renamings.{arg_renaming, renamed, renames, renamings_of, result_renamings}
use Rattle.copy_pairing_model.specs.ownership_kinds_origins.Switched.{switch_to, switches_from}
use Rattle.sil_ast.specs.declared.function.Block.{Block}
use Rattle.sil_ast.specs.declared.function.BlockArg.{BlockArg}
use Rattle.sil_ast.specs.declared.function.Function.{Function}
use Rattle.sil_ast.specs.declared.inst.Inst.{Inst}
use Rattle.sil_ast.specs.declared.place.ValueId.{ValueId}
use Rattle.sil_types_declarations.specs.TypeDefinitions.Declarations.{Declarations}
use Rattle.numbered_form.specs.ValueTables.FirstValue.{value_of as operand_value}
use Rattle.numbered_form.specs.ValueTables.ValueRows.{block_rows, rows_from, value_rows}
use Rattle.copy_pairing_model.specs.Rewritten.{lent, lent_block, lent_inst, with_op}
use Rattle.copy_pairing_acceptance.proofs.LentFunctions.Insts.{Becomes, becomes, borrows, ends, stays}

-- ---- tables whose rows are the same of each instruction

module _ {A : Type 0} (c : ValueId) (args : ℕ → List BlockArg → List A) (results : Inst → List A) (kept : (i : Inst) → results (lent_inst c i) ≡ results i) where
  insts_same : (is : List Inst) → flat_map results (map (lent_inst c) is) ≡ flat_map results is
  insts_same [] = refl
  insts_same (i ∷ is) = ap₂ (λ x y. x ++ y) (kept i) (insts_same is)

  block_same : (n : ℕ) (b : Block) → block_rows args results n (lent_block c b) ≡ block_rows args results n b
  block_same n b =
      ap (λ xs. args n b.args ++ xs)
      (flat_map-append results (map (lent_inst c) b.insts) (b.terminator ∷ [])
      ∙ ap (λ xs. xs ++ flat_map results (b.terminator ∷ [])) (insts_same b.insts)
      ∙ sym (flat_map-append results b.insts (b.terminator ∷ [])))

  rows_same_from : (n : ℕ) (bs : List Block) → rows_from args results n (map (lent_block c) bs) ≡ rows_from args results n bs
  rows_same_from n [] = refl
  rows_same_from n (b ∷ bs) = ap₂ (λ x y. x ++ y) (block_same n b) (rows_same_from (n + 1) bs)

  pub rows_same : (f : Function) → value_rows args results (lent c f) ≡ value_rows args results f
  rows_same f = rows_same_from 0 f.blocks

-- a column of a table is a table of the columns
module _ {A B : Type 0} (column : A → B) (args : ℕ → List BlockArg → List A) (results : Inst → List A) where
  insts_column : (is : List Inst) → map column (flat_map results is) ≡ flat_map (λ i. map column (results i)) is
  insts_column [] = refl
  insts_column (i ∷ is) = map-append column (results i) (flat_map results is) ∙ ap (λ xs. map column (results i) ++ xs) (insts_column is)

  rows_column_from : (n : ℕ) (bs : List Block) → map column (rows_from args results n bs) ≡ rows_from (λ k xs. map column (args k xs)) (λ i. map column (results i)) n bs
  rows_column_from n [] = refl
  rows_column_from n (b ∷ bs) =
      map-append column (block_rows args results n b) (rows_from args results (n + 1) bs)
      ∙ ap₂ (λ x y. x ++ y) (map-append column (args n b.args) (flat_map results (insts_of b)) ∙ ap (λ xs. map column (args n b.args) ++ xs) (insts_column (insts_of b)))
      (rows_column_from (n + 1) bs)

  pub rows_column : (f : Function) → map column (value_rows args results f) ≡ value_rows (λ k xs. map column (args k xs)) (λ i. map column (results i)) f
  rows_column f = rows_column_from 0 f.blocks

module _ (c : ValueId) where
  -- ---- switches, which end blocks

  switches_same : (n : ℕ) (bs : List Block) → flat_map (switches_from n) (map (lent_block c) bs) ≡ flat_map (switches_from n) bs
  switches_same n [] = refl
  switches_same n (b ∷ bs) = ap (λ xs. switches_from n b ++ xs) (switches_same n bs)

  pub switch_lent : (f : Function) (n : ℕ) → switch_to (lent c f) n ≡ switch_to f n
  switch_lent f n = ap (λ xs. slice_get xs 0) (switches_same n f.blocks)

  -- ---- renamings

  renamed_by : (i j : Inst) → Becomes c i j → result_renamings j ≡ result_renamings i
  renamed_by i _ (borrows e m) = ap (λ o. replicate (length i.results) (renamed (cond (renames o) (map operand_value i.operands) []))) (sym e)
  renamed_by i _ (ends e m) = ap (λ o. replicate (length i.results) (renamed (cond (renames o) (map operand_value i.operands) []))) (sym e)
  renamed_by i _ (stays e m) = refl

  pub renamings_lent : (f : Function) → renamings_of (lent c f) ≡ renamings_of f
  renamings_lent f =
      (λ i. value_rows (λ n xs. map (arg_renaming (switch_lent f n i)) xs) result_renamings (lent c f))
      ∙ rows_same c (λ n xs. map (arg_renaming (switch_to f n)) xs) result_renamings (λ i. renamed_by i (lent_inst c i) (becomes c i)) f

  -- ---- the operands of definitions

  abbrev operands_in_row : Definition → List ValueId
  operands_in_row x = x.operands

  same_operands : (ks : List ℕ) (p q : ℕ → Definition) → ((k : ℕ) → (p k).operands ≡ (q k).operands) → map operands_in_row (map p ks) ≡ map operands_in_row (map q ks)
  same_operands [] p q h = refl
  same_operands (k ∷ ks) p q h = ap₂ (λ x y. x ∷ y) (h k) (same_operands ks p q h)

  chained_by : (d : Declarations) (i j : Inst) → Becomes c i j → map operands_in_row (result_definitions d j) ≡ map operands_in_row (result_definitions d i)
  chained_by d i _ (borrows e m) =
      same_operands (range_with_len 0 (length i.results)) (result_definition d (with_op op.BeginBorrow i)) (result_definition d i)
      (λ k. ap (λ o. chain_operands (result_kind_of o) (map operand_value i.operands)) (sym e))
  chained_by d i _ (ends e m) =
      same_operands (range_with_len 0 (length i.results)) (result_definition d (with_op op.EndBorrow i)) (result_definition d i)
      (λ k. ap (λ o. chain_operands (result_kind_of o) (map operand_value i.operands)) (sym e))
  chained_by d i _ (stays e m) = refl

  pub arg_rows_lent : (d : Declarations) (f : Function) → definitions_of d (lent c f) ≡ value_rows (arg_definitions d f) (result_definitions d) (lent c f)
  arg_rows_lent d f = λ i. value_rows (λ n xs. map (arg_definition d (is_zero n) (switch_lent f n i)) xs) (result_definitions d) (lent c f)

  pub operands_lent : (d : Declarations) (f : Function) (w : ValueId) → operands_at (definitions_of d (lent c f)) w ≡ operands_at (definitions_of d f) w
  operands_lent d f w =
      ap (λ rows. unwrap_or (slice_get rows w.0) [])
      (ap (map operands_in_row) (arg_rows_lent d f)
      ∙ rows_column operands_in_row (arg_definitions d f) (result_definitions d) (lent c f)
      ∙ rows_same c (λ n xs. map operands_in_row (arg_definitions d f n xs)) (λ i. map operands_in_row (result_definitions d i))
      (λ i. chained_by d i (lent_inst c i) (becomes c i)) f
      ∙ sym (rows_column operands_in_row (arg_definitions d f) (result_definitions d) f))
