-- How many values a table of borrows tells of, and how many instructions a block has.
use Rattle.std.proofs.Common.{◌≡◌, ◌⊎◌, inl, inr, ℕ, ◌<◌, ◌≤◌, ◌^◌, length, refl, sym, subst, Option, Some, None, arith}
use Rattle.std.specs.List.{slice_get}
use Rattle.std.proofs.lemmas.Bool.{cases_lt}
use Rattle.std.proofs.lemmas.List.{length-replicate}
use Rattle.std.proofs.lemmas.Option.{slice_get_within}
use Rattle.sil_ast.specs.declared.function.Block.{Block}
use Rattle.sil_ast.specs.declared.function.Function.{Function}
use Rattle.sil_ast.specs.declared.module.Module.{Module}
use Rattle.sil_cfg.specs.Items.{HasBlocks}
use Rattle.sil_verifier.proofs.sil_verifier_accepted.TypedGraphLaws.Functions.{graphs_by_blocks}
use Rattle.sil_verifier.specs.sil_verifier_accepted.AcceptedModules.inner.Checked.{IsVerified}
use Rattle.copy_pairing.specs.inner.Passes.{blocks_at, blocks_in, insts_at, insts_in}
use Rattle.sil_cfg.proofs.Blocks.{all_get}
use Rattle.sil_cfg.specs.inner.Build.{HasGraph, IsBlockLinked}
use Rattle.instruction_table.specs.Forms.{result_kind_of}
use Rattle.numbered_form.specs.Numbering.{values_of}
use Rattle.numbered_form.proofs.ValueTables.Rows.{rows_count}
use Rattle.numbered_form.specs.ValueTables.Borrows.{arg_borrows, borrow_by, borrows_of, result_borrows}
use Rattle.numbered_form.specs.declared.value_tables.borrows.Borrow.TheVariants.{NoBorrow}

pub borrows_count : (f : Function) → length (borrows_of f) ≡ length (values_of f.blocks)
borrows_count f =
    rows_count arg_borrows result_borrows (λ n xs. length-replicate (length xs) NoBorrow) (λ i. length-replicate (length i.results) (borrow_by (result_kind_of i.op) i)) 0 f.blocks

pub short_block : (f : Function) (b : ℕ) (block : Block) → HasGraph f → slice_get f.blocks b ≡ Some block → length block.insts < 2 ^ 32
short_block f b block h there = (all_get (IsBlockLinked f) f.blocks b block h.blocks there).short

module _ (m : Module) (n : ℕ) (verified : IsVerified m) where
  graph_of : (f : Function) → slice_get m.functions n ≡ Some f → HasBlocks f → HasGraph f
  graph_of f there body = (graphs_by_blocks m n f verified.numbered verified.accepted.types.typed there body).graph

  pub few_blocks : length (blocks_at m n) < 2 ^ 32
  few_blocks = at (slice_get m.functions n) refl
    where
      in_function : (f : Function) → slice_get m.functions n ≡ Some f → (0 < length f.blocks) ⊎ (length f.blocks ≤ 0) → length f.blocks < 2 ^ 32
      in_function f there (inl body) = (graph_of f there body).few_blocks
      in_function f there (inr none) = omega arith

      at : (o : Option Function) → slice_get m.functions n ≡ o → length (blocks_at m n) < 2 ^ 32
      at None e = subst (λ o. length (blocks_in o) < 2 ^ 32) (sym e) (let none : 0 < 2 ^ 32 = omega arith in none)
      at (Some f) e = subst (λ o. length (blocks_in o) < 2 ^ 32) (sym e) (in_function f e (cases_lt 0 (length f.blocks)))

  pub short_insts : (b : ℕ) → length (insts_at m n b) < 2 ^ 32
  short_insts b = at (slice_get m.functions n) refl
    where
      in_block : (f : Function) → slice_get m.functions n ≡ Some f → (o : Option Block) → slice_get f.blocks b ≡ o → length (insts_in o) < 2 ^ 32
      in_block f there None e = let none : 0 < 2 ^ 32 = omega arith in none
      in_block f there (Some block) e =
          let within : b < length f.blocks = slice_get_within f.blocks b block e in
          let body : 0 < length f.blocks = omega arith in
          short_block f b block (graph_of f there body) e

      at : (o : Option Function) → slice_get m.functions n ≡ o → length (insts_at m n b) < 2 ^ 32
      at None e = subst (λ o. length (insts_in (slice_get (blocks_in o) b)) < 2 ^ 32) (sym e) (let none : 0 < 2 ^ 32 = omega arith in none)
      at (Some f) e = subst (λ o. length (insts_in (slice_get (blocks_in o) b)) < 2 ^ 32) (sym e) (in_block f e (slice_get f.blocks b) refl)
