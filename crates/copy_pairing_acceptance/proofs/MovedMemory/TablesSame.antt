-- A table by value stays the same where a copy becomes a move and a destroy goes, if both tell the same of the copy, and nothing of the destroy.
use Rattle.std.proofs.Common.{◌≡◌, ℕ, zero, suc, ◌+◌, ◌<◌, List, [], ◌∷◌, ◌++◌, refl, sym, ap, ap₂, ◌∙◌, arith, Some}
use Rattle.std.specs.List.{flat_map, remove, slice_get}
use Rattle.std.proofs.lemmas.Grind.{flat_map-append}
use Rattle.std.proofs.lemmas.Option.{none-some, same_Some}
use Rattle.copy_pairing_model.specs.Copies.{IsCopy, IsDestroy}
use Rattle.copy_pairing_model.specs.Rewritten.{changed_at, moved, moved_block, with_op}
use Rattle.instruction_table.specs.declared.op.Op.TheVariants as op
use Rattle.sil_cfg_items.specs.Parts.{inst_in}
use Rattle.numbered_form.specs.Insts.{insts_of}
use Rattle.sil_ast.specs.declared.function.Block.{Block}
use Rattle.sil_ast.specs.declared.function.BlockArg.{BlockArg}
use Rattle.sil_ast.specs.declared.function.Function.{Function}
use Rattle.sil_ast.specs.declared.inst.Inst.{Inst}
use Rattle.sil_ast.specs.declared.place.PointId.{PointId}
use Rattle.sil_ast.specs.declared.place.ValueId.{ValueId}
use Rattle.sil_cfg.specs.Items.{point_at}
use Rattle.numbered_form.specs.ValueTables.ValueRows.{block_rows, rows_from, value_rows}

-- what stands at another place stays
unchanged : {A : Type 0} (xs : List A) (k n : ℕ) (change : A → A) → k < n → slice_get (changed_at k change xs) n ≡ slice_get xs n
unchanged [] k n change lt = refl
unchanged (x ∷ xs) zero zero change lt = absurd (omega arith)
unchanged (x ∷ xs) zero (suc n) change lt = refl
unchanged (x ∷ xs) (suc k) zero change lt = refl
unchanged (x ∷ xs) (suc k) (suc n) change lt = unchanged xs k n change (omega arith)

module _ {A : Type 0} (results : Inst → List A) where
  changed_rows : (xs : List Inst) (k : ℕ) (change : Inst → Inst) (x : Inst) → slice_get xs k ≡ Some x → results (change x) ≡ results x
      → flat_map results (changed_at k change xs) ≡ flat_map results xs
  changed_rows [] k change x e same = refl
  changed_rows (y ∷ xs) zero change x e same =
      let here : y ≡ x = same_Some y x e in
      ap (λ r. r ++ flat_map results xs) (ap (λ z. results (change z)) here ∙ same ∙ ap results (sym here))
  changed_rows (y ∷ xs) (suc k) change x e same = ap (λ r. results y ++ r) (changed_rows xs k change x e same)

  removed_rows : (xs : List Inst) (k : ℕ) (x : Inst) → slice_get xs k ≡ Some x → results x ≡ [] → flat_map results (remove xs k) ≡ flat_map results xs
  removed_rows [] k x e none = absurd (none-some x e)
  removed_rows (y ∷ xs) zero x e none =
      let here : y ≡ x = same_Some y x e in
      sym (ap (λ r. r ++ flat_map results xs) (ap results here ∙ none))
  removed_rows (y ∷ xs) (suc k) x e none = ap (λ r. results y ++ r) (removed_rows xs k x e none)

  module _ (args : ℕ → List BlockArg → List A) where
    rows_changed : (m b : ℕ) (blocks : List Block) (change : Block → Block)
        → ((n : ℕ) (block : Block) → slice_get blocks b ≡ Some block → block_rows args results n (change block) ≡ block_rows args results n block)
        → rows_from args results m (changed_at b change blocks) ≡ rows_from args results m blocks
    rows_changed m b [] change same = refl
    rows_changed m zero (x ∷ blocks) change same = ap (λ r. r ++ rows_from args results (m + 1) blocks) (same m x refl)
    rows_changed m (suc b) (x ∷ blocks) change same = ap (λ r. block_rows args results m x ++ r) (rows_changed (m + 1) b blocks change same)

    rows_moved : (n index last : ℕ) (block : Block) (copy destroy : Inst) → slice_get block.insts index ≡ Some copy → slice_get block.insts last ≡ Some destroy → index < last
        → results (with_op op.MoveValue copy) ≡ results copy → results destroy ≡ []
        → block_rows args results n (moved_block index last block) ≡ block_rows args results n block
    rows_moved n index last block copy destroy here there lt same none =
        let changed : List Inst = changed_at index (with_op op.MoveValue) block.insts in
        let stays : slice_get changed last ≡ Some destroy = unchanged block.insts index last (with_op op.MoveValue) lt ∙ there in
        ap (λ r. args n block.args ++ r)
        (flat_map-append results (remove changed last) (block.terminator ∷ [])
        ∙ ap (λ r. r ++ flat_map results (block.terminator ∷ []))
        (removed_rows changed last destroy stays none ∙ changed_rows block.insts index (with_op op.MoveValue) copy here same)
        ∙ sym (flat_map-append results block.insts (block.terminator ∷ [])))

-- what is told of each element alike is told alike of the list
pub told_alike : {A B : Type 0} (tell : A → List B) (change : A → A) → ((x : A) → tell (change x) ≡ tell x) → (n : ℕ) (xs : List A) → flat_map tell (changed_at n change xs) ≡ flat_map tell xs
told_alike tell change same n [] = refl
told_alike tell change same zero (x ∷ xs) = ap (λ r. r ++ flat_map tell xs) (same x)
told_alike tell change same (suc n) (x ∷ xs) = ap (λ r. tell x ++ r) (told_alike tell change same n xs)

module _ {A : Type 0} (results : Inst → List A) (args others : ℕ → List BlockArg → List A) (same : (n : ℕ) (xs : List BlockArg) → others n xs ≡ args n xs) where
  by_args : (n : ℕ) (blocks : List Block) → rows_from others results n blocks ≡ rows_from args results n blocks
  by_args n [] = refl
  by_args n (b ∷ blocks) = ap₂ (λ x y. (x ++ flat_map results (insts_of b)) ++ y) (same n b.args) (by_args (n + 1) blocks)

  pub table_same : (f : Function) (p : PointId) (c v : ValueId) (last : ℕ) (copy : IsCopy f p c v) (destroy : IsDestroy f (point_at p.block.0 last) v) → p.index < last
      → results (with_op op.MoveValue copy.inst) ≡ results copy.inst → results destroy.inst ≡ [] → value_rows others results (moved p last f) ≡ value_rows args results f
  table_same f p c v last copy destroy lt kept none =
      by_args 0 (moved p last f).blocks
      ∙ rows_changed results args 0 p.block.0 f.blocks (moved_block p.index last)
      (λ n block at. rows_moved results args n p.index last block copy.inst destroy.inst
      (sym (ap (λ o. inst_in o p.index) at) ∙ copy.stands) (sym (ap (λ o. inst_in o last) at) ∙ destroy.stands) lt kept none)
