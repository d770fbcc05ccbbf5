-- The graph of a function in which a copy is lent: its blocks, edges and items are those of the function, and so are its walks and trails.
use Rattle.std.proofs.Common.{◌≡◌, ℕ, suc, ◌<◌, List, [], ◌∷◌, ◌++◌, length, map, refl, sym, ap, ap₂, ◌∙◌, subst, Option, Some, None}
use Rattle.std.specs.Prelude.{option_map, slice_get, IsSomeAnd, IsTrue}
use Rattle.std.proofs.lemmas.List.{length-map}
use Rattle.std.proofs.lemmas.Option.{slice_get-map}
use Rattle.sil_ast.specs.Blocks.{args_in, args_of}
use Rattle.sil_ast.specs.declared.function.Block.{Block}
use Rattle.sil_ast.specs.declared.function.Function.{Function}
use Rattle.sil_ast.specs.declared.inst.Inst as inst
use Rattle.sil_ast.specs.declared.place.ValueId.{ValueId}
use Rattle.sil_cfg.specs.Flow.{IsEdge}
use Rattle.sil_cfg.specs.Items.{IsExit, IsItem, ends_function, exit_of, entry_of, flow_of, insts_from, items_in, last_in, own_items, point_at, targets_in}
use Rattle.sil_cfg.specs.Returns.{is_return, returns_in}
use Rattle.sil_cfg.specs.declared.item.Item.{Item}
use Rattle.sil_cfg.specs.declared.item.Item.TheVariants.{Entry, Inst, Edge, Exit}
use Rattle.copy_pairing_model.specs.Rewritten.{lent, lent_block, lent_inst}

module _ (c : ValueId) where
  insts_from_lent : (b k : ℕ) (is : List inst.Inst) → insts_from b k (map (lent_inst c) is) ≡ insts_from b k is
  insts_from_lent b k [] = refl
  insts_from_lent b k (i ∷ is) = ap (λ rest. Inst (point_at b k) ∷ rest) (insts_from_lent b (suc k) is)

  own_items_lent : (b : ℕ) (block : Block) → own_items b (lent_block c block) ≡ own_items b block
  own_items_lent b block =
      ap₂ (λ is n. entry_of b ++ (is ++ exit_of (point_at b n) (ends_function block.terminator.op)))
      (insts_from_lent b 0 block.insts) (length-map block.insts (lent_inst c))

  module _ (f : Function) where
    -- ---- blocks

    pub block_count_lent : length (lent c f).blocks ≡ length f.blocks
    block_count_lent = length-map f.blocks (lent_block c)

    pub block_lent : (b : ℕ) → slice_get (lent c f).blocks b ≡ option_map (lent_block c) (slice_get f.blocks b)
    block_lent b = slice_get-map (lent_block c) f.blocks b

    -- what is the same of each block is the same of the block at a place
    pub of_block {ℓ} : {A : Type ℓ} (part : Option Block → A) → ((block : Block) → part (Some (lent_block c block)) ≡ part (Some block)) → (b : ℕ)
        → part (slice_get (lent c f).blocks b) ≡ part (slice_get f.blocks b)
    of_block part kept b = ap part (block_lent b) ∙ at (slice_get f.blocks b)
      where
        at : (o : Option Block) → part (option_map (lent_block c) o) ≡ part o
        at None = refl
        at (Some block) = kept block

    pub args_lent : (b : ℕ) → args_of (lent c f) b ≡ args_of f b
    args_lent b = of_block args_in (λ block. refl) b

    -- ---- the flow

    items_lent : (b : ℕ) → items_in b (slice_get (lent c f).blocks b) ≡ items_in b (slice_get f.blocks b)
    items_lent b = of_block (items_in b) (own_items_lent b) b

    targets_lent : (b : ℕ) → targets_in (slice_get (lent c f).blocks b) ≡ targets_in (slice_get f.blocks b)
    targets_lent b = of_block targets_in (λ block. refl) b

    last_lent : (b : ℕ) → last_in (slice_get (lent c f).blocks b) ≡ last_in (slice_get f.blocks b)
    last_lent b = of_block last_in (λ block. length-map block.insts (lent_inst c)) b

    pub flow_lent : flow_of (lent c f) ≡ flow_of f
    flow_lent = λ i. record {
      count = block_count_lent i;
      items = λ b. items_lent b i;
      targets = λ b. targets_lent b i;
      last = λ b. last_lent b i;
      item_of = λ e. Edge e;
    }

    -- ---- items

    pub item_lent : (item : Item) → IsItem (lent c f) item ≡ IsItem f item
    item_lent Entry = ap (λ n. 0 < n) block_count_lent
    item_lent (Inst p) =
        of_block (λ o. IsSomeAnd o (λ block. p.index < length block.insts)) (λ block. ap (λ n. p.index < n) (length-map block.insts (lent_inst c))) p.block.0
    item_lent (Edge e) = ap (λ g. IsEdge g e) flow_lent
    item_lent (Exit p) =
        of_block (λ o. IsSomeAnd o (IsExit p))
        (λ block. ap (λ n. (p.index ≡ n) × IsTrue (ends_function block.terminator.op)) (length-map block.insts (lent_inst c))) p.block.0

    pub is_item : (item : Item) → IsItem (lent c f) item → IsItem f item
    is_item item h = subst (λ T. T) (item_lent item) h

    pub is_lent_item : (item : Item) → IsItem f item → IsItem (lent c f) item
    is_lent_item item h = subst (λ T. T) (sym (item_lent item)) h

    pub return_lent : (item : Item) → is_return (lent c f) item ≡ is_return f item
    return_lent Entry = refl
    return_lent (Inst p) = refl
    return_lent (Edge e) = refl
    return_lent (Exit p) = of_block returns_in (λ block. refl) p.block.0
