-- What an item of a function in which a copy is lent has: operands, results, edges and arguments are those of the function's item.
use Rattle.std.proofs.Common.{◌≡◌, ℕ, List, [], ◌∷◌, ◌++◌, map, refl, sym, ap, ap₂, ◌∙◌, Option, Some, None, true, false}
use Rattle.std.specs.Prelude.{IsTrue, option_map, slice_get}
use Rattle.std.specs.List.{flat_map}
use Rattle.std.proofs.lemmas.Grind.{flat_map-append}
use Rattle.std.proofs.lemmas.List.{map-append}
use Rattle.std.proofs.lemmas.Option.{slice_get-map}
use Rattle.instruction_table.specs.Forms.{is_terminator}
use Rattle.sil_cfg_items.specs.Items.{arg_value, item_defined}
use Rattle.sil_cfg_items.specs.Parts.{args_behind, edge_at, edge_in, handover_in, inst_at, inst_in, item_arguments, item_edge}
use Rattle.sil_cfg_items.specs.Parts.{item_handover, item_inst, item_operands, item_results, operands_in, results_in, terminator_in, terminator_of}
use Rattle.numbered_form.specs.Insts.{insts_of}
use Rattle.numbered_form.specs.Numbering.{defined_in, results_of, value_of, values_of}
use Rattle.sil_ast.specs.declared.function.Block.{Block}
use Rattle.sil_ast.specs.declared.function.Function.{Function}
use Rattle.sil_ast.specs.declared.inst.Edge as edge
use Rattle.sil_ast.specs.declared.inst.Inst as inst
use Rattle.sil_ast.specs.declared.place.EdgeId.{EdgeId}
use Rattle.sil_ast.specs.declared.place.PointId.{PointId}
use Rattle.sil_ast.specs.declared.place.ValueId.{ValueId}
use Rattle.sil_cfg.specs.declared.item.Item.{Item}
use Rattle.sil_cfg.specs.declared.item.Item.TheVariants.{Entry, Inst, Edge, Exit}
use Rattle.copy_pairing_model.specs.Rewritten.{lent, lent_block, lent_inst}
use Rattle.copy_pairing_acceptance.proofs.LentFunctions.Graph.{args_lent, block_lent, of_block}
use Rattle.copy_pairing_acceptance.proofs.LentFunctions.Insts.{Becomes, becomes, borrows, ends, part_kept, stays}

module _ (c : ValueId) where
  pub inst_operands : (i : inst.Inst) → (lent_inst c i).operands ≡ i.operands
  inst_operands i = part_kept (λ j. j.operands) (λ o j. refl) c i

  pub inst_results : (i : inst.Inst) → (lent_inst c i).results ≡ i.results
  inst_results i = part_kept (λ j. j.results) (λ o j. refl) c i

  -- an instruction that ends a block stays
  no_terminator : (i j : inst.Inst) → IsTrue (is_terminator i.op) → Becomes c i j → j ≡ i
  no_terminator i _ h (borrows e m) = absurd (let wrong : false ≡ true = sym (ap is_terminator e) ∙ h in cc)
  no_terminator i _ h (ends e m) = absurd (let wrong : false ≡ true = sym (ap is_terminator e) ∙ h in cc)
  no_terminator i _ h (stays e m) = refl

  pub terminator_stays : (i : inst.Inst) → IsTrue (is_terminator i.op) → lent_inst c i ≡ i
  terminator_stays i h = no_terminator i (lent_inst c i) h (becomes c i)

  -- ---- the values

  results_lent_in : (is : List inst.Inst) → flat_map results_of (map (lent_inst c) is) ≡ flat_map results_of is
  results_lent_in [] = refl
  results_lent_in (i ∷ is) = ap₂ (λ x y. x ++ y) (inst_results i) (results_lent_in is)

  defined_in_lent : (b : Block) → defined_in (lent_block c b) ≡ defined_in b
  defined_in_lent b =
      ap (λ vs. map value_of b.args ++ vs)
      (flat_map-append results_of (map (lent_inst c) b.insts) (b.terminator ∷ [])
      ∙ ap (λ vs. vs ++ flat_map results_of (b.terminator ∷ [])) (results_lent_in b.insts)
      ∙ sym (flat_map-append results_of b.insts (b.terminator ∷ [])))

  values_lent_in : (bs : List Block) → values_of (map (lent_block c) bs) ≡ values_of bs
  values_lent_in [] = refl
  values_lent_in (b ∷ bs) = ap₂ (λ x y. x ++ y) (defined_in_lent b) (values_lent_in bs)

  pub insts_lent : (b : Block) → lent_inst c b.terminator ≡ b.terminator → insts_of (lent_block c b) ≡ map (lent_inst c) (insts_of b)
  insts_lent b e = ap (λ t. map (lent_inst c) b.insts ++ t ∷ []) (sym e) ∙ sym (map-append (lent_inst c) b.insts (b.terminator ∷ []))

  module _ (f : Function) where
    pub values_lent : values_of (lent c f).blocks ≡ values_of f.blocks
    values_lent = values_lent_in f.blocks

    -- ---- what stands at a place

    pub inst_at_lent : (p : PointId) → inst_at (lent c f) p ≡ option_map (lent_inst c) (inst_at f p)
    inst_at_lent p = ap (λ o. inst_in o p.index) (block_lent c f p.block.0) ∙ at (slice_get f.blocks p.block.0)
      where
        at : (o : Option Block) → inst_in (option_map (lent_block c) o) p.index ≡ option_map (lent_inst c) (inst_in o p.index)
        at None = refl
        at (Some b) = slice_get-map (lent_inst c) b.insts p.index

    pub terminator_lent : (b : ℕ) → terminator_of (lent c f) b ≡ terminator_of f b
    terminator_lent b = of_block c f terminator_in (λ block. refl) b

    pub edge_lent : (e : EdgeId) → edge_at (lent c f) e ≡ edge_at f e
    edge_lent e = ap (λ o. edge_in o e.index) (terminator_lent e.block.0)

    -- ---- items

    pub item_edge_lent : (item : Item) → item_edge (lent c f) item ≡ item_edge f item
    item_edge_lent Entry = refl
    item_edge_lent (Inst p) = refl
    item_edge_lent (Edge e) = edge_lent e
    item_edge_lent (Exit p) = refl

    -- what is the same of each instruction is the same of an item's
    pub of_item : {A : Type 0} (part : Option inst.Inst → A) → ((i : inst.Inst) → part (Some (lent_inst c i)) ≡ part (Some i)) → (item : Item)
        → part (item_inst (lent c f) item) ≡ part (item_inst f item)
    of_item part kept Entry = refl
    of_item {A} part kept (Inst p) = ap part (inst_at_lent p) ∙ at (inst_at f p)
      where
        at : (o : Option inst.Inst) → part (option_map (lent_inst c) o) ≡ part o
        at None = refl
        at (Some i) = kept i
    of_item part kept (Edge e) = ap part (terminator_lent e.block.0)
    of_item part kept (Exit p) = ap part (terminator_lent p.block.0)

    pub operands_lent : (item : Item) → item_operands (lent c f) item ≡ item_operands f item
    operands_lent item = of_item operands_in inst_operands item

    pub handover_lent : (item : Item) → item_handover (lent c f) item ≡ item_handover f item
    handover_lent item = ap handover_in (item_edge_lent item)

    pub results_lent : (item : Item) → item_results (lent c f) item ≡ item_results f item
    results_lent Entry = refl
    results_lent (Inst p) = of_item results_in inst_results (Inst p)
    results_lent (Edge e) = refl
    results_lent (Exit p) = refl

    pub arguments_lent : (item : Item) → item_arguments (lent c f) item ≡ item_arguments f item
    arguments_lent Entry = args_lent c f 0
    arguments_lent (Inst p) = refl
    arguments_lent (Edge e) = ap (args_behind (lent c f)) (edge_lent e) ∙ at (edge_at f e)
      where
        at : (o : Option edge.Edge) → args_behind (lent c f) o ≡ args_behind f o
        at None = refl
        at (Some x) = args_lent c f x.block.0
    arguments_lent (Exit p) = refl

    pub defined_lent : (item : Item) → item_defined (lent c f) item ≡ item_defined f item
    defined_lent item = ap₂ (λ x y. x ++ map arg_value y) (results_lent item) (arguments_lent item)
