-- What stands at each place of a function whose copy is a move: blocks, edges and arguments are the same, and an instruction is the one
-- that stood there before, but for the copy itself.
use Rattle.std.proofs.Common.{◌≡◌, ◌≢◌, ◌⊎◌, inl, inr, ℕ, ◌∷◌, ◌++◌, length, map, refl, sym, ap, ap₂, ◌∙◌, append_assoc, Bool, true, false, cond, Option, Some, None, length-append}
use Rattle.std.specs.Prelude.{◌==◌, option_map}
use Rattle.std.specs.List.{slice_get}
use Rattle.std.proofs.lemmas.Bool.{cases_eq, eq-eqb, ne_eqb}
use Rattle.sil_ast.specs.Blocks.{args_in, args_of}
use Rattle.sil_ast.specs.declared.function.Block.{Block}
use Rattle.sil_ast.specs.declared.function.Function.{Function}
use Rattle.sil_ast.specs.declared.inst.Edge.{Edge}
use Rattle.sil_ast.specs.declared.place.EdgeId.{EdgeId}
use Rattle.sil_ast.specs.declared.place.PointId.{PointId}
use Rattle.sil_ast.specs.declared.place.ValueId.{ValueId}
use Rattle.sil_cfg.specs.Items.{point_at}
use Rattle.sil_cfg.specs.Returns.{is_return, returns_in}
use Rattle.sil_cfg.specs.declared.item.Item.{Item}
use Rattle.sil_cfg.specs.declared.item.Item.TheVariants as item
use Rattle.sil_cfg_items.specs.Parts.{args_behind, edge_at, edge_in, handover_in, inst_at, inst_in, item_arguments, item_edge}
use Rattle.sil_cfg_items.specs.Parts.{item_handover, item_inst, item_operands, item_results, operands_in, results_in, terminator_in, terminator_of}
use Rattle.sil_cfg_items.specs.Items.{arg_value, item_defined, item_taken, taken_along_in, taken_in}
use Rattle.copy_pairing_model.specs.Rewritten.{moved, moved_block}
use Rattle.copy_pairing_acceptance.specs.MovedFunctions.inner.Structure.{old_item, old_point, stood_at}
use Rattle.copy_pairing_acceptance.proofs.MovedFunctions.Lists.{at_seam, changed_elsewhere, changed_there, stood_there}
use Rattle.copy_pairing_acceptance.proofs.MovedFunctions.Split.{IsSplit, insts_moved, move_of}

module _ {f : Function} {p : PointId} {last : ℕ} {c v : ValueId} (s : IsSplit f p last c v) where
  -- the function without the copy and the destroy
  abbrev pub after : Function
  after = moved p last f

  -- its block of the copy
  abbrev pub new_block : Block
  new_block = moved_block p.index last s.block

  -- ---- blocks

  pub block_there : slice_get after.blocks p.block.0 ≡ Some new_block
  block_there = changed_there (moved_block p.index last) p.block.0 f.blocks ∙ ap (option_map (moved_block p.index last)) s.there

  pub block_elsewhere : (n : ℕ) → n ≢ p.block.0 → slice_get after.blocks n ≡ slice_get f.blocks n
  block_elsewhere n ne = changed_elsewhere (moved_block p.index last) p.block.0 n f.blocks ne

  -- what is the same of the changed block is the same of each
  pub told_of_block : {Y : Type 0} (tell : Option Block → Y) → tell (Some new_block) ≡ tell (Some s.block) → (n : ℕ) → tell (slice_get after.blocks n) ≡ tell (slice_get f.blocks n)
  told_of_block tell same n = at (cases_eq n p.block.0)
    where
      at : (n ≡ p.block.0) ⊎ (n ≡ p.block.0 → ⊥) → tell (slice_get after.blocks n) ≡ tell (slice_get f.blocks n)
      at (inl e) =
          ap (λ k. tell (slice_get after.blocks k)) e ∙ ap tell block_there ∙ same ∙ ap tell (sym s.there) ∙ ap (λ k. tell (slice_get f.blocks k)) (sym e)
      at (inr ne) = ap tell (block_elsewhere n ne)

  pub same_terminator : (n : ℕ) → terminator_of after n ≡ terminator_of f n
  same_terminator n = told_of_block terminator_in refl n

  pub same_args : (n : ℕ) → args_of after n ≡ args_of f n
  same_args n = told_of_block args_in refl n

  pub same_edge : (e : EdgeId) → edge_at after e ≡ edge_at f e
  same_edge e = ap (λ i. edge_in i e.index) (same_terminator e.block.0)

  -- ---- points

  -- the old point of one in another block, and of one in this
  pub old_elsewhere : (q : PointId) → q.block.0 ≢ p.block.0 → old_point p last q ≡ q
  old_elsewhere q ne = ap (λ b. cond b (point_at q.block.0 (stood_at last q.index)) q) (ne_eqb q.block.0 p.block.0 ne)

  pub old_here : (q : PointId) → q.block.0 ≡ p.block.0 → old_point p last q ≡ point_at q.block.0 (stood_at last q.index)
  old_here q e = ap (λ b. cond b (point_at q.block.0 (stood_at last q.index)) q) (eq-eqb q.block.0 p.block.0 e)

  pub old_block : (q : PointId) → (old_point p last q).block.0 ≡ q.block.0
  old_block q = at (q.block.0 == p.block.0)
    where
      at : (b : Bool) → (cond b (point_at q.block.0 (stood_at last q.index)) q).block.0 ≡ q.block.0
      at true = refl
      at false = refl

  other_index : (q : PointId) → q ≢ p → q.block.0 ≡ p.block.0 → q.index ≢ length s.front
  other_index q ne e k = ne (ap₂ (λ b j. point_at b j) e (k ∙ s.at_copy))

  -- ---- instructions

  pub inst_there : inst_at after p ≡ Some (move_of s.copy)
  inst_there =
      ap (λ o. inst_in o p.index) block_there ∙ ap (λ xs. slice_get xs p.index) (insts_moved s) ∙ ap (slice_get (s.front ++ move_of s.copy ∷ (s.middle ++ s.back))) (sym s.at_copy)
      ∙ at_seam s.front (move_of s.copy) (s.middle ++ s.back)

  pub copy_stood : inst_at f p ≡ Some s.copy
  copy_stood =
      ap (λ o. inst_in o p.index) s.there ∙ ap (λ xs. slice_get xs p.index) s.insts ∙ ap (slice_get (s.front ++ s.copy ∷ (s.middle ++ s.destroy ∷ s.back))) (sym s.at_copy)
      ∙ at_seam s.front s.copy (s.middle ++ s.destroy ∷ s.back)

  pub destroy_stood : inst_at f (point_at p.block.0 last) ≡ Some s.destroy
  destroy_stood =
      ap (λ o. inst_in o last) s.there ∙ ap (λ xs. slice_get xs last) (s.insts ∙ sym (append_assoc s.front (s.copy ∷ s.middle) (s.destroy ∷ s.back)))
      ∙ ap (slice_get ((s.front ++ s.copy ∷ s.middle) ++ s.destroy ∷ s.back)) (sym (length-append s.front (s.copy ∷ s.middle) ∙ s.at_destroy))
      ∙ at_seam (s.front ++ s.copy ∷ s.middle) s.destroy s.back

  -- each other one stood at its old point
  pub inst_elsewhere : (q : PointId) → q ≢ p → inst_at after q ≡ inst_at f (old_point p last q)
  inst_elsewhere q ne = at (cases_eq q.block.0 p.block.0)
    where
      at : (q.block.0 ≡ p.block.0) ⊎ (q.block.0 ≡ p.block.0 → ⊥) → inst_at after q ≡ inst_at f (old_point p last q)
      at (inr other) = ap (λ o. inst_in o q.index) (block_elsewhere q.block.0 other) ∙ ap (inst_at f) (sym (old_elsewhere q other))
      at (inl e) =
          ap (λ b. inst_in (slice_get after.blocks b) q.index) e ∙ ap (λ o. inst_in o q.index) block_there ∙ ap (λ xs. slice_get xs q.index) (insts_moved s)
          ∙ stood_there s.copy (move_of s.copy) s.middle s.destroy s.back s.front last q.index s.at_destroy (other_index q ne e)
          ∙ ap (λ xs. slice_get xs (stood_at last q.index)) (sym s.insts) ∙ ap (λ o. inst_in o (stood_at last q.index)) (sym s.there)
          ∙ ap (λ b. inst_at f (point_at b (stood_at last q.index))) (sym e) ∙ ap (inst_at f) (sym (old_here q e))

  -- ---- items, other than the move

  pub same_inst : (i : Item) → i ≢ item.Inst p → item_inst after i ≡ item_inst f (old_item p last i)
  same_inst item.Entry ne = refl
  same_inst (item.Inst q) ne = inst_elsewhere q (λ e. ne (ap (λ x. item.Inst x) e))
  same_inst (item.Edge e) ne = same_terminator e.block.0
  same_inst (item.Exit q) ne = same_terminator q.block.0 ∙ ap (terminator_of f) (sym (old_block q))

  pub same_item_edge : (i : Item) → item_edge after i ≡ item_edge f (old_item p last i)
  same_item_edge item.Entry = refl
  same_item_edge (item.Inst q) = refl
  same_item_edge (item.Edge e) = same_edge e
  same_item_edge (item.Exit q) = refl

  pub same_operands : (i : Item) → i ≢ item.Inst p → item_operands after i ≡ item_operands f (old_item p last i)
  same_operands i ne = ap operands_in (same_inst i ne)

  pub same_handover : (i : Item) → item_handover after i ≡ item_handover f (old_item p last i)
  same_handover i = ap handover_in (same_item_edge i)

  pub same_arguments : (i : Item) → item_arguments after i ≡ item_arguments f (old_item p last i)
  same_arguments item.Entry = same_args 0
  same_arguments (item.Inst q) = refl
  same_arguments (item.Edge e) = ap (args_behind after) (same_edge e) ∙ behind (edge_at f e)
    where
      behind : (o : Option Edge) → args_behind after o ≡ args_behind f o
      behind None = refl
      behind (Some x) = same_args x.block.0
  same_arguments (item.Exit q) = refl

  pub same_results : (i : Item) → i ≢ item.Inst p → item_results after i ≡ item_results f (old_item p last i)
  same_results item.Entry ne = refl
  same_results (item.Inst q) ne = ap results_in (same_inst (item.Inst q) ne)
  same_results (item.Edge e) ne = refl
  same_results (item.Exit q) ne = refl

  pub same_taken : (i : Item) → i ≢ item.Inst p → item_taken after i ≡ item_taken f (old_item p last i)
  same_taken i ne = ap₂ (λ x y. taken_in x ++ taken_along_in y) (same_inst i ne) (same_item_edge i)

  pub same_defined : (i : Item) → i ≢ item.Inst p → item_defined after i ≡ item_defined f (old_item p last i)
  same_defined i ne = ap₂ (λ x y. x ++ map arg_value y) (same_results i ne) (same_arguments i)

  pub same_return : (i : Item) → is_return after i ≡ is_return f (old_item p last i)
  same_return item.Entry = refl
  same_return (item.Inst q) = refl
  same_return (item.Edge e) = refl
  same_return (item.Exit q) = told_of_block returns_in refl q.block.0 ∙ ap (λ b. returns_in (slice_get f.blocks b)) (sym (old_block q))
