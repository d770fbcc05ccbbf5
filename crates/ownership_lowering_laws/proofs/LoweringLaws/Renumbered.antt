-- What a block or an instruction with new numbers defines: the new numbers of what it defined.
use Rattle.std.proofs.Common.{◌≡◌, List, [], ◌∷◌, ◌++◌, map, refl, sym, ap, ap₂, ◌∙◌}
use Rattle.std.specs.List.{flat_map}
use Rattle.std.proofs.lemmas.List.{map-append}
use Rattle.sil_ast.specs.declared.function.Block.{Block}
use Rattle.sil_ast.specs.declared.function.BlockArg.{BlockArg}
use Rattle.sil_ast.specs.declared.inst.Inst.{Inst}
use Rattle.sil_ast.specs.declared.place.ValueId.{ValueId}
use Rattle.ownership_lowering_model.specs.Numbers.{renumbered, renumbered_arg, renumbered_block, renumbered_inst}
use Rattle.numbered_form.specs.Insts.{insts_of}
use Rattle.numbered_form.specs.Numbering.{defined_in, results_of, value_of, values_of}

module _ (number : ValueId → ValueId) where
  args_values : (args : List BlockArg) → map value_of (map (renumbered_arg number) args) ≡ map number (map value_of args)
  args_values [] = refl
  args_values (a ∷ args) = ap (λ vs. number a.value ∷ vs) (args_values args)

  results_values : (is : List Inst) (t : Inst)
      → flat_map results_of (map (renumbered_inst number) is ++ renumbered_inst number t ∷ []) ≡ map number (flat_map results_of (is ++ t ∷ []))
  results_values [] t = sym (map-append number t.results [])
  results_values (i ∷ is) t =
      ap (λ vs. map number i.results ++ vs) (results_values is t) ∙ sym (map-append number i.results (flat_map results_of (is ++ t ∷ [])))

  block_values : (b : Block) → defined_in (renumbered_block number b) ≡ map number (defined_in b)
  block_values b =
      ap₂ (λ x y. x ++ y) (args_values b.args) (results_values b.insts b.terminator)
      ∙ sym (map-append number (map value_of b.args) (flat_map results_of (insts_of b)))

  pub renumbered_values : (bs : List Block) → values_of (renumbered number bs) ≡ map number (values_of bs)
  renumbered_values [] = refl
  renumbered_values (b ∷ bs) = ap₂ (λ x y. x ++ y) (block_values b) (renumbered_values bs) ∙ sym (map-append number (defined_in b) (values_of bs))
