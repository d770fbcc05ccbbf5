-- Where an instruction that is lowered to itself stands in the lowered function, what it takes and defines there, and the point behind it.
use Rattle.std.proofs.Common.{◌≡◌, ℕ, suc, ◌+◌, [], ◌∷◌, length, map, arith, sym, ap, ◌∙◌, Some}
use Rattle.std.specs.Prelude.{slice_get}
use Rattle.sil_ast.specs.declared.function.Function.{Function}
use Rattle.sil_ast.specs.declared.inst.Inst.{Inst}
use Rattle.sil_ast.specs.declared.place.PointId.{PointId}
use Rattle.sil_ast.specs.declared.place.ValueId.{ValueId}
use Rattle.sil_cfg.specs.declared.item.Item.TheVariants as item
use Rattle.sil_cfg_items.specs.Items.{item_defined, item_taken}
use Rattle.sil_cfg_items.specs.Parts.{inst_at}
use Rattle.sil_types_declarations.specs.TypeDefinitions.Declarations.{Declarations}
use Rattle.sil_verifier_runs.specs.holder_model.Standing.{point_behind}
use Rattle.sil_verifier_runs.specs.holder_model.LoweredRun.LowStepParts.{taken_value, values_taken}
use Rattle.ownership_lowering_laws.specs.ownership_lowering_model.LoweredBlocks.{value_with}
use Rattle.ownership_lowering_laws.specs.ownership_lowering_model.LoweredInsts.{becomes, becomes_by, lowering_of}
use Rattle.ownership_lowering_laws.specs.ownership_lowering_model.LoweredModules.{lowered_body}
use Rattle.ownership_lowering_laws.specs.ownership_lowering_model.Numbers.{renumbered_inst}
use Rattle.ownership_lowering_laws.specs.ownership_lowering_model.declared.lowering.Lowering.TheVariants as lowering
use Rattle.ownership_lowering_runs.specs.StoredRuns.inner.Names.{lowered_number}
use Rattle.ownership_lowering_runs.specs.StoredRuns.inner.Points.{lowered_point}
use Rattle.ownership_lowering_runs.proofs.StoredRuns.Lowered.LoweredCode.{IsLoweredTo, lowered_inst}
use Rattle.ownership_lowering_runs.proofs.StoredRuns.Reading.{defines_there, taken_renumbered, takes_there}

module _ (d : Declarations) (f : Function) (p : PointId) (i : Inst) (here : inst_at f p ≡ Some i) (stays : lowering_of i.op ≡ lowering.Stays)
    (q : PointId) (at : q ≡ lowered_point d f p) where
  abbrev number : ValueId → ValueId
  number v = lowered_number d f v

  abbrev j : Inst
  j = renumbered_inst number i

  abbrev lf : Function
  lf = lowered_body d f

  lowered_to : IsLoweredTo d f p i
  lowered_to = lowered_inst d f p i here

  itself : (s : ℕ) → becomes d (value_with s) i ≡ i ∷ []
  itself s = ap (λ x. becomes_by d (value_with s) x i) stays

  pub low_here : inst_at lf q ≡ Some j
  low_here =
      ap (inst_at lf) (at ∙ ap (λ n. record p { index = n }) (zero_more (lowered_point d f p).index))
      ∙ lowered_to.each 0 i (ap (λ is. slice_get is 0) (itself lowered_to.spare))
    where
      zero_more : (n : ℕ) → n ≡ n + 0
      zero_more n = omega arith

  pub behind_at : point_behind q ≡ lowered_point d f (point_behind p)
  behind_at =
      ap point_behind at
      ∙ ap (λ n. record p { index = n }) (one_more_index (lowered_point d f p).index ∙ ap (λ is. (lowered_point d f p).index + length is) (sym (itself lowered_to.spare)) ∙ sym lowered_to.next)
    where
      one_more_index : (n : ℕ) → suc n ≡ n + 1
      one_more_index n = omega arith

  pub defines_same : item_defined lf (item.Inst q) ≡ map number (item_defined f (item.Inst p))
  defines_same = defines_there lf q j low_here ∙ ap (map number) (sym (defines_there f p i here))

  pub takes_same : values_taken lf (item.Inst q) ≡ map number (map taken_value (item_taken f (item.Inst p)))
  takes_same = takes_there lf q j low_here ∙ taken_renumbered number i ∙ ap (map number) (sym (takes_there f p i here))
