-- Calls are made ready as is meant.
use Rattle.std.proofs.Common.{◌≡◌, List, [], ◌∷◌, map, drop, sym, ap, ◌∙◌, subst, true, false, Some}
use Rattle.std.specs.Prelude.{slice_get}
use Rattle.holder_model.specs.Effects.{effect_of}
use Rattle.holder_model.specs.Frames.{has_any}
use Rattle.holder_model.specs.declared.row_effect.RowEffect.TheVariants as row
use Rattle.sil_cfg_items.specs.Items.{arg_value}
use Rattle.holder_model.specs.RunTyping.EndForms.{value_in}
use Rattle.sil_ast.specs.Blocks.{args_of}
use Rattle.sil_ast.specs.declared.function.Function.{Function}
use Rattle.sil_ast.specs.declared.inst.Inst.{Inst}
use Rattle.sil_ast.specs.declared.module.Module.{Module}
use Rattle.sil_ast.specs.declared.operands.Operand.{Operand}
use Rattle.sil_ast.specs.declared.place.FuncId.{FuncId}
use Rattle.sil_ast.specs.declared.place.ValueId.{ValueId}
use Rattle.sil_types_declarations.specs.TypeDefinitions.Declarations.{Declarations, declarations_of}
use Rattle.count_machine_model.specs.ReadyCode.Layout.{addresses_carried, local, values_carried}
use Rattle.count_machine_model.specs.ReadyCode.ReadyOps.{IsReadyOp, operands_of}
use Rattle.count_machine_model.specs.ReadyCode.ReadyOps as made
use Rattle.count_machine_model.specs.declared.ready_code.local.Carry.{Carry}
use Rattle.count_machine_model.specs.declared.ready_code.local.CarryAddress.{CarryAddress}
use Rattle.count_machine_model.specs.declared.ready_code.local.Local.{Local}
use Rattle.count_machine_model.specs.declared.ready_code.op.ReadyOp.TheVariants as op
use Rattle.count_machine_ready.specs.inner.Parts.{CallsThis}
use Rattle.count_machine_ready.proofs.MadeOps.{result_local}

-- the operands behind the first
pub args_are : (os : List Operand) (c : ValueId) (args : List ValueId) → map value_in os ≡ c ∷ args → map value_in (drop 1 os) ≡ args
args_are [] c args e = absurd (cc)
args_are (o ∷ os) c args e = cc

module _ (m : Module) (f : Function) (i : Inst) (does : effect_of i.op ≡ row.CallsFunction) (g : FuncId) (callee : Function) where
  abbrev d : Declarations
  d = declarations_of m

  abbrev This : Type 0
  This = CallsThis d f i m.functions g callee

  pub call_made : This → has_any callee.blocks ≡ true
      → (r : ValueId) (operands : List ValueId) (values : List Carry) (addresses : List CarryAddress) (to : Local)
      → operands ≡ operands_of i
      → values ≡ values_carried d f callee (map value_in (drop 1 i.operands)) (map arg_value (args_of callee 0))
      → addresses ≡ addresses_carried d f callee (map value_in (drop 1 i.operands)) (map arg_value (args_of callee 0))
      → slice_get i.results 0 ≡ Some r → to ≡ local d f r → IsReadyOp m f i (op.Call g operands values addresses to)
  call_made has bodied r operands values addresses to is_operands is_values is_addresses at is =
      let args : map value_in (drop 1 i.operands) ≡ has.args = args_are i.operands has.callee has.args has.operands in
      subst (λ x. IsReadyOp m f i (op.Call g x values addresses to)) (sym (is_operands ∙ has.operands))
      (subst (λ x. IsReadyOp m f i (op.Call g (has.callee ∷ has.args) x addresses to))
      (sym (is_values ∙ ap (λ vs. values_carried d f callee vs (map arg_value (args_of callee 0))) args))
      (subst (λ x. IsReadyOp m f i (op.Call g (has.callee ∷ has.args) (values_carried d f callee has.args (map arg_value (args_of callee 0))) x to))
      (sym (is_addresses ∙ ap (λ vs. addresses_carried d f callee vs (map arg_value (args_of callee 0))) args))
      (subst (λ x. IsReadyOp m f i (op.Call g (has.callee ∷ has.args) (values_carried d f callee has.args (map arg_value (args_of callee 0)))
      (addresses_carried d f callee has.args (map arg_value (args_of callee 0))) x)) (sym (result_local m f i r has.result to has.results at is))
      (made.calls has.callee has.result has.args g callee does has.operands has.results has.form has.there bodied))))

  pub call_out_made : This → has_any callee.blocks ≡ false → (r : ValueId) (operands : List ValueId) (args : List Local) (to : Local) → operands ≡ operands_of i
      → args ≡ map (local d f) (map value_in (drop 1 i.operands)) → slice_get i.results 0 ≡ Some r → to ≡ local d f r
      → IsReadyOp m f i (op.CallOut g operands args to)
  call_out_made has bare r operands args to is_operands is_args at is =
      let own : map value_in (drop 1 i.operands) ≡ has.args = args_are i.operands has.callee has.args has.operands in
      subst (λ x. IsReadyOp m f i (op.CallOut g x args to)) (sym (is_operands ∙ has.operands))
      (subst (λ x. IsReadyOp m f i (op.CallOut g (has.callee ∷ has.args) x to)) (sym (is_args ∙ ap (map (local d f)) own))
      (subst (λ x. IsReadyOp m f i (op.CallOut g (has.callee ∷ has.args) (map (local d f) has.args) x))
      (sym (result_local m f i r has.result to has.results at is))
      (made.calls_out has.callee has.result has.args g callee does has.operands has.results has.form has.there bare)))
