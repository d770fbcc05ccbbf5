-- What is deallocated is a slot of the function's own: no argument.
use Rattle.std.specs.Prelude.{◌≡◌, ℕ, [], ◌∷◌, false, Some}
use Rattle.sil_cfg_items.specs.Parts.{inst_at}
use Rattle.sil_ast.specs.declared.function.Function.{Function}
use Rattle.sil_ast.specs.declared.inst.Inst.{Inst}
use Rattle.sil_ast.specs.declared.module.Module.{Module}
use Rattle.sil_ast.specs.declared.operands.Operand.{Operand}
use Rattle.sil_ast.specs.declared.place.PointId.{PointId}
use Rattle.sil_cfg.specs.declared.item.Item.TheVariants as item
use Rattle.sil_verifier_runs.specs.sil_verifier_trails.AcceptedTrails.inner.Defined.{makes}
use Rattle.sil_verifier_runs.specs.sil_verifier_values.inner.Known.{IsAcceptedBody}
use Rattle.sil_verifier_runs.specs.holder_model.Effects.{effect_of}
use Rattle.sil_verifier_runs.specs.holder_model.declared.row_effect.RowEffect.TheVariants as row

abbrev pub AreSlotsOwn : Type 0
AreSlotsOwn = (m : Module) (n : ℕ) (f : Function) → IsAcceptedBody m n f → (p : PointId) (i : Inst) → inst_at f p ≡ Some i
    → (o : Operand) → i.operands ≡ o ∷ [] → effect_of i.op ≡ row.RemovesSlot → makes f o.value item.Entry ≡ false
