-- The instructions of a block of a runnable module have what their rows have.
use Rattle.std.proofs.Common.{◌≡◌, ℕ, refl, ap, ◌∙◌, Some}
use Rattle.std.specs.Prelude.{slice_get}
use Rattle.sil_cfg_items.specs.Parts.{inst_at, inst_in, terminator_in}
use Rattle.sil_ast.specs.declared.function.Block.{Block}
use Rattle.sil_ast.specs.declared.inst.Inst.{Inst}
use Rattle.sil_ast.specs.declared.place.PointId.{PointId}
use Rattle.count_machine_layouts.proofs.holder_model_typing.RunTypingLaws.Declared.{each_from}
use Rattle.count_machine_layouts.proofs.holder_model_typing.RunTypingLaws.RunnableTyped.{runnable_is_typed, well_typed}
use Rattle.count_machine_layouts.proofs.holder_model_typing.RunTypingLaws.Rows.Known.{known}
use Rattle.count_machine_layouts.proofs.FrameLayouts.ValueSizes.{value_sizes}
use Rattle.count_machine_ready.specs.declared.body.Body.{Body}
use Rattle.count_machine_ready.specs.inner.Bodies.{HasOwnRow, HasRows, IsBody}
use Rattle.count_machine_ready.proofs.EndParts.{has_end}
use Rattle.count_machine_ready.proofs.RowParts.{parts}
use Rattle.count_machine_ready.proofs.TypedRows.{row_told}

pub has_rows : (b : Body) → IsBody b → (k : ℕ) (block : Block) → slice_get b.function.now.blocks k ≡ Some block → HasRows b block
has_rows b is k block there = record {
  insts = each_from (HasOwnRow b) block.insts own_row;
  end = has_end b.m.now is.runnable is.number b.function.now is.there k block.terminator (ap terminator_in there);
}
  where
    own_row : (j : ℕ) (i : Inst) → slice_get block.insts j ≡ Some i → HasOwnRow b i
    own_row j i at =
        let m = b.m.now in
        let f = b.function.now in
        let p : PointId = record { block = record { 0 = k }; index = j } in
        let here : inst_at f p ≡ Some i = ap (λ o. inst_in o j) there ∙ at in
        let row = (((runnable_is_typed m is.runnable).functions is.number f is.there).insts p i here).row in
        parts m is.runnable f (value_sizes m is.runnable is.number f is.there) i _ _ row refl refl
        (row_told m f i is.runnable (known m (well_typed m is.runnable) is.number f is.there p i here))
