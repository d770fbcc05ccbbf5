use Rattle.std.proofs.Common.{sym, ap, ap₂, ◌∙◌}
use Rattle.sil_ast.specs.declared.type_name.TypeName.TheVariants as type
use Rattle.holder_model_typing.specs.holder_model.RunTyping.Forms.{form_with}
use Rattle.count_machine_layouts.specs.declared.frame_layouts.layout.Kept.TheVariants as kept
use Rattle.count_machine_layouts.specs.FrameLayouts.inner.Layouts.{kept_of}
use Rattle.holder_model_typing.proofs.RunTypingLaws.Rows.Layers.{target-Address}
use Rattle.count_machine_layouts.proofs.frame_layouts.kept.kept_at.Goals as goal

pub returns : goal.returns
returns c =
    let d = c.args.table.now in
    let t = c.args.ty.now in
    ap₂ kept.Address (c.leaves.ensures ∙ sym c.requires.measured) (c.storage_in.ensures d)
    ∙ sym (ap (λ x. kept_of (form_with d (type.Address t) x)) (target-Address t))
