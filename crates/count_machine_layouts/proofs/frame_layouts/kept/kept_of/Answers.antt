use Rattle.std.proofs.Common.{sym, ap, ◌∙◌}
use Rattle.type_check_rows.specs.inner.Views.{view_told}
use Rattle.holder_model_typing.specs.holder_model.RunTyping.Forms.{form_by}
use Rattle.count_machine_layouts.specs.FrameLayouts.inner.Layouts as layouts
use Rattle.count_machine_layouts.proofs.frame_layouts.kept.kept_of.Goals as goal

pub returns-in-None : goal.returns-in-None
returns-in-None c =
    let d = c.args.table.now in
    c.kept_of_function.ensures d ∙ ap (λ t. layouts.kept_of (form_by d t c.args.function)) c.in-None.ensures

pub kept_of_view-requires : goal.kept_of_view-requires
kept_of_view-requires c = c.requires c.args.number (view_told c.in-Some.view) (sym c.in-Some.ensures)
