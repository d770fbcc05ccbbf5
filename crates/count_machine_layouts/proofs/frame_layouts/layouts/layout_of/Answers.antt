use Rattle.std.proofs.Common.{sym, ap, ◌∙◌, subst}
use Rattle.type_check_values.specs.TypingValues.inner.Told.{types_told}
use Rattle.count_machine_layouts.specs.FrameLayouts.inner.Sized.{HaveSizes}
use Rattle.count_machine_layouts.proofs.frame_layouts.layouts.layout_of.Goals as goal

pub lay_out-requires-clause-sizes : goal.lay_out-requires-clause-sizes
lay_out-requires-clause-sizes c =
    subst (HaveSizes c.args.table.now) (sym (ap types_told c.as_slice.ensures.value ∙ c.in_ok-find_types.ensures)) c.requires.sizes
