use Rattle.std.proofs.Common.{◌≤◌, length, sym, ap, ◌∙◌}
use Rattle.std.specs.Prelude.{slice_index_or}
use Rattle.std.proofs.lemmas.List.{get_or_past}
use Rattle.count_heap.specs.LayoutsByClass.ClassFields.{leaves_by_field}
use Rattle.count_heap.specs.LayoutsByClass.Layouts.{size_of}
use Rattle.count_heap.proofs.LayoutsByClass.Lists.{sizes_at}
use Rattle.count_heap.proofs.layouts_by_class.layouts.ClassLayouts.size.Goals as goal

pub returns-then-class-sizes : goal.returns-then-class-sizes
returns-then-class-sizes c =
    let sizes = c.self.inside.sizes.items in
    let short : length sizes ≤ c.args.class = rw (← c.as_slice-sizes.ensures.value) c.if-class-sizes.true in
    sym (get_or_past sizes c.args.class 0 short) ∙ sizes_at _ c.self.inside.places sizes c.self.invariant c.args.class ∙ ap (λ d. size_of (leaves_by_field d c.args.class)) c.self.view_is

pub returns : goal.returns
returns c =
    let sizes = c.self.inside.sizes.items in
    ap (λ ss. slice_index_or ss c.args.class 0) c.as_slice-sizes.ensures.value
    ∙ sizes_at _ c.self.inside.places sizes c.self.invariant c.args.class ∙ ap (λ d. size_of (leaves_by_field d c.args.class)) c.self.view_is
