use Rattle.std.proofs.Common.{ap, ◌∙◌}
use Rattle.count_heap.specs.LayoutsByClass.ClassFields.{leaves_by_field}
use Rattle.count_heap.specs.LayoutsByClass.Layouts.{places_from}
use Rattle.count_heap.proofs.LayoutsByClass.Lists.{places_at}
use Rattle.count_heap.proofs.layouts_by_class.layouts.ClassLayouts.fields.Goals as goal

pub returns : goal.returns
returns c = c.at.ensures ∙ places_at _ c.self.inside.places c.self.inside.sizes.items c.self.invariant c.args.class ∙ ap (λ d. places_from 0 (leaves_by_field d c.args.class)) c.self.view_is
