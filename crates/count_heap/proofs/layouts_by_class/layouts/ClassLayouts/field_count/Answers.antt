use Rattle.std.proofs.Common.{length, ap, ◌∙◌, arith}
use Rattle.count_heap.specs.LayoutsByClass.ClassFields.{leaves_by_field}
use Rattle.count_heap.proofs.LayoutsByClass.Lists.{few_places, length_places}
use Rattle.count_heap.proofs.layouts_by_class.layouts.ClassLayouts.field_count.Goals as goal

pub overflow_cast-result : goal.overflow_cast-result
overflow_cast-result c =
    let counts = leaves_by_field c.args.self.now c.args.class in
    omega (arith, ap (λ ps. length ps) c.fields.ensures, length_places 0 counts, few_places counts, c.size-at_most.ensures)

pub returns : goal.returns
returns c = ap (λ ps. length ps) c.fields.ensures ∙ length_places 0 (leaves_by_field c.args.self.now c.args.class)
