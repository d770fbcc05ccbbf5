use Rattle.std.proofs.Common.{sym, ap, ◌∙◌, subst, arith, true}
use Rattle.std.proofs.lemmas.Option.{get_or_from_slice_get}
use Rattle.sil_types.specs.Typing.Values.{value_types}
use Rattle.count_machine_layouts.specs.FrameLayouts.inner.Laid.{IsLaid}
use Rattle.count_machine_layouts.specs.FrameLayouts.inner.Layouts.{layout_of}
use Rattle.count_machine_layouts.specs.FrameLayouts.inner.Sized.{HaveSizes}
use Rattle.count_machine_layouts.proofs.FrameLayouts.Counts.{few_values}
use Rattle.count_machine_layouts.proofs.FrameLayouts.Lists.{item_at}
use Rattle.count_machine_layouts.proofs.FrameLayouts.Numbers.{laid_at, numbers_begun, numbers_done, numbers_more}
use Rattle.count_machine_layouts.proofs.FrameLayouts.ValueSizes.{value_sizes}
use Rattle.count_machine_layouts.proofs.frame_layouts.layouts.layouts_of.Goals as goal

pub layout_where-requires-clause-sizes : goal.layout_where-requires-clause-sizes
layout_where-requires-clause-sizes c =
    let f = c.f-item.result in
    subst (λ d. HaveSizes d (value_types d f)) (sym c.requires.of_it)
    (value_sizes c.args.m.now c.requires.runnable c.loop-number.number f
    (item_at c.args.m.now.functions c.as_slice-f-items.result.now c.loop-number.number f c.as_slice-f-items.ensures c.loop-number-test.true c.f-item.is))

pub layout_where-requires-clause-few : goal.layout_where-requires-clause-few
layout_where-requires-clause-few c =
    let f = c.f-item.result in
    few_values c.args.m.now c.requires.runnable c.loop-number.number f
    (item_at c.args.m.now.functions c.as_slice-f-items.result.now c.loop-number.number f c.as_slice-f-items.ensures c.loop-number-test.true c.f-item.is)

pub loop-number-init : goal.loop-number-init
loop-number-init c = numbers_begun (IsLaid c.args.m.now c.args.reached.now) c.in_ok-layouts.layouts c.in_ok-layouts.ensures

pub loop-number-preserved : goal.loop-number-preserved
loop-number-preserved c =
    let m = c.args.m.now in
    let n = c.loop-number.number in
    let f = c.f-item.result in
    let at = item_at m.functions c.as_slice-f-items.result.now n f c.as_slice-f-items.ensures c.loop-number-test.true c.f-item.is in
    numbers_more (IsLaid m c.args.reached.now) n c.loop-number.layouts c.push.new.self c.in_ok-layout_where.field-0 c.loop-number.invariant c.in_ok-push.ensures.ok
    (laid_at m c.args.reached.now n f c.in_ok-layout_where.field-0 at
    (λ own. c.in_ok-layout_where.ensures (get_or_from_slice_get c.args.reached.now n true _ own) ∙ ap (λ d. layout_of d f) c.requires.of_it))

pub returns : goal.returns
returns c =
    numbers_done (IsLaid c.args.m.now c.args.reached.now) c.loop-number.number c.as_slice-f-items.result.now c.args.m.now.functions c.loop-number.layouts
    (omega arith) c.as_slice-f-items.ensures c.loop-number.invariant
