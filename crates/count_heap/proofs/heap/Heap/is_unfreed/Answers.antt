use Rattle.std.proofs.Common.{is_some, ap, ◌∙◌}
use Rattle.count_heap.specs.HeapModel.HeapViews as views
use Rattle.count_heap.specs.HeapModel.HeapViews.{HeapView}
use Rattle.count_heap.proofs.Calls.{unfreed_is}
use Rattle.count_heap.proofs.heap.Heap.is_unfreed.Goals as goal

pub returns : goal.returns
returns c =
    let d = c.self.inside.layouts in
    let t = c.self.inside.numbers in
    let records = c.self.inside.records.items in
    let sides = c.self.inside.sides in
    let pieces = c.self.inside.pool in
    let a = c.self.inside.retains in
    let b = c.self.inside.releases in
    c.is_some.ensures ∙ ap (λ x. is_some x) c.find.ensures ∙ unfreed_is d t records sides pieces a b c.args.o ∙ ap (λ (v : HeapView). views.is_unfreed v c.args.o) c.self.view_is
