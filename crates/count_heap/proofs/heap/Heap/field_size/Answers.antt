use Rattle.std.proofs.Common.{sym, ap, ◌∙◌}
use Rattle.std.specs.Prelude.{option_map, slice_get}
use Rattle.count_heap.specs.declared.layouts_by_class.field_place.FieldPlace.{FieldPlace}
use Rattle.count_heap.specs.HeapModel.HeapViews as views
use Rattle.count_heap.specs.HeapModel.HeapViews.{HeapView}
use Rattle.count_heap.specs.declared.slot_record.SlotRecord.{SlotRecord}
use Rattle.count_heap.specs.inner.Objects.{places_of}
use Rattle.count_heap.proofs.Calls.{read_slot}
use Rattle.count_heap.proofs.FieldCalls.{no_size_seen, size_seen}
use Rattle.count_heap.proofs.heap.Heap.field_size.Goals as goal

pub returns-in-Some : goal.returns-in-Some
returns-in-Some c =
    let d = c.self.inside.layouts in
    let t = c.self.inside.numbers in
    let records = c.self.inside.records.items in
    let sides = c.self.inside.sides in
    let pieces = c.self.inside.pool in
    let a = c.self.inside.retains in
    let b = c.self.inside.releases in
    let s = c.in-Some.slot in
    let is = sym c.find.ensures ∙ c.in-Some.is in
    let read = read_slot d t records sides pieces c.self.invariant c.args.o.0 s is c.index.result.now c.index.ensures in
    c.count_at.ensures ∙ ap (λ ps. option_map (λ (p : FieldPlace). p.count) (slice_get ps c.args.index)) (c.fields.ensures ∙ ap (λ (y : SlotRecord). places_of d y.class) read)
    ∙ size_seen d t records sides pieces c.args.o a b c.args.index s is ∙ ap (λ (v : HeapView). views.leaves_at v c.args.o c.args.index) c.self.view_is

pub returns-in-None : goal.returns-in-None
returns-in-None c =
    let d = c.self.inside.layouts in
    let t = c.self.inside.numbers in
    let records = c.self.inside.records.items in
    let sides = c.self.inside.sides in
    let pieces = c.self.inside.pool in
    let a = c.self.inside.retains in
    let b = c.self.inside.releases in
    no_size_seen d t records sides pieces c.args.o a b c.args.index (sym c.find.ensures ∙ c.in-None.is) ∙ ap (λ (v : HeapView). views.leaves_at v c.args.o c.args.index) c.self.view_is
