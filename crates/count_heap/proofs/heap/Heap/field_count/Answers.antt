use Rattle.std.proofs.Common.{length, sym, ap, ◌∙◌}
use Rattle.count_heap.specs.HeapModel.HeapViews as views
use Rattle.count_heap.specs.HeapModel.HeapViews.{HeapView}
use Rattle.count_heap.specs.declared.slot_record.SlotRecord.{SlotRecord}
use Rattle.count_heap.proofs.Calls.{read_record}
use Rattle.count_heap.specs.LayoutsByClass.ClassFields.{leaves_by_field}
use Rattle.count_heap.proofs.FieldCalls.{field_count_is}
use Rattle.count_heap.proofs.heap.Heap.field_count.Goals as goal

pub returns : goal.returns
returns c =
    let d = c.self.inside.layouts in
    let t = c.self.inside.numbers in
    let records = c.self.inside.records.items in
    let sides = c.self.inside.sides in
    let pieces = c.self.inside.pool in
    let s = c.slot_of.result in
    let is = c.slot_of.ensures.slot in
    let read = read_record d t records sides pieces c.self.invariant c.slot_of.ensures.apart c.args.o s is c.self.inside.retains c.self.inside.releases c.index.result.now c.index.ensures in
    c.field_count.ensures ∙ ap (λ (y : SlotRecord). length (leaves_by_field d y.class)) read
    ∙ sym (field_count_is d t records sides pieces c.self.invariant c.slot_of.ensures.apart c.args.o s is c.self.inside.retains c.self.inside.releases (ap (λ
    (v : HeapView). views.is_dead_in v c.args.o) c.self.view_is ∙ c.requires))
    ∙ ap (λ (v : HeapView). length (views.fields_in v c.args.o)) c.self.view_is
