use Rattle.std.proofs.Common.{◌+◌, refl, ap, ◌∙◌}
use Rattle.count_heap.specs.HeapModel.HeapCalls as calls
use Rattle.count_heap.specs.HeapModel.HeapViews.{HeapView}
use Rattle.count_heap.specs.declared.slot_record.SlotRecord.{SlotRecord}
use Rattle.count_heap.proofs.Calls.{read_record, record_inv, retained_is}
use Rattle.count_heap.proofs.heap.Heap.retain.Goals as goal

pub invariant_of-self : goal.invariant_of-self
invariant_of-self c =
    let d = c.self.inside.layouts in
    let t = c.self.inside.numbers in
    let records = c.self.inside.records.items in
    let sides = c.self.inside.sides in
    let pieces = c.self.inside.pool in
    let s = c.slot_of.result in
    let is = c.slot_of.ensures.slot in
    let read = read_record d t records sides pieces c.self.invariant c.slot_of.ensures.apart c.args.o s is c.self.inside.retains c.self.inside.releases c.index_mut-record.result.now
    c.index_mut-record.ensures.value in
    record_inv d t records sides pieces c.self.invariant c.slot_of.ensures.apart c.args.o s is c.self.inside.retains c.self.inside.releases _ (λ
    (y : SlotRecord). record y { strong = y.strong + 1 }) (ap (λ (y : SlotRecord). record y { strong = y.strong + 1 }) read) refl refl refl

pub returns : goal.returns
returns c =
    let d = c.self.inside.layouts in
    let t = c.self.inside.numbers in
    let records = c.self.inside.records.items in
    let sides = c.self.inside.sides in
    let pieces = c.self.inside.pool in
    let s = c.slot_of.result in
    let is = c.slot_of.ensures.slot in
    let read = read_record d t records sides pieces c.self.invariant c.slot_of.ensures.apart c.args.o s is c.self.inside.retains c.self.inside.releases c.index_mut-record.result.now
    c.index_mut-record.ensures.value in
    retained_is d t records sides pieces c.self.invariant c.slot_of.ensures.apart c.args.o s is c.self.inside.retains c.self.inside.releases _ (ap (λ
    (y : SlotRecord). record y { strong = y.strong + 1 }) read)
    ∙ ap (λ (v : HeapView). calls.retained v c.args.o) c.self.view_is
