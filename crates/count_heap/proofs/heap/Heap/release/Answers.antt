use Rattle.std.proofs.Common.{◌-◌, ◌≤◌, refl, sym, ap, ◌∙◌, subst}
use Rattle.count_heap.specs.HeapModel.HeapCalls as calls
use Rattle.count_heap.specs.HeapModel.HeapViews as views
use Rattle.count_heap.specs.HeapModel.HeapViews.{HeapView}
use Rattle.count_heap.specs.declared.slot_record.SlotRecord.{SlotRecord}
use Rattle.count_heap.specs.inner.Objects.{record_at}
use Rattle.count_heap.proofs.Calls.{answer_is, read_record, record_inv, released_is, strong_is}
use Rattle.count_heap.specs.inner.Answers.{left_answer}
use Rattle.count_heap.proofs.heap.Heap.release.Goals as goal

pub invariant_of-self : goal.invariant_of-self
invariant_of-self c =
    let d = c.self.inside.layouts in
    let t = c.self.inside.numbers in
    let records = c.self.inside.records.items in
    let sides = c.self.inside.sides in
    let pieces = c.self.inside.pool in
    let s = c.slot_of.result in
    let is = c.slot_of.ensures.slot in
    let read = read_record d t records sides pieces c.self.invariant c.slot_of.ensures.apart c.args.o s is c.self.inside.retains c.self.inside.releases c.index_mut-record.result.now
    c.index_mut-record.ensures.value in
    record_inv d t records sides pieces c.self.invariant c.slot_of.ensures.apart c.args.o s is c.self.inside.retains c.self.inside.releases _ (λ
    (y : SlotRecord). record y { strong = y.strong - 1 }) (ap (λ (y : SlotRecord). record y { strong = y.strong - 1 }) read) refl refl refl

pub returns-clause-answer : goal.returns-clause-answer
returns-clause-answer c =
    let d = c.self.inside.layouts in
    let t = c.self.inside.numbers in
    let records = c.self.inside.records.items in
    let sides = c.self.inside.sides in
    let pieces = c.self.inside.pool in
    let s = c.slot_of.result in
    let is = c.slot_of.ensures.slot in
    let read = read_record d t records sides pieces c.self.invariant c.slot_of.ensures.apart c.args.o s is c.self.inside.retains c.self.inside.releases c.index_mut-record.result.now
    c.index_mut-record.ensures.value in
    let count : 1 ≤ (record_at records s).strong =
    subst (λ n. 1 ≤ n) (sym (ap (λ (v : HeapView). views.strong_in v c.args.o) c.self.view_is)
    ∙ strong_is d t records sides pieces c.self.inside.retains c.self.inside.releases c.args.o s is) c.requires.count in
    c.answer_of.ensures ∙ ap (λ (y : SlotRecord). left_answer y.phase (y.strong - 1)) read ∙ answer_is d t records sides pieces c.self.inside.retains c.self.inside.releases c.args.o s is count
    ∙ ap (λ (v : HeapView). calls.release_answer v c.args.o) c.self.view_is

pub returns-clause-heap : goal.returns-clause-heap
returns-clause-heap c =
    let d = c.self.inside.layouts in
    let t = c.self.inside.numbers in
    let records = c.self.inside.records.items in
    let sides = c.self.inside.sides in
    let pieces = c.self.inside.pool in
    let s = c.slot_of.result in
    let is = c.slot_of.ensures.slot in
    let read = read_record d t records sides pieces c.self.invariant c.slot_of.ensures.apart c.args.o s is c.self.inside.retains c.self.inside.releases c.index_mut-record.result.now
    c.index_mut-record.ensures.value in
    released_is d t records sides pieces c.self.invariant c.slot_of.ensures.apart c.args.o s is c.self.inside.retains c.self.inside.releases _ (ap (λ
    (y : SlotRecord). record y { strong = y.strong - 1 }) read)
    ∙ ap (λ (v : HeapView). calls.released v c.args.o) c.self.view_is
