use Rattle.std.proofs.Common.{◌≡◌, ◌-◌, refl, sym, ap, ◌∙◌}
use Rattle.std.specs.Prelude.{◌==◌}
use Rattle.count_heap.specs.HeapModel.HeapCalls as calls
use Rattle.count_heap.specs.HeapModel.HeapViews as views
use Rattle.count_heap.specs.HeapModel.HeapViews.{HeapView}
use Rattle.count_heap.specs.declared.slot_record.SlotRecord.{SlotRecord}
use Rattle.count_heap.specs.inner.Objects.{heap_of}
use Rattle.count_heap.proofs.Calls.{read_record, record_inv, released_is, strong_is}
use Rattle.std.specs.Prelude.{set}
use Rattle.std.proofs.lemmas.Bool.{cond-false, cond-true, eq-eqb, ne_eqb}
use Rattle.std.proofs.lemmas.List.{set-get_or}
use Rattle.count_heap.proofs.heap.Heap.try_release.Goals as goal

pub returns-then-record-eq0-clause-heap : goal.returns-then-record-eq0-clause-heap
returns-then-record-eq0-clause-heap c =
    let d = c.self.inside.layouts in
    let t = c.self.inside.numbers in
    let records = c.self.inside.records.items in
    let sides = c.self.inside.sides in
    let pieces = c.self.inside.pool in
    let s = c.slot_of.result in
    let is = c.slot_of.ensures.slot in
    let read = read_record d t records sides pieces c.self.invariant c.slot_of.ensures.apart c.args.o s is c.self.inside.retains c.self.inside.releases c.index_mut-record.result.now
    c.index_mut-record.ensures.value in
    let now = c.index_mut-record.result.now in
    let seen = heap_of d t records sides pieces c.self.inside.retains c.self.inside.releases in
    let none : views.strong_in (heap_of d t records sides pieces c.self.inside.retains c.self.inside.releases) c.args.o ≡ 0 = strong_is d t records sides pieces c.self.inside.retains
    c.self.inside.releases c.args.o s is ∙ sym (ap (λ (y : SlotRecord). y.strong) read) ∙ c.if-record-eq0.true in
    let same : set records s c.index_mut-record.result.now ≡ records = ap (λ y. set records s y) c.index_mut-record.ensures.value ∙ set-get_or records s c.index_mut-record.result.now in
    ap (λ xs. heap_of d t xs sides pieces c.self.inside.retains c.self.inside.releases) same
    ∙ sym (cond-true (views.strong_in (heap_of d t records sides pieces c.self.inside.retains c.self.inside.releases) c.args.o == 0)
    (heap_of d t records sides pieces c.self.inside.retains c.self.inside.releases) (calls.released (heap_of d t records sides pieces c.self.inside.retains c.self.inside.releases) c.args.o)
    (eq-eqb (views.strong_in (heap_of d t records sides pieces c.self.inside.retains c.self.inside.releases) c.args.o) 0 none))
    ∙ ap (λ (v : HeapView). calls.release_tried v c.args.o) c.self.view_is

pub invariant_of-self-2 : goal.invariant_of-self-2
invariant_of-self-2 c =
    let d = c.self.inside.layouts in
    let t = c.self.inside.numbers in
    let records = c.self.inside.records.items in
    let sides = c.self.inside.sides in
    let pieces = c.self.inside.pool in
    let s = c.slot_of.result in
    let is = c.slot_of.ensures.slot in
    let read = read_record d t records sides pieces c.self.invariant c.slot_of.ensures.apart c.args.o s is c.self.inside.retains c.self.inside.releases c.index_mut-record.result.now
    c.index_mut-record.ensures.value in
    record_inv d t records sides pieces c.self.invariant c.slot_of.ensures.apart c.args.o s is c.self.inside.retains c.self.inside.releases _ (λ
    (y : SlotRecord). record y { strong = y.strong - 1 }) (ap (λ (y : SlotRecord). record y { strong = y.strong - 1 }) read) refl refl refl

pub returns-clause-heap : goal.returns-clause-heap
returns-clause-heap c =
    let d = c.self.inside.layouts in
    let t = c.self.inside.numbers in
    let records = c.self.inside.records.items in
    let sides = c.self.inside.sides in
    let pieces = c.self.inside.pool in
    let s = c.slot_of.result in
    let is = c.slot_of.ensures.slot in
    let read = read_record d t records sides pieces c.self.invariant c.slot_of.ensures.apart c.args.o s is c.self.inside.retains c.self.inside.releases c.index_mut-record.result.now
    c.index_mut-record.ensures.value in
    let some : views.strong_in (heap_of d t records sides pieces c.self.inside.retains c.self.inside.releases) c.args.o ≡ 0 → ⊥ =
    λ none. c.if-record-eq0.false (ap (λ (y : SlotRecord). y.strong) read ∙ sym (strong_is d t records sides pieces c.self.inside.retains c.self.inside.releases c.args.o s is) ∙ none) in
    released_is d t records sides pieces c.self.invariant c.slot_of.ensures.apart c.args.o s is c.self.inside.retains c.self.inside.releases _ (ap (λ
    (y : SlotRecord). record y { strong = y.strong - 1 }) read)
    ∙ sym (cond-false (views.strong_in (heap_of d t records sides pieces c.self.inside.retains c.self.inside.releases) c.args.o == 0)
    (heap_of d t records sides pieces c.self.inside.retains c.self.inside.releases) (calls.released (heap_of d t records sides pieces c.self.inside.retains c.self.inside.releases) c.args.o)
    (ne_eqb (views.strong_in (heap_of d t records sides pieces c.self.inside.retains c.self.inside.releases) c.args.o) 0 some))
    ∙ ap (λ (v : HeapView). calls.release_tried v c.args.o) c.self.view_is
