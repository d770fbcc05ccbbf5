use Rattle.std.proofs.Common.{◌≡◌, refl, sym, ap, ◌∙◌}
use Rattle.holder_model_values.specs.RunValues.Memory.{is_dead_phase}
use Rattle.holder_model_values.specs.declared.run_values.phase.Phase.TheVariants.{Deiniting, Live}
use Rattle.count_heap.specs.HeapModel.HeapCalls as calls
use Rattle.count_heap.specs.HeapModel.HeapViews as views
use Rattle.count_heap.specs.HeapModel.HeapViews.{HeapView}
use Rattle.count_heap.specs.declared.slot_record.SlotRecord.{SlotRecord}
use Rattle.count_heap.specs.inner.Objects.{record_at}
use Rattle.count_heap.proofs.Calls.{object_seen, read_record, record_inv, started_is}
use Rattle.count_heap.proofs.heap.Heap.start.Goals as goal

pub invariant_of-self : goal.invariant_of-self
invariant_of-self c =
    let d = c.self.inside.layouts in
    let t = c.self.inside.numbers in
    let records = c.self.inside.records.items in
    let sides = c.self.inside.sides in
    let pieces = c.self.inside.pool in
    let s = c.slot_of.result in
    let is = c.slot_of.ensures.slot in
    let read = read_record d t records sides pieces c.self.invariant c.slot_of.ensures.apart c.args.o s is c.self.inside.retains c.self.inside.releases c.index_mut-record.result.now
    c.index_mut-record.ensures.value in
    let live : (record_at records s).phase ≡ Live =
    sym (ap views.phase_told (object_seen d t records sides pieces c.self.inside.retains c.self.inside.releases c.args.o s is)) ∙ ap (λ (v : HeapView). views.phase_in v c.args.o) c.self.view_is
    ∙ c.requires.live in
    record_inv d t records sides pieces c.self.invariant c.slot_of.ensures.apart c.args.o s is c.self.inside.retains c.self.inside.releases _ (λ (y : SlotRecord). record y { phase = Deiniting })
    (ap (λ (y : SlotRecord). record y { phase = Deiniting }) read) refl refl (sym (ap is_dead_phase live))

pub returns : goal.returns
returns c =
    let d = c.self.inside.layouts in
    let t = c.self.inside.numbers in
    let records = c.self.inside.records.items in
    let sides = c.self.inside.sides in
    let pieces = c.self.inside.pool in
    let s = c.slot_of.result in
    let is = c.slot_of.ensures.slot in
    let read = read_record d t records sides pieces c.self.invariant c.slot_of.ensures.apart c.args.o s is c.self.inside.retains c.self.inside.releases c.index_mut-record.result.now
    c.index_mut-record.ensures.value in
    let live : (record_at records s).phase ≡ Live =
    sym (ap views.phase_told (object_seen d t records sides pieces c.self.inside.retains c.self.inside.releases c.args.o s is)) ∙ ap (λ (v : HeapView). views.phase_in v c.args.o) c.self.view_is
    ∙ c.requires.live in
    started_is d t records sides pieces c.self.invariant c.slot_of.ensures.apart c.args.o s is c.self.inside.retains c.self.inside.releases _ (ap (λ
    (y : SlotRecord). record y { phase = Deiniting }) read) live
    ∙ ap (λ (v : HeapView). calls.started v c.args.o) c.self.view_is
