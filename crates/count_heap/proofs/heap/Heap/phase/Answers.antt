use Rattle.std.proofs.Common.{sym, ap, ◌∙◌}
use Rattle.count_heap.specs.HeapModel.HeapViews as views
use Rattle.count_heap.specs.HeapModel.HeapViews.{HeapView}
use Rattle.count_heap.specs.declared.slot_record.SlotRecord.{SlotRecord}
use Rattle.count_heap.proofs.Calls.{no_object_seen, object_seen, read_slot}
use Rattle.count_heap.proofs.heap.Heap.phase.Goals as goal

pub returns-in-Some : goal.returns-in-Some
returns-in-Some c =
    let d = c.self.inside.layouts in
    let t = c.self.inside.numbers in
    let records = c.self.inside.records.items in
    let sides = c.self.inside.sides in
    let pieces = c.self.inside.pool in
    let a = c.self.inside.retains in
    let b = c.self.inside.releases in
    let s = c.in-Some.slot in
    let is = sym c.find.ensures ∙ c.in-Some.is in
    let read = read_slot d t records sides pieces c.self.invariant c.args.o.0 s is c.index.result.now c.index.ensures in
    ap (λ (y : SlotRecord). y.phase) read ∙ sym (ap views.phase_told (object_seen d t records sides pieces a b c.args.o s is)) ∙ ap (λ (v : HeapView). views.phase_in v c.args.o) c.self.view_is

pub returns-in-None : goal.returns-in-None
returns-in-None c =
    let d = c.self.inside.layouts in
    let t = c.self.inside.numbers in
    let records = c.self.inside.records.items in
    let sides = c.self.inside.sides in
    let pieces = c.self.inside.pool in
    let a = c.self.inside.retains in
    let b = c.self.inside.releases in
    let is = sym c.find.ensures ∙ c.in-None.is in
    sym (ap views.phase_told (no_object_seen d t records sides pieces a b c.args.o is)) ∙ ap (λ (v : HeapView). views.phase_in v c.args.o) c.self.view_is
