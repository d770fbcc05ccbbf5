use Rattle.std.proofs.Common.{set, sym, ap, ◌∙◌, subst}
use Rattle.holder_model_values.specs.declared.run_values.phase.Phase.TheVariants.{Live}
use Rattle.count_heap.specs.HeapModel.HeapCalls.{allocated_in}
use Rattle.count_heap.specs.HeapModel.HeapViews.{HeapView}
use Rattle.count_heap.specs.inner.Kept.{IsHeap}
use Rattle.count_heap.specs.inner.Objects.{heap_of}
use Rattle.count_heap.proofs.Allocation.{allocated_heap, allocated_view, given_back, same_heap, same_view}
use Rattle.count_heap.proofs.NewSlot.{fresh}
use Rattle.count_heap.proofs.heap.Heap.allocate.Goals as goal

pub invariant_of-self-in-Ok : goal.invariant_of-self-in-Ok
invariant_of-self-in-Ok c =
    let d = c.self.inside.layouts in
    let t = c.self.inside.numbers in
    let records = c.self.inside.records.items in
    let sides = c.self.inside.sides in
    let pieces = c.self.inside.pool in
    let e = c.slot_for_new.ensures in
    let s = c.in-Ok.slot in
    let found = fresh d t records sides c.slot_for_new.new.sides pieces c.self.invariant s c.in-Ok.ensures.ok in
    subst (λ n. IsHeap d n (set c.slot_for_new.new.records.items c.in-Ok.slot
    (record { strong = 1; piece = c.in_ok-piece.piece; class = c.args.class_index; phase = Live })) c.slot_for_new.new.sides c.take.new.self) (sym c.give.ensures)
    (allocated_heap d t records sides pieces c.self.invariant c.slot_for_new.new.numbers c.slot_for_new.new.records.items c.slot_for_new.new.sides
    c.take.new.self e.numbers e.kept e.slots e.records s found c.in_ok-piece.piece c.args.class_index c.size.result c.size.ensures c.in_ok-piece.ensures.taken c.in_ok-piece.ensures.ok)

pub returns-in-Ok-clause-heap : goal.returns-in-Ok-clause-heap
returns-in-Ok-clause-heap c =
    let d = c.self.inside.layouts in
    let t = c.self.inside.numbers in
    let records = c.self.inside.records.items in
    let sides = c.self.inside.sides in
    let pieces = c.self.inside.pool in
    let e = c.slot_for_new.ensures in
    let s = c.in-Ok.slot in
    let found = fresh d t records sides c.slot_for_new.new.sides pieces c.self.invariant s c.in-Ok.ensures.ok in
    ap (λ n. heap_of d n (set c.slot_for_new.new.records.items c.in-Ok.slot
    (record { strong = 1; piece = c.in_ok-piece.piece; class = c.args.class_index; phase = Live })) c.slot_for_new.new.sides c.take.new.self c.self.inside.retains c.self.inside.releases)
    c.give.ensures
    ∙ allocated_view d t records sides pieces c.self.invariant c.slot_for_new.new.numbers c.slot_for_new.new.records.items c.slot_for_new.new.sides
    c.take.new.self e.numbers e.kept e.slots e.records s found c.in_ok-piece.piece c.args.class_index c.size.result c.size.ensures c.in_ok-piece.ensures.taken c.in_ok-piece.ensures.ok
    c.self.inside.retains c.self.inside.releases
    ∙ ap (λ (v : HeapView). allocated_in v c.args.class_index) c.self.view_is

pub invariant_of-self-in-Err : goal.invariant_of-self-in-Err
invariant_of-self-in-Err c =
    let d = c.self.inside.layouts in
    let t = c.self.inside.numbers in
    let records = c.self.inside.records.items in
    let sides = c.self.inside.sides in
    let pieces = c.self.inside.pool in
    let e = c.slot_for_new.ensures in
    same_heap d t records sides pieces c.self.invariant c.slot_for_new.new.numbers c.slot_for_new.new.records.items c.slot_for_new.new.sides
    c.give_back.new.self e.numbers e.kept e.slots e.records c.in-Err.ensures.err
    (given_back pieces c.take.new.self c.give_back.new.self c.in_ok-piece.piece _ c.in_ok-piece.ensures.taken c.in_ok-piece.ensures.ok c.give_back.ensures.freed)

pub returns-in-Err-clause-heap : goal.returns-in-Err-clause-heap
returns-in-Err-clause-heap c =
    let d = c.self.inside.layouts in
    let t = c.self.inside.numbers in
    let records = c.self.inside.records.items in
    let sides = c.self.inside.sides in
    let pieces = c.self.inside.pool in
    let e = c.slot_for_new.ensures in
    same_view d t records sides pieces c.self.invariant c.slot_for_new.new.numbers c.slot_for_new.new.records.items c.slot_for_new.new.sides
    c.give_back.new.self e.numbers e.kept e.slots e.records c.in-Err.ensures.err
    (given_back pieces c.take.new.self c.give_back.new.self c.in_ok-piece.piece _ c.in_ok-piece.ensures.taken c.in_ok-piece.ensures.ok c.give_back.ensures.freed)
    c.self.inside.retains c.self.inside.releases
    ∙ c.self.view_is
