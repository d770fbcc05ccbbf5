use Rattle.std.proofs.Common.{refl, sym, ap, ◌∙◌, subst}
use Rattle.count_heap.specs.HeapModel.HeapCalls as calls
use Rattle.count_heap.specs.HeapModel.HeapViews as views
use Rattle.count_heap.specs.HeapModel.HeapViews.{HeapView}
use Rattle.count_heap.specs.inner.Objects.{heap_of}
use Rattle.count_heap.proofs.Calls.{alive_slot, sides_inv, sides_named}
use Rattle.weak_unowned.specs.Sides as side
use Rattle.count_heap.specs.inner.Kept.{IsHeap}
use Rattle.count_heap.proofs.heap.Heap.add_unowned.Goals as goal

pub invariant_of-self : goal.invariant_of-self
invariant_of-self c =
    let d = c.self.inside.layouts in
    let t = c.self.inside.numbers in
    let records = c.self.inside.records.items in
    let sides = c.self.inside.sides in
    let pieces = c.self.inside.pool in
    let s = c.slot_of-slot.result in
    let is = c.slot_of-slot.ensures.slot in
    let taken = alive_slot d t records sides pieces c.self.invariant c.slot_of-slot.ensures.apart c.args.o s is c.self.inside.retains c.self.inside.releases side.more_unowned (ap (λ
    (v : HeapView). views.is_dead_in v c.args.o) c.self.view_is ∙ c.requires.alive) refl in
    subst (λ xs. IsHeap d t records xs pieces) (sym c.add_unowned.ensures)
    (sides_inv d t records sides pieces c.self.invariant c.slot_of-slot.ensures.apart c.args.o s is c.self.inside.retains c.self.inside.releases side.more_unowned refl calls.more_unowned refl
    taken)

pub returns : goal.returns
returns c =
    let d = c.self.inside.layouts in
    let t = c.self.inside.numbers in
    let records = c.self.inside.records.items in
    let sides = c.self.inside.sides in
    let pieces = c.self.inside.pool in
    let s = c.slot_of-slot.result in
    let is = c.slot_of-slot.ensures.slot in
    let taken = alive_slot d t records sides pieces c.self.invariant c.slot_of-slot.ensures.apart c.args.o s is c.self.inside.retains c.self.inside.releases side.more_unowned (ap (λ
    (v : HeapView). views.is_dead_in v c.args.o) c.self.view_is ∙ c.requires.alive) refl in
    ap (λ xs. heap_of d t records xs pieces c.self.inside.retains c.self.inside.releases) c.add_unowned.ensures
    ∙ sides_named d t records sides pieces c.self.invariant c.slot_of-slot.ensures.apart c.args.o s is c.self.inside.retains c.self.inside.releases side.more_unowned refl calls.more_unowned refl
    taken ∙ ap (λ (v : HeapView). calls.unowned_named v c.args.o) c.self.view_is
