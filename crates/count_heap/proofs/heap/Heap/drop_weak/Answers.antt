use Rattle.std.proofs.Common.{◌≡◌, refl, sym, ap, ◌∙◌, subst}
use Rattle.count_heap.specs.HeapModel.HeapCalls as calls
use Rattle.count_heap.specs.HeapModel.HeapViews.{HeapView}
use Rattle.count_heap.specs.inner.Objects.{heap_of}
use Rattle.count_heap.proofs.Calls.{changed_idle, sides_gone, sides_gone_inv, sides_inv, sides_left}
use Rattle.weak_unowned.specs.Sides as side
use Rattle.weak_unowned.specs.Sides.{is_idle, is_idle_at, sides_at}
use Rattle.number_tables.specs.TableByNumber.Numbers.{without}
use Rattle.count_heap.specs.inner.Kept.{IsHeap}
use Rattle.count_heap.proofs.heap.Heap.drop_weak.Goals as goal

pub invariant_of-self : goal.invariant_of-self
invariant_of-self c =
    let d = c.self.inside.layouts in
    let t = c.self.inside.numbers in
    let records = c.self.inside.records.items in
    let sides = c.self.inside.sides in
    let pieces = c.self.inside.pool in
    let s = c.slot_of-slot.result in
    let is = c.slot_of-slot.ensures.slot in
    let seen : is_idle (side.less_weak (sides_at sides s)) ≡ c.is_idle.result =
    sym (c.is_idle.ensures ∙ ap (λ xs. is_idle_at xs s) c.drop_weak.ensures
    ∙ changed_idle d t records sides pieces c.self.invariant c.slot_of-slot.ensures.apart c.args.o s is c.self.inside.retains c.self.inside.releases side.less_weak) in
    let idle = seen ∙ c.if-is_idle.true in
    subst (λ ns. IsHeap d ns records c.drop_weak.new.self pieces) (sym c.take_out.ensures)
    (subst (λ xs. IsHeap d (without t c.args.o.0) records xs pieces) (sym c.drop_weak.ensures)
    (sides_gone_inv d t records sides pieces c.self.invariant c.slot_of-slot.ensures.apart c.args.o s is c.self.inside.retains c.self.inside.releases side.less_weak refl calls.less_weak refl
    idle))

pub invariant_of-self-else-is_idle : goal.invariant_of-self-else-is_idle
invariant_of-self-else-is_idle c =
    let d = c.self.inside.layouts in
    let t = c.self.inside.numbers in
    let records = c.self.inside.records.items in
    let sides = c.self.inside.sides in
    let pieces = c.self.inside.pool in
    let s = c.slot_of-slot.result in
    let is = c.slot_of-slot.ensures.slot in
    let seen : is_idle (side.less_weak (sides_at sides s)) ≡ c.is_idle.result =
    sym (c.is_idle.ensures ∙ ap (λ xs. is_idle_at xs s) c.drop_weak.ensures
    ∙ changed_idle d t records sides pieces c.self.invariant c.slot_of-slot.ensures.apart c.args.o s is c.self.inside.retains c.self.inside.releases side.less_weak) in
    let taken = seen ∙ c.if-is_idle.false in
    subst (λ xs. IsHeap d t records xs pieces) (sym c.drop_weak.ensures)
    (sides_inv d t records sides pieces c.self.invariant c.slot_of-slot.ensures.apart c.args.o s is c.self.inside.retains c.self.inside.releases side.less_weak refl calls.less_weak refl taken)

pub returns-then-is_idle : goal.returns-then-is_idle
returns-then-is_idle c =
    let d = c.self.inside.layouts in
    let t = c.self.inside.numbers in
    let records = c.self.inside.records.items in
    let sides = c.self.inside.sides in
    let pieces = c.self.inside.pool in
    let s = c.slot_of-slot.result in
    let is = c.slot_of-slot.ensures.slot in
    let seen : is_idle (side.less_weak (sides_at sides s)) ≡ c.is_idle.result =
    sym (c.is_idle.ensures ∙ ap (λ xs. is_idle_at xs s) c.drop_weak.ensures
    ∙ changed_idle d t records sides pieces c.self.invariant c.slot_of-slot.ensures.apart c.args.o s is c.self.inside.retains c.self.inside.releases side.less_weak) in
    let idle = seen ∙ c.if-is_idle.true in
    ap (λ ns. heap_of d ns records c.drop_weak.new.self pieces c.self.inside.retains c.self.inside.releases) c.take_out.ensures
    ∙ ap (λ xs. heap_of d (without t c.args.o.0) records xs pieces c.self.inside.retains c.self.inside.releases) c.drop_weak.ensures
    ∙ sides_gone d t records sides pieces c.self.invariant c.slot_of-slot.ensures.apart c.args.o s is c.self.inside.retains c.self.inside.releases side.less_weak refl calls.less_weak refl idle
    ∙ ap (λ (v : HeapView). calls.weakly_unnamed v c.args.o) c.self.view_is

pub returns-else-is_idle : goal.returns-else-is_idle
returns-else-is_idle c =
    let d = c.self.inside.layouts in
    let t = c.self.inside.numbers in
    let records = c.self.inside.records.items in
    let sides = c.self.inside.sides in
    let pieces = c.self.inside.pool in
    let s = c.slot_of-slot.result in
    let is = c.slot_of-slot.ensures.slot in
    let seen : is_idle (side.less_weak (sides_at sides s)) ≡ c.is_idle.result =
    sym (c.is_idle.ensures ∙ ap (λ xs. is_idle_at xs s) c.drop_weak.ensures
    ∙ changed_idle d t records sides pieces c.self.invariant c.slot_of-slot.ensures.apart c.args.o s is c.self.inside.retains c.self.inside.releases side.less_weak) in
    let taken = seen ∙ c.if-is_idle.false in
    ap (λ xs. heap_of d t records xs pieces c.self.inside.retains c.self.inside.releases) c.drop_weak.ensures
    ∙ sides_left d t records sides pieces c.self.invariant c.slot_of-slot.ensures.apart c.args.o s is c.self.inside.retains c.self.inside.releases side.less_weak refl calls.less_weak refl taken
    ∙ ap (λ (v : HeapView). calls.weakly_unnamed v c.args.o) c.self.view_is
