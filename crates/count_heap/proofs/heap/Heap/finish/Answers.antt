use Rattle.std.proofs.Common.{◌≡◌, None, false, sym, ap, ◌∙◌, subst}
use Rattle.holder_model_values.specs.RunValues.Memory.{is_dead_phase}
use Rattle.holder_model_values.specs.declared.run_values.phase.Phase.TheVariants.{Dead, Deiniting}
use Rattle.count_heap.specs.HeapModel.HeapCalls as calls
use Rattle.count_heap.specs.HeapModel.HeapViews as views
use Rattle.count_heap.specs.HeapModel.HeapViews.{HeapView}
use Rattle.count_heap.specs.declared.slot_record.SlotRecord.{SlotRecord}
use Rattle.count_heap.specs.inner.Objects.{heap_of, record_at}
use Rattle.count_heap.proofs.Calls.{changed_idle, death_gone, death_gone_inv, death_inv, death_left, object_seen, read_record}
use Rattle.std.specs.Prelude.{set}
use Rattle.weak_unowned.specs.Sides as side
use Rattle.weak_unowned.specs.Sides.{is_idle, is_idle_at, sides_at}
use Rattle.number_tables.specs.TableByNumber.Numbers.{without}
use Rattle.count_heap.specs.PooledLeaves.Pieces.{IsChanged}
use Rattle.count_heap.specs.inner.Kept.{IsHeap}
use Rattle.count_heap.proofs.heap.Heap.finish.Goals as goal

pub invariant_of-self : goal.invariant_of-self
invariant_of-self c =
    let d = c.self.inside.layouts in
    let t = c.self.inside.numbers in
    let records = c.self.inside.records.items in
    let sides = c.self.inside.sides in
    let pieces = c.self.inside.pool in
    let s = c.slot_of-slot.result in
    let is = c.slot_of-slot.ensures.slot in
    let read = read_record d t records sides pieces c.self.invariant c.slot_of-slot.ensures.apart c.args.o s is c.self.inside.retains c.self.inside.releases c.index_mut-record.result.now
    c.index_mut-record.ensures.value in
    let phase : (record_at records s).phase ≡ Deiniting =
    sym (ap views.phase_told (object_seen d t records sides pieces c.self.inside.retains c.self.inside.releases c.args.o s is)) ∙ ap (λ (v : HeapView). views.phase_in v c.args.o) c.self.view_is
    ∙ c.requires.deiniting in
    let alive : is_dead_phase (record_at records s).phase ≡ false = ap is_dead_phase phase in
    let back : IsChanged pieces c.give_back.new.self (record_at records s).piece None = subst (λ (y : SlotRecord). IsChanged pieces c.give_back.new.self y.piece None) read c.give_back.ensures.freed in
    let seen : is_idle (side.marked (sides_at sides s)) ≡ c.is_idle.result =
    sym (c.is_idle.ensures ∙ ap (λ xs. is_idle_at xs s) c.mark.ensures
    ∙ changed_idle d t records sides pieces c.self.invariant c.slot_of-slot.ensures.apart c.args.o s is c.self.inside.retains c.self.inside.releases side.marked) in
    let idle = seen ∙ c.if-is_idle.true in
    subst (λ ns. IsHeap d ns (set records s (record c.index_mut-record.result.now { phase = Dead })) c.mark.new.self c.give_back.new.self) (sym c.take_out.ensures)
    (subst (λ xs. IsHeap d (without t c.args.o.0) (set records s (record c.index_mut-record.result.now { phase = Dead })) xs c.give_back.new.self) (sym c.mark.ensures)
    (death_gone_inv d t records sides pieces c.self.invariant c.slot_of-slot.ensures.apart c.args.o s is c.self.inside.retains c.self.inside.releases alive c.give_back.new.self back
    (record c.index_mut-record.result.now { phase = Dead }) (ap (λ (y : SlotRecord). record y { phase = Dead }) read) idle))

pub invariant_of-self-else-is_idle : goal.invariant_of-self-else-is_idle
invariant_of-self-else-is_idle c =
    let d = c.self.inside.layouts in
    let t = c.self.inside.numbers in
    let records = c.self.inside.records.items in
    let sides = c.self.inside.sides in
    let pieces = c.self.inside.pool in
    let s = c.slot_of-slot.result in
    let is = c.slot_of-slot.ensures.slot in
    let read = read_record d t records sides pieces c.self.invariant c.slot_of-slot.ensures.apart c.args.o s is c.self.inside.retains c.self.inside.releases c.index_mut-record.result.now
    c.index_mut-record.ensures.value in
    let phase : (record_at records s).phase ≡ Deiniting =
    sym (ap views.phase_told (object_seen d t records sides pieces c.self.inside.retains c.self.inside.releases c.args.o s is)) ∙ ap (λ (v : HeapView). views.phase_in v c.args.o) c.self.view_is
    ∙ c.requires.deiniting in
    let alive : is_dead_phase (record_at records s).phase ≡ false = ap is_dead_phase phase in
    let back : IsChanged pieces c.give_back.new.self (record_at records s).piece None = subst (λ (y : SlotRecord). IsChanged pieces c.give_back.new.self y.piece None) read c.give_back.ensures.freed in
    let seen : is_idle (side.marked (sides_at sides s)) ≡ c.is_idle.result =
    sym (c.is_idle.ensures ∙ ap (λ xs. is_idle_at xs s) c.mark.ensures
    ∙ changed_idle d t records sides pieces c.self.invariant c.slot_of-slot.ensures.apart c.args.o s is c.self.inside.retains c.self.inside.releases side.marked) in
    let taken = seen ∙ c.if-is_idle.false in
    subst (λ xs. IsHeap d t (set records s (record c.index_mut-record.result.now { phase = Dead })) xs c.give_back.new.self) (sym c.mark.ensures)
    (death_inv d t records sides pieces c.self.invariant c.slot_of-slot.ensures.apart c.args.o s is c.self.inside.retains c.self.inside.releases alive c.give_back.new.self back
    (record c.index_mut-record.result.now { phase = Dead }) (ap (λ (y : SlotRecord). record y { phase = Dead }) read) taken)

pub returns-then-is_idle : goal.returns-then-is_idle
returns-then-is_idle c =
    let d = c.self.inside.layouts in
    let t = c.self.inside.numbers in
    let records = c.self.inside.records.items in
    let sides = c.self.inside.sides in
    let pieces = c.self.inside.pool in
    let s = c.slot_of-slot.result in
    let is = c.slot_of-slot.ensures.slot in
    let read = read_record d t records sides pieces c.self.invariant c.slot_of-slot.ensures.apart c.args.o s is c.self.inside.retains c.self.inside.releases c.index_mut-record.result.now
    c.index_mut-record.ensures.value in
    let phase : (record_at records s).phase ≡ Deiniting =
    sym (ap views.phase_told (object_seen d t records sides pieces c.self.inside.retains c.self.inside.releases c.args.o s is)) ∙ ap (λ (v : HeapView). views.phase_in v c.args.o) c.self.view_is
    ∙ c.requires.deiniting in
    let alive : is_dead_phase (record_at records s).phase ≡ false = ap is_dead_phase phase in
    let back : IsChanged pieces c.give_back.new.self (record_at records s).piece None = subst (λ (y : SlotRecord). IsChanged pieces c.give_back.new.self y.piece None) read c.give_back.ensures.freed in
    let seen : is_idle (side.marked (sides_at sides s)) ≡ c.is_idle.result =
    sym (c.is_idle.ensures ∙ ap (λ xs. is_idle_at xs s) c.mark.ensures
    ∙ changed_idle d t records sides pieces c.self.invariant c.slot_of-slot.ensures.apart c.args.o s is c.self.inside.retains c.self.inside.releases side.marked) in
    let idle = seen ∙ c.if-is_idle.true in
    ap (λ ns. heap_of d ns (set records s (record c.index_mut-record.result.now { phase = Dead })) c.mark.new.self c.give_back.new.self c.self.inside.retains c.self.inside.releases) c.take_out.ensures
    ∙ ap (λ xs. heap_of d (without t c.args.o.0) (set records s
    (record c.index_mut-record.result.now { phase = Dead })) xs c.give_back.new.self c.self.inside.retains c.self.inside.releases) c.mark.ensures
    ∙ death_gone d t records sides pieces c.self.invariant c.slot_of-slot.ensures.apart c.args.o s is c.self.inside.retains c.self.inside.releases alive c.give_back.new.self back
    (record c.index_mut-record.result.now { phase = Dead }) (ap (λ (y : SlotRecord). record y { phase = Dead }) read) idle ∙ ap (λ (v : HeapView). calls.finished v c.args.o) c.self.view_is

pub returns-else-is_idle : goal.returns-else-is_idle
returns-else-is_idle c =
    let d = c.self.inside.layouts in
    let t = c.self.inside.numbers in
    let records = c.self.inside.records.items in
    let sides = c.self.inside.sides in
    let pieces = c.self.inside.pool in
    let s = c.slot_of-slot.result in
    let is = c.slot_of-slot.ensures.slot in
    let read = read_record d t records sides pieces c.self.invariant c.slot_of-slot.ensures.apart c.args.o s is c.self.inside.retains c.self.inside.releases c.index_mut-record.result.now
    c.index_mut-record.ensures.value in
    let phase : (record_at records s).phase ≡ Deiniting =
    sym (ap views.phase_told (object_seen d t records sides pieces c.self.inside.retains c.self.inside.releases c.args.o s is)) ∙ ap (λ (v : HeapView). views.phase_in v c.args.o) c.self.view_is
    ∙ c.requires.deiniting in
    let alive : is_dead_phase (record_at records s).phase ≡ false = ap is_dead_phase phase in
    let back : IsChanged pieces c.give_back.new.self (record_at records s).piece None = subst (λ (y : SlotRecord). IsChanged pieces c.give_back.new.self y.piece None) read c.give_back.ensures.freed in
    let seen : is_idle (side.marked (sides_at sides s)) ≡ c.is_idle.result =
    sym (c.is_idle.ensures ∙ ap (λ xs. is_idle_at xs s) c.mark.ensures
    ∙ changed_idle d t records sides pieces c.self.invariant c.slot_of-slot.ensures.apart c.args.o s is c.self.inside.retains c.self.inside.releases side.marked) in
    let taken = seen ∙ c.if-is_idle.false in
    ap (λ xs. heap_of d t (set records s (record c.index_mut-record.result.now { phase = Dead })) xs c.give_back.new.self c.self.inside.retains c.self.inside.releases) c.mark.ensures
    ∙ death_left d t records sides pieces c.self.invariant c.slot_of-slot.ensures.apart c.args.o s is c.self.inside.retains c.self.inside.releases alive c.give_back.new.self back
    (record c.index_mut-record.result.now { phase = Dead }) (ap (λ (y : SlotRecord). record y { phase = Dead }) read) taken ∙ ap (λ (v : HeapView). calls.finished v c.args.o) c.self.view_is
