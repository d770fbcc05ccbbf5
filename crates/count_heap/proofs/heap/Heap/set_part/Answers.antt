use Rattle.std.proofs.Common.{◌≡◌, ◌+◌, ◌≤◌, true, is_some, length, sym, ap, ◌∙◌, subst}
use Rattle.std.specs.Prelude.{slice_index_or}
use Rattle.count_heap.specs.HeapModel.HeapCalls as calls
use Rattle.count_heap.specs.HeapModel.HeapViews as views
use Rattle.count_heap.specs.HeapModel.HeapViews.{HeapView}
use Rattle.count_heap.specs.declared.slot_record.SlotRecord.{SlotRecord}
use Rattle.count_heap.specs.inner.Objects.{heap_of, record_at}
use Rattle.count_heap.proofs.Calls.{read_record}
use Rattle.std.specs.Prelude.{IfSome, option_map}
use Rattle.count_heap.specs.PooledLeaves.Pieces.{IsChanged, piece_in, put_leaves}
use Rattle.count_heap.specs.LayoutsByClass.ClassFields.{leaves_by_field}
use Rattle.count_heap.specs.declared.layouts_by_class.field_place.FieldPlace.{FieldPlace}
use Rattle.count_heap.proofs.LayoutsByClass.PlacesApart.{no_place, place_at}
use Rattle.count_heap.specs.inner.Objects.{places_of}
use Rattle.count_heap.proofs.FieldCalls.{part_fits, piece_there, set_part_inv, set_part_is}
use Rattle.count_heap.proofs.heap.Heap.set_part.Goals as goal

pub write-requires-clause-there : goal.write-requires-clause-there
write-requires-clause-there c =
    let d = c.self.inside.layouts in
    let t = c.self.inside.numbers in
    let records = c.self.inside.records.items in
    let sides = c.self.inside.sides in
    let pieces = c.self.inside.pool in
    let s = c.slot_of.result in
    let is = c.slot_of.ensures.slot in
    let read = read_record d t records sides pieces c.self.invariant c.slot_of.ensures.apart c.args.o s is c.self.inside.retains c.self.inside.releases c.index-record.result.now
    c.index-record.ensures in
    subst (λ (y : SlotRecord). is_some (piece_in pieces y.piece) ≡ true) (sym read)
    (piece_there d t records sides pieces c.self.invariant c.slot_of.ensures.apart c.args.o s is c.self.inside.retains c.self.inside.releases (ap (λ
    (v : HeapView). views.is_dead_in v c.args.o) c.self.view_is ∙ c.requires.alive))

pub write-requires-clause-within : goal.write-requires-clause-within
write-requires-clause-within c =
    let d = c.self.inside.layouts in
    let t = c.self.inside.numbers in
    let records = c.self.inside.records.items in
    let sides = c.self.inside.sides in
    let pieces = c.self.inside.pool in
    let s = c.slot_of.result in
    let is = c.slot_of.ensures.slot in
    let read = read_record d t records sides pieces c.self.invariant c.slot_of.ensures.apart c.args.o s is c.self.inside.retains c.self.inside.releases c.index-record.result.now
    c.index-record.ensures in
    let there : is_some (views.field_in (heap_of d t records sides pieces c.self.inside.retains c.self.inside.releases) c.args.o c.args.index) ≡ true = ap (λ (v : HeapView). is_some
    (views.field_in v c.args.o c.args.index)) c.self.view_is ∙ c.requires.written in
    let fits : IfSome (views.field_in (heap_of d t records sides pieces c.self.inside.retains c.self.inside.releases) c.args.o c.args.index)
    (λ old. c.args.from + length c.args.leaves.now ≤ length old) =
    subst (λ (v : HeapView). IfSome (views.field_in v c.args.o c.args.index) (λ old. c.args.from + length c.args.leaves.now ≤ length old)) (sym c.self.view_is) c.requires.fits in
    let place_is = ap (λ ps. slice_index_or ps c.args.index no_place) (c.fields.ensures ∙ ap (λ (y : SlotRecord). places_of d y.class) read) in
    subst (λ (p : FieldPlace). IfSome (piece_in pieces c.index-record.result.now.piece) (λ old. p.from + 1 + c.args.from + length c.args.leaves.now ≤ length old)) (sym place_is)
    (subst (λ (y : SlotRecord). IfSome (piece_in pieces y.piece) (λ old. (place_at 0 (leaves_by_field d
    (record_at records s).class) c.args.index).from + 1 + c.args.from + length c.args.leaves.now ≤ length old)) (sym read)
    (part_fits d t records sides pieces c.self.invariant c.slot_of.ensures.apart c.args.o s is c.self.inside.retains c.self.inside.releases (ap (λ
    (v : HeapView). views.is_dead_in v c.args.o) c.self.view_is ∙ c.requires.alive) c.args.index c.args.from c.args.leaves.now there fits))

pub invariant_of-self : goal.invariant_of-self
invariant_of-self c =
    let d = c.self.inside.layouts in
    let t = c.self.inside.numbers in
    let records = c.self.inside.records.items in
    let sides = c.self.inside.sides in
    let pieces = c.self.inside.pool in
    let s = c.slot_of.result in
    let is = c.slot_of.ensures.slot in
    let read = read_record d t records sides pieces c.self.invariant c.slot_of.ensures.apart c.args.o s is c.self.inside.retains c.self.inside.releases c.index-record.result.now
    c.index-record.ensures in
    let there : is_some (views.field_in (heap_of d t records sides pieces c.self.inside.retains c.self.inside.releases) c.args.o c.args.index) ≡ true = ap (λ (v : HeapView). is_some
    (views.field_in v c.args.o c.args.index)) c.self.view_is ∙ c.requires.written in
    let fits : IfSome (views.field_in (heap_of d t records sides pieces c.self.inside.retains c.self.inside.releases) c.args.o c.args.index)
    (λ old. c.args.from + length c.args.leaves.now ≤ length old) =
    subst (λ (v : HeapView). IfSome (views.field_in v c.args.o c.args.index) (λ old. c.args.from + length c.args.leaves.now ≤ length old)) (sym c.self.view_is) c.requires.fits in
    let place_is = ap (λ ps. slice_index_or ps c.args.index no_place) (c.fields.ensures ∙ ap (λ (y : SlotRecord). places_of d y.class) read) in
    let write : IsChanged pieces c.write.new.self (record_at records s).piece (option_map (put_leaves ((place_at 0 (leaves_by_field d
    (record_at records s).class) c.args.index).from + 1 + c.args.from) c.args.leaves.now) (piece_in pieces (record_at records s).piece)) =
    subst (λ (p : FieldPlace). IsChanged pieces c.write.new.self (record_at records s).piece (option_map (put_leaves (p.from + 1 + c.args.from) c.args.leaves.now) (piece_in pieces
    (record_at records s).piece))) place_is
    (subst (λ (y : SlotRecord). IsChanged pieces c.write.new.self y.piece (option_map (put_leaves
    ((slice_index_or c.fields.result.now c.args.index no_place).from + 1 + c.args.from) c.args.leaves.now) (piece_in pieces y.piece))) read c.write.ensures.written) in
    set_part_inv d t records sides pieces c.self.invariant c.slot_of.ensures.apart c.args.o s is c.self.inside.retains c.self.inside.releases (ap (λ
    (v : HeapView). views.is_dead_in v c.args.o) c.self.view_is ∙ c.requires.alive) c.args.index c.args.from c.args.leaves.now there fits c.write.new.self write

pub returns : goal.returns
returns c =
    let d = c.self.inside.layouts in
    let t = c.self.inside.numbers in
    let records = c.self.inside.records.items in
    let sides = c.self.inside.sides in
    let pieces = c.self.inside.pool in
    let s = c.slot_of.result in
    let is = c.slot_of.ensures.slot in
    let read = read_record d t records sides pieces c.self.invariant c.slot_of.ensures.apart c.args.o s is c.self.inside.retains c.self.inside.releases c.index-record.result.now
    c.index-record.ensures in
    let there : is_some (views.field_in (heap_of d t records sides pieces c.self.inside.retains c.self.inside.releases) c.args.o c.args.index) ≡ true = ap (λ (v : HeapView). is_some
    (views.field_in v c.args.o c.args.index)) c.self.view_is ∙ c.requires.written in
    let fits : IfSome (views.field_in (heap_of d t records sides pieces c.self.inside.retains c.self.inside.releases) c.args.o c.args.index)
    (λ old. c.args.from + length c.args.leaves.now ≤ length old) =
    subst (λ (v : HeapView). IfSome (views.field_in v c.args.o c.args.index) (λ old. c.args.from + length c.args.leaves.now ≤ length old)) (sym c.self.view_is) c.requires.fits in
    let place_is = ap (λ ps. slice_index_or ps c.args.index no_place) (c.fields.ensures ∙ ap (λ (y : SlotRecord). places_of d y.class) read) in
    let write : IsChanged pieces c.write.new.self (record_at records s).piece (option_map (put_leaves ((place_at 0 (leaves_by_field d
    (record_at records s).class) c.args.index).from + 1 + c.args.from) c.args.leaves.now) (piece_in pieces (record_at records s).piece)) =
    subst (λ (p : FieldPlace). IsChanged pieces c.write.new.self (record_at records s).piece (option_map (put_leaves (p.from + 1 + c.args.from) c.args.leaves.now) (piece_in pieces
    (record_at records s).piece))) place_is
    (subst (λ (y : SlotRecord). IsChanged pieces c.write.new.self y.piece (option_map (put_leaves
    ((slice_index_or c.fields.result.now c.args.index no_place).from + 1 + c.args.from) c.args.leaves.now) (piece_in pieces y.piece))) read c.write.ensures.written) in
    set_part_is d t records sides pieces c.self.invariant c.slot_of.ensures.apart c.args.o s is c.self.inside.retains c.self.inside.releases (ap (λ
    (v : HeapView). views.is_dead_in v c.args.o) c.self.view_is ∙ c.requires.alive) c.args.index c.args.from c.args.leaves.now there fits c.write.new.self write
    ∙ ap (λ (v : HeapView). calls.with_part v c.args.o c.args.index c.args.from c.args.leaves.now) c.self.view_is
