use Rattle.std.proofs.Common.{◌≡◌, ◌+◌, ◌<◌, ◌≤◌, true, is_some, length, sym, ap, ◌∙◌, subst, arith}
use Rattle.std.specs.Prelude.{slice_index_or}
use Rattle.count_heap.specs.HeapModel.HeapCalls as calls
use Rattle.count_heap.specs.HeapModel.HeapViews as views
use Rattle.count_heap.specs.HeapModel.HeapViews.{HeapView}
use Rattle.count_heap.specs.declared.slot_record.SlotRecord.{SlotRecord}
use Rattle.count_heap.specs.inner.Objects.{record_at}
use Rattle.count_heap.proofs.Calls.{read_record}
use Rattle.std.specs.Prelude.{IfSome, option_map}
use Rattle.count_heap.specs.PooledLeaves.Pieces.{IsChanged, piece_in}
use Rattle.count_heap.specs.LayoutsByClass.ClassFields.{leaves_by_field}
use Rattle.count_heap.specs.declared.layouts_by_class.field_place.FieldPlace.{FieldPlace}
use Rattle.count_heap.proofs.LayoutsByClass.Lists.{length_places}
use Rattle.count_heap.proofs.LayoutsByClass.PlacesApart.{no_place, place_at}
use Rattle.count_heap.specs.inner.Objects.{places_of}
use Rattle.count_heap.specs.inner.Written.{written}
use Rattle.count_heap.proofs.FieldCalls.{field_fits, index_there, piece_there, set_field_inv, set_field_is}
use Rattle.count_heap.proofs.heap.Heap.set_field.Goals as goal

pub bounds-fields-index : goal.bounds-fields-index
bounds-fields-index c =
    let d = c.self.inside.layouts in
    let t = c.self.inside.numbers in
    let records = c.self.inside.records.items in
    let sides = c.self.inside.sides in
    let pieces = c.self.inside.pool in
    let s = c.slot_of.result in
    let is = c.slot_of.ensures.slot in
    let read = read_record d t records sides pieces c.self.invariant c.slot_of.ensures.apart c.args.o s is c.self.inside.retains c.self.inside.releases c.index-record.result.now
    c.index-record.ensures in
    let told = ap (λ (v : HeapView). views.leaves_at v c.args.o c.args.index) c.self.view_is ∙ c.requires.fits in
    let lt : c.args.index < length (leaves_by_field d (record_at records s).class) = index_there d t records sides pieces c.self.invariant c.slot_of.ensures.apart c.args.o s is
    c.self.inside.retains c.self.inside.releases (ap (λ (v : HeapView). views.is_dead_in v c.args.o) c.self.view_is ∙ c.requires.alive) c.args.index c.args.leaves.now told in
    omega (arith, lt, length_places 0 (leaves_by_field d (record_at records s).class), ap (λ ps. length ps) (c.fields.ensures ∙ ap (λ (y : SlotRecord). places_of d y.class) read))

pub write_field-requires-clause-there : goal.write_field-requires-clause-there
write_field-requires-clause-there c =
    let d = c.self.inside.layouts in
    let t = c.self.inside.numbers in
    let records = c.self.inside.records.items in
    let sides = c.self.inside.sides in
    let pieces = c.self.inside.pool in
    let s = c.slot_of.result in
    let is = c.slot_of.ensures.slot in
    let read = read_record d t records sides pieces c.self.invariant c.slot_of.ensures.apart c.args.o s is c.self.inside.retains c.self.inside.releases c.index-record.result.now
    c.index-record.ensures in
    subst (λ (y : SlotRecord). is_some (piece_in pieces y.piece) ≡ true) (sym read)
    (piece_there d t records sides pieces c.self.invariant c.slot_of.ensures.apart c.args.o s is c.self.inside.retains c.self.inside.releases (ap (λ
    (v : HeapView). views.is_dead_in v c.args.o) c.self.view_is ∙ c.requires.alive))

pub write_field-requires-clause-within : goal.write_field-requires-clause-within
write_field-requires-clause-within c =
    let d = c.self.inside.layouts in
    let t = c.self.inside.numbers in
    let records = c.self.inside.records.items in
    let sides = c.self.inside.sides in
    let pieces = c.self.inside.pool in
    let s = c.slot_of.result in
    let is = c.slot_of.ensures.slot in
    let read = read_record d t records sides pieces c.self.invariant c.slot_of.ensures.apart c.args.o s is c.self.inside.retains c.self.inside.releases c.index-record.result.now
    c.index-record.ensures in
    let told = ap (λ (v : HeapView). views.leaves_at v c.args.o c.args.index) c.self.view_is ∙ c.requires.fits in
    let place_is = ap (λ ps. slice_index_or ps c.args.index no_place) (c.fields.ensures ∙ ap (λ (y : SlotRecord). places_of d y.class) read) in
    subst (λ (p : FieldPlace). IfSome (piece_in pieces c.index-record.result.now.piece) (λ old. p.from + 1 + length c.args.leaves.now ≤ length old)) (sym place_is)
    (subst (λ (y : SlotRecord). IfSome (piece_in pieces y.piece) (λ old. (place_at 0 (leaves_by_field d
    (record_at records s).class) c.args.index).from + 1 + length c.args.leaves.now ≤ length old)) (sym read)
    (field_fits d t records sides pieces c.self.invariant c.slot_of.ensures.apart c.args.o s is c.self.inside.retains c.self.inside.releases (ap (λ
    (v : HeapView). views.is_dead_in v c.args.o) c.self.view_is ∙ c.requires.alive) c.args.index c.args.leaves.now told))

pub invariant_of-self : goal.invariant_of-self
invariant_of-self c =
    let d = c.self.inside.layouts in
    let t = c.self.inside.numbers in
    let records = c.self.inside.records.items in
    let sides = c.self.inside.sides in
    let pieces = c.self.inside.pool in
    let s = c.slot_of.result in
    let is = c.slot_of.ensures.slot in
    let read = read_record d t records sides pieces c.self.invariant c.slot_of.ensures.apart c.args.o s is c.self.inside.retains c.self.inside.releases c.index-record.result.now
    c.index-record.ensures in
    let told = ap (λ (v : HeapView). views.leaves_at v c.args.o c.args.index) c.self.view_is ∙ c.requires.fits in
    let place_is = ap (λ ps. slice_index_or ps c.args.index no_place) (c.fields.ensures ∙ ap (λ (y : SlotRecord). places_of d y.class) read) in
    let write : IsChanged pieces c.write_field.new.pool (record_at records s).piece (option_map (written (place_at 0 (leaves_by_field d
    (record_at records s).class) c.args.index) c.args.leaves.now) (piece_in pieces (record_at records s).piece)) =
    subst (λ (p : FieldPlace). IsChanged pieces c.write_field.new.pool (record_at records s).piece (option_map (written p c.args.leaves.now) (piece_in pieces (record_at records s).piece))) place_is
    (subst (λ (y : SlotRecord). IsChanged pieces c.write_field.new.pool y.piece (option_map (written (slice_index_or c.fields.result.now c.args.index no_place) c.args.leaves.now)
    (piece_in pieces y.piece))) read c.write_field.ensures) in
    set_field_inv d t records sides pieces c.self.invariant c.slot_of.ensures.apart c.args.o s is c.self.inside.retains c.self.inside.releases (ap (λ
    (v : HeapView). views.is_dead_in v c.args.o) c.self.view_is ∙ c.requires.alive) c.args.index c.args.leaves.now told c.write_field.new.pool write

pub returns : goal.returns
returns c =
    let d = c.self.inside.layouts in
    let t = c.self.inside.numbers in
    let records = c.self.inside.records.items in
    let sides = c.self.inside.sides in
    let pieces = c.self.inside.pool in
    let s = c.slot_of.result in
    let is = c.slot_of.ensures.slot in
    let read = read_record d t records sides pieces c.self.invariant c.slot_of.ensures.apart c.args.o s is c.self.inside.retains c.self.inside.releases c.index-record.result.now
    c.index-record.ensures in
    let told = ap (λ (v : HeapView). views.leaves_at v c.args.o c.args.index) c.self.view_is ∙ c.requires.fits in
    let place_is = ap (λ ps. slice_index_or ps c.args.index no_place) (c.fields.ensures ∙ ap (λ (y : SlotRecord). places_of d y.class) read) in
    let write : IsChanged pieces c.write_field.new.pool (record_at records s).piece (option_map (written (place_at 0 (leaves_by_field d
    (record_at records s).class) c.args.index) c.args.leaves.now) (piece_in pieces (record_at records s).piece)) =
    subst (λ (p : FieldPlace). IsChanged pieces c.write_field.new.pool (record_at records s).piece (option_map (written p c.args.leaves.now) (piece_in pieces (record_at records s).piece))) place_is
    (subst (λ (y : SlotRecord). IsChanged pieces c.write_field.new.pool y.piece (option_map (written (slice_index_or c.fields.result.now c.args.index no_place) c.args.leaves.now)
    (piece_in pieces y.piece))) read c.write_field.ensures) in
    set_field_is d t records sides pieces c.self.invariant c.slot_of.ensures.apart c.args.o s is c.self.inside.retains c.self.inside.releases (ap (λ
    (v : HeapView). views.is_dead_in v c.args.o) c.self.view_is ∙ c.requires.alive) c.args.index c.args.leaves.now told c.write_field.new.pool write
    ∙ ap (λ (v : HeapView). calls.with_field v c.args.o c.args.index c.args.leaves.now) c.self.view_is
