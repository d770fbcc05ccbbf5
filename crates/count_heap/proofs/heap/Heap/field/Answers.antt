use Rattle.std.proofs.Common.{◌≡◌, ◌+◌, ◌<◌, ◌≤◌, Some, true, is_some, length, sym, ap, ◌∙◌, subst}
use Rattle.std.specs.Prelude.{slice_index_or}
use Rattle.count_heap.specs.HeapModel.HeapViews as views
use Rattle.count_heap.specs.HeapModel.HeapViews.{HeapView}
use Rattle.count_heap.specs.declared.slot_record.SlotRecord.{SlotRecord}
use Rattle.count_heap.specs.inner.Objects.{record_at}
use Rattle.count_heap.proofs.Calls.{read_record}
use Rattle.std.specs.Prelude.{List}
use Rattle.count_heap.specs.PooledLeaves.Pieces.{piece_in}
use Rattle.count_heap.specs.LayoutsByClass.ClassFields.{leaves_by_field}
use Rattle.count_heap.specs.declared.layouts_by_class.field_place.FieldPlace.{FieldPlace}
use Rattle.count_heap.proofs.LayoutsByClass.PlacesApart.{no_place, place_at}
use Rattle.count_heap.specs.inner.Objects.{field_at, leaves_in, places_of}
use Rattle.holder_model_values.specs.declared.run_values.leaf.Leaf.{Leaf}
use Rattle.count_heap.proofs.FieldCalls.{field_count_is, field_seen, piece_is, piece_there, place_fits}
use Rattle.count_heap.proofs.heap.Heap.field.Goals as goal

pub leaves-requires : goal.leaves-requires
leaves-requires c =
    let d = c.self.inside.layouts in
    let t = c.self.inside.numbers in
    let records = c.self.inside.records.items in
    let sides = c.self.inside.sides in
    let pieces = c.self.inside.pool in
    let s = c.slot_of.result in
    let is = c.slot_of.ensures.slot in
    let read = read_record d t records sides pieces c.self.invariant c.slot_of.ensures.apart c.args.o s is c.self.inside.retains c.self.inside.releases c.index-record.result.now
    c.index-record.ensures in
    subst (λ (y : SlotRecord). is_some (piece_in pieces y.piece) ≡ true) (sym read)
    (piece_there d t records sides pieces c.self.invariant c.slot_of.ensures.apart c.args.o s is c.self.inside.retains c.self.inside.releases (ap (λ
    (v : HeapView). views.is_dead_in v c.args.o) c.self.view_is ∙ c.requires.alive))

pub field_at-requires : goal.field_at-requires
field_at-requires c =
    let d = c.self.inside.layouts in
    let t = c.self.inside.numbers in
    let records = c.self.inside.records.items in
    let sides = c.self.inside.sides in
    let pieces = c.self.inside.pool in
    let s = c.slot_of.result in
    let is = c.slot_of.ensures.slot in
    let read = read_record d t records sides pieces c.self.invariant c.slot_of.ensures.apart c.args.o s is c.self.inside.retains c.self.inside.releases c.index-record.result.now
    c.index-record.ensures in
    let lt : c.args.index < length (leaves_by_field d (record_at records s).class) =
    subst (λ n. c.args.index < n) (sym (ap (λ (v : HeapView). length (views.fields_in v c.args.o)) c.self.view_is)
    ∙ field_count_is d t records sides pieces c.self.invariant c.slot_of.ensures.apart c.args.o s is c.self.inside.retains c.self.inside.releases (ap (λ
    (v : HeapView). views.is_dead_in v c.args.o) c.self.view_is ∙ c.requires.alive)) c.requires.field in
    let place_is = ap (λ ps. slice_index_or ps c.args.index no_place) (c.fields.ensures ∙ ap (λ (y : SlotRecord). places_of d y.class) read) in
    let held : Some c.leaves.result.now ≡ Some (leaves_in pieces (record_at records s).piece) = sym c.leaves.ensures ∙ ap (λ (y : SlotRecord). piece_in pieces y.piece) read
    ∙ piece_is d t records sides pieces c.self.invariant c.slot_of.ensures.apart c.args.o s is c.self.inside.retains c.self.inside.releases (ap (λ
    (v : HeapView). views.is_dead_in v c.args.o) c.self.view_is ∙ c.requires.alive) in
    let leaves : c.leaves.result.now ≡ leaves_in pieces (record_at records s).piece = cc in
    subst (λ (p : FieldPlace). p.from + 1 + p.count ≤ length c.leaves.result.now) (sym place_is)
    (subst (λ (ls : List Leaf). (place_at 0 (leaves_by_field d (record_at records s).class) c.args.index).from + 1 + (place_at 0 (leaves_by_field d
    (record_at records s).class) c.args.index).count ≤ length ls) (sym leaves)
    (place_fits d t records sides pieces c.self.invariant c.slot_of.ensures.apart c.args.o s is c.self.inside.retains c.self.inside.releases (ap (λ
    (v : HeapView). views.is_dead_in v c.args.o) c.self.view_is ∙ c.requires.alive) c.args.index lt))

pub returns : goal.returns
returns c =
    let d = c.self.inside.layouts in
    let t = c.self.inside.numbers in
    let records = c.self.inside.records.items in
    let sides = c.self.inside.sides in
    let pieces = c.self.inside.pool in
    let s = c.slot_of.result in
    let is = c.slot_of.ensures.slot in
    let read = read_record d t records sides pieces c.self.invariant c.slot_of.ensures.apart c.args.o s is c.self.inside.retains c.self.inside.releases c.index-record.result.now
    c.index-record.ensures in
    let lt : c.args.index < length (leaves_by_field d (record_at records s).class) =
    subst (λ n. c.args.index < n) (sym (ap (λ (v : HeapView). length (views.fields_in v c.args.o)) c.self.view_is)
    ∙ field_count_is d t records sides pieces c.self.invariant c.slot_of.ensures.apart c.args.o s is c.self.inside.retains c.self.inside.releases (ap (λ
    (v : HeapView). views.is_dead_in v c.args.o) c.self.view_is ∙ c.requires.alive)) c.requires.field in
    let place_is = ap (λ ps. slice_index_or ps c.args.index no_place) (c.fields.ensures ∙ ap (λ (y : SlotRecord). places_of d y.class) read) in
    let held : Some c.leaves.result.now ≡ Some (leaves_in pieces (record_at records s).piece) = sym c.leaves.ensures ∙ ap (λ (y : SlotRecord). piece_in pieces y.piece) read
    ∙ piece_is d t records sides pieces c.self.invariant c.slot_of.ensures.apart c.args.o s is c.self.inside.retains c.self.inside.releases (ap (λ
    (v : HeapView). views.is_dead_in v c.args.o) c.self.view_is ∙ c.requires.alive) in
    let leaves : c.leaves.result.now ≡ leaves_in pieces (record_at records s).piece = cc in
    c.field_at.ensures ∙ ap (field_at c.leaves.result.now) place_is ∙ ap (λ ls. field_at ls (place_at 0 (leaves_by_field d (record_at records s).class) c.args.index)) leaves
    ∙ sym (field_seen d t records sides pieces c.self.invariant c.slot_of.ensures.apart c.args.o s is c.self.inside.retains c.self.inside.releases (ap (λ
    (v : HeapView). views.is_dead_in v c.args.o) c.self.view_is ∙ c.requires.alive) c.args.index lt) ∙ ap (λ (v : HeapView). views.field_in v c.args.o c.args.index) c.self.view_is
