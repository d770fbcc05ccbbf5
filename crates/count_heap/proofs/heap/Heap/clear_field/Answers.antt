use Rattle.std.proofs.Common.{◌≡◌, ◌+◌, ◌<◌, ◌≤◌, ◌∷◌, [], None, false, length, sym, ap, ◌∙◌, subst}
use Rattle.std.specs.Prelude.{IfSome, option_map, slice_index_or}
use Rattle.holder_model_values.specs.declared.run_values.leaf.Leaf.TheVariants.{Blank}
use Rattle.count_heap.specs.PooledLeaves.Pieces.{IsChanged, piece_in, put_leaves}
use Rattle.count_heap.specs.LayoutsByClass.ClassFields.{leaves_by_field}
use Rattle.count_heap.specs.declared.layouts_by_class.field_place.FieldPlace.{FieldPlace}
use Rattle.count_heap.proofs.LayoutsByClass.PlacesApart.{no_place, place_at}
use Rattle.count_heap.specs.HeapModel.HeapCalls as calls
use Rattle.count_heap.specs.HeapModel.HeapViews as views
use Rattle.count_heap.specs.HeapModel.HeapViews.{HeapView}
use Rattle.count_heap.specs.declared.slot_record.SlotRecord.{SlotRecord}
use Rattle.count_heap.specs.inner.Objects.{heap_of, places_of, record_at}
use Rattle.count_heap.proofs.Calls.{read_record}
use Rattle.count_heap.proofs.FieldCalls.{clear_inv, clear_is, cleared_fits}
use Rattle.count_heap.proofs.heap.Heap.clear_field.Goals as goal

pub write-requires-clause-within : goal.write-requires-clause-within
write-requires-clause-within c =
    let d = c.self.inside.layouts in
    let t = c.self.inside.numbers in
    let records = c.self.inside.records.items in
    let sides = c.self.inside.sides in
    let pieces = c.self.inside.pool in
    let a = c.self.inside.retains in
    let b = c.self.inside.releases in
    let s = c.slot_of.result in
    let is = c.slot_of.ensures.slot in
    let read = read_record d t records sides pieces c.self.invariant c.slot_of.ensures.apart c.args.o s is a b c.index-record.result.now c.index-record.ensures in
    let alive : views.is_dead_in (heap_of d t records sides pieces a b) c.args.o ≡ false = ap (λ (v : HeapView). views.is_dead_in v c.args.o) c.self.view_is ∙ c.requires.alive in
    let within : c.args.index < length (views.fields_in (heap_of d t records sides pieces a b) c.args.o) = subst (λ (v : HeapView). c.args.index < length (views.fields_in v c.args.o))
    (sym c.self.view_is) c.requires.field in
    let place_is = ap (λ ps. slice_index_or ps c.args.index no_place) (c.fields.ensures ∙ ap (λ (y : SlotRecord). places_of d y.class) read) in
    subst (λ (p : FieldPlace). IfSome (piece_in pieces c.index-record.result.now.piece) (λ old. p.from + 1 ≤ length old)) (sym place_is)
    (subst (λ (y : SlotRecord). IfSome (piece_in pieces y.piece) (λ old. (place_at 0 (leaves_by_field d (record_at records s).class) c.args.index).from + 1 ≤ length old)) (sym read)
    (cleared_fits d t records sides pieces c.self.invariant c.slot_of.ensures.apart c.args.o s is a b alive c.args.index within))

pub invariant_of-self : goal.invariant_of-self
invariant_of-self c =
    let d = c.self.inside.layouts in
    let t = c.self.inside.numbers in
    let records = c.self.inside.records.items in
    let sides = c.self.inside.sides in
    let pieces = c.self.inside.pool in
    let a = c.self.inside.retains in
    let b = c.self.inside.releases in
    let s = c.slot_of.result in
    let is = c.slot_of.ensures.slot in
    let read = read_record d t records sides pieces c.self.invariant c.slot_of.ensures.apart c.args.o s is a b c.index-record.result.now c.index-record.ensures in
    let alive : views.is_dead_in (heap_of d t records sides pieces a b) c.args.o ≡ false = ap (λ (v : HeapView). views.is_dead_in v c.args.o) c.self.view_is ∙ c.requires.alive in
    let within : c.args.index < length (views.fields_in (heap_of d t records sides pieces a b) c.args.o) = subst (λ (v : HeapView). c.args.index < length (views.fields_in v c.args.o))
    (sym c.self.view_is) c.requires.field in
    let place_is = ap (λ ps. slice_index_or ps c.args.index no_place) (c.fields.ensures ∙ ap (λ (y : SlotRecord). places_of d y.class) read) in
    let write : IsChanged pieces c.write.new.self (record_at records s).piece (option_map (put_leaves (place_at 0 (leaves_by_field d (record_at records s).class) c.args.index).from (Blank ∷ []))
    (piece_in pieces (record_at records s).piece)) =
    subst (λ (p : FieldPlace). IsChanged pieces c.write.new.self (record_at records s).piece (option_map (put_leaves p.from (Blank ∷ [])) (piece_in pieces (record_at records s).piece))) place_is
    (subst (λ (y : SlotRecord). IsChanged pieces c.write.new.self y.piece (option_map (put_leaves (slice_index_or c.fields.result.now c.args.index no_place).from (Blank ∷ []))
    (piece_in pieces y.piece))) read c.write.ensures.written) in
    clear_inv d t records sides pieces c.self.invariant c.slot_of.ensures.apart c.args.o s is a b alive c.args.index within c.write.new.self write

pub returns : goal.returns
returns c =
    let d = c.self.inside.layouts in
    let t = c.self.inside.numbers in
    let records = c.self.inside.records.items in
    let sides = c.self.inside.sides in
    let pieces = c.self.inside.pool in
    let a = c.self.inside.retains in
    let b = c.self.inside.releases in
    let s = c.slot_of.result in
    let is = c.slot_of.ensures.slot in
    let read = read_record d t records sides pieces c.self.invariant c.slot_of.ensures.apart c.args.o s is a b c.index-record.result.now c.index-record.ensures in
    let alive : views.is_dead_in (heap_of d t records sides pieces a b) c.args.o ≡ false = ap (λ (v : HeapView). views.is_dead_in v c.args.o) c.self.view_is ∙ c.requires.alive in
    let within : c.args.index < length (views.fields_in (heap_of d t records sides pieces a b) c.args.o) = subst (λ (v : HeapView). c.args.index < length (views.fields_in v c.args.o))
    (sym c.self.view_is) c.requires.field in
    let place_is = ap (λ ps. slice_index_or ps c.args.index no_place) (c.fields.ensures ∙ ap (λ (y : SlotRecord). places_of d y.class) read) in
    let write : IsChanged pieces c.write.new.self (record_at records s).piece (option_map (put_leaves (place_at 0 (leaves_by_field d (record_at records s).class) c.args.index).from (Blank ∷ []))
    (piece_in pieces (record_at records s).piece)) =
    subst (λ (p : FieldPlace). IsChanged pieces c.write.new.self (record_at records s).piece (option_map (put_leaves p.from (Blank ∷ [])) (piece_in pieces (record_at records s).piece))) place_is
    (subst (λ (y : SlotRecord). IsChanged pieces c.write.new.self y.piece (option_map (put_leaves (slice_index_or c.fields.result.now c.args.index no_place).from (Blank ∷ []))
    (piece_in pieces y.piece))) read c.write.ensures.written) in
    clear_is d t records sides pieces c.self.invariant c.slot_of.ensures.apart c.args.o s is a b alive c.args.index within c.write.new.self write
    ∙ ap (λ (v : HeapView). calls.changed (calls.with_field_of c.args.index None) v c.args.o) c.self.view_is
