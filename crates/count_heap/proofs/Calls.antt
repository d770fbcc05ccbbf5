-- What the calls make of what contracts see, by what they make of a heap's memory.
use Rattle.std.proofs.Common.{◌≡◌, ℕ, zero, suc, ◌+◌, ◌-◌, ◌≤◌, List, [], Bool, true, false, cond, Option, Some, None, is_some, length, length-set, set, map, refl, sym, ap, ◌∙◌, arith}
use Rattle.std.specs.Prelude.{option_map, option_and_then, not, ◌&&◌, ◌==◌, slice_index_or}
use Rattle.std.proofs.lemmas.Bool.{cond-true, cond-false, ne_eqb}
use Rattle.std.proofs.lemmas.List.{get_or-set_same, get_or_default}
use Rattle.std.proofs.lemmas.Option.{unwrap_or-slice_get}
use Rattle.sil_ast.specs.declared.place.ObjectId.{ObjectId}
use Rattle.sil_types.specs.sil_types_declarations.TypeDefinitions.Declarations.{Declarations}
use Rattle.holder_model_values.specs.RunValues.Memory.{is_dead_phase, is_live_phase}
use Rattle.holder_model_values.specs.declared.run_values.phase.Phase.TheVariants.{Dead, Deiniting, Live}
use Rattle.weak_unowned.specs.Sides as sides
use Rattle.weak_unowned.specs.Sides.{is_idle, is_idle_at, is_unnamed, sides_at}
use Rattle.weak_unowned.specs.declared.side.SlotSides.{SlotSides}
use Rattle.number_tables.specs.TableByNumber.Numbers.{AreApart, Numbers, slot_in, without}
use Rattle.count_heap.specs.PooledLeaves.Pieces.{IsChanged, Pieces}
use Rattle.count_heap.specs.HeapModel.HeapCalls.{changed, changed_or_freed, dead, deiniting, finished, is_left, one_less, one_more, release_answer, released, retained, started, unless_freed}
use Rattle.count_heap.specs.HeapModel.HeapViews.{HeapObject, HeapView, is_dead_in, is_named_or_alive, is_unfreed, object_in, phase_in, phase_told, strong_in, strong_told, unowned_told, weak_told}
use Rattle.count_heap.specs.inner.Answers.{left_answer}
use Rattle.count_heap.specs.declared.heap_model.released.Released.TheVariants.{Held, LastGone}
use Rattle.count_heap.specs.declared.slot_record.SlotRecord.{SlotRecord}
use Rattle.count_heap.specs.inner.Kept.{IsHeap, IsKept}
use Rattle.count_heap.specs.inner.Objects.{field_at, heap_of, leaves_in, no_record, object_at, object_of, objects_in, places_of, record_at}
use Rattle.count_heap.proofs.Changes.{dead_heap, dead_view, freed_dead_heap, freed_dead_view, record_heap, record_view, sides_freed_heap, sides_freed_view, sides_heap, sides_view}
use Rattle.count_heap.proofs.OneObject.{mapped_at}

abbrev pub made : Declarations → List (Option HeapObject) → ℕ → ℕ → ℕ → HeapView
made d objects retains releases slots = record { declarations = d; objects = objects; retains = retains; releases = releases; slots = slots }

-- what contracts see of an object
module _ (d : Declarations) (t : Numbers) (records : List SlotRecord) (sides : List SlotSides) (pieces : Pieces) (a b : ℕ) (o : ObjectId) where
  abbrev heap : HeapView
  heap = heap_of d t records sides pieces a b

  pub object_seen : (s : ℕ) → slot_in t o.0 ≡ Some s → object_in heap o ≡ Some (object_at d records sides pieces s)
  object_seen s is = unwrap_or-slice_get (objects_in d t records sides pieces) o.0 None ∙ mapped_at (object_at d records sides pieces) t.places o.0
      ∙ ap (option_map (object_at d records sides pieces)) is

  pub no_object_seen : slot_in t o.0 ≡ None → object_in heap o ≡ None
  no_object_seen is = unwrap_or-slice_get (objects_in d t records sides pieces) o.0 None ∙ mapped_at (object_at d records sides pieces) t.places o.0
      ∙ ap (option_map (object_at d records sides pieces)) is

  -- an object that isn't freed has a slot
  pub unfreed_is : is_some (slot_in t o.0) ≡ is_unfreed heap o
  unfreed_is = by (slot_in t o.0) refl
    where
      by : (x : Option ℕ) → slot_in t o.0 ≡ x → is_some (slot_in t o.0) ≡ is_unfreed heap o
      by None e = ap is_some e ∙ sym (ap is_some (no_object_seen e))
      by (Some s) e = ap is_some e ∙ sym (ap is_some (object_seen s e))

-- what was read of a slot's record
pub read_slot : (d : Declarations) (t : Numbers) (records : List SlotRecord) (sides : List SlotSides) (pieces : Pieces) → IsHeap d t records sides pieces
    → (n s : ℕ) → slot_in t n ≡ Some s → (now : SlotRecord) → now ≡ slice_index_or records s now → now ≡ record_at records s
read_slot d t records sides pieces inv n s is now read =
    let there = (inv.kept n s is).there in
    let long = inv.records_are in
    read ∙ get_or_default records s now no_record (omega arith)

-- what is answered by what a release left is what is answered by what was there
one_was : (n : ℕ) → 1 ≤ n → (n - 1 == 0) ≡ (n == 1)
one_was zero some = absurd (omega arith)
one_was (suc zero) some = refl
one_was (suc (suc n)) some = ne_eqb (suc (suc n) - 1) 0 (λ none. omega arith) ∙ sym (ne_eqb (suc (suc n)) 1 (λ one. omega arith))

module _ (d : Declarations) (t : Numbers) (records : List SlotRecord) (sides : List SlotSides) (pieces : Pieces) (a b : ℕ) (o : ObjectId) (s : ℕ) (is : slot_in t o.0 ≡ Some s) where
  pub strong_is : strong_in (heap_of d t records sides pieces a b) o ≡ (record_at records s).strong
  strong_is = ap strong_told (object_seen d t records sides pieces a b o s is)

  pub phase_is : phase_in (heap_of d t records sides pieces a b) o ≡ (record_at records s).phase
  phase_is = ap phase_told (object_seen d t records sides pieces a b o s is)

  pub answer_is : 1 ≤ (record_at records s).strong
      → left_answer (record_at records s).phase ((record_at records s).strong - 1) ≡ release_answer (heap_of d t records sides pieces a b) o
  answer_is some =
      ap (λ e. cond (is_live_phase (record_at records s).phase && e) LastGone Held) (one_was (record_at records s).strong some)
      ∙ sym (ap (λ p. cond (is_live_phase p && strong_in (heap_of d t records sides pieces a b) o == 1) LastGone Held) phase_is
      ∙ ap (λ n. cond (is_live_phase (record_at records s).phase && n == 1) LastGone Held) strong_is)

-- an object stays just where its slot isn't idle
and_assoc : (p q r : Bool) → (p && q && r) ≡ (p && (q && r))
and_assoc true q r = refl
and_assoc false q r = refl

left_is : (d : Declarations) (r : SlotRecord) (x : SlotSides) (pieces : Pieces) → x.marked ≡ is_dead_phase r.phase → is_left (object_of d r x pieces) ≡ not (is_idle x)
left_is d r x pieces marked =
    ap not (and_assoc (is_dead_phase r.phase) (x.unowned == 0) (x.weak == 0)) ∙ ap (λ b. not (b && is_unnamed x)) (sym marked)

-- an object is unfreed just where it isn't dead, or a place names it
abbrev is_named_told : Option HeapObject → Bool
is_named_told x = not (is_dead_phase (phase_told x) && unowned_told x == 0 && weak_told x == 0)

module _ (d : Declarations) (t : Numbers) (records : List SlotRecord) (sides : List SlotSides) (pieces : Pieces) (inv : IsHeap d t records sides pieces) (a b : ℕ) (o : ObjectId) where
  pub named_is : (s : ℕ) → slot_in t o.0 ≡ Some s → is_unfreed (heap_of d t records sides pieces a b) o ≡ is_named_or_alive (heap_of d t records sides pieces a b) o
  named_is s is =
      let here = inv.kept o.0 s is in
      ap is_some (object_seen d t records sides pieces a b o s is)
      ∙ sym (ap is_named_told (object_seen d t records sides pieces a b o s is) ∙ left_is d (record_at records s) (sides_at sides s) pieces here.marked ∙ ap not here.taken)

  pub none_named : slot_in t o.0 ≡ None → is_unfreed (heap_of d t records sides pieces a b) o ≡ is_named_or_alive (heap_of d t records sides pieces a b) o
  none_named is = ap is_some (no_object_seen d t records sides pieces a b o is) ∙ sym (ap is_named_told (no_object_seen d t records sides pieces a b o is))

stays : (x : HeapObject) → is_left x ≡ true → unless_freed x ≡ Some x
stays x left = cond-true (is_left x) (Some x) None left

goes : (x : HeapObject) → is_left x ≡ false → unless_freed x ≡ None
goes x left = cond-false (is_left x) (Some x) None left

module _ (d : Declarations) (t : Numbers) (records : List SlotRecord) (sides_now : List SlotSides) (pieces : Pieces) (inv : IsHeap d t records sides_now pieces) (apart : AreApart t)
    (o : ObjectId) (s : ℕ) (is : slot_in t o.0 ≡ Some s) (a b : ℕ) where
  abbrev rec : SlotRecord
  rec = record_at records s

  abbrev side : SlotSides
  side = sides_at sides_now s

  abbrev before : HeapView
  before = heap_of d t records sides_now pieces a b

  kept : IsKept d records sides_now pieces s
  kept = inv.kept o.0 s is

  -- what was read of the slot's record
  pub read_record : (now : SlotRecord) → now ≡ slice_index_or records s now → now ≡ record_at records s
  read_record now read = read ∙ get_or_default records s now no_record (omega (arith, kept.there, inv.records_are))

  -- the slot of an object that isn't dead isn't idle, whatever its counts
  pub alive_slot : (f : SlotSides → SlotSides) → is_dead_in before o ≡ false → (f side).marked ≡ side.marked → is_idle (f side) ≡ false
  alive_slot f alive marked =
      let phase : is_dead_phase rec.phase ≡ false = sym (ap is_dead_phase (phase_is d t records sides_now pieces a b o s is)) ∙ alive in
      ap (λ m. m && is_unnamed (f side)) (marked ∙ kept.marked ∙ phase)

  -- whether the slot is idle after a change of its counts
  pub changed_idle : (f : SlotSides → SlotSides) → is_idle_at (sides.changed f sides_now s) s ≡ is_idle (f side)
  changed_idle f = ap is_idle (get_or-set_same sides_now s (f side) sides.no_sides kept.there)

  -- the objects after a change of this one
  one_changed : (f : HeapObject → HeapObject) (objects : List (Option HeapObject)) (x : HeapObject) → objects ≡ set before.objects o.0 (Some x)
      → x ≡ f (object_at d records sides_now pieces s) → objects ≡ (changed f before o).objects
  one_changed f objects x set_is x_is =
      set_is ∙ ap (λ y. set before.objects o.0 y) (ap Some x_is ∙ sym (ap (option_map f) (object_seen d t records sides_now pieces a b o s is)))

  one_left : (f : HeapObject → HeapObject) (objects : List (Option HeapObject)) (x : HeapObject) → objects ≡ set before.objects o.0 (Some x)
      → x ≡ f (object_at d records sides_now pieces s) → is_left x ≡ true → objects ≡ (changed_or_freed f before o).objects
  one_left f objects x set_is x_is left =
      set_is ∙ ap (λ y. set before.objects o.0 y)
      (sym (stays x left) ∙ ap unless_freed x_is ∙ sym (ap (option_and_then (λ y. unless_freed (f y))) (object_seen d t records sides_now pieces a b o s is)))

  one_freed : (f : HeapObject → HeapObject) (objects : List (Option HeapObject)) (x : HeapObject) → objects ≡ set before.objects o.0 None
      → x ≡ f (object_at d records sides_now pieces s) → is_left x ≡ false → objects ≡ (changed_or_freed f before o).objects
  one_freed f objects x set_is x_is left =
      set_is ∙ ap (λ y. set before.objects o.0 y)
      (sym (goes x left) ∙ ap unless_freed x_is ∙ sym (ap (option_and_then (λ y. unless_freed (f y))) (object_seen d t records sides_now pieces a b o s is)))

  -- ---- strong references

  module _ (r : SlotRecord) where
    module _ (f : SlotRecord → SlotRecord) (r_is : r ≡ f rec) (class : (f rec).class ≡ rec.class) (piece : (f rec).piece ≡ rec.piece) (phase : is_dead_phase
        (f rec).phase ≡ is_dead_phase rec.phase) where
      pub record_inv : IsHeap d t (set records s r) sides_now pieces
      record_inv =
          record_heap d t records sides_now pieces inv apart o.0 s is r (ap (λ y. y.class) r_is ∙ class) (ap (λ y. y.piece) r_is ∙ piece) (ap (λ y. is_dead_phase y.phase) r_is ∙ phase)

      record_objects : (g : HeapObject → HeapObject) → object_of d (f rec) side pieces ≡ g (object_at d records sides_now pieces s)
          → objects_in d t (set records s r) sides_now pieces ≡ (changed g before o).objects
      record_objects g same =
          one_changed g (objects_in d t (set records s r) sides_now pieces) (object_of d r side pieces)
          (record_view d t records sides_now pieces inv apart o.0 s is r (ap (λ y. y.class) r_is ∙ class) (ap (λ y. y.piece) r_is ∙ piece) (ap (λ y. is_dead_phase y.phase) r_is ∙ phase))
          (ap (λ y. object_of d y side pieces) r_is ∙ same)

    pub retained_is : r ≡ record rec { strong = rec.strong + 1 } → heap_of d t (set records s r) sides_now pieces (a + 1) b ≡ retained before o
    retained_is r_is = ap (λ xs. made d xs (a + 1) b (length sides_now)) (record_objects (λ y. record y { strong = y.strong + 1 }) r_is refl refl refl one_more refl)

    pub released_is : r ≡ record rec { strong = rec.strong - 1 } → heap_of d t (set records s r) sides_now pieces a (b + 1) ≡ released before o
    released_is r_is = ap (λ xs. made d xs a (b + 1) (length sides_now)) (record_objects (λ y. record y { strong = y.strong - 1 }) r_is refl refl refl one_less refl)

    pub started_is : r ≡ record rec { phase = Deiniting } → rec.phase ≡ Live → heap_of d t (set records s r) sides_now pieces a b ≡ started before o
    started_is r_is live =
        let alive : is_dead_phase rec.phase ≡ false = ap is_dead_phase live in
        let fields = cond-false (is_dead_phase rec.phase) [] (map (field_at (leaves_in pieces rec.piece)) (places_of d rec.class)) alive in
        ap (λ xs. made d xs a b (length sides_now))
        (record_objects (λ y. record y { phase = Deiniting }) r_is refl refl (sym alive) deiniting
        (ap (λ fs. record { class = rec.class; phase = Deiniting; strong = rec.strong; unowned = side.unowned; weak = side.weak; fields = fs }) (sym fields)))

  -- ---- side counts

  module _ (f : SlotSides → SlotSides) (marked : (f side).marked ≡ side.marked) where
    abbrev sides_then : List SlotSides
    sides_then = sides.changed f sides_now s

    marked_is : (f side).marked ≡ is_dead_phase rec.phase
    marked_is = marked ∙ kept.marked

    size : length sides_then ≡ length sides_now
    size = length-set sides_now s (f side)

    module _ (g : HeapObject → HeapObject) (same : object_of d rec (f side) pieces ≡ g (object_at d records sides_now pieces s)) where
      module _ (taken : is_idle (f side) ≡ false) where
        pub sides_inv : IsHeap d t records sides_then pieces
        sides_inv = sides_heap d t records sides_now pieces inv apart o.0 s is (f side) marked taken

        pub sides_named : heap_of d t records sides_then pieces a b ≡ changed g before o
        sides_named =
            ap (λ n. made d (objects_in d t records sides_then pieces) a b n) size
            ∙ ap (λ xs. made d xs a b (length sides_now))
            (one_changed g (objects_in d t records sides_then pieces) (object_of d rec (f side) pieces) (sides_view d t records sides_now pieces inv apart o.0 s is (f side) marked) same)

        pub sides_left : heap_of d t records sides_then pieces a b ≡ changed_or_freed g before o
        sides_left =
            ap (λ n. made d (objects_in d t records sides_then pieces) a b n) size
            ∙ ap (λ xs. made d xs a b (length sides_now))
            (one_left g (objects_in d t records sides_then pieces) (object_of d rec (f side) pieces) (sides_view d t records sides_now pieces inv apart o.0 s is (f side) marked) same
            (left_is d rec (f side) pieces marked_is ∙ ap not taken))

      module _ (idle : is_idle (f side) ≡ true) where
        pub sides_gone_inv : IsHeap d (without t o.0) records sides_then pieces
        sides_gone_inv = sides_freed_heap d t records sides_now pieces inv apart o.0 s is (f side) marked idle

        pub sides_gone : heap_of d (without t o.0) records sides_then pieces a b ≡ changed_or_freed g before o
        sides_gone =
            ap (λ n. made d (objects_in d (without t o.0) records sides_then pieces) a b n) size
            ∙ ap (λ xs. made d xs a b (length sides_now))
            (one_freed g (objects_in d (without t o.0) records sides_then pieces) (object_of d rec (f side) pieces) (sides_freed_view d t records sides_now pieces inv apart o.0 s is
            (f side) marked idle) same
            (left_is d rec (f side) pieces marked_is ∙ ap not idle))

  -- ---- death

  module _ (alive : is_dead_phase rec.phase ≡ false) (pieces' : Pieces) (given_back : IsChanged pieces pieces' rec.piece None) (r : SlotRecord) (r_is : r ≡ record rec { phase = Dead }) where
    dead_now : is_dead_phase r.phase ≡ true
    dead_now = ap (λ y. is_dead_phase y.phase) r_is

    abbrev sides_marked : List SlotSides
    sides_marked = sides.changed sides.marked sides_now s

    size_marked : length sides_marked ≡ length sides_now
    size_marked = length-set sides_now s (sides.marked side)

    dead_object : object_of d r (sides.marked side) pieces' ≡ dead (object_at d records sides_now pieces s)
    dead_object = ap (λ y. object_of d y (sides.marked side) pieces') r_is

    module _ (taken : is_idle (sides.marked side) ≡ false) where
      pub death_inv : IsHeap d t (set records s r) sides_marked pieces'
      death_inv = dead_heap d t records sides_now pieces inv apart o.0 s is alive pieces' None given_back refl r dead_now (sides.marked side) refl taken

      pub death_left : heap_of d t (set records s r) sides_marked pieces' a b ≡ finished before o
      death_left =
          ap (λ n. made d (objects_in d t (set records s r) sides_marked pieces') a b n) size_marked
          ∙ ap (λ xs. made d xs a b (length sides_now))
          (one_left dead (objects_in d t (set records s r) sides_marked pieces') (object_of d r (sides.marked side) pieces')
          (dead_view d t records sides_now pieces inv apart o.0 s is alive pieces' None given_back refl r dead_now (sides.marked side) refl taken) dead_object
          (left_is d r (sides.marked side) pieces' (sym dead_now) ∙ ap not taken))

    module _ (idle : is_idle (sides.marked side) ≡ true) where
      pub death_gone_inv : IsHeap d (without t o.0) (set records s r) sides_marked pieces'
      death_gone_inv = freed_dead_heap d t records sides_now pieces inv apart o.0 s is alive pieces' None given_back refl r dead_now (sides.marked side) refl idle

      pub death_gone : heap_of d (without t o.0) (set records s r) sides_marked pieces' a b ≡ finished before o
      death_gone =
          ap (λ n. made d (objects_in d (without t o.0) (set records s r) sides_marked pieces') a b n) size_marked
          ∙ ap (λ xs. made d xs a b (length sides_now))
          (one_freed dead (objects_in d (without t o.0) (set records s r) sides_marked pieces') (object_of d r (sides.marked side) pieces')
          (freed_dead_view d t records sides_now pieces inv apart o.0 s is alive pieces' None given_back refl r dead_now (sides.marked side) refl idle) dead_object
          (left_is d r (sides.marked side) pieces' (sym dead_now) ∙ ap not idle))
