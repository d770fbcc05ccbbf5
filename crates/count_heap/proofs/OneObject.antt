-- A heap in which one object changes, or is freed.
use Rattle.std.proofs.Common.{◌≡◌, ℕ, zero, suc, ◌+◌, ◌<◌, List, [], ◌∷◌, false, true, cond, Option, Some, None, is_some, inl, inr, length, length-set, set, map, get_or}
use Rattle.std.proofs.Common.{refl, sym, ap, ◌∙◌, subst, arith}
use Rattle.std.specs.Prelude.{option_map, unwrap_or}
use Rattle.std.proofs.lemmas.Bool.{cases_Bool, cases_eq, cases_lt, cond-true}
use Rattle.std.proofs.lemmas.List.{ext_get_or, get_or-set_same, get_or-set_other, get_or_past, length-map}
use Rattle.std.proofs.lemmas.List.Sums.{sum_by-set}
use Rattle.sil_types.specs.sil_types_declarations.TypeDefinitions.Declarations.{Declarations}
use Rattle.holder_model_values.specs.RunValues.Memory.{is_dead_phase}
use Rattle.weak_unowned.specs.Sides.{idle_count, is_idle, sides_at}
use Rattle.weak_unowned.specs.declared.side.SlotSides.{SlotSides}
use Rattle.number_tables.specs.TableByNumber.Numbers.{AreApart, Numbers, slot_in, without}
use Rattle.count_heap.specs.PooledLeaves.Pieces.{Pieces, piece_in}
use Rattle.count_heap.specs.LayoutsByClass.ClassFields.{leaves_by_field}
use Rattle.count_heap.specs.LayoutsByClass.Layouts.{size_of}
use Rattle.count_heap.specs.declared.slot_record.SlotRecord.{SlotRecord}
use Rattle.count_heap.specs.inner.Kept.{HasOwner, IsAlive, IsHeap, IsKept}
use Rattle.count_heap.specs.inner.Objects.{field_at, fields_at, leaves_in, object_at, object_of, objects_in, places_of, record_at}

abbrev pub as_one : Option ℕ → ℕ
as_one x = cond (is_some x) 1 0

-- ---- objects by number

pub mapped_at : {X Y : Type 0} (f : X → Y) (xs : List (Option X)) (i : ℕ) → get_or (map (option_map f) xs) i None ≡ option_map f (get_or xs i None)
mapped_at f [] i = refl
mapped_at f (x ∷ xs) zero = refl
mapped_at f (x ∷ xs) (suc i) = mapped_at f xs i

pub is_there : {X : Type 0} (xs : List (Option X)) (i : ℕ) (x : X) → get_or xs i None ≡ Some x → i < length xs
is_there xs i x is =
    elim (cases_lt i (length xs)) [
      | inl lt ↦ lt
      | inr le ↦ let impossible : None ≡ Some x = sym (get_or_past xs i None le) ∙ is in cc
    ]

-- the fields of two records whose leaves are the same while they are alive
pub same_fields : (d : Declarations) (r : SlotRecord) (p q : Pieces) → (is_dead_phase r.phase ≡ false → piece_in p r.piece ≡ piece_in q r.piece) → fields_at d r p ≡ fields_at d r q
same_fields d r p q same =
    elim (cases_Bool (is_dead_phase r.phase)) [
      | inl dead ↦ cond-true (is_dead_phase r.phase) [] (map (field_at (leaves_in p r.piece)) (places_of d r.class)) dead
          ∙ sym (cond-true (is_dead_phase r.phase) [] (map (field_at (leaves_in q r.piece)) (places_of d r.class)) dead)
      | inr alive ↦ ap (λ o. cond (is_dead_phase r.phase) [] (map (field_at (unwrap_or o [])) (places_of d r.class))) (same alive)
    ]

-- all but one slot stay as they are
pub record Elsewhere (t : Numbers) (records : List SlotRecord) (sides : List SlotSides) (pieces : Pieces)
    (records' : List SlotRecord) (sides' : List SlotSides) (pieces' : Pieces) (s : ℕ) : Type 0 where
  pub sides_are : length sides' ≡ length sides
  pub records_are : length records' ≡ length records
  pub record_of : (u : ℕ) → (u ≡ s → ⊥) → record_at records' u ≡ record_at records u
  pub sides_of : (u : ℕ) → (u ≡ s → ⊥) → sides_at sides' u ≡ sides_at sides u
  pub piece_of : (n u : ℕ) → slot_in t n ≡ Some u → (u ≡ s → ⊥) → IsAlive records u → piece_in pieces' (record_at records u).piece ≡ piece_in pieces (record_at records u).piece
  -- no further piece is given out, and the slot's own only while its object isn't dead
  pub out_before : (p : ℕ) → is_some (piece_in pieces' p) ≡ true → is_some (piece_in pieces p) ≡ true
  pub out_here : (p : ℕ) → is_some (piece_in pieces' p) ≡ true → IsAlive records s → (record_at records s).piece ≡ p
      → IsAlive records' s × ((record_at records' s).piece ≡ p)

module _ (d : Declarations) (t : Numbers) (records : List SlotRecord) (sides : List SlotSides) (pieces : Pieces) (heap : IsHeap d t records sides pieces) (apart : AreApart t)
    (o s : ℕ) (is : slot_in t o ≡ Some s) (records' : List SlotRecord) (sides' : List SlotSides) (pieces' : Pieces)
    (else : Elsewhere t records sides pieces records' sides' pieces' s) where
  -- ---- another object

  module _ (n u : ℕ) (named : slot_in t n ≡ Some u) (other : u ≡ s → ⊥) where
    was_alive : IsAlive records' u → IsAlive records u
    was_alive alive = sym (ap (λ r. is_dead_phase r.phase) (else.record_of u other)) ∙ alive

    other_object : object_at d records' sides' pieces' u ≡ object_at d records sides pieces u
    other_object =
        ap (λ r. object_of d r (sides_at sides' u) pieces') (else.record_of u other)
        ∙ ap (λ x. object_of d (record_at records u) x pieces') (else.sides_of u other)
        ∙ ap (λ fs. record (object_of d (record_at records u) (sides_at sides u) pieces) { fields = fs })
        (same_fields d (record_at records u) pieces' pieces (else.piece_of n u named other))

    other_kept : IsKept d records' sides' pieces' u
    other_kept =
        let was = heap.kept n u named in
        let r = else.record_of u other in
        record {
          there = omega (arith, was.there, else.sides_are);
          marked = ap (λ x. x.marked) (else.sides_of u other) ∙ was.marked ∙ sym (ap (λ x. is_dead_phase x.phase) r);
          taken = ap is_idle (else.sides_of u other) ∙ was.taken;
          piece = λ alive.
              ap (λ x. option_map (λ ls. length ls) (piece_in pieces' x.piece)) r ∙ ap (option_map (λ ls. length ls)) (else.piece_of n u named other (was_alive alive))
              ∙ was.piece (was_alive alive) ∙ sym (ap (λ x. Some (size_of (leaves_by_field d x.class))) r);
        }

  -- another number has another slot
  other_slot : (n u : ℕ) → (n ≡ o → ⊥) → slot_in t n ≡ Some u → u ≡ s → ⊥
  other_slot n u differs named same = differs (apart n o s (named ∙ ap Some same) is)

  -- no two objects have one piece then
  still_apart : (IsAlive records' s → IsAlive records s × ((record_at records' s).piece ≡ (record_at records s).piece))
      → (n m u v : ℕ) → slot_in t n ≡ Some u → slot_in t m ≡ Some v → IsAlive records' u → IsAlive records' v → (record_at records' u).piece ≡ (record_at records' v).piece → u ≡ v
  still_apart same n m u v named_u named_v alive_u alive_v equal =
      elim (cases_eq u s) [
        | inl is_u ↦ elim (cases_eq v s) [
          | inl is_v ↦ is_u ∙ sym is_v
          | inr other_v ↦
              let was = same (subst (λ x. IsAlive records' x) is_u alive_u) in
              let piece_u : (record_at records' u).piece ≡ (record_at records u).piece = ap (λ x. (record_at records' x).piece) is_u ∙ was.1 ∙ ap (λ x. (record_at records x).piece) (sym is_u) in
              heap.apart n m u v named_u named_v (subst (λ x. IsAlive records x) (sym is_u) was.0) (was_alive m v named_v other_v alive_v)
              (sym piece_u ∙ equal ∙ ap (λ r. r.piece) (else.record_of v other_v))
        ]
        | inr other_u ↦ elim (cases_eq v s) [
          | inl is_v ↦
              let was = same (subst (λ x. IsAlive records' x) is_v alive_v) in
              let piece_v : (record_at records' v).piece ≡ (record_at records v).piece = ap (λ x. (record_at records' x).piece) is_v ∙ was.1 ∙ ap (λ x. (record_at records x).piece) (sym is_v) in
              heap.apart n m u v named_u named_v (was_alive n u named_u other_u alive_u) (subst (λ x. IsAlive records x) (sym is_v) was.0)
              (sym (ap (λ r. r.piece) (else.record_of u other_u)) ∙ equal ∙ piece_v)
          | inr other_v ↦
              heap.apart n m u v named_u named_v (was_alive n u named_u other_u alive_u) (was_alive m v named_v other_v alive_v)
              (sym (ap (λ r. r.piece) (else.record_of u other_u)) ∙ equal ∙ ap (λ r. r.piece) (else.record_of v other_v))
        ]
      ]

  -- each piece that is given out then is still that of an object that isn't dead
  module _ (p : ℕ) (out : is_some (piece_in pieces' p) ≡ true) where
    owner : HasOwner t records p
    owner = heap.owned p (else.out_before p out)

    owned_here : owner.1 ≡ s → IsAlive records' s × ((record_at records' s).piece ≡ p)
    owned_here is_s =
        else.out_here p out (subst (λ x. IsAlive records x) is_s owner.3) (ap (λ x. (record_at records x).piece) (sym is_s) ∙ owner.4)

    alive_else : (owner.1 ≡ s → ⊥) → IsAlive records' owner.1
    alive_else other = ap (λ x. is_dead_phase x.phase) (else.record_of owner.1 other) ∙ owner.3

    piece_else : (owner.1 ≡ s → ⊥) → (record_at records' owner.1).piece ≡ p
    piece_else other = ap (λ x. x.piece) (else.record_of owner.1 other) ∙ owner.4

    still_owned : HasOwner t records' p
    still_owned =
        elim (cases_eq owner.1 s) [
          | inl is_s ↦ let now = owned_here is_s in (o, s, is, now.0, now.1)
          | inr other ↦ (owner.0, owner.1, owner.2, alive_else other, piece_else other)
        ]

  -- ---- the object stays

  pub kept_heap : IsKept d records' sides' pieces' s → (IsAlive records' s → IsAlive records s × ((record_at records' s).piece ≡ (record_at records s).piece))
      → idle_count sides' ≡ idle_count sides → IsHeap d t records' sides' pieces'
  kept_heap here same idle = record {
    slots = omega (arith, heap.slots, else.sides_are);
    records_are = omega (arith, heap.records_are, else.sides_are, else.records_are);
    kept = λ n u named. elim (cases_eq u s) [
      | inl is_u ↦ subst (λ x. IsKept d records' sides' pieces' x) (sym is_u) here
      | inr other ↦ other_kept n u named other
    ];
    apart = still_apart same;
    owned = still_owned;
    count = omega (arith, heap.count, else.sides_are);
  }

  objects_then : (i : ℕ) → i < length (objects_in d t records' sides' pieces')
      → get_or (objects_in d t records' sides' pieces') i None ≡ get_or (set (objects_in d t records sides pieces) o (Some (object_at d records' sides' pieces' s))) i None
  objects_then i lt =
      let here : o < length (objects_in d t records sides pieces) = omega (arith, is_there t.places o s is, length-map t.places (option_map (object_at d records sides pieces))) in
      elim (cases_eq i o) [
        | inl is_o ↦
            mapped_at (object_at d records' sides' pieces') t.places i
            ∙ ap (λ n. option_map (object_at d records' sides' pieces') (slot_in t n)) is_o ∙ ap (option_map (object_at d records' sides' pieces')) is
            ∙ sym (ap (λ n. get_or (set (objects_in d t records sides pieces) o (Some (object_at d records' sides' pieces' s))) n None) is_o
            ∙ get_or-set_same (objects_in d t records sides pieces) o (Some (object_at d records' sides' pieces' s)) None here)
        | inr differs ↦
            mapped_at (object_at d records' sides' pieces') t.places i ∙ by (slot_in t i) refl differs
            ∙ sym (mapped_at (object_at d records sides pieces) t.places i)
            ∙ sym (get_or-set_other (objects_in d t records sides pieces) o i (Some (object_at d records' sides' pieces' s)) None differs)
      ]
    where
      by : (x : Option ℕ) → slot_in t i ≡ x → (i ≡ o → ⊥) → option_map (object_at d records' sides' pieces') (slot_in t i) ≡ option_map (object_at d records sides pieces) (slot_in t i)
      by None e differs = ap (option_map (object_at d records' sides' pieces')) e ∙ sym (ap (option_map (object_at d records sides pieces)) e)
      by (Some u) e differs =
          ap (option_map (object_at d records' sides' pieces')) e ∙ ap Some (other_object i u e (other_slot i u differs e)) ∙ sym (ap (option_map (object_at d records sides pieces)) e)

  pub kept_view : objects_in d t records' sides' pieces' ≡ set (objects_in d t records sides pieces) o (Some (object_at d records' sides' pieces' s))
  kept_view =
      ext_get_or None (objects_in d t records' sides' pieces') (set (objects_in d t records sides pieces) o (Some (object_at d records' sides' pieces' s)))
      (length-map t.places (option_map (object_at d records' sides' pieces'))
      ∙ sym (length-set (objects_in d t records sides pieces) o (Some (object_at d records' sides' pieces' s)) ∙ length-map t.places (option_map (object_at d records sides pieces))))
      objects_then

  -- ---- the object is freed

  abbrev rest : Numbers
  rest = without t o

  gone : slot_in rest o ≡ None
  gone = get_or-set_same t.places o None None (is_there t.places o s is)

  stays : (n : ℕ) → (n ≡ o → ⊥) → slot_in rest n ≡ slot_in t n
  stays n differs = get_or-set_other t.places o n None None differs

  named_before : (n u : ℕ) → slot_in rest n ≡ Some u → (n ≡ o → ⊥) × (slot_in t n ≡ Some u)
  named_before n u named =
      elim (cases_eq n o) [
        | inl is_o ↦ let impossible : None ≡ Some u = sym (ap (slot_in rest) is_o ∙ gone) ∙ named in cc
        | inr differs ↦ (differs, sym (stays n differs) ∙ named)
      ]

  rest_owned : (IsAlive records' s → ⊥) → (p : ℕ) → is_some (piece_in pieces' p) ≡ true → HasOwner rest records' p
  rest_owned dead p out =
      let was = owner p out in
      elim (cases_eq was.1 s) [
        | inl is_s ↦ absurd (dead (owned_here p out is_s).0)
        | inr other ↦
            let differs : was.0 ≡ o → ⊥ = λ same. other (let equal : Some was.1 ≡ Some s = sym was.2 ∙ ap (slot_in t) same ∙ is in cc) in
            (was.0, was.1, stays was.0 differs ∙ was.2, alive_else p out other, piece_else p out other)
      ]

  pub freed_heap : (IsAlive records' s → ⊥) → idle_count sides' ≡ idle_count sides + 1 → IsHeap d rest records' sides' pieces'
  freed_heap dead idle = record {
    slots = omega (arith, heap.slots, else.sides_are);
    records_are = omega (arith, heap.records_are, else.sides_are, else.records_are);
    kept = λ n u named. let was = named_before n u named in other_kept n u was.1 (other_slot n u was.0 was.1);
    apart = λ n m u v named_u named_v alive_u alive_v equal.
        let was_u = named_before n u named_u in
        let was_v = named_before m v named_v in
        let other_u = other_slot n u was_u.0 was_u.1 in
        let other_v = other_slot m v was_v.0 was_v.1 in
        heap.apart n m u v was_u.1 was_v.1 (was_alive n u was_u.1 other_u alive_u) (was_alive m v was_v.1 other_v alive_v)
        (sym (ap (λ r. r.piece) (else.record_of u other_u)) ∙ equal ∙ ap (λ r. r.piece) (else.record_of v other_v));
    owned = rest_owned dead;
    count =
        let one : as_one (slot_in t o) ≡ 1 = ap as_one is in
        let less = sum_by-set as_one t.places o None None (is_there t.places o s is) in
        omega (arith, heap.count, else.sides_are);
  }

  pub freed_view : objects_in d rest records' sides' pieces' ≡ set (objects_in d t records sides pieces) o None
  freed_view =
      ext_get_or None (objects_in d rest records' sides' pieces') (set (objects_in d t records sides pieces) o None)
      (length-map rest.places (option_map (object_at d records' sides' pieces')) ∙ length-set t.places o None
      ∙ sym (length-set (objects_in d t records sides pieces) o None ∙ length-map t.places (option_map (object_at d records sides pieces))))
      (λ i lt. elim (cases_eq i o) [
        | inl is_o ↦
            mapped_at (object_at d records' sides' pieces') rest.places i ∙ ap (option_map (object_at d records' sides' pieces')) (ap (slot_in rest) is_o ∙ gone)
            ∙ sym (ap (λ n. get_or (set (objects_in d t records sides pieces) o None) n None) is_o
            ∙ get_or-set_same (objects_in d t records sides pieces) o None None
            (omega (arith, is_there t.places o s is, length-map t.places (option_map (object_at d records sides pieces)))))
        | inr differs ↦
            mapped_at (object_at d records' sides' pieces') rest.places i ∙ ap (option_map (object_at d records' sides' pieces')) (stays i differs)
            ∙ by i (slot_in t i) refl differs ∙ sym (mapped_at (object_at d records sides pieces) t.places i)
            ∙ sym (get_or-set_other (objects_in d t records sides pieces) o i None None differs)
      ])
    where
      by : (i : ℕ) (x : Option ℕ) → slot_in t i ≡ x → (i ≡ o → ⊥) → option_map (object_at d records' sides' pieces') (slot_in t i) ≡ option_map (object_at d records sides pieces) (slot_in t i)
      by i None e differs = ap (option_map (object_at d records' sides' pieces')) e ∙ sym (ap (option_map (object_at d records sides pieces)) e)
      by i (Some u) e differs =
          ap (option_map (object_at d records' sides' pieces')) e ∙ ap Some (other_object i u e (other_slot i u differs e)) ∙ sym (ap (option_map (object_at d records sides pieces)) e)
