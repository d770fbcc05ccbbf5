-- A heap with one more object.
use Rattle.std.proofs.Common.{◌≡◌, ℕ, zero, suc, ◌+◌, ◌<◌, ◌≤◌, List, [], ◌∷◌, ◌++◌, true, cond, Option, Some, None, inl, inr, is_some, length, length-set, set, map, get_or, replicate, refl, sym, ap}
use Rattle.std.proofs.Common.{◌∙◌, subst, arith}
use Rattle.std.specs.Prelude.{◌⊎◌, count_by, max, option_map, take, drop, unwrap_or}
use Rattle.std.proofs.Math.Path.{fun_ext}
use Rattle.std.proofs.lemmas.Bool.{cases_eq, eq-eqb, ne_eqb}
use Rattle.std.proofs.lemmas.List.{ext_get_or, get_or-set_same, get_or-set_other, get_or_append_left, get_or_push, length-map, length-replicate, map-append}
use Rattle.std.proofs.lemmas.List.Sums.{sum_by-append}
use Rattle.sil_types.specs.sil_types_declarations.TypeDefinitions.Declarations.{Declarations}
use Rattle.holder_model_values.specs.RunValues.Memory.{is_dead_phase}
use Rattle.holder_model_values.specs.declared.run_values.leaf.Leaf.{Leaf}
use Rattle.holder_model_values.specs.declared.run_values.leaf.Leaf.TheVariants.{Blank}
use Rattle.holder_model_values.specs.declared.run_values.phase.Phase.TheVariants.{Live}
use Rattle.weak_unowned.specs.Sides.{idle_count, is_idle, sides_at}
use Rattle.weak_unowned.specs.declared.side.SlotSides.{SlotSides}
use Rattle.number_tables.specs.TableByNumber.Numbers.{Numbers, slot_in, with_next}
use Rattle.count_heap.specs.PooledLeaves.Pieces.{IsChanged, Pieces, piece_in}
use Rattle.count_heap.specs.LayoutsByClass.ClassFields.{field_leaves, leaves_by_field}
use Rattle.count_heap.specs.LayoutsByClass.Layouts.{size_of}
use Rattle.count_heap.specs.declared.layouts_by_class.field_place.FieldPlace.{FieldPlace}
use Rattle.count_heap.proofs.LayoutsByClass.Lists.{length_places}
use Rattle.count_heap.specs.HeapModel.HeapCalls.{allocated_in, new_object}
use Rattle.count_heap.specs.HeapModel.HeapViews.{HeapObject, class_fields, unfreed_count}
use Rattle.count_heap.specs.declared.slot_record.SlotRecord.{SlotRecord}
use Rattle.count_heap.specs.inner.Kept.{HasOwner, IsAlive, IsHeap, IsKept}
use Rattle.count_heap.specs.inner.Objects.{field_at, heap_of, is_mark, no_record, object_at, object_of, objects_in, places_of, record_at}
use Rattle.count_heap.proofs.NewSlot.{IsFresh}
use Rattle.count_heap.proofs.OneObject.{is_there, mapped_at, same_fields}

-- ---- a piece that is given back as soon as it was taken

pub given_back : (pieces taken back : Pieces) (p : ℕ) (x : Option (List Leaf)) → piece_in pieces p ≡ None → IsChanged pieces taken p x → IsChanged taken back p None
    → (q : ℕ) → piece_in back q ≡ piece_in pieces q
given_back pieces taken back p x none one two q =
    elim (cases_eq q p) [
      | inl same ↦ two q ∙ ap (λ b. cond b None (piece_in taken q)) (eq-eqb q p same) ∙ sym none ∙ ap (piece_in pieces) (sym same)
      | inr differs ↦
          two q ∙ ap (λ b. cond b None (piece_in taken q)) (ne_eqb q p differs) ∙ one q ∙ ap (λ b. cond b x (piece_in pieces q)) (ne_eqb q p differs)
    ]

-- ---- the same objects, in memory that reads the same

module _ (d : Declarations) (t : Numbers) (records : List SlotRecord) (sides : List SlotSides) (pieces : Pieces) (heap : IsHeap d t records sides pieces)
    (t' : Numbers) (records' : List SlotRecord) (sides' : List SlotSides) (pieces' : Pieces) (places : t'.places ≡ t.places) (kept : (u : ℕ) → record_at records' u ≡ record_at records u) where
  abbrev was : (n u : ℕ) → slot_in t' n ≡ Some u → slot_in t n ≡ Some u
  was n u named = ap (λ ps. get_or ps n None) (sym places) ∙ named

  -- an object whose slot and piece are as before
  module _ (n u : ℕ) (named : slot_in t n ≡ Some u) (side : sides_at sides' u ≡ sides_at sides u)
      (piece : IsAlive records u → piece_in pieces' (record_at records u).piece ≡ piece_in pieces (record_at records u).piece) where
    same_kept : length sides ≤ length sides' → IsKept d records' sides' pieces' u
    same_kept longer =
        let old = heap.kept n u named in
        let r = kept u in
        record {
          there = omega (arith, old.there);
          marked = ap (λ x. x.marked) side ∙ old.marked ∙ sym (ap (λ x. is_dead_phase x.phase) r);
          taken = ap is_idle side ∙ old.taken;
          piece = λ alive.
              let before : IsAlive records u = sym (ap (λ x. is_dead_phase x.phase) r) ∙ alive in
              ap (λ x. option_map (λ ls. length ls) (piece_in pieces' x.piece)) r ∙ ap (option_map (λ ls. length ls)) (piece before)
              ∙ old.piece before ∙ sym (ap (λ x. Some (size_of (leaves_by_field d x.class))) r);
        }

  module _ (slots : length sides' ≤ t'.slots) (records_are : length sides' ≤ length records') (sides_are : sides' ≡ sides) (same_pieces : (q : ℕ) → piece_in pieces' q ≡ piece_in pieces q) where
    same_owned : (p : ℕ) → is_some (piece_in pieces' p) ≡ true → HasOwner t' records' p
    same_owned p out =
        let old = heap.owned p (sym (ap is_some (same_pieces p)) ∙ out) in
        let r = kept old.1 in
        (old.0, old.1, ap (λ ps. get_or ps old.0 None) places ∙ old.2, ap (λ x. is_dead_phase x.phase) r ∙ old.3, ap (λ x. x.piece) r ∙ old.4)

    pub same_heap : IsHeap d t' records' sides' pieces'
    same_heap = record {
      slots = slots;
      records_are = records_are;
      kept = λ n u named.
          same_kept n u (was n u named) (ap (λ xs. sides_at xs u) sides_are) (λ alive. same_pieces (record_at records u).piece) (let same = ap (λ xs. length xs) sides_are in omega (arith, same));
      apart = λ n m u v named_u named_v alive_u alive_v equal.
          heap.apart n m u v (was n u named_u) (was m v named_v) (sym (ap (λ x. is_dead_phase x.phase) (kept u)) ∙ alive_u) (sym (ap (λ x. is_dead_phase x.phase) (kept v)) ∙ alive_v)
          (sym (ap (λ x. x.piece) (kept u)) ∙ equal ∙ ap (λ x. x.piece) (kept v));
      owned = same_owned;
      count =
          ap (λ ps. count_by is_some ps + idle_count sides') places ∙ ap (λ xs. count_by is_some t.places + idle_count xs) sides_are ∙ heap.count ∙ ap (λ xs. length xs) (sym sides_are);
    }

    same_object : (u : ℕ) → object_at d records' sides' pieces' u ≡ object_at d records sides pieces u
    same_object u =
        ap (λ r. object_of d r (sides_at sides' u) pieces') (kept u)
        ∙ ap (λ xs. object_of d (record_at records u) (sides_at xs u) pieces') sides_are
        ∙ ap (λ fs. record (object_of d (record_at records u) (sides_at sides u) pieces) { fields = fs })
        (same_fields d (record_at records u) pieces' pieces (λ _. same_pieces (record_at records u).piece))

    pub same_view : (a b : ℕ) → heap_of d t' records' sides' pieces' a b ≡ heap_of d t records sides pieces a b
    same_view a b =
        ap (λ n. record { declarations = d; objects = objects_in d t' records' sides' pieces'; retains = a; releases = b; slots = n }) (ap (λ xs. length xs) sides_are)
        ∙ ap (λ xs. record { declarations = d; objects = xs; retains = a; releases = b; slots = length sides })
        (ap (λ ps. map (option_map (object_at d records' sides' pieces')) ps) places ∙ ap (λ f. map (option_map f) t.places) (fun_ext same_object))

-- ---- one more object

last_or_before : (xs : List (Option ℕ)) (s n u : ℕ) → get_or (xs ++ Some s ∷ []) n None ≡ Some u → (get_or xs n None ≡ Some u) ⊎ (u ≡ s)
last_or_before [] s zero u is = inr (let same : Some s ≡ Some u = is in cc)
last_or_before [] s (suc n) u is = inl is
last_or_before (x ∷ xs) s zero u is = inl is
last_or_before (x ∷ xs) s (suc n) u is = last_or_before xs s n u is

-- fields of blank leaves aren't written
blank_at : (n i : ℕ) → get_or (replicate n Blank) i Blank ≡ Blank
blank_at zero i = refl
blank_at (suc n) zero = refl
blank_at (suc n) (suc i) = blank_at n i

no_fields : (n : ℕ) (ps : List FieldPlace) → map (field_at (replicate n Blank)) ps ≡ replicate (length ps) None
no_fields n [] = refl
no_fields n (p ∷ ps) =
    ap (λ x. cond (is_mark x) (Some (take p.count (drop (p.from + 1) (replicate n Blank)))) None ∷ map (field_at (replicate n Blank)) ps) (blank_at n p.from)
    ∙ ap (λ fs. None ∷ fs) (no_fields n ps)

module _ (d : Declarations) (t : Numbers) (records : List SlotRecord) (sides : List SlotSides) (pieces : Pieces) (heap : IsHeap d t records sides pieces)
    (t' : Numbers) (records' : List SlotRecord) (sides' : List SlotSides) (pieces' : Pieces) (places : t'.places ≡ t.places) (kept : (u : ℕ) → record_at records' u ≡ record_at records u)
    (slots : length sides' ≤ t'.slots) (records_are : length sides' ≤ length records') (s : ℕ) (fresh : IsFresh t sides sides' s)
    (p class : ℕ) (size : ℕ) (size_is : size ≡ size_of (leaves_by_field d class)) (none : piece_in pieces p ≡ None) (given : IsChanged pieces pieces' p (Some (replicate size Blank))) where
  abbrev r : SlotRecord
  r = record { strong = 1; piece = p; class = class; phase = Live }

  abbrev t'' : Numbers
  t'' = with_next t' s

  abbrev records'' : List SlotRecord
  records'' = set records' s r

  in_records : s < length records'
  in_records = omega (arith, fresh.there, records_are)

  record_is : record_at records'' s ≡ r
  record_is = get_or-set_same records' s r no_record in_records

  record_else : (u : ℕ) → (u ≡ s → ⊥) → record_at records'' u ≡ record_at records u
  record_else u differs = get_or-set_other records' s u r no_record differs ∙ kept u

  others : (n u : ℕ) → slot_in t n ≡ Some u → u ≡ s → ⊥
  others n u named same = fresh.free n (named ∙ ap Some same)

  -- the new piece is no other object's
  other_piece : (n u : ℕ) → slot_in t n ≡ Some u → IsAlive records u → (record_at records u).piece ≡ p → ⊥
  other_piece n u named alive same =
      let sized = (heap.kept n u named).piece alive in
      let impossible : None ≡ Some (size_of (leaves_by_field d (record_at records u).class)) =
      sym (ap (λ q. option_map (λ ls. length ls) (piece_in pieces q)) same ∙ ap (option_map (λ ls. length ls)) none) ∙ sized in cc

  piece_else : (n u : ℕ) → slot_in t n ≡ Some u → IsAlive records u → piece_in pieces' (record_at records u).piece ≡ piece_in pieces (record_at records u).piece
  piece_else n u named alive =
      given (record_at records u).piece
      ∙ ap (λ b. cond b (Some (replicate size Blank)) (piece_in pieces (record_at records u).piece)) (ne_eqb (record_at records u).piece p (other_piece n u named alive))

  piece_new : piece_in pieces' p ≡ Some (replicate size Blank)
  piece_new = given p ∙ ap (λ b. cond b (Some (replicate size Blank)) (piece_in pieces p)) (eq-eqb p p refl)

  named_before : (n u : ℕ) → slot_in t'' n ≡ Some u → (slot_in t n ≡ Some u) ⊎ (u ≡ s)
  named_before n u named = last_or_before t.places s n u (ap (λ ps. get_or (ps ++ Some s ∷ []) n None) (sym places) ∙ named)

  other_object : (n u : ℕ) → slot_in t n ≡ Some u → object_at d records'' sides' pieces' u ≡ object_at d records sides pieces u
  other_object n u named =
      ap (λ x. object_of d x (sides_at sides' u) pieces') (record_else u (others n u named))
      ∙ ap (λ x. object_of d (record_at records u) x pieces') (fresh.other u (others n u named))
      ∙ ap (λ fs. record (object_of d (record_at records u) (sides_at sides u) pieces) { fields = fs }) (same_fields d (record_at records u) pieces' pieces (piece_else n u named))

  other_kept : (n u : ℕ) → slot_in t n ≡ Some u → IsKept d records'' sides' pieces' u
  other_kept n u named =
      let old = heap.kept n u named in
      let is = record_else u (others n u named) in
      let side = fresh.other u (others n u named) in
      record {
        there = omega (arith, old.there, fresh.longer);
        marked = ap (λ x. x.marked) side ∙ old.marked ∙ sym (ap (λ x. is_dead_phase x.phase) is);
        taken = ap is_idle side ∙ old.taken;
        piece = λ alive.
            let before : IsAlive records u = sym (ap (λ x. is_dead_phase x.phase) is) ∙ alive in
            ap (λ x. option_map (λ ls. length ls) (piece_in pieces' x.piece)) is ∙ ap (option_map (λ ls. length ls)) (piece_else n u named before)
            ∙ old.piece before ∙ sym (ap (λ x. Some (size_of (leaves_by_field d x.class))) is);
      }

  new_kept : IsKept d records'' sides' pieces' s
  new_kept = record {
    there = fresh.there;
    marked = ap (λ x. x.marked) fresh.new ∙ sym (ap (λ x. is_dead_phase x.phase) record_is);
    taken = ap is_idle fresh.new;
    piece = λ alive.
        ap (λ x. option_map (λ ls. length ls) (piece_in pieces' x.piece)) record_is ∙ ap (option_map (λ ls. length ls)) piece_new ∙ ap Some (length-replicate size Blank ∙ size_is)
        ∙ sym (ap (λ x. Some (size_of (leaves_by_field d x.class))) record_is);
  }

  still_apart : (n m u v : ℕ) → slot_in t'' n ≡ Some u → slot_in t'' m ≡ Some v → IsAlive records'' u → IsAlive records'' v
      → (record_at records'' u).piece ≡ (record_at records'' v).piece → u ≡ v
  still_apart n m u v named_u named_v alive_u alive_v equal = by (named_before n u named_u) (named_before m v named_v)
    where
      old_alive : (k w : ℕ) → slot_in t k ≡ Some w → IsAlive records'' w → IsAlive records w
      old_alive k w named alive = sym (ap (λ x. is_dead_phase x.phase) (record_else w (others k w named))) ∙ alive

      old_piece : (k w : ℕ) → slot_in t k ≡ Some w → (record_at records'' w).piece ≡ (record_at records w).piece
      old_piece k w named = ap (λ x. x.piece) (record_else w (others k w named))

      new_piece : (w : ℕ) → w ≡ s → (record_at records'' w).piece ≡ p
      new_piece w same = ap (λ x. (record_at records'' x).piece) same ∙ ap (λ x. x.piece) record_is

      by : (slot_in t n ≡ Some u) ⊎ (u ≡ s) → (slot_in t m ≡ Some v) ⊎ (v ≡ s) → u ≡ v
      by (inl was_u) (inl was_v) =
          heap.apart n m u v was_u was_v (old_alive n u was_u alive_u) (old_alive m v was_v alive_v) (sym (old_piece n u was_u) ∙ equal ∙ old_piece m v was_v)
      by (inl was_u) (inr is_v) = absurd (other_piece n u was_u (old_alive n u was_u alive_u) (sym (old_piece n u was_u) ∙ equal ∙ new_piece v is_v))
      by (inr is_u) (inl was_v) = absurd (other_piece m v was_v (old_alive m v was_v alive_v) (sym (old_piece m v was_v) ∙ sym equal ∙ new_piece u is_u))
      by (inr is_u) (inr is_v) = is_u ∙ sym is_v

  -- the new piece is the new object's, and the others are those of the objects whose they were
  now_owned : (q : ℕ) → is_some (piece_in pieces' q) ≡ true → HasOwner t'' records'' q
  now_owned q out =
      elim (cases_eq q p) [
        | inl new ↦ (
          length t'.places,
          s,
          get_or_push t'.places (Some s) None (length t'.places) refl,
          ap (λ x. is_dead_phase x.phase) record_is,
          ap (λ x. x.piece) record_is ∙ sym new,
        )
        | inr differs ↦
            let same = given q ∙ ap (λ b. cond b (Some (replicate size Blank)) (piece_in pieces q)) (ne_eqb q p differs) in
            let old = heap.owned q (sym (ap is_some same) ∙ out) in
            let r = record_else old.1 (others old.0 old.1 old.2) in
            let there = is_there t.places old.0 old.1 old.2 in
            let count = ap (λ ps. length ps) places in
            let within : old.0 < length t'.places = omega arith in (
              old.0,
              old.1,
              get_or_append_left t'.places (Some s ∷ []) None old.0 within ∙ ap (λ ps. get_or ps old.0 None) places ∙ old.2,
              ap (λ x. is_dead_phase x.phase) r ∙ old.3,
              ap (λ x. x.piece) r ∙ old.4,
            )
      ]

  one_more_place : count_by is_some (t'.places ++ Some s ∷ []) ≡ count_by is_some t.places + 1
  one_more_place = ap (λ ps. count_by is_some (ps ++ Some s ∷ [])) places ∙ sum_by-append (λ x. cond (is_some x) 1 0) t.places (Some s ∷ [])

  pub allocated_heap : IsHeap d t'' records'' sides' pieces'
  allocated_heap = record {
    slots = slots;
    records_are = let same = length-set records' s r in omega (arith, same, records_are);
    kept = λ n u named. elim (named_before n u named) [
      | inl was ↦ other_kept n u was
      | inr is ↦ subst (λ x. IsKept d records'' sides' pieces' x) (sym is) new_kept
    ];
    apart = still_apart;
    owned = now_owned;
    count = let total = fresh.idle in let old = heap.count in omega (arith, one_more_place, total, old);
  }

  -- ---- what is seen

  new_is : object_at d records'' sides' pieces' s ≡ new_object d class
  new_is =
      ap (λ x. object_of d x (sides_at sides' s) pieces') record_is ∙ ap (λ x. object_of d r x pieces') fresh.new
      ∙ ap (λ fs. record { class = class; phase = Live; strong = 1; unowned = 0; weak = 0; fields = fs })
      (ap (λ o. map (field_at (unwrap_or o [])) (places_of d class)) piece_new ∙ no_fields size (places_of d class)
      ∙ ap (λ n. replicate n None) (length_places 0 (leaves_by_field d class) ∙ length-map (class_fields d class) (field_leaves d)))

  objects_before : map (option_map (object_at d records'' sides' pieces')) t.places ≡ objects_in d t records sides pieces
  objects_before =
      ext_get_or None (map (option_map (object_at d records'' sides' pieces')) t.places) (objects_in d t records sides pieces)
      (length-map t.places (option_map (object_at d records'' sides' pieces')) ∙ sym (length-map t.places (option_map (object_at d records sides pieces))))
      (λ i lt. mapped_at (object_at d records'' sides' pieces') t.places i ∙ by i (slot_in t i) refl ∙ sym (mapped_at (object_at d records sides pieces) t.places i))
    where
      by : (i : ℕ) (x : Option ℕ) → slot_in t i ≡ x → option_map (object_at d records'' sides' pieces') (slot_in t i) ≡ option_map (object_at d records sides pieces) (slot_in t i)
      by i None e = ap (option_map (object_at d records'' sides' pieces')) e ∙ sym (ap (option_map (object_at d records sides pieces)) e)
      by i (Some u) e = ap (option_map (object_at d records'' sides' pieces')) e ∙ ap Some (other_object i u e) ∙ sym (ap (option_map (object_at d records sides pieces)) e)

  objects_now : objects_in d t'' records'' sides' pieces' ≡ objects_in d t records sides pieces ++ Some (new_object d class) ∷ []
  objects_now =
      ap (λ ps. map (option_map (object_at d records'' sides' pieces')) (ps ++ Some s ∷ [])) places
      ∙ map-append (option_map (object_at d records'' sides' pieces')) t.places (Some s ∷ [])
      ∙ ap (λ xs. xs ++ Some (object_at d records'' sides' pieces' s) ∷ []) objects_before
      ∙ ap (λ x. objects_in d t records sides pieces ++ Some x ∷ []) new_is

  slots_now : length sides' ≡ max (length sides) (unfreed_count (objects_in d t'' records'' sides' pieces'))
  slots_now = fresh.slots ∙ ap (max (length sides)) (sym (count_mapped (object_at d records'' sides' pieces') t''.places ∙ one_more_place))
    where
      count_mapped : (f : ℕ → HeapObject) (xs : List (Option ℕ)) → count_by is_some (map (option_map f) xs) ≡ count_by is_some xs
      count_mapped f [] = refl
      count_mapped f (None ∷ xs) = count_mapped f xs
      count_mapped f (Some x ∷ xs) =
          sum_by-append (λ y. cond (is_some y) 1 0) (Some (f x) ∷ []) (map (option_map f) xs) ∙ ap (λ n. 1 + n) (count_mapped f xs)
          ∙ sym (sum_by-append (λ y. cond (is_some y) 1 0) (Some x ∷ []) xs)

  pub allocated_view : (a b : ℕ) → heap_of d t'' records'' sides' pieces' a b ≡ allocated_in (heap_of d t records sides pieces a b) class
  allocated_view a b =
      ap (λ n. record { declarations = d; objects = objects_in d t'' records'' sides' pieces'; retains = a; releases = b; slots = n }) slots_now
      ∙ ap (λ xs. record { declarations = d; objects = xs; retains = a; releases = b; slots = max (length sides) (unfreed_count xs) }) objects_now
