-- What the calls on fields make of what contracts see.
use Rattle.std.proofs.Common.{◌≡◌, ℕ, zero, suc, ◌+◌, ◌<◌, ◌≤◌, List, [], ◌∷◌, true, false, cond, Option, Some, None, is_some, length, set, map, take, drop, append_assoc, refl, sym, ap, ◌∙◌}
use Rattle.std.proofs.Common.{subst, arith}
use Rattle.std.specs.Prelude.{IfSome, option_map, option_and_then, slice_get, slice_index_or, unwrap_or}
use Rattle.std.proofs.lemmas.Bool.{cond-false, eq-eqb}
use Rattle.std.proofs.lemmas.List.{length-map}
use Rattle.std.proofs.lemmas.Option.{unwrap_or-slice_get}
use Rattle.sil_ast.specs.declared.place.ObjectId.{ObjectId}
use Rattle.sil_types.specs.sil_types_declarations.TypeDefinitions.Declarations.{Declarations}
use Rattle.holder_model_values.specs.RunValues.Memory.{is_dead_phase}
use Rattle.holder_model_values.specs.declared.run_values.leaf.Leaf.{Leaf}
use Rattle.holder_model_values.specs.declared.run_values.leaf.Leaf.TheVariants.{Blank}
use Rattle.weak_unowned.specs.declared.side.SlotSides.{SlotSides}
use Rattle.number_tables.specs.TableByNumber.Numbers.{AreApart, Numbers, slot_in}
use Rattle.count_heap.specs.PooledLeaves.Pieces.{IsChanged, Pieces, piece_in, put_leaves}
use Rattle.count_heap.specs.LayoutsByClass.ClassFields.{leaves_by_field}
use Rattle.count_heap.specs.LayoutsByClass.Layouts.{places_from, size_of}
use Rattle.count_heap.specs.declared.layouts_by_class.field_place.FieldPlace.{FieldPlace}
use Rattle.count_heap.proofs.LayoutsByClass.Lists.{length_places}
use Rattle.count_heap.proofs.LayoutsByClass.PlacesApart.{count_at, place_at, place_within}
use Rattle.count_heap.specs.HeapModel.HeapCalls.{changed, with_field, with_field_of, with_part, with_part_of}
use Rattle.count_heap.specs.HeapModel.HeapCalls as calls
use Rattle.count_heap.specs.HeapModel.HeapViews.{HeapObject, HeapView, field_in, fields_in, fields_told, is_dead_in, leaves_at}
use Rattle.count_heap.specs.declared.slot_record.SlotRecord.{SlotRecord}
use Rattle.count_heap.specs.inner.Kept.{IsAlive, IsHeap}
use Rattle.count_heap.specs.inner.Objects.{field_at, fields_at, heap_of, leaves_in, object_at, objects_in, places_of, record_at}
use Rattle.count_heap.specs.inner.Written.{written}
use Rattle.count_heap.proofs.Calls.{made, no_object_seen, object_seen, phase_is}
use Rattle.count_heap.proofs.Changes.{leaves_heap, leaves_view}
use Rattle.count_heap.proofs.FieldWrites.{cleared_fields, cleared_size, field_is, part_fields, part_size, part_within, written_fields, written_size}

-- what an option holds whose length is known
held_length : (o : Option (List Leaf)) (n : ℕ) → option_map (λ ls. length ls) o ≡ Some n → (o ≡ Some (unwrap_or o [])) × (length (unwrap_or o []) ≡ n)
held_length None n is = let impossible : None ≡ Some n = is in absurd (cc)
held_length (Some ls) n is = (refl, (let e : Some (length ls) ≡ Some n = is in cc))

told_count : (ns : List ℕ) (i n : ℕ) → slice_get ns i ≡ Some n → (i < length ns) × (slice_index_or ns i 0 ≡ n)
told_count [] i n is = let impossible : None ≡ Some n = is in absurd (cc)
told_count (m ∷ ns) zero n is = (omega arith, (let e : Some m ≡ Some n = is in cc))
told_count (m ∷ ns) (suc i) n is = let rest = told_count ns i n is in (omega (arith, rest.0), rest.1)

-- leaves are put as a heap's calls put them
same_put : (from : ℕ) (ys old : List Leaf) → calls.put_leaves from ys old ≡ put_leaves from ys old
same_put from ys old = append_assoc (take from old) ys (drop (from + length ys) old)

-- a field that is written is one of the object's
told_field : (fields : List (Option (List Leaf))) (i : ℕ) → is_some (slice_index_or fields i None) ≡ true → i < length fields
told_field [] i is = absurd (let impossible : false ≡ true = is in cc)
told_field (f ∷ fields) zero is = omega arith
told_field (f ∷ fields) (suc i) is = omega (arith, told_field fields i is)

some_told : (o : Option (List Leaf)) → is_some o ≡ true → (ls : List Leaf) × (o ≡ Some ls)
some_told None is = absurd (let impossible : false ≡ true = is in cc)
some_told (Some ls) is = (ls, refl)

module _ (d : Declarations) (t : Numbers) (records : List SlotRecord) (sides : List SlotSides) (pieces : Pieces) (inv : IsHeap d t records sides pieces) (apart : AreApart t)
    (o : ObjectId) (s : ℕ) (is : slot_in t o.0 ≡ Some s) (a b : ℕ) (alive : is_dead_in (heap_of d t records sides pieces a b) o ≡ false) where
  abbrev rec : SlotRecord
  rec = record_at records s

  abbrev before : HeapView
  before = heap_of d t records sides pieces a b

  abbrev counts : List ℕ
  counts = leaves_by_field d rec.class

  abbrev leaves : List Leaf
  leaves = leaves_in pieces rec.piece

  pub slot_alive : IsAlive records s
  slot_alive = sym (ap is_dead_phase (phase_is d t records sides pieces a b o s is)) ∙ alive

  held : (piece_in pieces rec.piece ≡ Some leaves) × (length leaves ≡ size_of counts)
  held = held_length (piece_in pieces rec.piece) (size_of counts) ((inv.kept o.0 s is).piece slot_alive)

  pub piece_is : piece_in pieces rec.piece ≡ Some leaves
  piece_is = held.0

  pub piece_there : is_some (piece_in pieces rec.piece) ≡ true
  piece_there = ap is_some held.0

  pub leaves_size : length leaves ≡ size_of counts
  leaves_size = held.1

  fields_are : fields_at d rec pieces ≡ map (field_at leaves) (places_of d rec.class)
  fields_are = cond-false (is_dead_phase rec.phase) [] (map (field_at leaves) (places_of d rec.class)) slot_alive

  pub fields_seen : fields_in before o ≡ map (field_at leaves) (places_of d rec.class)
  fields_seen = ap fields_told (object_seen d t records sides pieces a b o s is) ∙ fields_are

  pub field_count_is : length (fields_in before o) ≡ length counts
  field_count_is = ap (λ fs. length fs) fields_seen ∙ length-map (places_of d rec.class) (field_at leaves) ∙ length_places 0 counts

  module _ (index : ℕ) where
    abbrev place : FieldPlace
    place = place_at 0 counts index

    read_index : field_in before o index ≡ slice_index_or (fields_in before o) index None
    read_index = unwrap_or-slice_get (fields_in before o) index None

    pub field_seen : index < length counts → field_in before o index ≡ field_at leaves (place_at 0 counts index)
    field_seen lt = read_index ∙ ap (λ fs. slice_index_or fs index None) fields_seen ∙ field_is counts leaves leaves_size index lt

    pub place_fits : index < length counts → place.from + 1 + place.count ≤ length leaves
    place_fits lt = omega (arith, place_within 0 counts index lt, leaves_size)

    -- the pieces after a write to the object's own
    module _ (pieces' : Pieces) (new : List Leaf) (at_piece : IsChanged pieces pieces' rec.piece (Some new)) (size : length new ≡ length leaves) (x : Option (List Leaf))
        (fields : map (field_at new) (places_of d rec.class) ≡ set (map (field_at leaves) (places_of d rec.class)) index x) where
      sizes : option_map (λ ls. length ls) (Some new) ≡ option_map (λ ls. length ls) (piece_in pieces rec.piece)
      sizes = ap Some size ∙ sym (ap (option_map (λ ls. length ls)) piece_is)

      piece_now : piece_in pieces' rec.piece ≡ Some new
      piece_now = at_piece rec.piece ∙ ap (λ b. cond b (Some new) (piece_in pieces rec.piece)) (eq-eqb rec.piece rec.piece refl)

      fields_now : fields_at d rec pieces' ≡ set (fields_at d rec pieces) index x
      fields_now =
          cond-false (is_dead_phase rec.phase) [] (map (field_at (leaves_in pieces' rec.piece)) (places_of d rec.class)) slot_alive
          ∙ ap (λ o. map (field_at (unwrap_or o [])) (places_of d rec.class)) piece_now ∙ fields ∙ ap (λ fs. set fs index x) (sym fields_are)

      pub write_inv : IsHeap d t records sides pieces'
      write_inv = leaves_heap d t records sides pieces inv apart o.0 s is slot_alive pieces' (Some new) at_piece sizes

      pub write_objects : objects_in d t records sides pieces' ≡ (changed (with_field_of index x) before o).objects
      write_objects =
          leaves_view d t records sides pieces inv apart o.0 s is slot_alive pieces' (Some new) at_piece sizes
          ∙ ap (λ fs. set before.objects o.0 (Some (record (object_at d records sides pieces s) { fields = fs }))) fields_now
          ∙ ap (λ y. set before.objects o.0 y) (sym (ap (option_map (with_field_of index x)) (object_seen d t records sides pieces a b o s is)))

    -- ---- a field is written whole

    module _ (ys : List Leaf) (told : leaves_at before o index ≡ Some (length ys)) where
      told_counts : (index < length counts) × (slice_index_or counts index 0 ≡ length ys)
      told_counts =
          told_count counts index (length ys)
          (sym (ap (option_and_then (λ (x : HeapObject). slice_get (leaves_by_field d x.class) index)) (object_seen d t records sides pieces a b o s is)) ∙ told)

      pub index_there : index < length counts
      index_there = told_counts.0

      pub field_fits : IfSome (piece_in pieces rec.piece) (λ old. place.from + 1 + length ys ≤ length old)
      field_fits =
          subst (λ o. IfSome o (λ old. place.from + 1 + length ys ≤ length old)) (sym piece_is) (omega (arith, place_fits index_there, count_at 0 counts index, told_counts.1))

      module _ (pieces' : Pieces) (at_piece : IsChanged pieces pieces' rec.piece (option_map (written (place_at 0 counts index) ys) (piece_in pieces rec.piece))) where
        changed_to : IsChanged pieces pieces' rec.piece (Some (written (place_at 0 counts index) ys leaves))
        changed_to = subst (λ o. IsChanged pieces pieces' rec.piece (option_map (written (place_at 0 counts index) ys) o)) piece_is at_piece

        pub set_field_inv : IsHeap d t records sides pieces'
        set_field_inv =
            write_inv pieces' (written (place_at 0 counts index) ys leaves) changed_to (written_size counts leaves leaves_size index ys index_there told_counts.1) (Some ys)
            (written_fields counts leaves leaves_size index ys index_there told_counts.1)

        pub set_field_is : heap_of d t records sides pieces' a b ≡ with_field before o index ys
        set_field_is =
            ap (λ xs. made d xs a b (length sides))
            (write_objects pieces' (written (place_at 0 counts index) ys leaves) changed_to (written_size counts leaves leaves_size index ys index_there told_counts.1) (Some ys)
            (written_fields counts leaves leaves_size index ys index_there told_counts.1))

    -- ---- a field is emptied

    module _ (within : index < length (fields_in before o)) where
      pub cleared_there : index < length counts
      cleared_there = omega (arith, within, field_count_is)

      pub cleared_fits : IfSome (piece_in pieces rec.piece) (λ old. place.from + 1 ≤ length old)
      cleared_fits = subst (λ o. IfSome o (λ old. place.from + 1 ≤ length old)) (sym piece_is) (omega (arith, place_fits cleared_there))

      module _ (pieces' : Pieces) (at_piece : IsChanged pieces pieces' rec.piece (option_map (put_leaves (place_at 0 counts index).from (Blank ∷ [])) (piece_in pieces rec.piece))) where
        cleared_to : IsChanged pieces pieces' rec.piece (Some (put_leaves (place_at 0 counts index).from (Blank ∷ []) leaves))
        cleared_to = subst (λ o. IsChanged pieces pieces' rec.piece (option_map (put_leaves (place_at 0 counts index).from (Blank ∷ [])) o)) piece_is at_piece

        pub clear_inv : IsHeap d t records sides pieces'
        clear_inv =
            write_inv pieces' (put_leaves (place_at 0 counts index).from (Blank ∷ []) leaves) cleared_to (cleared_size counts leaves leaves_size index cleared_there) None
            (cleared_fields counts leaves leaves_size index cleared_there)

        pub clear_is : heap_of d t records sides pieces' a b ≡ changed (with_field_of index None) before o
        clear_is =
            ap (λ xs. made d xs a b (length sides))
            (write_objects pieces' (put_leaves (place_at 0 counts index).from (Blank ∷ []) leaves) cleared_to (cleared_size counts leaves leaves_size index cleared_there) None
            (cleared_fields counts leaves leaves_size index cleared_there))

    -- ---- a part of a written field is written anew

    module _ (from : ℕ) (ys : List Leaf) (there : is_some (field_in before o index) ≡ true) (fits : IfSome (field_in before o index) (λ old. from + length ys ≤ length old)) where
      pub part_index : index < length counts
      part_index = omega (arith, told_field (fields_in before o) index (ap is_some (sym read_index) ∙ there), field_count_is)

      old_is : (ls : List Leaf) × (field_in before o index ≡ Some ls)
      old_is = some_told (field_in before o index) there

      old_read : field_at leaves (place_at 0 counts index) ≡ Some old_is.0
      old_read = sym (field_seen part_index) ∙ old_is.1

      old_fits : from + length ys ≤ length old_is.0
      old_fits = subst (λ o. IfSome o (λ old. from + length ys ≤ length old)) old_is.1 fits

      pub part_fits : IfSome (piece_in pieces rec.piece) (λ old. place.from + 1 + from + length ys ≤ length old)
      part_fits =
          subst (λ o. IfSome o (λ old. place.from + 1 + from + length ys ≤ length old)) (sym piece_is)
          (part_within counts leaves leaves_size index from ys old_is.0 part_index old_read old_fits)

      module _ (pieces' : Pieces) (at_piece : IsChanged pieces pieces' rec.piece (option_map (put_leaves (place.from + 1 + from) ys) (piece_in pieces rec.piece))) where
        part_changed : IsChanged pieces pieces' rec.piece (Some (put_leaves (place.from + 1 + from) ys leaves))
        part_changed = subst (λ o. IsChanged pieces pieces' rec.piece (option_map (put_leaves (place.from + 1 + from) ys) o)) piece_is at_piece

        pub set_part_inv : IsHeap d t records sides pieces'
        set_part_inv =
            write_inv pieces' (put_leaves (place.from + 1 + from) ys leaves) part_changed (part_size counts leaves leaves_size index from ys old_is.0 part_index old_read old_fits)
            (Some (put_leaves from ys old_is.0)) (part_fields counts leaves leaves_size index from ys old_is.0 part_index old_read old_fits)

        object_fields : fields_told (Some (object_at d records sides pieces s)) ≡ fields_in before o
        object_fields = sym (ap fields_told (object_seen d t records sides pieces a b o s is))

        pub set_part_is : heap_of d t records sides pieces' a b ≡ with_part before o index from ys
        set_part_is =
            ap (λ xs. made d xs a b (length sides))
            (write_objects pieces' (put_leaves (place.from + 1 + from) ys leaves) part_changed (part_size counts leaves leaves_size index from ys old_is.0 part_index old_read old_fits)
            (Some (put_leaves from ys old_is.0)) (part_fields counts leaves leaves_size index from ys old_is.0 part_index old_read old_fits))
            ∙ ap (λ xs. made d xs a b (length sides)) same_call
          where
            read : unwrap_or (slice_get (object_at d records sides pieces s).fields index) None ≡ Some old_is.0
            read = ap (λ fs. unwrap_or (slice_get fs index) None) object_fields ∙ old_is.1

            same_call : (changed (with_field_of index (Some (put_leaves from ys old_is.0))) before o).objects ≡ (with_part before o index from ys).objects
            same_call =
                ap (λ y. set before.objects o.0 (option_map (with_field_of index (Some (put_leaves from ys old_is.0))) y)) (object_seen d t records sides pieces a b o s is)
                ∙ ap (λ ls. set before.objects o.0 (Some (with_field_of index (Some ls) (object_at d records sides pieces s)))) (sym (same_put from ys old_is.0))
                ∙ ap (λ f. set before.objects o.0 (Some (with_field_of index (option_map (calls.put_leaves from ys) f) (object_at d records sides pieces s)))) (sym read)
                ∙ ap (λ y. set before.objects o.0 y) (sym (ap (option_map (with_part_of index from ys)) (object_seen d t records sides pieces a b o s is)))

-- how many leaves a field's type has, also of a dead object
counted : (from : ℕ) (ns : List ℕ) (i : ℕ) → option_map (λ (p : FieldPlace). p.count) (slice_get (places_from from ns) i) ≡ slice_get ns i
counted from [] i = refl
counted from (n ∷ ns) zero = refl
counted from (n ∷ ns) (suc i) = counted (from + n + 1) ns i

module _ (d : Declarations) (t : Numbers) (records : List SlotRecord) (sides : List SlotSides) (pieces : Pieces) (o : ObjectId) (a b index : ℕ) where
  pub size_seen : (s : ℕ) → slot_in t o.0 ≡ Some s
      → option_map (λ (p : FieldPlace). p.count) (slice_get (places_of d (record_at records s).class) index) ≡ leaves_at (heap_of d t records sides pieces a b) o index
  size_seen s is =
      counted 0 (leaves_by_field d (record_at records s).class) index
      ∙ sym (ap (option_and_then (λ (x : HeapObject). slice_get (leaves_by_field d x.class) index)) (object_seen d t records sides pieces a b o s is))

  pub no_size_seen : slot_in t o.0 ≡ None → None ≡ leaves_at (heap_of d t records sides pieces a b) o index
  no_size_seen is = sym (ap (option_and_then (λ (x : HeapObject). slice_get (leaves_by_field d x.class) index)) (no_object_seen d t records sides pieces a b o is))
