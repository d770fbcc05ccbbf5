-- What each part of a heap's memory changes in one object.
use Rattle.std.proofs.Common.{◌≡◌, ℕ, ◌<◌, List, true, false, cond, Option, Some, None, inl, inr, is_some, length, length-set, set, refl, sym, ap, ◌∙◌, arith}
use Rattle.std.specs.Prelude.{option_map}
use Rattle.std.proofs.lemmas.Bool.{and_parts, cases_eq, eq-eqb, false≢true, ne_eqb}
use Rattle.std.proofs.lemmas.List.{get_or-set_same, get_or-set_other}
use Rattle.sil_types.specs.sil_types_declarations.TypeDefinitions.Declarations.{Declarations}
use Rattle.holder_model_values.specs.RunValues.Memory.{is_dead_phase}
use Rattle.holder_model_values.specs.declared.run_values.leaf.Leaf.{Leaf}
use Rattle.weak_unowned.specs.Sides.{is_idle, is_unnamed, no_sides, sides_at}
use Rattle.weak_unowned.specs.declared.side.SlotSides.{SlotSides}
use Rattle.weak_unowned.proofs.Idle.{count_kept, count_more}
use Rattle.number_tables.specs.TableByNumber.Numbers.{AreApart, Numbers, slot_in, without}
use Rattle.count_heap.specs.PooledLeaves.Pieces.{IsChanged, Pieces, piece_in}
use Rattle.count_heap.specs.LayoutsByClass.ClassFields.{leaves_by_field}
use Rattle.count_heap.specs.LayoutsByClass.Layouts.{size_of}
use Rattle.count_heap.specs.declared.slot_record.SlotRecord.{SlotRecord}
use Rattle.count_heap.specs.inner.Kept.{IsAlive, IsHeap, IsKept}
use Rattle.count_heap.specs.inner.Objects.{no_record, object_at, object_of, objects_in, record_at}
use Rattle.count_heap.proofs.OneObject.{Elsewhere, freed_heap, freed_view, kept_heap, kept_view}

sized_is_some : (x : Option (List Leaf)) (n : ℕ) → option_map (λ ls. length ls) x ≡ Some n → is_some x ≡ true
sized_is_some None n e = absurd (cc)
sized_is_some (Some ls) n e = refl

module _ (d : Declarations) (t : Numbers) (records : List SlotRecord) (sides : List SlotSides) (pieces : Pieces) (heap : IsHeap d t records sides pieces) (apart : AreApart t)
    (o s : ℕ) (is : slot_in t o ≡ Some s) where
  here : IsKept d records sides pieces s
  here = heap.kept o s is

  in_records : s < length records
  in_records = omega (arith, here.there, heap.records_are)

  -- ---- the record

  module _ (r : SlotRecord) (class : r.class ≡ (record_at records s).class) (piece : r.piece ≡ (record_at records s).piece)
      (phase : is_dead_phase r.phase ≡ is_dead_phase (record_at records s).phase) where
    record_is : record_at (set records s r) s ≡ r
    record_is = get_or-set_same records s r no_record in_records

    record_else : Elsewhere t records sides pieces (set records s r) sides pieces s
    record_else = record {
      sides_are = refl;
      records_are = length-set records s r;
      record_of = λ u other. get_or-set_other records s u r no_record other;
      sides_of = λ u other. refl;
      piece_of = λ n u named other alive. refl;
      out_before = λ p out. out;
      out_here = λ p out alive of_it. (ap (λ x. is_dead_phase x.phase) record_is ∙ phase ∙ alive, ap (λ x. x.piece) record_is ∙ piece ∙ of_it);
    }

    was_alive : IsAlive (set records s r) s → IsAlive records s
    was_alive alive = sym (ap (λ x. is_dead_phase x.phase) record_is ∙ phase) ∙ alive

    record_kept : IsKept d (set records s r) sides pieces s
    record_kept = record {
      there = here.there;
      marked = here.marked ∙ sym (ap (λ x. is_dead_phase x.phase) record_is ∙ phase);
      taken = here.taken;
      piece = λ alive.
          ap (λ x. option_map (λ ls. length ls) (piece_in pieces x.piece)) record_is ∙ ap (λ p. option_map (λ ls. length ls) (piece_in pieces p)) piece
          ∙ here.piece (was_alive alive) ∙ sym (ap (λ x. Some (size_of (leaves_by_field d x.class))) record_is ∙ ap (λ c. Some (size_of (leaves_by_field d c))) class);
    }

    pub record_heap : IsHeap d t (set records s r) sides pieces
    record_heap =
        kept_heap d t records sides pieces heap apart o s is (set records s r) sides pieces record_else record_kept
        (λ alive. (was_alive alive, ap (λ x. x.piece) record_is ∙ piece)) refl

    pub record_view : objects_in d t (set records s r) sides pieces ≡ set (objects_in d t records sides pieces) o (Some (object_of d r (sides_at sides s) pieces))
    record_view =
        kept_view d t records sides pieces heap apart o s is (set records s r) sides pieces record_else
        ∙ ap (λ x. set (objects_in d t records sides pieces) o (Some (object_of d x (sides_at sides s) pieces))) record_is

  -- ---- the side counts

  module _ (x : SlotSides) (marked : x.marked ≡ (sides_at sides s).marked) where
    sides_is : sides_at (set sides s x) s ≡ x
    sides_is = get_or-set_same sides s x no_sides here.there

    sides_else : Elsewhere t records sides pieces records (set sides s x) pieces s
    sides_else = record {
      sides_are = length-set sides s x;
      records_are = refl;
      record_of = λ u other. refl;
      sides_of = λ u other. get_or-set_other sides s u x no_sides other;
      piece_of = λ n u named other alive. refl;
      out_before = λ p out. out;
      out_here = λ p out alive of_it. (alive, of_it);
    }

    pub sides_view : objects_in d t records (set sides s x) pieces ≡ set (objects_in d t records sides pieces) o (Some (object_of d (record_at records s) x pieces))
    sides_view =
        kept_view d t records sides pieces heap apart o s is records (set sides s x) pieces sides_else
        ∙ ap (λ y. set (objects_in d t records sides pieces) o (Some (object_of d (record_at records s) y pieces))) sides_is

    module _ (taken : is_idle x ≡ false) where
      sides_kept : IsKept d records (set sides s x) pieces s
      sides_kept = record {
        there = omega (arith, here.there, length-set sides s x);
        marked = ap (λ y. y.marked) sides_is ∙ marked ∙ here.marked;
        taken = ap is_idle sides_is ∙ taken;
        piece = here.piece;
      }

      pub sides_heap : IsHeap d t records (set sides s x) pieces
      sides_heap =
          kept_heap d t records sides pieces heap apart o s is records (set sides s x) pieces sides_else sides_kept (λ alive. (alive, refl))
          (count_kept sides s x here.there (taken ∙ sym here.taken))

    module _ (idle : is_idle x ≡ true) where
      is_dead : IsAlive records s → ⊥
      is_dead alive = false≢true (sym alive ∙ sym here.marked ∙ sym marked ∙ (and_parts x.marked (is_unnamed x) idle).0)

      pub sides_freed_heap : IsHeap d (without t o) records (set sides s x) pieces
      sides_freed_heap =
          freed_heap d t records sides pieces heap apart o s is records (set sides s x) pieces sides_else is_dead (count_more sides s x here.there here.taken idle)

      pub sides_freed_view : objects_in d (without t o) records (set sides s x) pieces ≡ set (objects_in d t records sides pieces) o None
      sides_freed_view = freed_view d t records sides pieces heap apart o s is records (set sides s x) pieces sides_else

  -- ---- the leaves

  module _ (alive : IsAlive records s) (pieces' : Pieces) (new : Option (List Leaf)) (changed : IsChanged pieces pieces' (record_at records s).piece new) where
    piece_now : piece_in pieces' (record_at records s).piece ≡ new
    piece_now =
        changed (record_at records s).piece
        ∙ ap (λ b. cond b new (piece_in pieces (record_at records s).piece)) (eq-eqb (record_at records s).piece (record_at records s).piece refl)

    piece_other : (n u : ℕ) → slot_in t n ≡ Some u → (u ≡ s → ⊥) → IsAlive records u → piece_in pieces' (record_at records u).piece ≡ piece_in pieces (record_at records u).piece
    piece_other n u named other alive_u =
        changed (record_at records u).piece
        ∙ ap (λ b. cond b new (piece_in pieces (record_at records u).piece))
        (ne_eqb (record_at records u).piece (record_at records s).piece (λ same. other (heap.apart n o u s named is alive_u alive same)))

    -- the piece was given out, and so were all others
    out_was : (p : ℕ) → is_some (piece_in pieces' p) ≡ true → is_some (piece_in pieces p) ≡ true
    out_was p out =
        elim (cases_eq p (record_at records s).piece) [
          | inl of_it ↦
              ap (λ q. is_some (piece_in pieces q)) of_it
              ∙ sized_is_some (piece_in pieces (record_at records s).piece) (size_of (leaves_by_field d (record_at records s).class)) (here.piece alive)
          | inr other ↦
              sym (ap is_some (changed p ∙ ap (λ b. cond b new (piece_in pieces p)) (ne_eqb p (record_at records s).piece other))) ∙ out
        ]

    module _ (size : option_map (λ ls. length ls) new ≡ option_map (λ ls. length ls) (piece_in pieces (record_at records s).piece)) where
      leaves_else : Elsewhere t records sides pieces records sides pieces' s
      leaves_else = record {
        sides_are = refl;
        records_are = refl;
        record_of = λ u other. refl;
        sides_of = λ u other. refl;
        piece_of = piece_other;
        out_before = out_was;
        out_here = λ p out alive_s of_it. (alive_s, of_it);
      }

      leaves_kept : IsKept d records sides pieces' s
      leaves_kept = record {
        there = here.there;
        marked = here.marked;
        taken = here.taken;
        piece = λ alive. ap (option_map (λ ls. length ls)) piece_now ∙ size ∙ here.piece alive;
      }

      pub leaves_heap : IsHeap d t records sides pieces'
      leaves_heap = kept_heap d t records sides pieces heap apart o s is records sides pieces' leaves_else leaves_kept (λ alive. (alive, refl)) refl

      pub leaves_view : objects_in d t records sides pieces' ≡ set (objects_in d t records sides pieces) o (Some (object_at d records sides pieces' s))
      leaves_view = kept_view d t records sides pieces heap apart o s is records sides pieces' leaves_else

    -- ---- death: the record, the side counts and the leaves

    module _ (none : new ≡ None) (r : SlotRecord) (dead : is_dead_phase r.phase ≡ true) (x : SlotSides) (marked : x.marked ≡ true) where
      -- the piece isn't given out any more
      not_out : (p : ℕ) → is_some (piece_in pieces' p) ≡ true → (record_at records s).piece ≡ p → ⊥
      not_out p out of_it = false≢true (sym (ap (λ q. is_some (piece_in pieces' q)) (sym of_it) ∙ ap is_some (piece_now ∙ none)) ∙ out)

      death_else : Elsewhere t records sides pieces (set records s r) (set sides s x) pieces' s
      death_else = record {
        sides_are = length-set sides s x;
        records_are = length-set records s r;
        record_of = λ u other. get_or-set_other records s u r no_record other;
        sides_of = λ u other. get_or-set_other sides s u x no_sides other;
        piece_of = piece_other;
        out_before = out_was;
        out_here = λ p out alive_s of_it. absurd (not_out p out of_it);
      }

      record_dead : record_at (set records s r) s ≡ r
      record_dead = get_or-set_same records s r no_record in_records

      sides_dead : sides_at (set sides s x) s ≡ x
      sides_dead = get_or-set_same sides s x no_sides here.there

      not_alive : IsAlive (set records s r) s → ⊥
      not_alive alive = false≢true (sym alive ∙ ap (λ y. is_dead_phase y.phase) record_dead ∙ dead)

      module _ (taken : is_idle x ≡ false) where
        dead_kept : IsKept d (set records s r) (set sides s x) pieces' s
        dead_kept = record {
          there = omega (arith, here.there, length-set sides s x);
          marked = ap (λ y. y.marked) sides_dead ∙ marked ∙ sym (ap (λ y. is_dead_phase y.phase) record_dead ∙ dead);
          taken = ap is_idle sides_dead ∙ taken;
          piece = λ alive. absurd (not_alive alive);
        }

        pub dead_heap : IsHeap d t (set records s r) (set sides s x) pieces'
        dead_heap =
            kept_heap d t records sides pieces heap apart o s is (set records s r) (set sides s x) pieces' death_else dead_kept (λ alive. absurd (not_alive alive))
            (count_kept sides s x here.there (taken ∙ sym here.taken))

        pub dead_view : objects_in d t (set records s r) (set sides s x) pieces' ≡ set (objects_in d t records sides pieces) o (Some (object_of d r x pieces'))
        dead_view =
            kept_view d t records sides pieces heap apart o s is (set records s r) (set sides s x) pieces' death_else
            ∙ ap (λ y. set (objects_in d t records sides pieces) o (Some (object_of d y (sides_at (set sides s x) s) pieces'))) record_dead
            ∙ ap (λ y. set (objects_in d t records sides pieces) o (Some (object_of d r y pieces'))) sides_dead

      module _ (idle : is_idle x ≡ true) where
        pub freed_dead_heap : IsHeap d (without t o) (set records s r) (set sides s x) pieces'
        freed_dead_heap =
            freed_heap d t records sides pieces heap apart o s is (set records s r) (set sides s x) pieces' death_else not_alive (count_more sides s x here.there here.taken idle)

        pub freed_dead_view : objects_in d (without t o) (set records s r) (set sides s x) pieces' ≡ set (objects_in d t records sides pieces) o None
        freed_dead_view = freed_view d t records sides pieces heap apart o s is (set records s r) (set sides s x) pieces' death_else
