-- The slot of a new object.
use Rattle.std.proofs.Common.{◌≡◌, ℕ, ◌+◌, ◌<◌, ◌≤◌, List, [], ◌∷◌, Bool, true, false, Some, inl, inr, is_some, length, length-set, length-append, refl, sym, ap, ◌∙◌, arith}
use Rattle.std.specs.Prelude.{count_by, max, ◌&&◌, ◌==◌}
use Rattle.std.proofs.lemmas.Bool.{eqb-true, false≢true}
use Rattle.std.proofs.lemmas.List.{get_or-set_same, get_or-set_other}
use Rattle.sil_types.specs.sil_types_declarations.TypeDefinitions.Declarations.{Declarations}
use Rattle.weak_unowned.specs.Sides.{idle_count, is_idle, is_unnamed, no_sides, sides_at, unmarked}
use Rattle.weak_unowned.specs.declared.side.SlotSides.{SlotSides}
use Rattle.weak_unowned.proofs.Idle.{count_behind, count_less, sides_behind}
use Rattle.number_tables.specs.TableByNumber.Numbers.{Numbers, slot_in}
use Rattle.count_heap.specs.PooledLeaves.Pieces.{Pieces}
use Rattle.count_heap.specs.declared.slot_record.SlotRecord.{SlotRecord}
use Rattle.count_heap.specs.inner.Allocating.{IsSlotForNew, TakesIdle, TakesNew}
use Rattle.count_heap.specs.inner.Kept.{IsHeap}

-- a slot that no object has, with nothing noted of it. The others are as before
pub record IsFresh (t : Numbers) (before after : List SlotSides) (s : ℕ) : Type 0 where
  pub there : s < length after
  pub new : sides_at after s ≡ no_sides
  pub other : (u : ℕ) → (u ≡ s → ⊥) → sides_at after u ≡ sides_at before u
  pub longer : length before ≤ length after
  pub free : (n : ℕ) → slot_in t n ≡ Some s → ⊥
  pub idle : length after + idle_count before ≡ 1 + length before + idle_count after
  pub slots : length after ≡ max (length before) (count_by is_some t.places + 1)

past : (slots : List SlotSides) → sides_at slots (length slots) ≡ no_sides
past [] = refl
past (s ∷ slots) = past slots

both_true : (a b : Bool) → (a && b) ≡ true → (a ≡ true) × (b ≡ true)
both_true true b is = (refl, is)
both_true false b is = absurd (false≢true is)

-- an idle slot that is unmarked is like a new one
cleared : (x : SlotSides) → is_idle x ≡ true → unmarked x ≡ no_sides
cleared x idle =
    let unnamed = (both_true x.marked (is_unnamed x) idle).1 in
    let none = both_true (x.unowned == 0) (x.weak == 0) unnamed in
    ap (λ n. record { unowned = n; weak = x.weak; marked = false }) (eqb-true x.unowned 0 none.0)
    ∙ ap (λ n. record { unowned = 0; weak = n; marked = false }) (eqb-true x.weak 0 none.1)

module _ (d : Declarations) (t : Numbers) (records : List SlotRecord) (before after : List SlotSides) (pieces : Pieces) (heap : IsHeap d t records before pieces) (s : ℕ) where
  fresh_idle : TakesIdle before after s → IsFresh t before after s
  fresh_idle takes =
      let clear : unmarked (sides_at before s) ≡ no_sides = cleared (sides_at before s) takes.idle in
      let same : length after ≡ length before = ap (λ xs. length xs) takes.after_is ∙ length-set before s (unmarked (sides_at before s)) in
      let less : idle_count after + 1 ≡ idle_count before =
      ap (λ xs. idle_count xs + 1) takes.after_is ∙ count_less before s (unmarked (sides_at before s)) takes.there takes.idle (ap is_idle clear) in
      record {
        there = omega (arith, takes.there, same);
        new = ap (λ xs. sides_at xs s) takes.after_is ∙ get_or-set_same before s (unmarked (sides_at before s)) no_sides takes.there ∙ clear;
        other = λ u differs. ap (λ xs. sides_at xs u) takes.after_is ∙ get_or-set_other before s u (unmarked (sides_at before s)) no_sides differs;
        longer = omega (arith, same);
        free = λ n named. false≢true (sym (heap.kept n s named).taken ∙ takes.idle);
        idle = omega (arith, same, less);
        slots = omega (arith, same, less, heap.count);
      }

  fresh_new : TakesNew before after s → IsFresh t before after s
  fresh_new takes =
      let more : length after ≡ length before + 1 = ap (λ xs. length xs) takes.after_is ∙ length-append before (no_sides ∷ []) in
      let same : idle_count after ≡ idle_count before = ap idle_count takes.after_is ∙ count_behind before in
      record {
        there = omega (arith, takes.last, more);
        new = ap (λ xs. sides_at xs s) takes.after_is ∙ sides_behind before s ∙ ap (sides_at before) takes.last ∙ past before;
        other = λ u differs. ap (λ xs. sides_at xs u) takes.after_is ∙ sides_behind before u;
        longer = omega (arith, more);
        free = λ n named. let within = (heap.kept n s named).there in absurd (omega (arith, within, takes.last));
        idle = omega (arith, same, more);
        slots = omega (arith, takes.none, more, heap.count);
      }

  pub fresh : IsSlotForNew before after s → IsFresh t before after s
  fresh (inl takes) = fresh_idle takes
  fresh (inr takes) = fresh_new takes
