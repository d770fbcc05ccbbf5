-- The list of the idle slots through changes of one slot.
use Rattle.std.proofs.Common.{◌≡◌, ℕ, zero, suc, ◌+◌, ◌<◌, ◌≤◌, List, [], ◌∷◌, ◌++◌, Bool, true, false, cond, eqb, length, set, refl, sym, ap, ◌∙◌, arith, inl, inr, length-append}
use Rattle.std.specs.Prelude.{count_by, ◌&&◌, ◌==◌}
use Rattle.std.proofs.lemmas.Bool.{cases_lt, eq-eqb, eqb-true, false≢true}
use Rattle.std.proofs.lemmas.Bool.Decides.{eqb_tells}
use Rattle.std.proofs.lemmas.List.{get_or-set_same, get_or-set_other, get_or_past, length-set}
use Rattle.std.proofs.lemmas.List.Sums.{sum_by-set, sum_by-append, count_by-le-length}
use Rattle.weak_unowned.specs.Sides.{idle_count, is_idle, is_idle_at, is_unnamed, no_sides, sides_at}
use Rattle.weak_unowned.specs.declared.side.SlotSides.{SlotSides}
use Rattle.weak_unowned.specs.inner.IdleSlots.{AreIdleSlots}

abbrev as_one : Bool → ℕ
as_one b = cond b 1 0

-- ---- one slot

idle_same : (slots : List SlotSides) (o : ℕ) (new : SlotSides) → o < length slots → is_idle_at (set slots o new) o ≡ is_idle new
idle_same slots o new lt = ap is_idle (get_or-set_same slots o new no_sides lt)

idle_other : (slots : List SlotSides) (o e : ℕ) (new : SlotSides) → (e ≡ o → ⊥) → is_idle_at (set slots o new) e ≡ is_idle_at slots e
idle_other slots o e new differs = ap is_idle (get_or-set_other slots o e new no_sides differs)

-- a slot that isn't there isn't idle
pub idle_is_there : (slots : List SlotSides) (o : ℕ) → is_idle_at slots o ≡ true → o < length slots
idle_is_there slots o idle =
    elim (cases_lt o (length slots)) [
      | inl lt ↦ lt
      | inr le ↦ absurd (false≢true (sym (ap is_idle (get_or_past slots o no_sides le)) ∙ idle))
    ]

-- a further slot is like one that isn't there
pub sides_behind : (slots : List SlotSides) (e : ℕ) → sides_at (slots ++ no_sides ∷ []) e ≡ sides_at slots e
sides_behind [] zero = refl
sides_behind [] (suc e) = refl
sides_behind (s ∷ slots) zero = refl
sides_behind (s ∷ slots) (suc e) = sides_behind slots e

-- ---- how many are idle

count_set : (slots : List SlotSides) (o : ℕ) (new : SlotSides) → o < length slots
    → idle_count (set slots o new) + cond (is_idle_at slots o) 1 0 ≡ idle_count slots + cond (is_idle new) 1 0
count_set slots o new lt = sum_by-set (λ s. cond (is_idle s) 1 0) slots o new no_sides lt

pub count_kept : (slots : List SlotSides) (o : ℕ) (new : SlotSides) → o < length slots → is_idle new ≡ is_idle_at slots o → idle_count (set slots o new) ≡ idle_count slots
count_kept slots o new lt same = omega (arith, count_set slots o new lt, ap as_one same)

pub count_more : (slots : List SlotSides) (o : ℕ) (new : SlotSides) → o < length slots → is_idle_at slots o ≡ false → is_idle new ≡ true
    → idle_count (set slots o new) ≡ idle_count slots + 1
count_more slots o new lt taken idle = omega (arith, count_set slots o new lt, ap as_one taken, ap as_one idle)

pub count_less : (slots : List SlotSides) (o : ℕ) (new : SlotSides) → o < length slots → is_idle_at slots o ≡ true → is_idle new ≡ false
    → idle_count (set slots o new) + 1 ≡ idle_count slots
count_less slots o new lt idle taken = omega (arith, count_set slots o new lt, ap as_one taken, ap as_one idle)

pub count_behind : (slots : List SlotSides) → idle_count (slots ++ no_sides ∷ []) ≡ idle_count slots
count_behind slots = omega (arith, sum_by-append (λ s. cond (is_idle s) 1 0) slots (no_sides ∷ []))

-- not all slots are idle, where one isn't
pub has_room : (slots : List SlotSides) (o : ℕ) → o < length slots → is_idle_at slots o ≡ false → idle_count slots < length slots
has_room slots o lt taken =
    let idle : SlotSides = record { unowned = 0; weak = 0; marked = true } in
    omega (arith, count_more slots o idle lt taken refl, count_by-le-length is_idle (set slots o idle), length-set slots o idle)

-- ---- the list

times_behind : (e : ℕ) (idle : List ℕ) (o : ℕ) → count_by (eqb e) (idle ++ o ∷ []) ≡ count_by (eqb e) idle + as_one (eqb e o)
times_behind e idle o = omega (arith, sum_by-append (λ x. cond (eqb e x) 1 0) idle (o ∷ []))

module _ (slots : List SlotSides) (o : ℕ) (new : SlotSides) (lt : o < length slots) where
  here : (e : ℕ) → e ≡ o → is_idle_at (set slots o new) e ≡ is_idle new
  here e is = ap (is_idle_at (set slots o new)) is ∙ idle_same slots o new lt

  there : (e : ℕ) → (e ≡ o → ⊥) → is_idle_at (set slots o new) e ≡ is_idle_at slots e
  there e differs = idle_other slots o e new differs

  -- the slot is idle just where it was
  pub still_idle : (idle : List ℕ) → AreIdleSlots slots idle → is_idle new ≡ is_idle_at slots o → AreIdleSlots (set slots o new) idle
  still_idle idle are same = record {
    each = λ e. elim (eqb_tells e o) [
      | inl p ↦ are.each e ∙ ap as_one (ap (is_idle_at slots) p.1 ∙ sym same ∙ sym (here e p.1))
      | inr p ↦ are.each e ∙ ap as_one (sym (there e p.1))
    ];
    count = are.count ∙ sym (count_kept slots o new lt same);
  }

  -- the slot is idle no longer
  pub idle_no_more : (rest : List ℕ) → AreIdleSlots slots (rest ++ o ∷ []) → is_idle_at slots o ≡ true → is_idle new ≡ false → AreIdleSlots (set slots o new) rest
  idle_no_more rest are idle now = record {
    each = λ e. elim (eqb_tells e o) [
      | inl p ↦
          let was : as_one (is_idle_at slots e) ≡ 1 = ap as_one (ap (is_idle_at slots) p.1 ∙ idle) in
          let is : as_one (is_idle_at (set slots o new) e) ≡ 0 = ap as_one (here e p.1 ∙ now) in
          omega (arith, times_behind e rest o, are.each e, was, is, ap as_one p.0)
      | inr p ↦ omega (arith, times_behind e rest o, are.each e, ap as_one (there e p.1), ap as_one p.0)
    ];
    count = omega (arith, are.count, count_less slots o new lt idle now, length-append rest (o ∷ []));
  }

-- what stands last in the list is idle
pub last_is_idle : (slots : List SlotSides) (rest : List ℕ) (o : ℕ) → AreIdleSlots slots (rest ++ o ∷ []) → is_idle_at slots o ≡ true
last_is_idle slots rest o are = by (is_idle_at slots o) refl
  where
    by : (b : Bool) → is_idle_at slots o ≡ b → b ≡ true
    by true is = refl
    by false is = absurd (omega (arith, times_behind o rest o, are.each o, ap as_one is, ap as_one (eq-eqb o o refl)))

-- a further slot isn't idle
pub one_more_slot : (slots : List SlotSides) (idle : List ℕ) → AreIdleSlots slots idle → AreIdleSlots (slots ++ no_sides ∷ []) idle
one_more_slot slots idle are = record {
  each = λ e. are.each e ∙ ap (λ s. as_one (is_idle s)) (sym (sides_behind slots e));
  count = are.count ∙ sym (count_behind slots);
}

-- a slot whose object a place names isn't idle

pub taken_weakly : (s : SlotSides) → 1 ≤ s.weak → is_idle s ≡ false
taken_weakly s some = by s.marked (s.unowned == 0) (s.weak == 0) refl
  where
    by : (m u w : Bool) → (s.weak == 0) ≡ w → (m && (u && w)) ≡ false
    by false u w is = refl
    by true false w is = refl
    by true true false is = refl
    by true true true is = absurd (omega (arith, some, eqb-true s.weak 0 is))

pub taken_unowned : (s : SlotSides) → 1 ≤ s.unowned → is_idle s ≡ false
taken_unowned s some = by s.marked (s.unowned == 0) refl
  where
    by : (m u : Bool) → (s.unowned == 0) ≡ u → (m && (u && (s.weak == 0))) ≡ false
    by false u is = refl
    by true false is = refl
    by true true is = absurd (omega (arith, some, eqb-true s.unowned 0 is))

pub taken_alive : (s : SlotSides) → s.marked ≡ false → is_idle s ≡ false
taken_alive s alive = ap (λ b. b && is_unnamed s) alive
