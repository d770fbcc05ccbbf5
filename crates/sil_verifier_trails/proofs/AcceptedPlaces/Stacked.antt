-- The automaton of two slots knows which of them are allocated, and which of them is the newer one.
use Rattle.std.proofs.Common.{◌≡◌, ◌≢◌, ℕ, List, [], ◌∷◌, refl, sym, ap, ◌∙◌, Bool, true, false, not, ◌&&◌, ◌||◌, Option, Some, None}
use Rattle.std.specs.Prelude.{◌==◌, cond, filter_map, option_and_then, unwrap_or}
use Rattle.std.specs.List.{cons_option}
use Rattle.std.proofs.lemmas.Bool.{eqb-true, true≢false}
use Rattle.sil_verifier_values.specs.memory_rules_accesses.Sources.{is_slot, sources_of}
use Rattle.sil_verifier_values.specs.memory_rules_accesses.declared.access.Access.{Access}
use Rattle.sil_verifier_values.specs.memory_rules_accesses.declared.access.Access.TheVariants.{Allocates, Begins, Deallocates, Does, Ends, Given, Mentions}
use Rattle.sil_verifier_values.specs.memory_rules_accesses.declared.source.Source.{Source}
use Rattle.sil_verifier_values.specs.memory_rules_slots.Marks.{one_of, pair_mark}
use Rattle.sil_verifier_values.specs.memory_rules_slots.declared.mark.SlotMark.{SlotMark}
use Rattle.sil_verifier_values.specs.memory_rules_slots.declared.mark.SlotMark.TheVariants.{FirstIn, FirstOut, SecondIn, SecondOut}
use Rattle.sil_verifier_values.specs.memory_rules_slots.inner.Automaton.{order_step}
use Rattle.sil_verifier_values.specs.memory_rules_parts.Switches.{when}
use Rattle.sil_verifier_values.specs.memory_rules_parts.declared.part.Part.TheVariants.{Allocation}
use Rattle.sil_verifier_trails.proofs.AcceptedMemory.PartsTurned.{turn_by}
use Rattle.sil_verifier_trails.proofs.AcceptedMemory.Turning.{turned_each}
use Rattle.sil_verifier_values.specs.ownership_kinds_chains.OwnershipChains.Facts.{has, value_of}
use Rattle.sil_verifier_values.specs.reach_engine_marks.declared.path_patterns.mark.Mark.{Mark}
use Rattle.reach_engine.specs.declared.scan.Step.{Step}
use Rattle.reach_engine.specs.declared.scan.Step.TheVariants.{Go}
use Rattle.reach_engine.specs.inner.Run.{run}
use Rattle.reach_engine.proofs.Runs.{go-bad, run_split, same_Go}
use Rattle.sil_ast.specs.declared.function.Function.{Function}
use Rattle.sil_ast.specs.declared.place.ValueId.{ValueId}
use Rattle.sil_verifier_values.specs.sil_types_declarations.TypeDefinitions.Declarations.{Declarations}
use Rattle.sil_verifier_trails.specs.AcceptedPlaces.inner.Stacks.{slots_behind, slots_by, without}

-- the second of two slots is the newer one
abbrev pub is_later : ValueId → ValueId → List ValueId → Bool
is_later a b [] = false
is_later a b (w ∷ slots) = cond (w.0 == b.0) (has slots a.0) (cond (w.0 == a.0) false (is_later a b slots))

abbrev pub state_of : Bool → Bool → Bool → ℕ
state_of false false later = 0
state_of true false later = 1
state_of false true later = 2
state_of true true true = 3
state_of true true false = 4

-- ---- what is taken away

nothing_both : (b : Bool) → (not b && false) ≡ false
nothing_both true = refl
nothing_both false = refl

pub has_without : (v a : ValueId) (slots : List ValueId) → has (without v slots) a.0 ≡ (not (v.0 == a.0) && has slots a.0)
has_without v a [] = sym (nothing_both (v.0 == a.0))
has_without v a (w ∷ slots) =
    pushed (w.0 == v.0)
    ∙ ap (λ h. cond (w.0 == v.0) h ((w.0 == a.0) || h)) (has_without v a slots)
    ∙ bits (w.0 == v.0) (v.0 == a.0) (w.0 == a.0) (has slots a.0)
    (λ e. ap (λ n. n == a.0) (eqb-true w.0 v.0 e)) (λ e. ap (λ n. w.0 == n) (sym (eqb-true v.0 a.0 e)))
  where
    bits : (x p y h : Bool) → (x ≡ true → y ≡ p) → (p ≡ true → y ≡ x) → cond x (not p && h) (y || (not p && h)) ≡ (not p && (y || h))
    bits true true y h one other = refl
    bits true false true h one other = absurd (true≢false (one refl))
    bits true false false h one other = refl
    bits false true true h one other = absurd (true≢false (other refl))
    bits false true false h one other = refl
    bits false false y h one other = refl

    pushed : (x : Bool) → has (cond x (without v slots) (w ∷ without v slots)) a.0
        ≡ cond x (has (without v slots) a.0) ((w.0 == a.0) || has (without v slots) a.0)
    pushed true = refl
    pushed false = refl

later_without : (v a b : ValueId) → (v.0 == a.0) ≡ false → (v.0 == b.0) ≡ false → (slots : List ValueId) → is_later a b (without v slots) ≡ is_later a b slots
later_without v a b not_a not_b [] = refl
later_without v a b not_a not_b (w ∷ slots) = by (later_without v a b not_a not_b slots) (w.0 == v.0) refl
  where
    by : is_later a b (without v slots) ≡ is_later a b slots → (x : Bool) → (w.0 == v.0) ≡ x
        → is_later a b (cond x (without v slots) (w ∷ without v slots)) ≡ is_later a b (w ∷ slots)
    by same_later true is =
        let same : w.0 ≡ v.0 = eqb-true w.0 v.0 is in
        same_later
        ∙ sym (ap (λ x. cond x (has slots a.0) (cond (w.0 == a.0) false (is_later a b slots))) (ap (λ n. n == b.0) same ∙ not_b)
        ∙ ap (λ x. cond x false (is_later a b slots)) (ap (λ n. n == a.0) same ∙ not_a))
    by same_later false is =
        ap (λ h. cond (w.0 == b.0) h (cond (w.0 == a.0) false (is_later a b (without v slots))))
        (has_without v a slots ∙ ap (λ x. not x && has slots a.0) not_a)
        ∙ ap (λ h. cond (w.0 == b.0) (has slots a.0) (cond (w.0 == a.0) false h)) same_later

-- ---- how the automaton's steps go

abbrev goes_by : Option SlotMark → ℕ → Step
goes_by None s = Go s
goes_by (Some m) s = order_step s m

run_first : (o : Option SlotMark) (ms : List SlotMark) (s r : ℕ) → run order_step (Go s) (cons_option o ms) ≡ Go r
    → (q : ℕ) × (goes_by o s ≡ Go q) × (run order_step (Go q) ms ≡ Go r)
run_first None ms s r e = (s, refl, e)
run_first (Some m) ms s r e = run_split order_step (Go s) (m ∷ []) ms r e

-- which of two slots an access is of; whether each is allocated; and whether the second is newer
allocated_bits : (p q x y l : Bool) → (p ≡ true → q ≡ true → ⊥) → (p ≡ true → x ≡ false) → (q ≡ true → y ≡ false) → (r : ℕ)
    → goes_by (cond p (Some FirstIn) (cond q (Some SecondIn) None)) (state_of x y l) ≡ Go r → r ≡ state_of (p || x) (q || y) (cond q x (cond p false l))
allocated_bits true true x y l not_both new_x new_y r e = absurd (not_both refl refl)
allocated_bits true false true y l not_both new_x new_y r e = absurd (true≢false (new_x refl))
allocated_bits true false false true l not_both new_x new_y r e = sym (same_Go 4 r e)
allocated_bits true false false false l not_both new_x new_y r e = sym (same_Go 1 r e)
allocated_bits false true x true l not_both new_x new_y r e = absurd (true≢false (new_y refl))
allocated_bits false true true false l not_both new_x new_y r e = sym (same_Go 3 r e)
allocated_bits false true false false l not_both new_x new_y r e = sym (same_Go 2 r e)
allocated_bits false false x y l not_both new_x new_y r e = sym (same_Go (state_of x y l) r e)

deallocated_bits : (p q x y l k : Bool) → (p ≡ true → q ≡ true → ⊥) → (p ≡ false → q ≡ false → k ≡ l) → (r : ℕ)
    → goes_by (cond p (Some FirstOut) (cond q (Some SecondOut) None)) (state_of x y l) ≡ Go r → r ≡ state_of (not p && x) (not q && y) k
deallocated_bits true true x y l k not_both other r e = absurd (not_both refl refl)
deallocated_bits true false false false l k not_both other r e = sym (same_Go 0 r e)
deallocated_bits true false true false l k not_both other r e = sym (same_Go 0 r e)
deallocated_bits true false false true l k not_both other r e = sym (same_Go 2 r e)
deallocated_bits true false true true true k not_both other r e = absurd (go-bad r _ (sym e))
deallocated_bits true false true true false k not_both other r e = sym (same_Go 2 r e)
deallocated_bits false true false false l k not_both other r e = sym (same_Go 0 r e)
deallocated_bits false true true false l k not_both other r e = sym (same_Go 1 r e)
deallocated_bits false true false true l k not_both other r e = sym (same_Go 0 r e)
deallocated_bits false true true true true k not_both other r e = sym (same_Go 1 r e)
deallocated_bits false true true true false k not_both other r e = sym (same_Go 1 r e)
deallocated_bits false false x y l k not_both other r e = sym (same_Go (state_of x y l) r e) ∙ ap (state_of x y) (sym (other refl refl))

-- a slot that is allocated isn't there yet
abbrev pub IsNew : List Source → Access → List ValueId → Type 0
IsNew sources (Ends v) slots = Unit {0}
IsNew sources (Begins v) slots = Unit {0}
IsNew sources (Allocates v) slots = is_slot sources v ≡ true → has slots v.0 ≡ false
IsNew sources (Deallocates v) slots = Unit {0}
IsNew sources (Given v content) slots = Unit {0}
IsNew sources (Does x) slots = Unit {0}
IsNew sources (Mentions v a) slots = Unit {0}

-- each access finds a new slot new
abbrev pub AreNew : List Source → List Access → List ValueId → Type 0
AreNew sources [] slots = Unit {0}
AreNew sources (x ∷ xs) slots = IsNew sources x slots × AreNew sources xs (slots_by sources x slots)

module _ (sources : List Source) (a b : ValueId) (apart : b.0 ≢ a.0) (slot_a : is_slot sources a ≡ true) (slot_b : is_slot sources b ≡ true) where
  abbrev pub state_in : List ValueId → ℕ
  state_in slots = state_of (has slots a.0) (has slots b.0) (is_later a b slots)

  not_both : (v : ValueId) → (v.0 == a.0) ≡ true → (v.0 == b.0) ≡ true → ⊥
  not_both v is_a is_b = apart (sym (eqb-true v.0 b.0 is_b) ∙ eqb-true v.0 a.0 is_a)

  is_itself : (v w : ValueId) → (v.0 == w.0) ≡ true → v ≡ w
  is_itself v w e = ap value_of (eqb-true v.0 w.0 e)

  allocated : (v : ValueId) (slots : List ValueId) → (is_slot sources v ≡ true → has slots v.0 ≡ false) → (r : ℕ)
      → goes_by (one_of a b v FirstIn SecondIn) (state_in slots) ≡ Go r → r ≡ state_in (cond (is_slot sources v) (v ∷ slots) slots)
  allocated v slots new r e = by (is_slot sources v) refl
    where
      new_first : (v.0 == a.0) ≡ true → has slots a.0 ≡ false
      new_first is = let same = is_itself v a is in ap (λ w. has slots w.0) (sym same) ∙ new (ap (is_slot sources) same ∙ slot_a)

      new_second : (v.0 == b.0) ≡ true → has slots b.0 ≡ false
      new_second is = let same = is_itself v b is in ap (λ w. has slots w.0) (sym same) ∙ new (ap (is_slot sources) same ∙ slot_b)

      bits : r ≡ state_in (v ∷ slots)
      bits = allocated_bits (v.0 == a.0) (v.0 == b.0) (has slots a.0) (has slots b.0) (is_later a b slots) (not_both v) new_first new_second r e

      neither : (w : ValueId) → is_slot sources w ≡ true → is_slot sources v ≡ false → (x : Bool) → (v.0 == w.0) ≡ x → x ≡ false
      neither w slot none true is = absurd (true≢false (sym slot ∙ sym (ap (is_slot sources) (is_itself v w is)) ∙ none))
      neither w slot none false is = refl

      by : (k : Bool) → is_slot sources v ≡ k → r ≡ state_in (cond k (v ∷ slots) slots)
      by true is = bits
      by false is =
          let no_a : (v.0 == a.0) ≡ false = neither a slot_a is (v.0 == a.0) refl in
          let no_b : (v.0 == b.0) ≡ false = neither b slot_b is (v.0 == b.0) refl in
          let quiet : one_of a b v FirstIn SecondIn ≡ None =
          ap (λ x. cond x (Some FirstIn) (cond (v.0 == b.0) (Some SecondIn) None)) no_a ∙ ap (λ x. cond x (Some SecondIn) None) no_b in
          sym (same_Go (state_in slots) r (ap (λ o. goes_by o (state_in slots)) (sym quiet) ∙ e))

  deallocated : (v : ValueId) (slots : List ValueId) (r : ℕ)
      → goes_by (one_of a b v FirstOut SecondOut) (state_in slots) ≡ Go r → r ≡ state_in (without v slots)
  deallocated v slots r e =
      deallocated_bits (v.0 == a.0) (v.0 == b.0) (has slots a.0) (has slots b.0) (is_later a b slots) (is_later a b (without v slots)) (not_both v)
      (λ no_a no_b. later_without v a b no_a no_b slots) r e
      ∙ ap (λ x. state_of x (not (v.0 == b.0) && has slots b.0) (is_later a b (without v slots))) (sym (has_without v a slots))
      ∙ ap (λ y. state_of (has (without v slots) a.0) y (is_later a b (without v slots))) (sym (has_without v b slots))

  pub step_led : (x : Access) (slots : List ValueId) → IsNew sources x slots → (r : ℕ) → goes_by (pair_mark a b x) (state_in slots) ≡ Go r
      → r ≡ state_in (slots_by sources x slots)
  step_led (Ends v) slots new r e = sym (same_Go (state_in slots) r e)
  step_led (Begins v) slots new r e = sym (same_Go (state_in slots) r e)
  step_led (Allocates v) slots new r e = allocated v slots new r e
  step_led (Deallocates v) slots new r e = deallocated v slots r e
  step_led (Given v content) slots new r e = sym (same_Go (state_in slots) r e)
  step_led (Does x) slots new r e = sym (same_Go (state_in slots) r e)
  step_led (Mentions v m) slots new r e = sym (same_Go (state_in slots) r e)

  pub accesses_led : (xs : List Access) (slots : List ValueId) → AreNew sources xs slots → (r : ℕ)
      → run order_step (Go (state_in slots)) (filter_map (pair_mark a b) xs) ≡ Go r → r ≡ state_in (slots_behind sources xs slots)
  accesses_led [] slots new r e = sym (same_Go (state_in slots) r e)
  accesses_led (x ∷ xs) slots new r e =
      let first = run_first (pair_mark a b x) (filter_map (pair_mark a b) xs) (state_in slots) r e in
      let is = step_led x slots new.0 first.0 first.1 in
      accesses_led xs (slots_by sources x slots) new.1 r (ap (λ s. run order_step (Go s) (filter_map (pair_mark a b) xs)) (sym is) ∙ first.2)

-- ---- a slot is there just while it is allocated

module _ (d : Declarations) (f : Function) (slot : ValueId) (is : is_slot (sources_of d f) slot ≡ true) where
  opened : (v : ValueId) (slots : List ValueId) → has (cond (is_slot (sources_of d f) v) (v ∷ slots) slots) slot.0
      ≡ unwrap_or (cond (v.0 == slot.0) (Some true) None) (has slots slot.0)
  opened v slots = by (is_slot (sources_of d f) v) refl (v.0 == slot.0) refl
    where
      by : (k : Bool) → is_slot (sources_of d f) v ≡ k → (p : Bool) → (v.0 == slot.0) ≡ p
          → has (cond k (v ∷ slots) slots) slot.0 ≡ unwrap_or (cond p (Some true) None) (has slots slot.0)
      by true is_slot_v true e = ap (λ b. b || has slots slot.0) e
      by true is_slot_v false e = ap (λ b. b || has slots slot.0) e
      by false no_slot true e = absurd (true≢false (sym is ∙ sym (ap (is_slot (sources_of d f)) (ap value_of (eqb-true v.0 slot.0 e))) ∙ no_slot))
      by false no_slot false e = refl

  closed : (v : ValueId) (slots : List ValueId) → has (without v slots) slot.0 ≡ unwrap_or (cond (v.0 == slot.0) (Some false) None) (has slots slot.0)
  closed v slots = has_without v slot slots ∙ by (v.0 == slot.0)
    where
      by : (p : Bool) → (not p && has slots slot.0) ≡ unwrap_or (cond p (Some false) None) (has slots slot.0)
      by true = refl
      by false = refl

  turned_when : (p : Bool) (m : Mark) (on : Bool) → m.turns ≡ Some on → option_and_then (λ m. m.turns) (when p m) ≡ cond p (Some on) None
  turned_when true m on e = e
  turned_when false m on e = refl

  has_by : (x : Access) (slots : List ValueId) → has (slots_by (sources_of d f) x slots) slot.0 ≡ unwrap_or (turn_by d f (Allocation slot) x) (has slots slot.0)
  has_by (Ends v) slots = refl
  has_by (Begins v) slots = refl
  has_by (Allocates v) slots = opened v slots ∙ ap (λ o. unwrap_or o (has slots slot.0)) (sym (turned_when (v.0 == slot.0) _ true refl))
  has_by (Deallocates v) slots = closed v slots ∙ ap (λ o. unwrap_or o (has slots slot.0)) (sym (turned_when (v.0 == slot.0) _ false refl))
  has_by (Given v content) slots = refl
  has_by (Does x) slots = refl
  has_by (Mentions v m) slots = refl

  pub has_behind : (xs : List Access) (slots : List ValueId)
      → has (slots_behind (sources_of d f) xs slots) slot.0 ≡ turned_each (turn_by d f (Allocation slot)) xs (has slots slot.0)
  has_behind [] slots = refl
  has_behind (x ∷ xs) slots =
      has_behind xs (slots_by (sources_of d f) x slots) ∙ ap (turned_each (turn_by d f (Allocation slot)) xs) (has_by x slots)
