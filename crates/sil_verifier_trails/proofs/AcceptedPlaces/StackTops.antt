-- The slots that are allocated are a stack: what is deallocated is the newest.
use Rattle.std.proofs.Common.{◌≡◌, ◌≢◌, ℕ, List, [], ◌∷◌, ◌++◌, append_assoc, refl, sym, ap, ◌∙◌, subst, Bool, true, false, not, ◌&&◌, ◌||◌, eq-eqb, Some, None}
use Rattle.std.specs.Prelude.{◌==◌, cond, filter_map}
use Rattle.std.specs.List.{cons_option}
use Rattle.std.proofs.lemmas.Bool.{eqb-true, false≢true, true≢false}
use Rattle.std.proofs.lemmas.List.Elements.{filter_map-append}
use Rattle.sil_verifier_trails.specs.AcceptedTrails.inner.Accepted.{IsAcceptedIn}
use Rattle.sil_verifier_values.specs.memory_rules_accesses.Sources.{is_slot, sources_of}
use Rattle.sil_verifier_values.specs.memory_rules_accesses.declared.access.Access.{Access}
use Rattle.sil_verifier_values.specs.memory_rules_accesses.declared.access.Access.TheVariants.{Allocates, Begins, Deallocates, Does, Ends, Given, Mentions}
use Rattle.sil_verifier_values.specs.memory_rules_accesses.declared.source.Source.{Source}
use Rattle.sil_verifier_values.specs.memory_rules_parts.Switches.{when}
use Rattle.sil_verifier_values.specs.memory_rules_parts.declared.part.Part.TheVariants.{Allocation}
use Rattle.sil_verifier_values.specs.memory_rules_slots.Marks.{pair_mark}
use Rattle.sil_verifier_values.specs.memory_rules_slots.declared.mark.SlotMark.{SlotMark}
use Rattle.sil_verifier_values.specs.memory_rules_slots.declared.mark.SlotMark.TheVariants.{FirstOut, SecondOut}
use Rattle.sil_verifier_values.specs.memory_rules_slots.inner.Automaton.{order_step}
use Rattle.sil_verifier_trails.specs.RunTrails.inner.RunTrails.{IsRunTrail}
use Rattle.sil_verifier_trails.specs.AcceptedMemory.inner.PartTrails.{accesses_in}
use Rattle.sil_verifier_trails.proofs.AcceptedMemory.PartsTurned.{turn_by}
use Rattle.sil_verifier_trails.proofs.AcceptedMemory.Turning.{turned_each}
use Rattle.numbered_form.specs.Lists.{Each}
use Rattle.sil_verifier_values.specs.ownership_kinds_chains.OwnershipChains.Facts.{has, value_of}
use Rattle.sil_verifier_values.specs.reach_engine_marks.PathPatterns.Marks.{needs_off_turns_on, needs_on_turns_off}
use Rattle.reach_engine.specs.declared.scan.Step.TheVariants.{Go}
use Rattle.reach_engine.specs.inner.Run.{run}
use Rattle.reach_engine.proofs.Runs.{go-bad, run_split, same_Go}
use Rattle.sil_ast.specs.declared.function.Function.{Function}
use Rattle.sil_ast.specs.declared.place.ValueId.{ValueId}
use Rattle.sil_cfg.specs.declared.item.Item.{Item}
use Rattle.sil_rules.specs.declared.rule.Rule.TheVariants as rule
use Rattle.sil_verifier_values.specs.sil_types_declarations.TypeDefinitions.Declarations.{Declarations}
use Rattle.sil_verifier_trails.specs.AcceptedPlaces.inner.Stacks.{AreAllocatedOnce, AreNewestDeallocated, AreSlots, AreSlotsAllocated, IsNewest, slots_behind, slots_by, slots_on, without}
use Rattle.sil_verifier_trails.proofs.AcceptedPlaces.Followed.{access_finds, item_leaves}
use Rattle.sil_verifier_trails.proofs.AcceptedPlaces.PairsFollowed.{along, along_next, marks, pair_followed}
use Rattle.sil_verifier_trails.proofs.AcceptedPlaces.PartsThere.{allocation_there}
use Rattle.sil_verifier_trails.proofs.AcceptedPlaces.Stacked.{AreNew, IsNew, accesses_led, has_behind, has_without, is_later, state_in, state_of}

pub behind_append : (sources : List Source) (xs ys : List Access) (slots : List ValueId)
    → slots_behind sources (xs ++ ys) slots ≡ slots_behind sources ys (slots_behind sources xs slots)
behind_append sources [] ys slots = refl
behind_append sources (x ∷ xs) ys slots = behind_append sources xs ys (slots_by sources x slots)

-- ---- what holds of each slot that is there

module _ (P : ValueId → Type 0) where
  each_without : (v : ValueId) (slots : List ValueId) → Each P slots → Each P (without v slots)
  each_without v [] h = tt
  each_without v (w ∷ slots) h = by (w.0 == v.0) (each_without v slots h.1)
    where
      by : (b : Bool) → Each P (without v slots) → Each P (cond b (without v slots) (w ∷ without v slots))
      by true more = more
      by false more = (h.0, more)

module _ (sources : List Source) where
  abbrev IsSlot : ValueId → Type 0
  IsSlot v = is_slot sources v ≡ true

  slots_behind_one : (x : Access) (slots : List ValueId) → Each IsSlot slots → Each IsSlot (slots_by sources x slots)
  slots_behind_one (Ends v) slots h = h
  slots_behind_one (Begins v) slots h = h
  slots_behind_one (Allocates v) slots h = by (is_slot sources v) refl
    where
      by : (b : Bool) → is_slot sources v ≡ b → Each IsSlot (cond b (v ∷ slots) slots)
      by true is = (is, h)
      by false is = h
  slots_behind_one (Deallocates v) slots h = each_without IsSlot v slots h
  slots_behind_one (Given v content) slots h = h
  slots_behind_one (Does x) slots h = h
  slots_behind_one (Mentions v a) slots h = h

  pub are_slots_behind : (xs : List Access) (slots : List ValueId) → Each IsSlot slots → Each IsSlot (slots_behind sources xs slots)
  are_slots_behind [] slots h = h
  are_slots_behind (x ∷ xs) slots h = are_slots_behind xs (slots_by sources x slots) (slots_behind_one x slots h)

  -- none is there twice
  abbrev pub AreOnce : List ValueId → Type 0
  AreOnce [] = Unit {0}
  AreOnce (v ∷ slots) = (has slots v.0 ≡ false) × AreOnce slots

  gone_too : (v w : ValueId) (slots : List ValueId) → has slots w.0 ≡ false → has (without v slots) w.0 ≡ false
  gone_too v w slots none = has_without v w slots ∙ by (not (v.0 == w.0)) (has slots w.0) none
    where
      by : (a b : Bool) → b ≡ false → (a && b) ≡ false
      by true b e = e
      by false b e = refl

  once_without : (v : ValueId) (slots : List ValueId) → AreOnce slots → AreOnce (without v slots)
  once_without v [] h = tt
  once_without v (w ∷ slots) h = by (w.0 == v.0) (once_without v slots h.1)
    where
      by : (b : Bool) → AreOnce (without v slots) → AreOnce (cond b (without v slots) (w ∷ without v slots))
      by true more = more
      by false more = (gone_too v w slots h.0, more)

  once_behind_one : (x : Access) (slots : List ValueId) → IsNew sources x slots → AreOnce slots → AreOnce (slots_by sources x slots)
  once_behind_one (Ends v) slots new h = h
  once_behind_one (Begins v) slots new h = h
  once_behind_one (Allocates v) slots new h = by (is_slot sources v) refl
    where
      by : (b : Bool) → is_slot sources v ≡ b → AreOnce (cond b (v ∷ slots) slots)
      by true is = (new is, h)
      by false is = h
  once_behind_one (Deallocates v) slots new h = once_without v slots h
  once_behind_one (Given v content) slots new h = h
  once_behind_one (Does x) slots new h = h
  once_behind_one (Mentions v a) slots new h = h

  pub once_behind : (xs : List Access) (slots : List ValueId) → AreNew sources xs slots → AreOnce slots → AreOnce (slots_behind sources xs slots)
  once_behind [] slots new h = h
  once_behind (x ∷ xs) slots new h = once_behind xs (slots_by sources x slots) new.1 (once_behind_one x slots new.0 h)

  front_new : (xs ys : List Access) (slots : List ValueId) → AreNew sources (xs ++ ys) slots → AreNew sources xs slots
  front_new [] ys slots new = tt
  front_new (x ∷ xs) ys slots new = (new.0, front_new xs ys (slots_by sources x slots) new.1)

-- ---- along a trail

pub are_slots : AreSlots
are_slots d f [] = tt
are_slots d f (i ∷ t) = are_slots_behind (sources_of d f) (accesses_in d f i) (slots_on d f t) (are_slots d f t)

pub slots_allocated : AreSlotsAllocated
slots_allocated d f accepted slot is [] h = refl
slots_allocated d f accepted slot is (i ∷ t) h =
    item_leaves d f accepted (Allocation slot) (allocation_there d f slot is) refl t i h (has (slots_on d f t) slot.0) (slots_allocated d f accepted slot is t h.1)
    ∙ ap Some (sym (has_behind d f slot is (accesses_in d f i) (slots_on d f t)))

module _ (d : Declarations) (f : Function) (accepted : IsAcceptedIn d f) where
  abbrev sources : List Source
  sources = sources_of d f

  module _ (t : List Item) (i : Item) (h : IsRunTrail f (i ∷ t)) where
    abbrev behind : List Access → List ValueId
    behind front = slots_behind sources front (slots_on d f t)

    not_true : (b : Bool) → not b ≡ true → b ≡ false
    not_true true e = absurd (false≢true e)
    not_true false e = refl

    pub allocated_new : (front rest : List Access) (slot : ValueId) → accesses_in d f i ≡ front ++ Allocates slot ∷ rest → is_slot sources slot ≡ true
        → has (behind front) slot.0 ≡ false
    allocated_new front rest slot parts is =
        has_behind d f slot is front (slots_on d f t)
        ∙ not_true (turned_each (turn_by d f (Allocation slot)) front (has (slots_on d f t) slot.0))
        (access_finds d f accepted (Allocation slot) (allocation_there d f slot is) t i h front rest (Allocates slot) (needs_off_turns_on rule.StackOrder) parts
        (ap (λ b. when b (needs_off_turns_on rule.StackOrder)) (eq-eqb slot.0 slot.0 refl)) (has (slots_on d f t) slot.0)
        (slots_allocated d f accepted slot is t h.1))

    deallocated_there : (front rest : List Access) (slot : ValueId) → accesses_in d f i ≡ front ++ Deallocates slot ∷ rest → is_slot sources slot ≡ true
        → has (behind front) slot.0 ≡ true
    deallocated_there front rest slot parts is =
        has_behind d f slot is front (slots_on d f t)
        ∙ access_finds d f accepted (Allocation slot) (allocation_there d f slot is) t i h front rest (Deallocates slot) (needs_on_turns_off rule.StackOrder) parts
        (ap (λ b. when b (needs_on_turns_off rule.StackOrder)) (eq-eqb slot.0 slot.0 refl)) (has (slots_on d f t) slot.0)
        (slots_allocated d f accepted slot is t h.1)

    one_new : (front rest : List Access) (x : Access) → accesses_in d f i ≡ front ++ x ∷ rest → IsNew sources x (behind front)
    one_new front rest (Ends v) parts = tt
    one_new front rest (Begins v) parts = tt
    one_new front rest (Allocates v) parts = λ is. allocated_new front rest v parts is
    one_new front rest (Deallocates v) parts = tt
    one_new front rest (Given v content) parts = tt
    one_new front rest (Does x) parts = tt
    one_new front rest (Mentions v a) parts = tt

    rest_new : (front rest : List Access) → accesses_in d f i ≡ front ++ rest → AreNew sources rest (behind front)
    rest_new front [] parts = tt
    rest_new front (x ∷ rest) parts = (
      one_new front rest x parts,
      subst (AreNew sources rest) (behind_append sources front (x ∷ []) (slots_on d f t))
          (rest_new (front ++ x ∷ []) rest (parts ∙ sym (append_assoc front (x ∷ []) rest))),
    )

    pub item_new : AreNew sources (accesses_in d f i) (slots_on d f t)
    item_new = rest_new [] (accesses_in d f i) refl

  pub once_on : (t : List Item) → IsRunTrail f t → AreOnce sources (slots_on d f t)
  once_on [] h = tt
  once_on (i ∷ t) h = once_behind sources (accesses_in d f i) (slots_on d f t) (item_new t i h) (once_on t h.1)

  module _ (a b : ValueId) (apart : b.0 ≢ a.0) (slot_a : is_slot sources a ≡ true) (slot_b : is_slot sources b ≡ true) where
    abbrev state : List ValueId → ℕ
    state slots = state_in sources a b apart slot_a slot_b slots

    -- the automaton is where the slots say
    pair_state : (t : List Item) → IsRunTrail f t → run order_step (Go 0) (along d f accepted a slot_a b slot_b t) ≡ Go (state (slots_on d f t))
    pair_state [] h = refl
    pair_state (i ∷ t) h =
        let went = pair_followed d f accepted a slot_a b slot_b (i ∷ t) h in
        let own = marks d f accepted a slot_a b slot_b i in
        let split = run_split order_step (Go 0) (along d f accepted a slot_a b slot_b t) own went.0
        (ap (run order_step (Go 0)) (sym (along_next d f accepted a slot_a b slot_b i t)) ∙ went.1) in
        let was : split.0 ≡ state (slots_on d f t) = same_Go split.0 (state (slots_on d f t)) (sym split.1 ∙ pair_state t h.1) in
        let is = accesses_led sources a b apart slot_a slot_b (accesses_in d f i) (slots_on d f t) (item_new t i h) went.0
        (ap (λ s. run order_step (Go s) own) (sym was) ∙ split.2) in
        went.1 ∙ ap Go is

    -- it goes on from there by the marks of the next item
    item_led : (t : List Item) (i : Item) → IsRunTrail f (i ∷ t)
        → (r : ℕ) × (run order_step (Go (state (slots_on d f t))) (filter_map (pair_mark a b) (accesses_in d f i)) ≡ Go r)
    item_led t i h =
        let went = pair_followed d f accepted a slot_a b slot_b (i ∷ t) h in
        let own = marks d f accepted a slot_a b slot_b i in
        let split = run_split order_step (Go 0) (along d f accepted a slot_a b slot_b t) own went.0
        (ap (run order_step (Go 0)) (sym (along_next d f accepted a slot_a b slot_b i t)) ∙ went.1) in
        let was : split.0 ≡ state (slots_on d f t) = same_Go split.0 (state (slots_on d f t)) (sym split.1 ∙ pair_state t h.1) in
        (went.0, ap (λ s. run order_step (Go s) own) (sym was) ∙ split.2)

    -- and so behind some of its accesses
    pub front_led : (t : List Item) (i : Item) → IsRunTrail f (i ∷ t) → (front rest : List Access) → accesses_in d f i ≡ front ++ rest
        → (r : ℕ) × (run order_step (Go (state (slots_behind sources front (slots_on d f t)))) (filter_map (pair_mark a b) rest) ≡ Go r)
    front_led t i h front rest parts =
        let went = item_led t i h in
        let both = ap (filter_map (pair_mark a b)) parts ∙ filter_map-append (pair_mark a b) front rest in
        let inner = run_split order_step (Go (state (slots_on d f t))) (filter_map (pair_mark a b) front) (filter_map (pair_mark a b) rest) went.0
        (ap (run order_step (Go (state (slots_on d f t)))) (sym both) ∙ went.1) in
        let new = front_new sources front rest (slots_on d f t) (subst (λ xs. AreNew sources xs (slots_on d f t)) parts (item_new t i h)) in
        let is = accesses_led sources a b apart slot_a slot_b front (slots_on d f t) new inner.0 inner.1 in
        (went.0, ap (λ s. run order_step (Go s) (filter_map (pair_mark a b) rest)) (sym is) ∙ inner.2)

  not_equal : (v w : ValueId) → (w.0 == v.0) ≡ false → w.0 ≢ v.0
  not_equal v w e same = true≢false (sym (eq-eqb w.0 v.0 same) ∙ e)

  newest : (t : List Item) (i : Item) → IsRunTrail f (i ∷ t) → (front rest : List Access) (slot : ValueId)
      → accesses_in d f i ≡ front ++ Deallocates slot ∷ rest → is_slot sources slot ≡ true → IsNewest (slots_behind sources front (slots_on d f t)) slot
  newest t i h front rest slot parts is =
      at (slots_behind sources front (slots_on d f t)) refl (deallocated_there t i h front rest slot parts is)
      (are_slots_behind sources front (slots_on d f t) (are_slots d f t))
      (once_behind sources front (slots_on d f t)
      (front_new sources front (Deallocates slot ∷ rest) (slots_on d f t) (subst (λ xs. AreNew sources xs (slots_on d f t)) parts (item_new t i h))) (once_on t h.1))
    where
      -- another one that is newer
      newer : (w : ValueId) (older : List ValueId) → slots_behind sources front (slots_on d f t) ≡ w ∷ older → has (w ∷ older) slot.0 ≡ true
          → is_slot sources w ≡ true → (w.0 == slot.0) ≡ false → ⊥
      newer w older stack there slot_w other =
          let went = front_led slot w (not_equal slot w other) is slot_w t i h front (Deallocates slot ∷ rest) parts in
          let itself : (slot.0 == slot.0) ≡ true = eq-eqb slot.0 slot.0 refl in
          let first : pair_mark slot w (Deallocates slot) ≡ Some FirstOut = ap (λ b. cond b (Some FirstOut) (cond (slot.0 == w.0) (Some SecondOut) None)) itself in
          let in_older : has older slot.0 ≡ true = sym (ap (λ b. b || has older slot.0) other) ∙ there in
          let at_w : (w.0 == w.0) ≡ true = eq-eqb w.0 w.0 refl in
          let is_three : state_in sources slot w (not_equal slot w other) is slot_w (w ∷ older) ≡ 3 =
          three (has (w ∷ older) slot.0) (has (w ∷ older) w.0) _ there (ap (λ b. b || has older w.0) at_w)
          (ap (λ b. cond b (has older slot.0) (cond (w.0 == slot.0) false (is_later slot w older))) at_w ∙ in_older) in
          bad (filter_map (pair_mark slot w) rest) went.0
          (ap (λ s. run order_step (Go s) (FirstOut ∷ filter_map (pair_mark slot w) rest)) (sym (ap (state_in sources slot w (not_equal slot w other) is slot_w) stack ∙ is_three))
          ∙ ap (λ o. run order_step (Go (state_in sources slot w (not_equal slot w other) is slot_w (slots_behind sources front (slots_on d f t))))
          (cons_option o (filter_map (pair_mark slot w) rest)))
          (sym first) ∙ went.1)
        where
          three : (x y l : Bool) → x ≡ true → y ≡ true → l ≡ true → state_of x y l ≡ 3
          three x y l hx hy hl = ap (λ b. state_of b y l) hx ∙ ap (λ b. state_of true b l) hy ∙ ap (λ b. state_of true true b) hl

          bad : (ms : List SlotMark) (r : ℕ) → run order_step (Go 3) (FirstOut ∷ ms) ≡ Go r → ⊥
          bad ms r e = let one = run_split order_step (Go 3) (FirstOut ∷ []) ms r e in go-bad one.0 _ (sym one.1)

      at : (slots : List ValueId) → slots_behind sources front (slots_on d f t) ≡ slots → has slots slot.0 ≡ true
          → Each (λ v. is_slot sources v ≡ true) slots → AreOnce sources slots → IsNewest slots slot
      at [] stack there all once = absurd (false≢true there)
      at (w ∷ older) stack there all once = by (w.0 == slot.0) refl
        where
          by : (b : Bool) → (w.0 == slot.0) ≡ b → IsNewest (w ∷ older) slot
          by true same =
              let equal : w ≡ slot = ap value_of (eqb-true w.0 slot.0 same) in
              record { older = older; parts = ap (λ v. v ∷ older) equal; once = ap (λ v. has older v.0) (sym equal) ∙ once.0 }
          by false other = absurd (newer w older stack there all.0 other)

pub newest_deallocated : AreNewestDeallocated
newest_deallocated d f accepted t i h front rest slot parts is = newest d f accepted t i h front rest slot parts is

pub allocated_once : AreAllocatedOnce
allocated_once d f accepted t i h front rest slot parts is = allocated_new d f accepted t i h front rest slot parts is
