-- Which of two slots' automata an item moves.
use Rattle.std.proofs.Common.{◌≡◌, ◌≢◌, ℕ, ◌+◌, ◌<◌, ◌≤◌, List, [], ◌∷◌, ◌++◌, length, get_or, take, refl, sym, ap, ◌∙◌, subst, ◌⊎◌, inl, inr, All, Bool, true, false, Some, None, arith}
use Rattle.std.specs.Prelude.{◌==◌, cond, Contains, AllPairs, eqb, unwrap_or}
use Rattle.std.specs.List.{dedup}
use Rattle.std.specs.List.Sorted.{IsPermutation, IsNonDecreasingBy}
use Rattle.std.proofs.lemmas.Bool.{cases_eq, cases_lt, eqb-true, eq-eqb}
use Rattle.std.proofs.lemmas.List.Elements.{All-head, All-tail, All-more, All-push, Contains-append_left, Contains-push}
use Rattle.std.proofs.lemmas.List.Folds.{list_any_at}
use Rattle.std.proofs.lemmas.Option.{slice_get-get_or}
use Rattle.sil_ast.specs.declared.place.ValueId.{ValueId}
use Rattle.reach_engine.specs.declared.scan.Step.TheVariants.{Go}
use Rattle.reach_engine.specs.inner.Run.{run}
use Rattle.memory_rules_accesses.specs.reach_engine_marks.PathPatterns.inner.Reads.{read_step, step_in}
use Rattle.memory_rules_slots.proofs.Rising.{contains_sorted}
use Rattle.memory_rules_accesses.specs.declared.access.Access.{Access}
use Rattle.memory_rules_accesses.specs.declared.access.Access.TheVariants.{Ends, Begins, Allocates, Deallocates, Given, Does, Mentions}
use Rattle.memory_rules_slots.specs.inner.Automaton.{order_step}
use Rattle.memory_rules_slots.specs.Marks.{pair_mark}
use Rattle.memory_rules_slots.specs.inner.Touched.{slot_in, is_in, has_slot, IsPut, HasTouched}
use Rattle.memory_rules_slots.specs.declared.mark.SlotMark.TheVariants.{FirstIn, FirstOut, SecondIn, SecondOut}

unmarked : (a b : ValueId) (x : Access) → slot_in x ≢ Some a.0 → slot_in x ≢ Some b.0 → pair_mark a b x ≡ None
unmarked a b (Allocates v) h k = at (v.0 == a.0) (v.0 == b.0) refl refl
  where
    at : (t u : Bool) → (v.0 == a.0) ≡ t → (v.0 == b.0) ≡ u → cond t (Some FirstIn) (cond u (Some SecondIn) None) ≡ None
    at true u ea eb = absurd (h (ap Some (eqb-true v.0 a.0 ea)))
    at false true ea eb = absurd (k (ap Some (eqb-true v.0 b.0 eb)))
    at false false ea eb = refl
unmarked a b (Deallocates v) h k = at (v.0 == a.0) (v.0 == b.0) refl refl
  where
    at : (t u : Bool) → (v.0 == a.0) ≡ t → (v.0 == b.0) ≡ u → cond t (Some FirstOut) (cond u (Some SecondOut) None) ≡ None
    at true u ea eb = absurd (h (ap Some (eqb-true v.0 a.0 ea)))
    at false true ea eb = absurd (k (ap Some (eqb-true v.0 b.0 eb)))
    at false false ea eb = refl
unmarked a b (Ends v) h k = refl
unmarked a b (Begins v) h k = refl
unmarked a b (Given v content) h k = refl
unmarked a b (Does x) h k = refl
unmarked a b (Mentions v m) h k = refl

-- accesses of other slots leave the state of two as it is
pub quiet_pair : (a b : ValueId) (xs : List Access) (s : ℕ) → All (λ x. slot_in x ≢ Some a.0) xs → All (λ x. slot_in x ≢ Some b.0) xs → run (read_step order_step (pair_mark a b)) (Go s) xs ≡ Go s
quiet_pair a b [] s h k = refl
quiet_pair a b (x ∷ xs) s h k =
    ap (λ r. run (read_step order_step (pair_mark a b)) r xs) (ap (step_in order_step s) (unmarked a b x (All-head (λ x. slot_in x ≢ Some a.0) x xs h) (All-head (λ x. slot_in x ≢ Some b.0) x xs k)))
    ∙ quiet_pair a b xs s (All-tail (λ x. slot_in x ≢ Some a.0) x xs h) (All-tail (λ x. slot_in x ≢ Some b.0) x xs k)

true_not_false : true ≡ false → ⊥
true_not_false h = cc

pub not_in : (v : ValueId) (xs : List Access) → has_slot v xs ≡ false → All (λ x. slot_in x ≢ Some v.0) xs
not_in v xs e i d lt same = true_not_false (sym (list_any_at (λ x. is_in v.0 (slot_in x)) xs i d lt (ap (is_in v.0) same ∙ eq-eqb v.0 v.0 refl)) ∙ e)

-- one access more
pub touched_put : (slots : List ValueId) (xs : List Access) (i : ℕ) (d : Access) (old new : List ℕ) → i < length xs → HasTouched slots (take i xs) old → IsPut slots (get_or xs i d) old new
    → HasTouched slots (take (i + 1) xs) new
touched_put slots xs i d old new lt h (inl p) u e lu none =
    All-more (λ x. slot_in x ≢ Some (get_or slots u e).0) xs i d lt (h u e lu (λ c. none (subst (λ l. Contains l u) (sym p.3) (Contains-append_left old (p.0 ∷ []) u c))))
    (λ same. none (subst (λ l. Contains l u) (sym p.3) (subst (Contains (old ++ p.0 ∷ [])) (sym (p.2 u e lu same)) (Contains-push old p.0))))
touched_put slots xs i d old new lt h (inr p) u e lu none =
    All-more (λ x. slot_in x ≢ Some (get_or slots u e).0) xs i d lt (h u e lu (λ c. none (subst (λ l. Contains l u) (sym p.1) c))) (p.0 u e lu)

pub below_put : (slots : List ValueId) (x : Access) (old new : List ℕ) → All (λ p. p < length slots) old → IsPut slots x old new → All (λ p. p < length slots) new
below_put slots x old new h (inl p) = subst (All (λ p. p < length slots)) (sym p.3) (All-push (λ p. p < length slots) old p.0 h p.1)
below_put slots x old new h (inr p) = subst (All (λ p. p < length slots)) (sym p.1) h

pub touched_sorted : (slots : List ValueId) (xs : List Access) (old sorted out : List ℕ) → HasTouched slots xs old → IsPermutation old sorted → out ≡ dedup eqb sorted → HasTouched slots xs out
touched_sorted slots xs old sorted out h moved is u d lu none = h u d lu (λ c. none (contains_sorted old sorted out moved is u c))

pub touched_none : (slots : List ValueId) (places : List ℕ) → HasTouched slots [] places
touched_none slots places u d lu none k e lt = absurd (let n : length {A = Access} [] ≡ 0 = refl in omega (arith, n))

-- where a search for a number ends in ascending slots
module _ (slots : List ValueId) (value : ℕ) (ascending : AllPairs (λ a b. a.0 < b.0) slots) where
  pub no_place : (place : ℕ) → ((k : ℕ) (d : ValueId) → k < place → (get_or slots k d).0 < value) → (place < length slots → (d : ValueId) → value < (get_or slots place d).0) → (k : ℕ) (d : ValueId)
      → k < length slots → (get_or slots k d).0 ≢ value
  no_place place low high k d within e = at (cases_lt k place) (cases_lt place k)
    where
      at : (k < place) ⊎ (place ≤ k) → (place < k) ⊎ (k ≤ place) → ⊥
      at (inl l) m = let less = low k d l in omega arith
      at (inr l) (inl m) = let less : (get_or slots place d).0 < (get_or slots k d).0 = ascending place k d m within in let more = high (omega arith) d in omega arith
      at (inr l) (inr m) = let same : k ≡ place = omega arith in let equal : (get_or slots k d).0 ≡ (get_or slots place d).0 = ap (λ n. (get_or slots n d).0) same in
          let more = high (omega arith) d in omega arith

  pub nondecreasing : IsNonDecreasingBy (λ v. v.0) slots
  nondecreasing i j d le within = at (cases_eq i j)
    where
      at : (i ≡ j) ⊎ (i ≢ j) → (get_or slots i d).0 ≤ (get_or slots j d).0
      at (inl e) = let same : (get_or slots i d).0 ≡ (get_or slots j d).0 = ap (λ n. (get_or slots n d).0) e in omega arith
      at (inr ne) = let less : (get_or slots i d).0 < (get_or slots j d).0 = ascending i j d (omega arith) within in omega arith

-- what is read within a list is the same whatever stands past its end
pub same_read : {A : Type 0} (xs : List A) (i : ℕ) (d e : A) → i < length xs → get_or xs i d ≡ get_or xs i e
same_read xs i d e lt = ap (λ o. unwrap_or o d) (sym (slice_get-get_or xs i d lt) ∙ slice_get-get_or xs i e lt)
