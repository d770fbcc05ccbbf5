-- The nearest crossing of the first slot that has one is the first of what walks show.
use Rattle.std.proofs.Common.{◌≡◌, ◌≢◌, ℕ, ◌+◌, ◌<◌, ◌≤◌, List, [], ◌∷◌, ◌++◌, length, take, get_or, refl, sym, ap, ◌∙◌}
use Rattle.std.proofs.Common.{subst, ◌⊎◌, inl, inr, All, Option, Some, None, Bool, true, false, arith}
use Rattle.std.specs.Prelude.{◌==◌, cond, Contains, filter_map, flat_map}
use Rattle.std.specs.List.{cons_option}
use Rattle.std.proofs.lemmas.Bool.{cases_eq, cases_lt}
use Rattle.std.proofs.lemmas.List.Elements.{All-nil, All-cons, All-head, All-tail, All-append, All-contains, All-more, Contains-append_right, Contains-get_or}
use Rattle.sil_ast.specs.declared.place.EdgeId.{EdgeId}
use Rattle.sil_ast.specs.declared.place.ValueId.{ValueId}
use Rattle.sil_ast.specs.declared.function.Function.{Function}
use Rattle.sil_cfg.specs.declared.item.Item.{Item}
use Rattle.sil_cfg.specs.declared.item.Item.TheVariants.{Entry, Inst, Edge, Exit}
use Rattle.sil_cfg.specs.Layout.{Layout, item_at}
use Rattle.sil_cfg.specs.Flow.{Flow, numbered, point_of}
use Rattle.sil_cfg.specs.Items.{flow_of}
use Rattle.sil_cfg.specs.inner.Build.{IsGraphOf}
use Rattle.sil_rules.specs.Order.{NotAfter}
use Rattle.reach_engine.specs.declared.scan.Step.TheVariants.{Go}
use Rattle.reach_engine.specs.inner.Run.{run}
use Rattle.reach_engine.specs.inner.Reach.{ReachesFirst}
use Rattle.ownership_kinds_chains.specs.declared.ownership_chains.facts.Facts.{Facts}
use Rattle.ownership_kinds_chains.specs.OwnershipMarks.Known.{AreKindsBy, Known}
use Rattle.memory_rules_accesses.specs.reach_engine_marks.PathPatterns.Along.{Shows}
use Rattle.memory_rules_accesses.specs.reach_engine_marks.PathPatterns.inner.Reads.{AgreesWith}
use Rattle.memory_rules_accesses.proofs.reach_engine_marks.PathPatterns.GraphPatterns.{shown_there, shown_back}
use Rattle.memory_rules_accesses.proofs.reach_engine_marks.PathPatterns.PatternsDecided.{reached_shown, shown_reached}
use Rattle.memory_rules_accesses.proofs.reach_engine_marks.PathPatterns.MarksRead.{read_run}
use Rattle.memory_rules_accesses.specs.declared.access.Access.{Access}
use Rattle.memory_rules_accesses.specs.declared.access.Access.TheVariants.{Ends, Begins, Allocates, Deallocates, Given, Does, Mentions}
use Rattle.memory_rules_accesses.specs.declared.source.Source.{Source}
use Rattle.memory_rules_accesses.specs.Accesses.{accesses_of}
use Rattle.memory_rules_slots.specs.Order.{IsOrdered, code_of, crossing_code}
use Rattle.memory_rules_slots.specs.inner.Automaton.{order_step}
use Rattle.memory_rules_slots.specs.Marks.{pair_mark}
use Rattle.memory_rules_slots.specs.inner.Automaton.{pair_step}
use Rattle.memory_rules_slots.specs.Pairs.{IsSlot, IsCrossing, IsFirstCrossing, crossing_key}
use Rattle.memory_rules_slots.specs.inner.Searches.{AreSlots, IsUncrossed, IsFar, IsNearestCrossing, IsNearest}
use Rattle.memory_rules_slots.specs.declared.crossing.Crossing.{Crossing}
use Rattle.memory_rules_slots.specs.declared.mark.SlotMark.{SlotMark}
use Rattle.memory_rules_slots.specs.declared.mark.SlotMark.TheVariants.{FirstIn, FirstOut, SecondIn, SecondOut}
use Rattle.memory_rules_slots.proofs.OrderDecided.{order_decides}
use Rattle.memory_rules_slots.proofs.SlotsListed.{same_value, slot_within, slot_before}

-- a slot isn't the later one of itself
no_second : (a b : ValueId) → b.0 ≡ a.0 → (x : Access) → pair_mark a b x ≡ Some SecondIn → ⊥
no_second a b same (Allocates v) e = at (v.0 == a.0) (sym (ap (λ n. cond (v.0 == a.0) (Some FirstIn) (cond (v.0 == n) (Some SecondIn) None)) same) ∙ e)
  where
    at : (t : Bool) → cond t (Some FirstIn) (cond t (Some SecondIn) None) ≡ Some SecondIn → ⊥
    at true e = cc
    at false e = cc
no_second a b same (Deallocates v) e = at (v.0 == a.0) (v.0 == b.0) e
  where
    at : (t u : Bool) → cond t (Some FirstOut) (cond u (Some SecondOut) None) ≡ Some SecondIn → ⊥
    at true u e = cc
    at false true e = cc
    at false false e = cc
no_second a b same (Ends v) e = cc
no_second a b same (Begins v) e = cc
no_second a b same (Given v content) e = cc
no_second a b same (Does x) e = cc
no_second a b same (Mentions v m) e = cc

never_second : (a b : ValueId) → b.0 ≡ a.0 → (accesses : List Access) → All (λ m. m ≢ SecondIn) (filter_map (pair_mark a b) accesses)
never_second a b same [] = All-nil (λ m. m ≢ SecondIn)
never_second a b same (x ∷ accesses) = at (pair_mark a b x) (no_second a b same x) (never_second a b same accesses)
  where
    at : (o : Option SlotMark) → (o ≡ Some SecondIn → ⊥) → All (λ m. m ≢ SecondIn) (filter_map (pair_mark a b) accesses)
        → All (λ m. m ≢ SecondIn) (cons_option o (filter_map (pair_mark a b) accesses))
    at None never rest = rest
    at (Some m) never rest = All-cons (λ m. m ≢ SecondIn) m (filter_map (pair_mark a b) accesses) (λ e. never (ap Some e)) rest

never_along : (a b : ValueId) → b.0 ≡ a.0 → (items : Item → List Access) (trail : List Item) → All (λ m. m ≢ SecondIn) (flat_map (λ i. filter_map (pair_mark a b) (items i)) trail)
never_along a b same items [] = All-nil (λ m. m ≢ SecondIn)
never_along a b same items (i ∷ trail) =
    All-append (λ m. m ≢ SecondIn) (filter_map (pair_mark a b) (items i)) (flat_map (λ i. filter_map (pair_mark a b) (items i)) trail)
    (never_second a b same (items i)) (never_along a b same items trail)

all_front : {A : Type 0} (P : A → Type 0) (xs ys : List A) → All P (xs ++ ys) → All P xs
all_front P [] ys h = All-nil P
all_front P (x ∷ xs) ys h = All-cons P x xs (All-head P x (xs ++ ys) h) (all_front P xs ys (All-tail P x (xs ++ ys) h))

-- without a later slot each mark is in place
in_order : (marks : List SlotMark) → All (λ m. m ≢ SecondIn) marks → (mark : SlotMark) → IsOrdered marks mark
in_order marks none FirstIn = tt
in_order marks none FirstOut = λ after. All-contains (λ m. m ≢ SecondIn) marks SecondIn none
    (subst (λ v. Contains v SecondIn) (sym after.parts) (Contains-append_right after.before (SecondIn ∷ after.since) SecondIn (0, omega arith, refl))) refl
in_order marks none SecondIn = tt
in_order marks none SecondOut = tt

-- so the two slots of a break aren't one
two_slots : (g : Flow Item) (items : Item → List Access) (a b : ValueId) (w : List EdgeId) (code : ℕ) (item : Item) →
    Shows g (λ i. filter_map (pair_mark a b) (items i)) IsOrdered code_of w code item → b.0 ≢ a.0
two_slots g items a b w code item h same =
    let front : All (λ m. m ≢ SecondIn) h.breaks.front =
    all_front (λ m. m ≢ SecondIn) h.breaks.front (h.breaks.mark ∷ h.breaks.rest) (subst (All (λ m. m ≢ SecondIn)) h.breaks.parts (never_second a b same (items item))) in
    let before : List SlotMark = flat_map (λ i. filter_map (pair_mark a b) (items i)) h.before in
    h.breaks.out_of_place
    (in_order (before ++ h.breaks.front) (All-append (λ m. m ≢ SecondIn) before h.breaks.front (never_along a b same items h.before) front) h.breaks.mark)

point_same : (g : Layout) (f : Function) → IsGraphOf g f → (item : Item) → point_of (numbered g) item ≡ point_of (flow_of f) item
point_same g f is Entry = refl
point_same g f is (Inst p) = refl
point_same g f is (Edge e) = ap (λ n. record { block = e.block; index = n }) (is.last e.block.0)
point_same g f is (Exit p) = refl

first_then : (x y : ℕ) (xs ys : List ℕ) → x ≤ y → (x ≡ y → NotAfter xs ys) → NotAfter (x ∷ xs) (y ∷ ys)
first_then x y xs ys le more = at (cases_eq x y)
  where
    at : (x ≡ y) ⊎ (x ≢ y) → NotAfter (x ∷ xs) (y ∷ ys)
    at (inl e) = inr (e, more e)
    at (inr n) = inl (omega arith)

module _ (g : Layout) (f : Function) (is : IsGraphOf g f) (accesses : ℕ → List Access) where
  module _ (items : Item → List Access) (agrees : AgreesWith g accesses items) where
    marks_agree : (a b : ValueId) → AgreesWith g (λ i. filter_map (pair_mark a b) (accesses i)) (λ i. filter_map (pair_mark a b) (items i))
    marks_agree a b i item e = ap (filter_map (pair_mark a b)) (agrees i item e)

    accesses_read : (a b : ValueId) (s i : ℕ) → pair_step accesses a b s i ≡ run order_step (Go s) (filter_map (pair_mark a b) (accesses i))
    accesses_read a b s i = read_run order_step (pair_mark a b) (Go s) (accesses i)

    shown_pair : (a b : ValueId) (w : List EdgeId) (code i : ℕ) (item : Item) → item_at g i ≡ Some item → ReachesFirst (numbered g) (pair_step accesses a b) w code i →
        Shows (flow_of f) (λ i. filter_map (pair_mark a b) (items i)) IsOrdered code_of w code item
    shown_pair a b w code i item there h =
        shown_there g f is (λ i. filter_map (pair_mark a b) (accesses i)) (λ i. filter_map (pair_mark a b) (items i)) (marks_agree a b) IsOrdered code_of w code i item there
        (reached_shown order_step IsOrdered code_of order_decides (λ i. filter_map (pair_mark a b) (accesses i)) (pair_step accesses a b) (accesses_read a b) (numbered g) w code i h)

    reached_pair : (a b : ValueId) (w : List EdgeId) (code : ℕ) (item : Item) → Shows (flow_of f) (λ i. filter_map (pair_mark a b) (items i)) IsOrdered code_of w code item →
        (i : ℕ) × ReachesFirst (numbered g) (pair_step accesses a b) w code i
    reached_pair a b w code item h =
        let r = shown_back g f is (λ i. filter_map (pair_mark a b) (accesses i)) (λ i. filter_map (pair_mark a b) (items i)) (marks_agree a b) IsOrdered code_of w code item h in
        (r.0, shown_reached order_step IsOrdered code_of order_decides (λ i. filter_map (pair_mark a b) (accesses i)) (pair_step accesses a b) (accesses_read a b) (numbered g) w code r.0 r.2)

    -- a slot that only longer walks cross isn't crossed on this one
    not_nearer : (a b : ValueId) (w : List EdgeId) (code : ℕ) (item : Item) → IsFar g accesses a (length w + 1) b →
        Shows (flow_of f) (λ i. filter_map (pair_mark a b) (items i)) IsOrdered code_of w code item → ⊥
    not_nearer a b w code item far h =
        let r = reached_pair a b w code item h in
        let more : length w + 1 ≤ length w = far w code r.0 r.1 in
        omega arith

  module _ (sources : List Source) (slots : List ValueId) (are : AreSlots sources (length sources) slots) where
    is_slot : (v : ValueId) → Contains slots v → IsSlot sources v
    is_slot v there = All-contains (IsSlot sources) slots v are.each there

    is_listed : (v : ValueId) → IsSlot sources v → Contains slots v
    is_listed v slot = are.all v (slot_within sources v slot) slot

    nearest_shown : (facts : ValueId → Option Facts) → AgreesWith g accesses (accesses_of sources facts f) → (c : Crossing) → Contains slots c.first → IsNearestCrossing g accesses c.first slots c
        → IsCrossing sources facts f c
    nearest_shown facts agrees c there h =
        let items = accesses_of sources facts f in
        let r = h.reaches in
        let shows = shown_pair items agrees c.first c.other c.walk crossing_code r.item r.point_is.kind r.point_is.there r.reaches in
        record {
          is_first = is_slot c.first there;
          is_other = is_slot c.other h.other;
          different = two_slots (flow_of f) items c.first c.other c.walk crossing_code r.point_is.kind shows;
          item = r.point_is.kind;
          point = r.point_is.point_is ∙ point_same g f is r.point_is.kind;
          shows = shows;
          least = λ b lt slot. not_nearer items agrees c.first b c.walk crossing_code r.point_is.kind
              (All-contains (λ b. b.0 < c.other.0 → IsFar g accesses c.first (length c.walk + 1) b) slots b h.farther (is_listed b slot) lt);
        }

    -- what is shown is a walk that breaks the order of two of the slots
    crossing_reached : (facts : ValueId → Option Facts) → AgreesWith g accesses (accesses_of sources facts f) → (c : Crossing) → (s : IsCrossing sources facts f c) →
        (i : ℕ) × ReachesFirst (numbered g) (pair_step accesses c.first c.other) c.walk crossing_code i
    crossing_reached facts agrees c s = reached_pair (accesses_of sources facts f) agrees c.first c.other c.walk crossing_code s.item s.shows

    module _ (k : Known) (agree : (count : ℕ) (facts : ValueId → Option Facts) → AreKindsBy count facts f g k → AgreesWith g accesses (accesses_of sources facts f)) where
      pub none_first : All (λ a. All (IsUncrossed g accesses a) slots) slots → IsFirstCrossing sources f g k None
      none_first clean count facts by c s =
          let r = crossing_reached facts (agree count facts by) c s in
          All-contains (IsUncrossed g accesses c.first) slots c.other (All-contains (λ a. All (IsUncrossed g accesses a) slots) slots c.first clean (is_listed c.first s.is_first))
          (is_listed c.other s.is_other) c.walk crossing_code r.0 r.1

      pub nearest_first : (first : ValueId) (c : Crossing) → Contains slots first → IsNearestCrossing g accesses first slots c →
          ((a : ValueId) → Contains slots a → a.0 < first.0 → All (IsUncrossed g accesses a) slots) →
          IsFirstCrossing sources f g k (Some c)
      nearest_first first c there h clean count facts by = record {
        shown = nearest_shown facts (agree count facts by) c (subst (Contains slots) (sym h.first_is) there) (subst (λ a. IsNearestCrossing g accesses a slots c) (sym h.first_is) h);
        first = λ other s. before other s;
      }
        where
          before : (other : Crossing) → IsCrossing sources facts f other → NotAfter (crossing_key c) (crossing_key other)
          before other s =
              let r = crossing_reached facts (agree count facts by) other s in
              let same : c.first.0 ≡ first.0 = ap (λ v. v.0) h.first_is in
              first_then c.first.0 other.first.0 (length c.walk ∷ []) (length other.walk ∷ []) (at (cases_lt other.first.0 first.0))
              (λ e.
              let is_first : other.first ≡ first = same_value other.first first (sym e ∙ same) in
              let far : IsFar g accesses first (length c.walk) other.other = All-contains (IsFar g accesses first (length c.walk)) slots other.other h.far (is_listed other.other s.is_other) in
              first_then (length c.walk) (length other.walk) [] []
              (far other.walk crossing_code r.0 (subst (λ a. ReachesFirst (numbered g) (pair_step accesses a other.other) other.walk crossing_code r.0) is_first r.1)) (λ _. tt))
            where
              at : (other.first.0 < first.0) ⊎ (first.0 ≤ other.first.0) → c.first.0 ≤ other.first.0
              at (inl lt) =
                  let r = crossing_reached facts (agree count facts by) other s in
                  absurd (All-contains (IsUncrossed g accesses other.first) slots other.other (clean other.first (is_listed other.first s.is_first) lt) (is_listed other.other s.is_other)
                  other.walk crossing_code r.0 r.1)
              at (inr le) = let same : c.first.0 ≡ first.0 = ap (λ v. v.0) h.first_is in omega arith

      -- behind slots that nothing crosses, one slot more
      pub found_first : (i : ℕ) (d : ValueId) (o : Option Crossing) (c : Crossing) → i < length slots → All (λ a. All (IsUncrossed g accesses a) slots) (take i slots) →
          IsNearest g accesses (get_or slots i d) slots o → o ≡ Some c →
          IsFirstCrossing sources f g k (Some c)
      found_first i d o c lt clean h e =
          nearest_first (get_or slots i d) c (Contains-get_or slots i d lt) (subst (IsNearest g accesses (get_or slots i d) slots) e h)
          (λ a there less. All-contains (λ a. All (IsUncrossed g accesses a) slots) (take i slots) a clean (slot_before slots i d a lt are.ascending there less))

      pub clean_more : (i : ℕ) (d : ValueId) (o : Option Crossing) → i < length slots → All (λ a. All (IsUncrossed g accesses a) slots) (take i slots) →
          IsNearest g accesses (get_or slots i d) slots o → o ≡ None →
          All (λ a. All (IsUncrossed g accesses a) slots) (take (i + 1) slots)
      clean_more i d o lt clean h e = All-more (λ a. All (IsUncrossed g accesses a) slots) slots i d lt clean (subst (IsNearest g accesses (get_or slots i d) slots) e h)
