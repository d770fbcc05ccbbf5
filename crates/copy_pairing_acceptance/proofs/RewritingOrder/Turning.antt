-- Where another value is held at none of some marks without the copy, it is at none with it: the switch of that value turns as it did.
use Rattle.std.proofs.Common.{◌≡◌, ◌≢◌, ℕ, zero, suc, ◌+◌, ◌<◌, ◌≤◌, List, [], ◌∷◌, ◌++◌, length, refl, sym, ap, ap₂, ◌∙◌, subst, arith, Bool, true, false, Option, Some}
use Rattle.std.specs.Prelude.{◌&&◌, ◌||◌, ◌==◌}
use Rattle.std.specs.List.{flat_map, list_any}
use Rattle.std.proofs.lemmas.Bool.{eq-eqb, eqb-true, ne_eqb, or_parts}
use Rattle.std.proofs.lemmas.List.{append-nil}
use Rattle.sil_ast.specs.declared.function.Function.{Function}
use Rattle.sil_ast.specs.declared.inst.Inst as inst
use Rattle.sil_ast.specs.declared.place.PointId.{PointId}
use Rattle.sil_ast.specs.declared.place.ValueId.{ValueId}
use Rattle.sil_cfg.specs.Items.{insts_from, point_at}
use Rattle.sil_cfg.specs.declared.item.Item.{Item}
use Rattle.sil_cfg.specs.declared.item.Item.TheVariants as item
use Rattle.sil_rules.specs.Rules.{index_of}
use Rattle.sil_rules.specs.declared.rule.Rule.TheVariants.{ConsumedWhileBorrowed}
use Rattle.reach_engine.specs.declared.scan.Step.TheVariants.{Go}
use Rattle.reach_engine.specs.inner.Run.{run}
use Rattle.reach_engine.proofs.Runs.{go-bad, run_bad, same_Go}
use Rattle.reach_engine_marks.specs.declared.path_patterns.mark.Mark as pattern
use Rattle.reach_engine_marks.specs.PathPatterns.inner.Automaton.{mark_step}
use Rattle.ownership_kinds_chains.specs.OwnershipChains.Facts.{facts_with, has, is_owned, known_or}
use Rattle.ownership_kinds_chains.specs.declared.ownership_chains.facts.Facts.{Facts}
use Rattle.ownership_kinds_chains.specs.OwnershipMarks.Marks.{begin_of, end_of, marks_of, use_of}
use Rattle.ownership_kinds_chains.specs.declared.ownership_marks.mark.Mark.{Mark}
use Rattle.ownership_kinds_chains.specs.declared.ownership_marks.mark.MarkSort.{MarkSort}
use Rattle.ownership_kinds_chains.specs.declared.ownership_marks.mark.MarkSort.TheVariants.{Begin, End, Use}
use Rattle.sil_types_declarations.specs.declared.type_definitions.kind.Kind.TheVariants as kind
use Rattle.copy_pairing_model.specs.Removable.{IsFreeAt, concerns, is_mark, is_sort}
use Rattle.copy_pairing_acceptance.proofs.MovedFunctions.Items.{gone, inside}
use Rattle.copy_pairing_acceptance.proofs.MovedFunctions.KeptOnWalks.{Turns, turns_join, turns_split}
use Rattle.copy_pairing_acceptance.proofs.MovedFunctions.Lives.{none_from}
use Rattle.copy_pairing_acceptance.proofs.MovedFunctions.Marks.{copy_marks, gone_marks, move_marks, same_marks}
use Rattle.copy_pairing_acceptance.proofs.MovedFunctions.Places.{after}
use Rattle.copy_pairing_acceptance.proofs.MovedFunctions.Split.{IsSplit}
use Rattle.copy_pairing_acceptance.proofs.MovedFunctions.Turnings.{IsQuiet, quiet_none, turn_alike}
use Rattle.copy_pairing_acceptance.proofs.MovedFunctions.Walks.{kept_after}
use Rattle.copy_pairing_acceptance.proofs.RewritingOrder.Apart.{begins}
use Rattle.copy_pairing_acceptance.proofs.RewritingOrder.Watched.{free_kept, kept_free, off, offs, turn, watch, watched}
use Rattle.copy_pairing_acceptance.proofs.RewritingOrder.WalksBack.{TurnBack, kept_before}

-- ---- a switch that is off stays so where nothing turns it on

stay_turn : (own : Bool) (x : MarkSort) → (own ≡ true → x ≡ Begin → ⊥) → (t : ℕ) → Turns (turn own x) 0 t → t ≡ 0
stay_turn true End h t k = sym (same_Go 0 t k)
stay_turn true Use h t k = sym (same_Go 0 t k)
stay_turn true Begin h t k = absurd (h refl refl)
stay_turn false End h t k = sym (same_Go 0 t k)
stay_turn false Use h t k = sym (same_Go 0 t k)
stay_turn false Begin h t k = sym (same_Go 0 t k)

stay_watch : (b own : Bool) (x : MarkSort) → (own ≡ true → x ≡ Begin → ⊥) → (t : ℕ) → Turns (offs b ++ turn own x) 0 t → t ≡ 0
stay_watch true own x h t k = stay_turn own x h t k
stay_watch false own x h t k = stay_turn own x h t k

module _ (sort : MarkSort) (values : List ValueId) (e : ValueId) where
  no_begin : (m : Mark) → begins e m ≡ false → (m.subject.0 == e.0) ≡ true → m.sort ≡ Begin → ⊥
  no_begin m none own is =
      let there : (e.0 == m.subject.0) ≡ true = eq-eqb e.0 m.subject.0 (sym (eqb-true m.subject.0 e.0 own)) in
      let begun : begins e m ≡ true = ap₂ (λ x b. is_sort Begin x && (b || false)) is there in
      let wrong : false ≡ true = sym none ∙ begun in
      cc

  stay_marks : (ms : List Mark) → list_any (begins e) ms ≡ false → (t : ℕ) → Turns (flat_map (watch sort values e) ms) 0 t → t ≡ 0
  stay_marks [] none t k = sym (same_Go 0 t k)
  stay_marks (m ∷ ms) none t k =
      let parts = or_parts (begins e m) (list_any (begins e) ms) none in
      let both = turns_split (watch sort values e m) (flat_map (watch sort values e) ms) 0 t k in
      let first = stay_watch (is_mark sort values m) (m.subject.0 == e.0) m.sort (no_begin m parts.0) both.0 both.1 in
      stay_marks ms parts.1 t (subst (λ a. Turns (flat_map (watch sort values e) ms) a t) first both.2)

stay_from : (marks : Item → List pattern.Mark) (b k : ℕ) (xs : List inst.Inst)
    → ((j : ℕ) → k ≤ j → j < k + length xs → (y : ℕ) → Turns (marks (item.Inst (point_at b j))) 0 y → y ≡ 0)
    → (y : ℕ) → Turns (flat_map marks (insts_from b k xs)) 0 y → y ≡ 0
stay_from marks b k [] h y t = sym (same_Go 0 y t)
stay_from marks b k (x ∷ xs) h y t =
    let both = turns_split (marks (item.Inst (point_at b k))) (flat_map marks (insts_from b (suc k) xs)) 0 y t in
    let first = h k (omega arith) (omega arith) both.0 both.1 in
    stay_from marks b (suc k) xs (λ j le lt. h j (omega arith) (omega arith)) y (subst (λ a. Turns (flat_map marks (insts_from b (suc k) xs)) a y) first both.2)

-- ---- marks of no value that is watched

no_turn : (x : MarkSort) → turn false x ≡ []
no_turn End = refl
no_turn Use = refl
no_turn Begin = refl

no_use : (own : Bool) → turn own Use ≡ []
no_use true = refl
no_use false = refl

module _ (c v e u : ValueId) (same : u.0 ≡ v.0) where
  spared : (ms : List Mark) → list_any (concerns c v) ms ≡ false → list_any (begins e) ms ≡ false → flat_map (watch Begin (e ∷ []) u) ms ≡ []
  spared [] quiet none = refl
  spared (m ∷ ms) quiet none =
      let parts = or_parts (concerns c v m) (list_any (concerns c v) ms) quiet in
      let own = or_parts (m.subject.0 == v.0) (is_mark End (c ∷ []) m) parts.0 in
      let rest = or_parts (begins e m) (list_any (begins e) ms) none in
      let other : (m.subject.0 == u.0) ≡ false = ap (λ k. m.subject.0 == k) same ∙ own.0 in
      ap₂ (λ x y. x ++ y) (ap₂ (λ b o. offs b ++ turn o m.sort) rest.0 other ∙ no_turn m.sort) (spared ms parts.1 rest.1)

-- ---- the copy and the gone destroy

module _ {f : Function} {p : PointId} {last : ℕ} {c v : ValueId} (s : IsSplit f p last c v) (facts : ValueId → Option Facts)
    (v_owned : is_owned (known_or facts v).kind ≡ true) (c_owned : facts c ≡ Some (facts_with kind.Owned (c ∷ []))) (none_made : s.destroy.results ≡ []) (apart : c.0 ≢ v.0)
    (quiet : (k : ℕ) → p.index < k → k < last → list_any (concerns c v) (marks_of facts f (item.Inst (point_at p.block.0 k))) ≡ false)
    (e : ValueId) (e_apart : e.0 ≢ c.0) where
  -- the value doesn't begin between the two
  abbrev pub IsUnbegun : Type 0
  IsUnbegun = (k : ℕ) → p.index < k → k < last → list_any (begins e) (marks_of facts f (item.Inst (point_at p.block.0 k))) ≡ false

  inside_index : (j : ℕ) → suc p.index ≤ j → j < suc p.index + length s.middle → (p.index < j) × (j < last)
  inside_index j le lt =
      let first : length s.front ≡ p.index = s.at_copy in
      let second : length s.front + suc (length s.middle) ≡ last = s.at_destroy in
      (omega arith, omega arith)

  module _ (sort : MarkSort) (values : List ValueId) (h : ValueId) where
    abbrev old : Item → List pattern.Mark
    old = watched sort values h facts f

    abbrev new : Item → List pattern.Mark
    new = watched sort values h facts (after s)

    free_back : TurnBack s old new → IsFreeAt facts (after s) sort values h → IsFreeAt facts f sort values h
    free_back back free =
        kept_free sort values h facts f
        (kept_before s old new (λ i ne. ap (flat_map (watch sort values h)) (same_marks s facts i ne)) back (free_kept sort values h facts (after s) free))

    at_move : new (item.Inst p) ≡ watch sort values h (end_of v) ++ (watch sort values h (begin_of c) ++ [])
    at_move = ap (flat_map (watch sort values h)) (move_marks s facts v_owned c_owned)

    at_copy : old (item.Inst p) ≡ watch sort values h (use_of v) ++ (watch sort values h (begin_of c) ++ [])
    at_copy = ap (flat_map (watch sort values h)) (copy_marks s facts v_owned c_owned)

    at_gone : old (gone s) ≡ watch sort values h (end_of v)
    at_gone = ap (flat_map (watch sort values h)) (gone_marks s facts v_owned c_owned none_made) ∙ append-nil (watch sort values h (end_of v))

    -- in three parts
    back_by : (moved copied dead : List pattern.Mark) → new (item.Inst p) ≡ moved → old (item.Inst p) ≡ copied → old (gone s) ≡ dead
        → ((a b : ℕ) → Turns (moved ++ flat_map old (inside s)) a b → Turns (copied ++ (flat_map old (inside s) ++ dead)) a b) → TurnBack s old new
    back_by moved copied dead x y z turns a b k =
        ap₂ (λ front rest. run mark_step (Go a) (front ++ (flat_map old (inside s) ++ rest))) y z
        ∙ turns a b (ap (λ front. run mark_step (Go a) (front ++ flat_map old (inside s))) (sym x) ∙ k)

  -- ---- no base of a value ends while the copy of it is held

  module _ (bases : List ValueId) (other : e.0 ≢ v.0) where
    abbrev old_ends : Item → List pattern.Mark
    old_ends = old End bases e

    stays_off : IsUnbegun → (y : ℕ) → Turns (flat_map old_ends (inside s)) 0 y → y ≡ 0
    stays_off unbegun =
        stay_from old_ends p.block.0 (suc p.index) s.middle
        (λ j le lt y k.
        let at = inside_index j le lt in
        stay_marks End bases e (marks_of facts f (item.Inst (point_at p.block.0 j))) (unbegun j at.0 at.1) y k)

    ended : watch End bases e (end_of v) ≡ offs (has bases v.0)
    ended = ap (λ b. offs (has bases v.0) ++ turn b End) (ne_eqb v.0 e.0 (λ x. other (sym x))) ∙ append-nil (offs (has bases v.0))

    used : watch End bases e (use_of v) ≡ []
    used = no_use (v.0 == e.0)

    begun : watch End bases e (begin_of c) ≡ []
    begun = ap (λ b. turn b Begin) (ne_eqb c.0 e.0 (λ x. e_apart (sym x)))

    moving : new End bases e (item.Inst p) ≡ offs (has bases v.0)
    moving = at_move End bases e ∙ ap₂ (λ x y. x ++ (y ++ [])) ended begun ∙ append-nil (offs (has bases v.0))

    copying : old_ends (item.Inst p) ≡ []
    copying = at_copy End bases e ∙ ap₂ (λ x y. x ++ (y ++ [])) used begun

    going : old_ends (gone s) ≡ offs (has bases v.0)
    going = at_gone End bases e ∙ ended

    module _ (safe : has bases v.0 ≡ true → IsUnbegun) where
      later : (b : Bool) → has bases v.0 ≡ b → (x y : ℕ) → Turns (offs b ++ flat_map old_ends (inside s)) x y → Turns (flat_map old_ends (inside s) ++ offs b) x y
      later false is x y k = ap (run mark_step (Go x)) (append-nil (flat_map old_ends (inside s))) ∙ k
      later true is zero y k =
          let z = stays_off (safe is) y k in
          turns_join (flat_map old_ends (inside s)) (off ∷ []) 0 y y k (subst (λ t. Turns (off ∷ []) t t) (sym z) refl)
      later true is (suc x) y k = absurd (go-bad y (index_of ConsumedWhileBorrowed) (sym k ∙ run_bad mark_step (index_of ConsumedWhileBorrowed) (flat_map old_ends (inside s))))

      pub ends_free : IsFreeAt facts (after s) End bases e → IsFreeAt facts f End bases e
      ends_free = free_back End bases e (back_by End bases e (offs (has bases v.0)) [] (offs (has bases v.0)) moving copying going (later (has bases v.0) refl))

    -- the other way round, where v is no base
    pub ends_forth : has bases v.0 ≡ false → IsFreeAt facts f End bases e → IsFreeAt facts (after s) End bases e
    ends_forth none free =
        kept_free End bases e facts (after s)
        (kept_after s old_ends (new End bases e) (λ i ne. ap (flat_map (watch End bases e)) (same_marks s facts i ne))
        (turn_alike s old_ends (new End bases e) (moving ∙ ap offs none ∙ sym copying) (subst IsQuiet (sym (going ∙ ap offs none)) quiet_none))
        (free_kept End bases e facts f free))

  -- ---- no scope is open where the copy begins

  module _ (unbegun : IsUnbegun) (u : ValueId) where
    abbrev old_begins : Item → List pattern.Mark
    old_begins = old Begin (e ∷ []) u

    copied : watch Begin (e ∷ []) u (begin_of c) ≡ turn (c.0 == u.0) Begin
    copied = ap (λ b. offs (b || false) ++ turn (c.0 == u.0) Begin) (ne_eqb e.0 c.0 e_apart)

    back_if : (b : Bool) → (v.0 == u.0) ≡ b → TurnBack s old_begins (new Begin (e ∷ []) u)
    back_if true is =
        back_by Begin (e ∷ []) u (turn true End) [] (turn true End)
        (at_move Begin (e ∷ []) u ∙ ap₂ (λ x y. turn x End ++ (y ++ [])) is begun)
        (at_copy Begin (e ∷ []) u ∙ ap₂ (λ x y. x ++ (y ++ [])) (no_use (v.0 == u.0)) begun)
        (at_gone Begin (e ∷ []) u ∙ ap (λ x. turn x End) is)
        (λ a b k. ap (λ ms. run mark_step (Go a) (ms ++ turn true End)) nothing ∙ (ap (λ ms. run mark_step (Go a) (turn true End ++ ms)) (sym nothing) ∙ k))
      where
        same : u.0 ≡ v.0
        same = sym (eqb-true v.0 u.0 is)

        begun : watch Begin (e ∷ []) u (begin_of c) ≡ []
        begun = copied ∙ ap (λ b. turn b Begin) (ne_eqb c.0 u.0 (λ x. apart (x ∙ same)))

        nothing : flat_map old_begins (inside s) ≡ []
        nothing =
            none_from old_begins p.block.0 (suc p.index) s.middle
            (λ j le lt.
            let at = inside_index j le lt in
            spared c v e u same (marks_of facts f (item.Inst (point_at p.block.0 j))) (quiet j at.0 at.1) (unbegun j at.0 at.1))
    back_if false is =
        back_by Begin (e ∷ []) u (turn (c.0 == u.0) Begin) (turn (c.0 == u.0) Begin) []
        (at_move Begin (e ∷ []) u ∙ ap₂ (λ x y. turn x End ++ (y ++ [])) is copied ∙ append-nil (turn (c.0 == u.0) Begin))
        (at_copy Begin (e ∷ []) u ∙ ap₂ (λ x y. x ++ (y ++ [])) (no_use (v.0 == u.0)) copied ∙ append-nil (turn (c.0 == u.0) Begin))
        (at_gone Begin (e ∷ []) u ∙ ap (λ x. turn x End) is)
        (λ a b k. ap (λ ms. run mark_step (Go a) (turn (c.0 == u.0) Begin ++ ms)) (append-nil (flat_map old_begins (inside s))) ∙ k)

    pub begins_free : IsFreeAt facts (after s) Begin (e ∷ []) u → IsFreeAt facts f Begin (e ∷ []) u
    begins_free = free_back Begin (e ∷ []) u (back_if (v.0 == u.0) refl)
