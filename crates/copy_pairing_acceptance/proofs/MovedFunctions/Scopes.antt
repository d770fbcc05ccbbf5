-- 501 to 505: no scope that borrows from what is moved is open at the move, and all else is the same.
use Rattle.std.proofs.Common.{◌≡◌, ◌≢◌, ℕ, zero, suc, ◌+◌, List, [], ◌∷◌, ◌++◌, length, take, refl, sym}
use Rattle.std.proofs.Common.{ap, ap₂, ◌∙◌, subst, append-nil, append_assoc, length-append, Bool, true, false, cond, Option, None, Some, arith}
use Rattle.std.specs.Prelude.{◌&&◌, ◌==◌, ◌||◌, filter_map, unwrap_or}
use Rattle.std.specs.List.{cons_option, flat_map, range_with_len, slice_get}
use Rattle.std.proofs.lemmas.Bool.{eq-eqb, eqb-true}
use Rattle.std.proofs.lemmas.Grind.{flat_map-append}
use Rattle.std.proofs.lemmas.List.Elements.{filter_map-append}
use Rattle.sil_ast.specs.declared.function.Function.{Function}
use Rattle.sil_ast.specs.declared.module.Module.{Module}
use Rattle.sil_ast.specs.declared.place.EdgeId.{EdgeId}
use Rattle.sil_ast.specs.declared.place.PointId.{PointId}
use Rattle.sil_ast.specs.declared.place.ValueId.{ValueId}
use Rattle.sil_cfg.specs.Flow.{items_at, point_of}
use Rattle.sil_cfg.specs.Items.{flow_of}
use Rattle.sil_cfg.specs.Walk.{IsTrail, IsWalk, last_block, passed}
use Rattle.sil_cfg.specs.declared.item.Item.{Item}
use Rattle.sil_cfg.specs.declared.item.Item.TheVariants as item
use Rattle.sil_cfg.specs.Returns.{is_return}
use Rattle.sil_rules.specs.Rules.{index_of}
use Rattle.sil_rules.specs.declared.rule.Rule.{Rule}
use Rattle.sil_rules.specs.declared.rule.Rule.TheVariants as rule
use Rattle.numbered_form.specs.Numbering.{values_of}
use Rattle.sil_types_declarations.specs.TypeDefinitions.Declarations.{declarations_of}
use Rattle.sil_types_declarations.specs.declared.type_definitions.kind.Kind.{Kind}
use Rattle.sil_types_declarations.specs.declared.type_definitions.kind.Kind.TheVariants as kind
use Rattle.reach_engine.specs.declared.scan.Step.TheVariants.{Go}
use Rattle.reach_engine.specs.inner.Run.{run}
use Rattle.reach_engine_marks.specs.PathPatterns.Along.{IsKept}
use Rattle.reach_engine_marks.specs.PathPatterns.Marks.{needs_on}
use Rattle.reach_engine_marks.specs.PathPatterns.Switch.{IsInPlace, IsOn}
use Rattle.reach_engine_marks.specs.PathPatterns.inner.Automaton.{mark_step}
use Rattle.reach_engine_marks.specs.PathPatterns.inner.Runs.{IsHeld}
use Rattle.reach_engine_marks.proofs.PathPatterns.SwitchDecided.{switch_decides}
use Rattle.reach_engine_marks.specs.PathChecks.Entries.{marks_for, means}
use Rattle.reach_engine_marks.specs.PathChecks.First.{IsShownAt}
use Rattle.reach_engine_marks.specs.declared.path_checks.entry.Entry.{Entry}
use Rattle.ownership_kinds_chains.specs.OwnershipChains.Facts.{facts_with, has, is_guaranteed, is_owned, known_or, value_of}
use Rattle.ownership_kinds_chains.specs.declared.ownership_chains.facts.Facts.{Facts}
use Rattle.ownership_kinds_chains.specs.OwnershipMarks.Marks.{begin_of, end_of, marks_of, use_of}
use Rattle.ownership_kinds_chains.specs.declared.ownership_marks.mark.Mark.{Mark}
use Rattle.ownership_kinds_chains.specs.declared.ownership_marks.mark.MarkSort.{MarkSort}
use Rattle.ownership_kinds_chains.specs.declared.ownership_marks.mark.MarkSort.TheVariants.{Begin, End, Use}
use Rattle.copy_pairing_model.specs.ownership_kinds_origins.Facts.{facts_in}
use Rattle.numbered_form.specs.ValueTables.Borrows.{borrow_in, borrows_of, is_borrow, is_borrow_in, lends}
use Rattle.sil_verifier_trails.specs.borrow_scopes.Others.{other_of}
use Rattle.sil_verifier_trails.specs.borrow_scopes.Scopes.{bases_in, entry_of, is_scope, leaves, left_at_return, lent_bases, lost_at_end}
use Rattle.sil_verifier_trails.specs.borrow_scopes.Scopes.{lost_entries, lost_from, lost_with, mark_entries, returned, scope_entries, scopes_of}
use Rattle.sil_verifier_trails.specs.borrow_scopes.inner.Runs.{scope_along, sort_for, sort_of, sorts_along}
use Rattle.copy_pairing_model.proofs.borrow_scopes.ScopesAreRuns.{open_while_on}
use Rattle.sil_verifier_trails.specs.sil_verifier_accepted.AcceptedModules.Shown.{scopes_in}
use Rattle.sil_verifier_trails.specs.sil_verifier_accepted.AcceptedModules.Shown.IsShownIn.{scope}
use Rattle.sil_verifier_trails.specs.sil_verifier_accepted.AcceptedModules.inner.Checked.{IsVerified}
use Rattle.copy_pairing_model.specs.Optimised.{facts_of}
use Rattle.copy_pairing_model.specs.Removable.{IsMovable}
use Rattle.copy_pairing_acceptance.specs.MovedFunctions.inner.Structure.{old_item}
use Rattle.copy_pairing_acceptance.proofs.MovedFunctions.InModule.{clean}
use Rattle.copy_pairing_acceptance.proofs.MovedFunctions.Items.{gone, head, inside, old_items, old_tail}
use Rattle.copy_pairing_acceptance.proofs.MovedFunctions.KeptOnWalks.{Leads, Turns, kept_unshown, turns_join, turns_split, unshown_kept}
use Rattle.copy_pairing_acceptance.proofs.MovedFunctions.Marks.{copy_marks, gone_marks, move_marks, same_marks}
use Rattle.copy_pairing_acceptance.proofs.MovedFunctions.Places.{after, same_return}
use Rattle.copy_pairing_acceptance.proofs.MovedFunctions.SameFacts.{borrows_are, copy_owned, destroy_makes_none, facts_are, values_are}
use Rattle.copy_pairing_acceptance.proofs.MovedFunctions.Split.{IsSplit}
use Rattle.copy_pairing_acceptance.proofs.MovedFunctions.Turnings.{IsQuiet, IsQuietFor, quiet_both, quiet_each, quiet_entries, quiet_entry, quiet_none, quiet_off, shown_rule}
use Rattle.copy_pairing_acceptance.proofs.MovedFunctions.Walks.{TurnAlike, kept_after}

-- ---- lists

each_same : {X Y : Type 0} (h k : X → List Y) → ((x : X) → h x ≡ k x) → (xs : List X) → flat_map h xs ≡ flat_map k xs
each_same h k e [] = refl
each_same h k e (x ∷ xs) = ap₂ (λ u w. u ++ w) (e x) (each_same h k e xs)

picked_each : {X Y Z : Type 0} (pick : Y → Option Z) (h : X → List Y) (xs : List X) → filter_map pick (flat_map h xs) ≡ flat_map (λ x. filter_map pick (h x)) xs
picked_each pick h [] = refl
picked_each pick h (x ∷ xs) = filter_map-append pick (h x) (flat_map h xs) ∙ ap (λ ys. filter_map pick (h x) ++ ys) (picked_each pick h xs)

take_front : {X : Type 0} (xs ys : List X) → take (length xs) (xs ++ ys) ≡ xs
take_front [] [] = refl
take_front [] (y ∷ ys) = refl
take_front (x ∷ xs) ys = ap (λ zs. x ∷ zs) (take_front xs ys)

-- ---- owned values are no scopes

not_guaranteed : (k : Kind) → is_owned k ≡ true → is_guaranteed k ≡ false
not_guaranteed kind.Owned e = refl
not_guaranteed kind.Guaranteed e = absurd (let no : false ≡ true = e in cc)
not_guaranteed kind.Plain e = refl

-- ---- entries that turn nothing

module _ (f : Function) (known : ValueId → Facts) (count u : ℕ) where
  quiet_lost : (w : ValueId) (ns : List ℕ) → IsQuietFor u (flat_map (lost_from f known w) ns)
  quiet_lost w ns = quiet_each u (lost_from f known w) (λ k. at k (has (lent_bases f known k) w.0)) ns
    where
      at : (k : ℕ) (b : Bool) → IsQuietFor u (cond b (lost_at_end k ∷ []) [])
      at k true = quiet_entry u (lost_at_end k) (quiet_off rule.ConsumedWhileBorrowed)
      at k false = quiet_none

  -- and of a subject that doesn't borrow from the value there are none
  none_lost : (w : ValueId) → has (lent_bases f known u) w.0 ≡ false → (ns : List ℕ) → filter_map (means u) (flat_map (lost_from f known w) ns) ≡ []
  none_lost w e [] = refl
  none_lost w e (k ∷ ns) =
      filter_map-append (means u) (lost_from f known w k) (flat_map (lost_from f known w) ns)
      ∙ ap₂ (λ x y. x ++ y) (at (k == u) refl (has (lent_bases f known k) w.0) refl) (none_lost w e ns)
    where
      at : (own : Bool) → (k == u) ≡ own → (b : Bool) → has (lent_bases f known k) w.0 ≡ b → filter_map (means u) (cond b (lost_at_end k ∷ []) []) ≡ []
      at own is false h = refl
      at false is true h = ap (λ (t : Bool). cons_option (cond t (Some (lost_at_end k).mark) None) []) is
      at true is true h = absurd (let no : true ≡ false = sym h ∙ ap (λ j. has (lent_bases f known j) w.0) (eqb-true k u is) ∙ e in cc)

  -- they let a switch that is off be
  off_lost : (w : ValueId) (ns : List ℕ) → Turns (filter_map (means u) (flat_map (lost_from f known w) ns)) 0 0
  off_lost w [] = refl
  off_lost w (k ∷ ns) =
      ap (run mark_step (Go 0)) (filter_map-append (means u) (lost_from f known w k) (flat_map (lost_from f known w) ns))
      ∙ turns_join (filter_map (means u) (lost_from f known w k)) (filter_map (means u) (flat_map (lost_from f known w) ns)) 0 0 0 (at (has (lent_bases f known k) w.0)) (off_lost w ns)
    where
      one : (own : Bool) → Turns (cons_option (cond own (Some (lost_at_end k).mark) None) []) 0 0
      one true = refl
      one false = refl

      at : (b : Bool) → Turns (filter_map (means u) (cond b (lost_at_end k ∷ []) [])) 0 0
      at false = refl
      at true = one (k == u)

  -- what is no scope is never turned
  module _ (no_scope : is_scope f known (value_of u) ≡ false) where
    quiet_scope : (m : Mark) → IsQuietFor u (scope_entries f known m)
    quiet_scope m = at (is_scope f known m.subject) refl
      where
        own : (b : Bool) → (m.subject.0 == u) ≡ b → is_scope f known m.subject ≡ true → IsQuiet (cons_option (cond b (Some (entry_of m).mark) None) [])
        own false e h = quiet_none
        own true e h = absurd (let no : false ≡ true = sym no_scope ∙ ap (λ k. is_scope f known (value_of k)) (sym (eqb-true m.subject.0 u e)) ∙ h in cc)

        at : (b : Bool) → is_scope f known m.subject ≡ b → IsQuietFor u (cond b (entry_of m ∷ []) [])
        at false e = quiet_none
        at true e = own (m.subject.0 == u) refl e

    quiet_with : (w : ValueId) (sort : MarkSort) → IsQuietFor u (lost_with f known count w sort)
    quiet_with w End = quiet_lost w (range_with_len 0 count)
    quiet_with w Use = quiet_none
    quiet_with w Begin = quiet_none

    quiet_returned : (b : Bool) → IsQuietFor u (returned f known count b)
    quiet_returned false = quiet_none
    quiet_returned true = quiet_each u (leaves f known) (λ k. at k (is_scope f known (value_of k))) (range_with_len 0 count)
      where
        at : (k : ℕ) (b : Bool) → IsQuietFor u (cond b (left_at_return k ∷ []) [])
        at k true = quiet_entry u (left_at_return k) (quiet_off rule.ScopeLeft)
        at k false = quiet_none

    quiet_item : (ms : List Mark) (b : Bool) → IsQuietFor u (flat_map (mark_entries f known count) ms ++ returned f known count b)
    quiet_item ms b =
        quiet_entries u (flat_map (mark_entries f known count) ms) (returned f known count b)
        (quiet_each u (mark_entries f known count) (λ m. quiet_entries u (scope_entries f known m) (lost_entries f known count m) (quiet_scope m) (quiet_with m.subject m.sort)) ms)
        (quiet_returned b)

module _ (m : Module) (n : ℕ) (f : Function) (verified : IsVerified m) (in_module : slice_get m.functions n ≡ Some f) (p : PointId) (c v : ValueId)
    (movable : IsMovable (facts_of m f) f p c v) (s : IsSplit f p movable.last c v) where
  abbrev facts : ValueId → Option Facts
  facts = facts_in (declarations_of m) f

  abbrev known : ValueId → Facts
  known = known_or facts

  abbrev count : ℕ
  count = length (values_of f.blocks)

  abbrev was : Item → List Entry
  was = scopes_of count facts f

  abbrev is : Item → List Entry
  is = scopes_of count facts (after s)

  same_table : scopes_in (declarations_of m) (after s) ≡ is
  same_table = ap₂ (λ k x. scopes_of k x (after s)) (ap length (values_are m n f verified in_module s)) (facts_are m n f verified in_module s)

  -- ---- the same entries

  abbrev same_borrows : borrows_of (after s) ≡ borrows_of f
  same_borrows = borrows_are m n f verified in_module s

  lost_same : (w : ValueId) (sort : MarkSort) → lost_with (after s) known count w sort ≡ lost_with f known count w sort
  lost_same w End = ap (λ bs. flat_map (λ k. cond (has (bases_in known (lends (borrow_in bs k))) w.0) (lost_at_end k ∷ []) []) (range_with_len 0 count)) same_borrows
  lost_same w Use = refl
  lost_same w Begin = refl

  entries_same : (x : Mark) → mark_entries (after s) known count x ≡ mark_entries f known count x
  entries_same x =
      ap₂ (λ a b. a ++ b) (ap (λ bs. cond (is_guaranteed (known x.subject).kind && is_borrow_in bs x.subject) (entry_of x ∷ []) []) same_borrows) (lost_same x.subject x.sort)

  returned_same : (b : Bool) → returned (after s) known count b ≡ returned f known count b
  returned_same true = ap (λ bs. flat_map (λ k. cond (is_guaranteed (known (value_of k)).kind && is_borrow_in bs (value_of k)) (left_at_return k ∷ []) []) (range_with_len 0 count)) same_borrows
  returned_same false = refl

  table_as_before : (i : Item) → is i ≡ flat_map (mark_entries f known count) (marks_of facts (after s) i) ++ returned f known count (is_return (after s) i)
  table_as_before i =
      ap₂ (λ a b. a ++ b) (each_same (mark_entries (after s) known count) (mark_entries f known count) entries_same (marks_of facts (after s) i)) (returned_same (is_return (after s) i))

  same_scopes : (i : Item) → i ≢ item.Inst p → is i ≡ was (old_item p movable.last i)
  same_scopes i ne =
      table_as_before i ∙ ap₂ (λ ms r. flat_map (mark_entries f known count) ms ++ returned f known count r) (same_marks s facts i ne) (same_return s i)

  -- ---- the copy, the move and the destroy

  c_known : is_owned (known c).kind ≡ true
  c_known = ap (λ o. is_owned (unwrap_or o (facts_with kind.Plain [])).kind) (copy_owned m n f verified in_module s)

  no_scope_of : (x : Mark) → is_owned (known x.subject).kind ≡ true → scope_entries f known x ≡ []
  no_scope_of x e = ap (λ b. cond (b && is_borrow f x.subject) (entry_of x ∷ []) []) (not_guaranteed (known x.subject).kind e)

  -- the scopes that borrow from what is copied
  abbrev losing : List Entry
  losing = flat_map (lost_from f known v) (range_with_len 0 count)

  copy_scopes : was (item.Inst p) ≡ []
  copy_scopes =
      ap (λ ms. flat_map (mark_entries f known count) ms ++ []) (copy_marks s facts movable.owned (copy_owned m n f verified in_module s))
      ∙ ap₂ (λ x y. ((x ++ []) ++ ((y ++ []) ++ [])) ++ []) (no_scope_of (use_of v) movable.owned) (no_scope_of (begin_of c) c_known)

  move_scopes : is (item.Inst p) ≡ losing
  move_scopes =
      table_as_before (item.Inst p)
      ∙ ap (λ ms. flat_map (mark_entries f known count) ms ++ []) (move_marks s facts movable.owned (copy_owned m n f verified in_module s))
      ∙ ap₂ (λ x y. ((x ++ losing) ++ ((y ++ []) ++ [])) ++ []) (no_scope_of (end_of v) movable.owned) (no_scope_of (begin_of c) c_known)
      ∙ append-nil (losing ++ []) ∙ append-nil losing

  gone_scopes : was (gone s) ≡ losing
  gone_scopes =
      ap (λ ms. flat_map (mark_entries f known count) ms ++ []) (gone_marks s facts movable.owned (copy_owned m n f verified in_module s) (destroy_makes_none m n f verified in_module s))
      ∙ ap (λ x. ((x ++ losing) ++ []) ++ []) (no_scope_of (end_of v) movable.owned)
      ∙ append-nil (losing ++ []) ∙ append-nil losing

  module _ (u : ℕ) where
    -- ---- a scope that borrows from what is copied is off at the copy

    module _ (lent : has (lent_bases f known u) v.0 ≡ true) (w : List EdgeId) (walk : IsWalk (flow_of f) w) (ends : last_block (flow_of f) w ≡ p.block.0) where
      abbrev come : List Item
      come = passed (flow_of f) w ++ head s

      copy_trail : IsTrail (flow_of f) w (come ++ item.Inst p ∷ [])
      copy_trail = record {
        walk = walk;
        begun = let size : length (come ++ item.Inst p ∷ []) ≡ length come + 1 = length-append come (item.Inst p ∷ []) in omega arith;
        count = length (head s ++ item.Inst p ∷ []);
        items = append_assoc (passed (flow_of f) w) (head s) (item.Inst p ∷ []) ∙ ap (λ xs. passed (flow_of f) w ++ xs)
            (sym (take_front (head s ++ item.Inst p ∷ []) (inside s ++ gone s ∷ old_tail s))
            ∙ ap (take (length (head s ++ item.Inst p ∷ [])))
            (append_assoc (head s) (item.Inst p ∷ []) (inside s ++ gone s ∷ old_tail s) ∙ sym (old_items s) ∙ ap (items_at (flow_of f)) (sym ends)));
      }

      not_own : is_scope f known (value_of u) ≡ true → (v.0 == u) ≡ false
      not_own e = at (v.0 == u) refl
        where
          at : (b : Bool) → (v.0 == u) ≡ b → b ≡ false
          at false h = refl
          at true h = absurd (let no : false ≡ true =
              sym (ap (λ b. b && is_borrow f v) (not_guaranteed (known v).kind movable.owned)) ∙ ap (λ k. is_scope f known (value_of k)) (eqb-true v.0 u h) ∙ e in cc)

      not_held : is_scope f known (value_of u) ≡ true → IsHeld (sorts_along facts f (value_of u) come) → ⊥
      not_held e h =
          let before = flat_map (marks_of facts f) come in
          let marks : flat_map (marks_of facts f) (come ++ item.Inst p ∷ []) ≡ (before ++ use_of v ∷ []) ++ begin_of c ∷ [] =
          flat_map-append (marks_of facts f) come (item.Inst p ∷ [])
          ∙ ap (λ ms. before ++ (ms ++ [])) (copy_marks s facts movable.owned (copy_owned m n f verified in_module s))
          ∙ sym (append_assoc before (use_of v ∷ []) (begin_of c ∷ [])) in
          let sorts : sorts_along facts f (value_of u) come ≡ filter_map (sort_for (value_of u)) (before ++ use_of v ∷ []) =
          sym (filter_map-append (sort_for (value_of u)) before (use_of v ∷ [])
          ∙ ap₂ (λ xs (b : Bool). xs ++ cons_option (cond b (Some (sort_of Use)) None) []) (picked_each (sort_for (value_of u)) (marks_of facts f) come) (not_own e)
          ∙ append-nil (sorts_along facts f (value_of u) come)) in
          movable.unlent (value_of u) lent w (come ++ item.Inst p ∷ []) copy_trail (before ++ use_of v ∷ []) [] (begin_of c) marks
          (ap (λ b. b || false) (eq-eqb c.0 c.0 refl)) (subst IsHeld sorts h)

      quiet_come : is_scope f known (value_of u) ≡ false → (items : List Item) → IsQuiet (flat_map (marks_for u was) items)
      quiet_come e [] = quiet_none
      quiet_come e (i ∷ items) =
          quiet_both (marks_for u was i) (flat_map (marks_for u was) items) (quiet_item f known count u e (marks_of facts f i) (is_return f i)) (quiet_come e items)

      off_at_copy : (a : ℕ) → Leads (marks_for u was) come 0 a → a ≡ 0
      off_at_copy zero to = refl
      off_at_copy (suc a) to = absurd (at (is_scope f known (value_of u)) refl)
        where
          on : IsOn (scope_along count facts f (value_of u) come)
          on = switch_decides (flat_map (marks_for u was) come) (suc a) (needs_on rule.UseOutsideScope) to

          at : (b : Bool) → is_scope f known (value_of u) ≡ b → ⊥
          at true e = not_held e ((open_while_on count facts f (value_of u) e come).0 on)
          at false e = let stays : 0 ≡ suc a = quiet_come e come 0 (suc a) to in omega arith

    -- ---- so its switch is turned alike

    alike : TurnAlike s (marks_for u was) (marks_for u is)
    alike w a b walk ends to h =
        let within = flat_map (marks_for u was) (inside s) in
        let lost = filter_map (means u) losing in
        let shown : Turns (within ++ lost) a b =
        sym (ap₂ (λ xs ys. run mark_step (Go a) (filter_map (means u) xs ++ (within ++ filter_map (means u) ys))) copy_scopes gone_scopes) ∙ h in
        let parts = turns_split within lost a b shown in
        let back : Turns within a b = subst (Turns within a) (quiet_lost f known count u v (range_with_len 0 count) parts.0 b parts.2) parts.1 in
        ap (λ xs. run mark_step (Go a) (filter_map (means u) xs ++ within)) move_scopes ∙ turns_join lost within a a b (first (has (lent_bases f known u) v.0) refl) back
      where
        first : (t : Bool) → has (lent_bases f known u) v.0 ≡ t → Turns (filter_map (means u) losing) a a
        first false e = ap (run mark_step (Go a)) (none_lost f known count u v e (range_with_len 0 count))
        first true e =
            let off : a ≡ 0 = off_at_copy e w walk ends a to in
            subst (λ k. Turns (filter_map (means u) losing) k k) (sym off) (off_lost f known count u v (range_with_len 0 count))

    kept : IsKept (flow_of (after s)) (marks_for u is) IsInPlace
    kept =
        kept_after s (marks_for u was) (marks_for u is) (λ i ne. ap (filter_map (means u)) (same_scopes i ne)) alike
        (unshown_kept (marks_for u was) (flow_of f) (λ w code i h.
        clean m n f verified in_module p.block.0 s.block s.there
        (record {
          rule = h.breaks.mark.rule;
          subject = value_of u;
          other = other_of h.breaks.mark.rule facts f (value_of u) i;
          point = point_of (flow_of f) i;
          walk = w;
        })
        (scope i refl (record { point_is = refl; shows = shown_rule (flow_of f) (marks_for u was) w code i h }))))

  pub none_of_scopes : (u : ℕ) (r : Rule) (walk : List EdgeId) (point : PointId) (i : Item) → IsShownAt (after s) (scopes_in (declarations_of m) (after s)) u r walk point i → ⊥
  none_of_scopes u r walk point i shown =
      let h = subst (λ table. IsShownAt (after s) table u r walk point i) same_table shown in
      kept_unshown (marks_for u is) (flow_of (after s)) (kept u) walk (index_of r) i h.shows
