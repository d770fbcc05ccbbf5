-- 401 to 404: what the copy used ends at the move, and is neither used nor ended nor begun up to where it was destroyed. All else is the same.
use Rattle.std.proofs.Common.{◌≡◌, ◌≢◌, ℕ, zero, suc, ◌+◌, ◌<◌, ◌≤◌, List, [], ◌∷◌, ◌++◌, length, refl, sym, ap, ap₂, ◌∙◌, subst, append-nil, Bool, true, false, cond, Option, None, Some, arith}
use Rattle.std.specs.Prelude.{◌==◌, filter_map, unwrap_or}
use Rattle.std.specs.List.{cons_option, flat_map, list_any, slice_get}
use Rattle.std.proofs.lemmas.Bool.{eqb-true, false_from_ne_true, or_parts}
use Rattle.std.proofs.lemmas.List.Elements.{filter_map-append}
use Rattle.sil_ast.specs.declared.function.Function.{Function}
use Rattle.sil_ast.specs.declared.inst.Inst as inst
use Rattle.sil_ast.specs.declared.module.Module.{Module}
use Rattle.sil_ast.specs.declared.place.PointId.{PointId}
use Rattle.sil_ast.specs.declared.place.ValueId.{ValueId}
use Rattle.sil_cfg.specs.Flow.{point_of}
use Rattle.sil_cfg.specs.Items.{flow_of, insts_from, point_at}
use Rattle.sil_cfg.specs.declared.item.Item.{Item}
use Rattle.sil_cfg.specs.declared.item.Item.TheVariants as item
use Rattle.sil_rules.specs.Rules.{index_of}
use Rattle.sil_rules.specs.declared.rule.Rule.TheVariants as rule
use Rattle.numbered_form.specs.Numbering.{values_of}
use Rattle.sil_types_declarations.specs.TypeDefinitions.Declarations.{declarations_of}
use Rattle.sil_types_declarations.specs.declared.type_definitions.kind.Kind.TheVariants as kind
use Rattle.reach_engine.specs.declared.scan.Step.TheVariants.{Go}
use Rattle.reach_engine.specs.inner.Run.{run}
use Rattle.reach_engine.proofs.Runs.{go-bad}
use Rattle.reach_engine_marks.specs.PathPatterns.Along.{IsKept}
use Rattle.reach_engine_marks.specs.PathPatterns.Marks.{needs_off_turns_on, needs_on, needs_on_turns_off}
use Rattle.reach_engine_marks.specs.PathPatterns.Switch.{IsInPlace}
use Rattle.reach_engine_marks.specs.declared.path_patterns.mark.Mark as pattern
use Rattle.reach_engine_marks.specs.PathPatterns.inner.Automaton.{mark_step}
use Rattle.reach_engine_marks.specs.PathChecks.Entries.{marks_for, means}
use Rattle.reach_engine_marks.specs.PathChecks.First.{IsFirst, IsShown}
use Rattle.reach_engine_marks.specs.declared.path_checks.entry.Entry.{Entry}
use Rattle.ownership_kinds_chains.specs.OwnershipChains.Facts.{facts_with, is_owned, known_or, value_of}
use Rattle.ownership_kinds_chains.specs.declared.ownership_chains.facts.Facts.{Facts}
use Rattle.ownership_kinds_chains.specs.OwnershipMarks.Marks.{begin_of, end_of, marks_of, use_of}
use Rattle.ownership_kinds_chains.specs.declared.ownership_marks.mark.Mark.{Mark}
use Rattle.copy_pairing_model.specs.ownership_kinds_origins.Facts.{facts_in}
use Rattle.sil_verifier_trails.specs.lifetime_worklist.Lives.{entry_of, lives_by, lives_of, returned}
use Rattle.sil_verifier_trails.specs.sil_verifier_accepted.AcceptedModules.Shown.{lives_in}
use Rattle.sil_verifier_trails.specs.sil_verifier_accepted.AcceptedModules.Shown.IsShownIn.{life}
use Rattle.sil_verifier_trails.specs.sil_verifier_accepted.AcceptedModules.inner.Checked.{IsVerified}
use Rattle.copy_pairing_model.specs.Optimised.{facts_of}
use Rattle.copy_pairing_model.specs.Removable.{IsMovable, concerns}
use Rattle.copy_pairing_acceptance.specs.MovedFunctions.inner.Structure.{old_item}
use Rattle.copy_pairing_acceptance.proofs.MovedFunctions.InModule.{clean}
use Rattle.copy_pairing_acceptance.proofs.MovedFunctions.Items.{gone, inside}
use Rattle.copy_pairing_acceptance.proofs.MovedFunctions.KeptOnWalks.{Turns, kept_unshown, unshown_kept}
use Rattle.copy_pairing_acceptance.proofs.MovedFunctions.Marks.{copy_marks, gone_marks, move_marks, same_marks}
use Rattle.copy_pairing_acceptance.proofs.MovedFunctions.Places.{after, same_return}
use Rattle.copy_pairing_acceptance.proofs.MovedFunctions.SameFacts.{copy_apart, copy_owned, destroy_makes_none, facts_are, values_are}
use Rattle.copy_pairing_acceptance.proofs.MovedFunctions.Split.{IsSplit}
use Rattle.copy_pairing_acceptance.proofs.MovedFunctions.Turnings.{quiet_none, shown_rule, without_quiet}
use Rattle.copy_pairing_acceptance.proofs.MovedFunctions.Walks.{TurnAlike, kept_after}

-- ---- items without marks

pub none_from : (marks : Item → List pattern.Mark) (b k : ℕ) (xs : List inst.Inst) → ((j : ℕ) → k ≤ j → j < k + length xs → marks (item.Inst (point_at b j)) ≡ [])
    → flat_map marks (insts_from b k xs) ≡ []
none_from marks b k [] h = refl
none_from marks b k (x ∷ xs) h = ap₂ (λ u w. u ++ w) (h k (omega arith) (omega arith)) (none_from marks b (suc k) xs (λ j le lt. h j (omega arith) (omega arith)))

-- ---- marks that don't concern the value

module _ (known : ValueId → Facts) (c v : ValueId) where
  spared : (ms : List Mark) → list_any (concerns c v) ms ≡ false → filter_map (means v.0) (flat_map (lives_by known) ms) ≡ []
  spared [] e = refl
  spared (m ∷ ms) e =
      let parts = or_parts (concerns c v m) (list_any (concerns c v) ms) e in
      let own = or_parts (m.subject.0 == v.0) _ parts.0 in
      filter_map-append (means v.0) (lives_by known m) (flat_map (lives_by known) ms)
      ∙ ap₂ (λ x y. x ++ y) (one (is_owned (known m.subject).kind) own.0) (spared ms parts.1)
    where
      one : (b : Bool) → (m.subject.0 == v.0) ≡ false → filter_map (means v.0) (cond b (entry_of m ∷ []) []) ≡ []
      one false e = refl
      one true e = ap (λ (t : Bool). cons_option (cond t (Some (entry_of m).mark) None) []) e

-- ---- the two marks of what is copied

ends_first : (a b : ℕ) → Turns (needs_on rule.UseAfterConsume ∷ needs_on_turns_off rule.DoubleConsume ∷ []) a b → Turns (needs_on_turns_off rule.DoubleConsume ∷ []) a b
ends_first zero b h = absurd (go-bad b (index_of rule.UseAfterConsume) (sym h))
ends_first (suc a) b h = h

module _ (m : Module) (n : ℕ) (f : Function) (verified : IsVerified m) (in_module : slice_get m.functions n ≡ Some f) (p : PointId) (c v : ValueId)
    (movable : IsMovable (facts_of m f) f p c v) (s : IsSplit f p movable.last c v) where
  abbrev facts : ValueId → Option Facts
  facts = facts_in (declarations_of m) f

  abbrev known : ValueId → Facts
  known = known_or facts

  abbrev count : ℕ
  count = length (values_of f.blocks)

  abbrev was : Item → List Entry
  was = lives_of count facts f

  abbrev is : Item → List Entry
  is = lives_of count facts (after s)

  c_known : is_owned (known c).kind ≡ true
  c_known = ap (λ o. is_owned (unwrap_or o (facts_with kind.Plain [])).kind) (copy_owned m n f verified in_module s)

  same_table : lives_in (declarations_of m) (after s) ≡ is
  same_table = ap₂ (λ k x. lives_of k x (after s)) (ap length (values_are m n f verified in_module s)) (facts_are m n f verified in_module s)

  same_lives : (i : Item) → i ≢ item.Inst p → is i ≡ was (old_item p movable.last i)
  same_lives i ne = ap₂ (λ ms r. flat_map (lives_by known) ms ++ returned known count r) (same_marks s facts i ne) (same_return s i)

  two : (a b : Mark) → is_owned (known a.subject).kind ≡ true → is_owned (known b.subject).kind ≡ true → flat_map (lives_by known) (a ∷ b ∷ []) ++ [] ≡ entry_of a ∷ entry_of b ∷ []
  two a b x y = ap₂ (λ (t u : Bool). (cond t (entry_of a ∷ []) [] ++ (cond u (entry_of b ∷ []) [] ++ [])) ++ []) x y

  copy_lives : was (item.Inst p) ≡ entry_of (use_of v) ∷ entry_of (begin_of c) ∷ []
  copy_lives = ap (λ ms. flat_map (lives_by known) ms ++ []) (copy_marks s facts movable.owned (copy_owned m n f verified in_module s)) ∙ two (use_of v) (begin_of c) movable.owned c_known

  move_lives : is (item.Inst p) ≡ entry_of (end_of v) ∷ entry_of (begin_of c) ∷ []
  move_lives = ap (λ ms. flat_map (lives_by known) ms ++ []) (move_marks s facts movable.owned (copy_owned m n f verified in_module s)) ∙ two (end_of v) (begin_of c) movable.owned c_known

  gone_lives : was (gone s) ≡ entry_of (end_of v) ∷ []
  gone_lives =
      ap (λ ms. flat_map (lives_by known) ms ++ []) (gone_marks s facts movable.owned (copy_owned m n f verified in_module s) (destroy_makes_none m n f verified in_module s))
      ∙ ap (λ (t : Bool). (cond t (entry_of (end_of v) ∷ []) [] ++ []) ++ []) movable.owned

  -- nothing is done to what is copied up to its destroy
  nothing_inside : flat_map (marks_for v.0 was) (inside s) ≡ []
  nothing_inside =
      let first : length s.front ≡ p.index = s.at_copy in
      let second : length s.front + suc (length s.middle) ≡ movable.last = s.at_destroy in
      none_from (marks_for v.0 was) p.block.0 (suc p.index) s.middle (λ j le lt.
      ap (filter_map (means v.0)) (append-nil (flat_map (lives_by known) (marks_of facts f (item.Inst (point_at p.block.0 j)))))
      ∙ spared known c v (marks_of facts f (item.Inst (point_at p.block.0 j))) (movable.next.quiet j (omega arith) (omega arith)))

  module _ (u : ℕ) where
    -- the marks of the two entries
    abbrev pair : pattern.Mark → Bool → Bool → List pattern.Mark
    pair first own copied = cons_option (cond own (Some first) None) (cons_option (cond copied (Some (needs_off_turns_on rule.Overwritten)) None) [])

    alike_by : (own : Bool) → (v.0 == u) ≡ own → TurnAlike s (marks_for u was) (marks_for u is)
    alike_by false other w a b walk ends to h =
        let none : marks_for u was (gone s) ≡ [] = ap (filter_map (means u)) gone_lives ∙ ap (λ (t : Bool). cons_option (cond t (Some (needs_on_turns_off rule.DoubleConsume)) None) []) other in
        let before : marks_for u was (item.Inst p) ≡ pair (needs_on rule.UseAfterConsume) false (c.0 == u) =
        ap (filter_map (means u)) copy_lives ∙ ap (λ t. pair (needs_on rule.UseAfterConsume) t (c.0 == u)) other in
        let now : marks_for u is (item.Inst p) ≡ pair (needs_on_turns_off rule.DoubleConsume) false (c.0 == u) =
        ap (filter_map (means u)) move_lives ∙ ap (λ t. pair (needs_on_turns_off rule.DoubleConsume) t (c.0 == u)) other in
        ap (λ xs. run mark_step (Go a) (xs ++ flat_map (marks_for u was) (inside s))) (now ∙ sym before)
        ∙ without_quiet (marks_for u was (item.Inst p)) (flat_map (marks_for u was) (inside s)) [] quiet_none a b
        (ap (λ xs. run mark_step (Go a) (marks_for u was (item.Inst p) ++ (flat_map (marks_for u was) (inside s) ++ xs))) (sym none) ∙ h)
    alike_by true own w a b walk ends to h =
        let same : v.0 ≡ u = eqb-true v.0 u own in
        let apart : (c.0 == u) ≡ false = false_from_ne_true (c.0 == u) (λ e. copy_apart m n f verified in_module s (eqb-true c.0 u e ∙ sym same)) in
        let last_of : marks_for u was (gone s) ≡ needs_on_turns_off rule.DoubleConsume ∷ [] =
        ap (filter_map (means u)) gone_lives ∙ ap (λ (t : Bool). cons_option (cond t (Some (needs_on_turns_off rule.DoubleConsume)) None) []) own in
        let before : marks_for u was (item.Inst p) ≡ needs_on rule.UseAfterConsume ∷ [] = ap (filter_map (means u)) copy_lives ∙ ap₂ (pair (needs_on rule.UseAfterConsume)) own apart in
        let now : marks_for u is (item.Inst p) ≡ needs_on_turns_off rule.DoubleConsume ∷ [] = ap (filter_map (means u)) move_lives ∙ ap₂ (pair (needs_on_turns_off rule.DoubleConsume)) own apart in
        let within : flat_map (marks_for u was) (inside s) ≡ [] = ap (λ k. flat_map (marks_for k was) (inside s)) (sym same) ∙ nothing_inside in
        ap₂ (λ xs ys. run mark_step (Go a) (xs ++ ys)) now within
        ∙ ends_first a b (sym (ap₂ (λ xs ys. run mark_step (Go a) (xs ++ ys)) before (ap₂ (λ xs ys. xs ++ ys) within last_of)) ∙ h)

    alike : TurnAlike s (marks_for u was) (marks_for u is)
    alike = alike_by (v.0 == u) refl

    kept : IsKept (flow_of (after s)) (marks_for u is) IsInPlace
    kept =
        kept_after s (marks_for u was) (marks_for u is) (λ i ne. ap (filter_map (means u)) (same_lives i ne)) alike
        (unshown_kept (marks_for u was) (flow_of f) (λ w code i h.
        clean m n f verified in_module p.block.0 s.block s.there
        (record { rule = h.breaks.mark.rule; subject = value_of u; other = None; point = point_of (flow_of f) i; walk = w })
        (life refl (record { item = i; at = record { point_is = refl; shows = shown_rule (flow_of f) (marks_for u was) w code i h } }))))

  pub none_of_lives : IsFirst (after s) (lives_in (declarations_of m) (after s)) None
  none_of_lives u r walk point shown =
      let h = subst (λ table. IsShown (after s) table u r walk point) same_table shown in
      kept_unshown (marks_for u is) (flow_of (after s)) (kept u) walk (index_of r) h.item h.at.shows
