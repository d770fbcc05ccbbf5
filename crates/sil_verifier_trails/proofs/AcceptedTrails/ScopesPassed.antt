-- Scopes along the trails of an accepted function, and what they borrow from.
use Rattle.std.proofs.Common.{◌≡◌, ℕ, ◌<◌, List, [], ◌∷◌, ◌++◌, append-nil, length, refl, sym, ap, ◌∙◌, arith, Bool, true, false, cond, ◌&&◌, Option, Some}
use Rattle.std.specs.Prelude.{◌==◌, filter_map, flat_map, option_and_then}
use Rattle.std.specs.List.{list_any}
use Rattle.std.proofs.lemmas.Bool.{eqb-true, false≢true}
use Rattle.std.proofs.lemmas.Grind.{flat_map-append}
use Rattle.std.proofs.lemmas.Option.{same_Some}
use Rattle.sil_verifier_values.specs.borrow_scopes.Scopes.{is_scope, lent_bases, lost_entries, lost_with, mark_entries, returned, scope_entries, scopes_of, turned_by}
use Rattle.sil_verifier_values.specs.holder_model.Frames.{ends}
use Rattle.sil_cfg_items.specs.Items.{item_defined, item_taken}
use Rattle.sil_cfg_items.specs.declared.taken.Taken.{Taken}
use Rattle.numbered_form.specs.Numbering.{values_of}
use Rattle.sil_verifier_values.specs.ownership_kinds_chains.OwnershipChains.Facts.{has, known_or, value_of}
use Rattle.sil_verifier_values.specs.ownership_kinds_chains.declared.ownership_chains.facts.Facts.{Facts}
use Rattle.sil_verifier_values.specs.ownership_kinds_origins.Facts.{facts_in}
use Rattle.sil_verifier_values.specs.ownership_kinds_chains.OwnershipMarks.Marks.{begun, end_of, ended, marks_of, used}
use Rattle.sil_verifier_values.specs.ownership_kinds_chains.declared.ownership_marks.mark.MarkSort.{MarkSort}
use Rattle.sil_verifier_values.specs.ownership_kinds_chains.declared.ownership_marks.mark.MarkSort.TheVariants.{Begin, End, Use}
use Rattle.sil_verifier_values.specs.reach_engine_marks.PathChecks.Entries.{marks_for, means}
use Rattle.sil_ast.specs.declared.function.Function.{Function}
use Rattle.sil_ast.specs.declared.place.ValueId.{ValueId}
use Rattle.sil_cfg.specs.Returns.{is_return}
use Rattle.sil_cfg.specs.declared.item.Item.{Item}
use Rattle.sil_rules.specs.declared.rule.Rule.TheVariants as rule
use Rattle.sil_verifier_trails.specs.RunTrails.inner.Switched.{switched_over}
use Rattle.sil_verifier_trails.proofs.RunTrails.SwitchedTrails.{followed_turned}
use Rattle.sil_verifier_trails.proofs.RunTrails.TurnedTrails.{turned_older}
use Rattle.sil_verifier_values.specs.sil_verifier_accepted.AcceptedModules.Shown.{scopes_in}
use Rattle.sil_verifier_trails.specs.AcceptedTrails.inner.Lives.{AreBasesKept, AreScopesPassed}
use Rattle.sil_verifier_trails.specs.AcceptedTrails.inner.Passing.{is_end}
use Rattle.sil_verifier_trails.proofs.AcceptedTrails.OwnMarks.{TurnsAsRead, own_reads}
use Rattle.sil_verifier_trails.proofs.AcceptedTrails.Passed.{AsksOff, ReadsMarks, passed}
use Rattle.sil_verifier_trails.proofs.AcceptedTrails.Quiet.{entries_split, range_free}
use Rattle.sil_verifier_trails.proofs.AcceptedTrails.Reading.{end_with, read_by}
use Rattle.sil_verifier_trails.proofs.AcceptedTrails.Tests.{neither, or_first, or_second}
use Rattle.sil_verifier_trails.proofs.AcceptedTrails.Unbroken.{scopes_unbroken}

as_read : TurnsAsRead turned_by
as_read End true c h = h
as_read End false c h = h
as_read Use true c h = h
as_read Use false c h = h
as_read Begin true c h = h
as_read Begin false c h = h

module _ (facts : ValueId → Option Facts) (f : Function) (s : ValueId) (scope : is_scope f (known_or facts) s ≡ true) (count : ℕ) (is_value : s.0 < count) where
  scope_reads : ReadsMarks s (scope_entries f (known_or facts))
  scope_reads = own_reads turned_by as_read (is_scope f (known_or facts)) s scope

  -- the ends of what it borrows from find it closed
  lost_reads : (v : ValueId) (sort : MarkSort) (on c : Bool) → switched_over (filter_map (means s.0) (lost_with f (known_or facts) count v sort)) on ≡ Some c →
      (c ≡ on) × (sort ≡ End → has (lent_bases f (known_or facts) s.0) v.0 ≡ true → on ≡ false)
  lost_reads v End on c h =
      let r = range_free rule.ConsumedWhileBorrowed (λ n. has (lent_bases f (known_or facts) n) v.0) s.0 0 count on c h in
      (r.0, λ _ lent. r.1 (omega arith) (omega arith) lent)
  lost_reads v Use on c h = (sym (same_Some on c h), λ e. absurd (let no : Use ≡ End = e in cc))
  lost_reads v Begin on c h = (sym (same_Some on c h), λ e. absurd (let no : Begin ≡ End = e in cc))

  reads : ReadsMarks s (mark_entries f (known_or facts) count)
  reads m on c h =
      let p = entries_split s.0 (scope_entries f (known_or facts) m) (lost_entries f (known_or facts) count m) on c h in
      scope_reads m on p.0 p.1 ∙ ap Some (sym (lost_reads m.subject m.sort p.0 c p.2).0)

  asks : AsksOff s (returned f (known_or facts) count)
  asks true on c h =
      let r = range_free rule.ScopeLeft (λ n. is_scope f (known_or facts) (value_of n)) s.0 0 count on c h in
      (r.0, λ _. r.1 (omega arith) (omega arith) scope)
  asks false on c h = (sym (same_Some on c h), λ e. absurd (false≢true e))

  module _ (b : ValueId) (lent : has (lent_bases f (known_or facts) s.0) b.0 ≡ true) where
    -- an end that isn't the scope's, while it is open: it is of no base, and leaves the scope open
    other_end : (x : Taken) (own : Bool) → (x.value.0 == s.0) ≡ own → own ≡ false → (c : Bool) →
        switched_over (filter_map (means s.0) (mark_entries f (known_or facts) count (end_of x.value))) true ≡ Some c → (c ≡ true) × ((x.value.0 == b.0) ≡ false)
    other_end x own is other c h =
        let p = entries_split s.0 (scope_entries f (known_or facts) (end_of x.value)) (lost_entries f (known_or facts) count (end_of x.value)) true c h in
        let read = scope_reads (end_of x.value) true p.0 p.1 in
        let opened : true ≡ p.0 = same_Some true p.0 (ap (λ o. read_by o End true) (sym other ∙ sym is) ∙ read) in
        let lost = lost_reads x.value End p.0 c p.2 in
        (lost.0 ∙ sym opened, no_base (x.value.0 == b.0) refl (λ e. opened ∙ lost.1 refl (ap (has (lent_bases f (known_or facts) s.0)) (eqb-true x.value.0 b.0 e) ∙ lent)))
      where
        no_base : (o : Bool) → (x.value.0 == b.0) ≡ o → ((x.value.0 == b.0) ≡ true → true ≡ false) → o ≡ false
        no_base true e h = h e
        no_base false e h = refl

    one_end : (x : Taken) (there : Bool) → ends facts x ≡ there → (there && (x.value.0 == s.0)) ≡ false → (c : Bool) →
        switched_over (filter_map (means s.0) (flat_map (mark_entries f (known_or facts) count) (cond there (end_of x.value ∷ []) []))) true ≡ Some c →
        (c ≡ true) × ((there && (x.value.0 == b.0)) ≡ false)
    one_end x false e other c h = (sym (same_Some true c h), refl)
    one_end x true e other c h =
        other_end x (x.value.0 == s.0) refl other c
        (ap (λ es. switched_over (filter_map (means s.0) es) true) (sym (append-nil (mark_entries f (known_or facts) count (end_of x.value)))) ∙ h)

    no_ends : (xs : List Taken) (c : Bool) → switched_over (filter_map (means s.0) (flat_map (mark_entries f (known_or facts) count) (flat_map (ended facts) xs))) true ≡ Some c →
        list_any (is_end facts s) xs ≡ false → list_any (is_end facts b) xs ≡ false
    no_ends [] c h none = refl
    no_ends (x ∷ xs) c h none =
        let one = mark_entries f (known_or facts) count in
        let p = entries_split s.0 (flat_map one (ended facts x)) (flat_map one (flat_map (ended facts) xs)) true c
        (ap (λ es. switched_over (filter_map (means s.0) es) true) (sym (flat_map-append one (ended facts x) (flat_map (ended facts) xs))) ∙ h) in
        let q = one_end x (ends facts x) refl (or_first (is_end facts s x) (list_any (is_end facts s) xs) none) p.0
        (ap (λ ms. switched_over (filter_map (means s.0) (flat_map one ms)) true) (sym (end_with (facts x.value) x)) ∙ p.1) in
        neither (is_end facts b x) (list_any (is_end facts b) xs) q.1
        (no_ends xs c (ap (switched_over (filter_map (means s.0) (flat_map one (flat_map (ended facts) xs)))) (sym q.0) ∙ p.2)
        (or_second (is_end facts s x) (list_any (is_end facts s) xs) none))

    -- an item that the trail's marks let pass
    kept_at : (i : Item) (c : Bool) → switched_over (marks_for s.0 (scopes_of count facts f) i) true ≡ Some c →
        list_any (is_end facts s) (item_taken f i) ≡ false → list_any (is_end facts b) (item_taken f i) ≡ false
    kept_at i c h none =
        let one = mark_entries f (known_or facts) count in
        let taken = item_taken f i in
        let uses = flat_map (used facts) taken in
        let begins = flat_map (begun facts) (item_defined f i) in
        let p = entries_split s.0 (flat_map one (marks_of facts f i)) (returned f (known_or facts) count (is_return f i)) true c h in
        let q = entries_split s.0 (flat_map one (flat_map (ended facts) taken ++ uses)) (flat_map one begins) true p.0
        (ap (λ es. switched_over (filter_map (means s.0) es) true) (sym (flat_map-append one (flat_map (ended facts) taken ++ uses) begins)) ∙ p.1) in
        let r = entries_split s.0 (flat_map one (flat_map (ended facts) taken)) (flat_map one uses) true q.0
        (ap (λ es. switched_over (filter_map (means s.0) es) true) (sym (flat_map-append one (flat_map (ended facts) taken) uses)) ∙ q.1) in
        no_ends taken r.0 r.1 none

pub scopes_passed : AreScopesPassed
scopes_passed d f accepted s is t i trail =
    let follows = followed_turned f (marks_for s.0 (scopes_in d f)) (scopes_unbroken d f accepted.clean s) in
    let count = length (values_of f.blocks) in
    passed (facts_in d f) s f (mark_entries f (known_or (facts_in d f)) count) (returned f (known_or (facts_in d f)) count)
    (reads (facts_in d f) f s is.scope count is.is_value) (asks (facts_in d f) f s is.scope count is.is_value) t i (follows t (turned_older f i t trail)) (follows (i ∷ t) trail)

pub bases_kept : AreBasesKept
bases_kept d f accepted s b is lent t i trail opened none =
    let follows = followed_turned f (marks_for s.0 (scopes_in d f)) (scopes_unbroken d f accepted.clean s) (i ∷ t) trail in
    kept_at (facts_in d f) f s is.scope (length (values_of f.blocks)) is.is_value b lent i follows.0
    (ap (option_and_then (switched_over (marks_for s.0 (scopes_in d f) i))) (sym opened) ∙ follows.1) none
