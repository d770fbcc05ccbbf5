-- How the next item finds and leaves a value, where the value's switch reads the marks of the item.
use Rattle.std.proofs.Common.{◌≡◌, List, [], ◌∷◌, ◌++◌, sym, ap, ◌∙◌, Bool, true, false, ◌||◌, Option, Some}
use Rattle.std.specs.Prelude.{filter_map, flat_map, option_and_then}
use Rattle.std.specs.List.{list_any}
use Rattle.sil_cfg_items.specs.Items.{item_defined, item_taken}
use Rattle.sil_verifier_values.specs.ownership_kinds_chains.declared.ownership_chains.facts.Facts.{Facts}
use Rattle.sil_verifier_values.specs.ownership_kinds_chains.OwnershipMarks.Marks.{begun, ended, marks_of, used}
use Rattle.sil_verifier_values.specs.ownership_kinds_chains.declared.ownership_marks.mark.Mark.{Mark}
use Rattle.sil_verifier_values.specs.reach_engine_marks.PathChecks.Entries.{marks_for, means}
use Rattle.sil_verifier_values.specs.reach_engine_marks.declared.path_checks.entry.Entry.{Entry}
use Rattle.sil_ast.specs.declared.function.Function.{Function}
use Rattle.sil_ast.specs.declared.place.ValueId.{ValueId}
use Rattle.sil_cfg.specs.Returns.{is_return}
use Rattle.sil_cfg.specs.declared.item.Item.{Item}
use Rattle.sil_verifier_trails.specs.RunTrails.inner.Switched.{IsFollowed, switched, switched_over}
use Rattle.sil_verifier_trails.specs.AcceptedTrails.inner.Passing.{IsFoundRight, IsPassed, behind, is_begin, left_by}
use Rattle.sil_verifier_trails.proofs.AcceptedTrails.Quiet.{entries_split}
use Rattle.sil_verifier_trails.proofs.AcceptedTrails.Tests.{or_second}
use Rattle.sil_verifier_trails.proofs.AcceptedTrails.Reading.{begins_found, begins_left, ends_found, ends_left, read, read_mark, read_split, uses_found}

-- what the marks of an item are to the value: those of its own as they are read, and others that turn nothing
abbrev pub ReadsMarks : ValueId → (Mark → List Entry) → Type 0
ReadsMarks v one = (m : Mark) (on c : Bool) → switched_over (filter_map (means v.0) (one m)) on ≡ Some c → read_mark v m on ≡ Some c

-- what every `return` asks: that it is off
abbrev pub AsksOff : ValueId → (Bool → List Entry) → Type 0
AsksOff v shared = (returns on c : Bool) → switched_over (filter_map (means v.0) (shared returns)) on ≡ Some c → (c ≡ on) × (returns ≡ true → on ≡ false)

module _ (facts : ValueId → Option Facts) (v : ValueId) (f : Function) (one : Mark → List Entry) (shared : Bool → List Entry) (reads : ReadsMarks v one) (asks : AsksOff v shared) where
  abbrev table : Item → List Entry
  table i = flat_map one (marks_of facts f i) ++ shared (is_return f i)

  all_read : (ms : List Mark) (on c : Bool) → switched_over (filter_map (means v.0) (flat_map one ms)) on ≡ Some c → read v ms on ≡ Some c
  all_read [] on c h = h
  all_read (m ∷ ms) on c h =
      let s = entries_split v.0 (one m) (flat_map one ms) on c h in
      ap (option_and_then (read v ms)) (reads m on s.0 s.1) ∙ all_read ms s.0 c s.2

  item_passed : (i : Item) (on c : Bool) → switched_over (marks_for v.0 table i) on ≡ Some c → IsFoundRight facts v f i on × (c ≡ behind facts v f i on)
  item_passed i on c h =
      let taken = item_taken f i in
      let made = item_defined f i in
      let s = entries_split v.0 (flat_map one (marks_of facts f i)) (shared (is_return f i)) on c h in
      let off = asks (is_return f i) s.0 c s.2 in
      let u = read_split facts v (flat_map (ended facts) taken ++ flat_map (used facts) taken) (flat_map (begun facts) made) on s.0 (all_read (marks_of facts f i) on s.0 s.1) in
      let e = read_split facts v (flat_map (ended facts) taken) (flat_map (used facts) taken) on u.0 u.1 in
      let left : e.0 ≡ left_by facts v f i on = ends_left facts v taken on e.0 e.1 in
      let uses = uses_found facts v taken e.0 u.0 e.2 in
      let still : u.0 ≡ left_by facts v f i on = uses.0 ∙ left in
      let made_on : s.0 ≡ behind facts v f i on = begins_left facts v made u.0 s.0 u.2 ∙ ap (λ b. list_any (is_begin facts v) made || b) still in (
        record {
          ended = λ front rest x parts there. ends_found facts v front rest x on e.0 (ap (λ xs. read v (flat_map (ended facts) xs) on) (sym parts) ∙ e.1) there;
          used = λ there. sym left ∙ uses.1 there;
          begun = λ front rest w parts there.
              ap (λ b. list_any (is_begin facts v) front || b) (sym still)
              ∙ begins_found facts v front rest w u.0 s.0 (ap (λ ws. read v (flat_map (begun facts) ws) u.0) (sym parts) ∙ u.2) there;
          returned = λ there. or_second (list_any (is_begin facts v) made) (left_by facts v f i on) (sym made_on ∙ off.1 there);
        },
        off.0 ∙ made_on,
      )

  pub passed : (t : List Item) (i : Item) → IsFollowed (marks_for v.0 table) t → IsFollowed (marks_for v.0 table) (i ∷ t) →
      IsPassed facts v (switched (marks_for v.0 table)) f t i
  passed t i was is =
      let r = item_passed i was.0 is.0 (ap (option_and_then (switched_over (marks_for v.0 table i))) (sym was.1) ∙ is.1) in
      record { on = was.0; was = was.1; found = r.0; is_left = is.1 ∙ ap Some r.1 }
