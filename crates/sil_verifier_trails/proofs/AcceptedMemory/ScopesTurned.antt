-- Where the marks of an item turn a scope: by the table of scopes, and by what the item does to a part of memory that goes by the scope.
use Rattle.std.proofs.Common.{◌≡◌, ℕ, List, [], ◌∷◌, ◌++◌, refl, sym, ap, ◌∙◌, Bool, true, false, Option, Some, None}
use Rattle.std.specs.Prelude.{◌==◌, cond, flat_map, map, option_and_then, unwrap_or}
use Rattle.std.specs.List.{range_with_len}
use Rattle.std.proofs.lemmas.Bool.{eqb-true}
use Rattle.std.proofs.lemmas.List.{append_assoc}
use Rattle.sil_verifier_values.specs.borrow_scopes.Scopes as scopes
use Rattle.sil_verifier_values.specs.borrow_scopes.Scopes.{is_scope, lent_bases, scopes_of}
use Rattle.sil_cfg_items.specs.Items.{item_defined, item_taken}
use Rattle.sil_cfg_items.specs.Parts.{item_inst}
use Rattle.sil_cfg_items.specs.declared.taken.Taken.{Taken}
use Rattle.sil_verifier_values.specs.memory_rules_accesses.Accesses as accesses
use Rattle.sil_verifier_values.specs.memory_rules_accesses.Accesses.{accesses_of, allowance_of, deallocations_of, does_of, made, made_by, mentioned, mentions_of}
use Rattle.sil_verifier_values.specs.memory_rules_accesses.Operations.{addresses_of, deallocates, operations_of}
use Rattle.sil_verifier_values.specs.memory_rules_accesses.Sources.{source_at}
use Rattle.sil_verifier_values.specs.memory_rules_accesses.declared.access.Access.{Access}
use Rattle.sil_verifier_values.specs.memory_rules_accesses.declared.access.Access.TheVariants.{Allocates, Begins, Deallocates, Does, Ends, Given, Mentions}
use Rattle.sil_verifier_values.specs.memory_rules_accesses.declared.access.Operated.{Operated}
use Rattle.sil_verifier_values.specs.memory_rules_accesses.declared.columns.Allowance.{Allowance}
use Rattle.sil_verifier_values.specs.memory_rules_accesses.declared.source.Source.{Source}
use Rattle.sil_verifier_values.specs.memory_rules_accesses.declared.source.Source.TheVariants as source
use Rattle.argument_conventions.specs.declared.row.Content.{Content}
use Rattle.sil_verifier_values.specs.memory_rules_parts.Switches.{is_same}
use Rattle.numbered_form.specs.Lists.{Each}
use Rattle.sil_verifier_values.specs.ownership_kinds_chains.OwnershipChains.Facts.{has, known_or}
use Rattle.sil_verifier_values.specs.ownership_kinds_chains.declared.ownership_chains.facts.Facts.{Facts}
use Rattle.sil_verifier_values.specs.ownership_kinds_chains.OwnershipMarks.Marks as marks
use Rattle.sil_verifier_values.specs.ownership_kinds_chains.OwnershipMarks.Marks.{marks_of}
use Rattle.sil_verifier_values.specs.ownership_kinds_chains.declared.ownership_marks.mark.Mark.{Mark}
use Rattle.sil_verifier_values.specs.ownership_kinds_chains.declared.ownership_marks.mark.MarkSort.{MarkSort}
use Rattle.sil_verifier_values.specs.ownership_kinds_chains.declared.ownership_marks.mark.MarkSort.TheVariants.{Begin, End, Use}
use Rattle.sil_verifier_values.specs.reach_engine_marks.PathChecks.Entries.{marks_for, means}
use Rattle.sil_verifier_values.specs.reach_engine_marks.declared.path_checks.entry.Entry.{Entry}
use Rattle.sil_ast.specs.declared.function.Function.{Function}
use Rattle.sil_ast.specs.declared.inst.Inst.{Inst}
use Rattle.sil_ast.specs.declared.place.ValueId.{ValueId}
use Rattle.sil_cfg.specs.Returns.{is_return}
use Rattle.sil_cfg.specs.declared.item.Item.{Item}
use Rattle.sil_verifier_trails.proofs.AcceptedMemory.MarkSorts.{IsOfSort, begins_are, ends_are, uses_are}
use Rattle.sil_verifier_trails.proofs.AcceptedMemory.Switching.{turned_over}
use Rattle.sil_verifier_trails.proofs.AcceptedMemory.Turning.{each_append, each_filtered, each_flat, each_mapped, each_none, each_quiet, each_where, over_as_each, turned_each}

abbrev pub sort_turn : MarkSort → Option Bool
sort_turn End = Some false
sort_turn Use = None
sort_turn Begin = Some true

module _ (s : ValueId) where
  -- where a mark of an item turns the scope
  abbrev pub scope_turn : Mark → Option Bool
  scope_turn m = cond (is_same m.subject s) (sort_turn m.sort) None

  -- ---- by the table of scopes

  abbrev entry_turn : Entry → Option Bool
  entry_turn e = option_and_then (λ m. m.turns) (means s.0 e)

  module _ (f : Function) (facts : ValueId → Facts) (count : ℕ) (scope : is_scope f facts s ≡ true) where
    -- an entry that turns nothing
    quiet_entry : (e : Entry) → e.mark.turns ≡ None → entry_turn e ≡ None
    quiet_entry e none = at (e.subject == s.0)
      where
        at : (b : Bool) → option_and_then (λ m. m.turns) (cond b (Some e.mark) None) ≡ None
        at true = none
        at false = refl

    quiet_where : (b : Bool) (e : Entry) → e.mark.turns ≡ None → (on : Bool) → turned_each entry_turn (cond b (e ∷ []) []) on ≡ on
    quiet_where true e none on = ap (λ o. unwrap_or o on) (quiet_entry e none)
    quiet_where false e none on = refl

    lost_quiet : (v : ValueId) (sort : MarkSort) (on : Bool) → turned_each entry_turn (scopes.lost_with f facts count v sort) on ≡ on
    lost_quiet v End on =
        each_flat entry_turn (λ n. None) (scopes.lost_from f facts v)
        (λ n on. quiet_where (has (lent_bases f facts n) v.0) (scopes.lost_at_end n) refl on) (range_with_len 0 count) on
        ∙ each_quiet (λ n. None) (λ n. refl) (range_with_len 0 count) on
    lost_quiet v Use on = refl
    lost_quiet v Begin on = refl

    left_quiet : (b : Bool) (on : Bool) → turned_each entry_turn (scopes.returned f facts count b) on ≡ on
    left_quiet true on =
        each_flat entry_turn (λ n. None) (scopes.leaves f facts)
        (λ n on. quiet_where (is_scope f facts (record { 0 = n })) (scopes.left_at_return n) refl on) (range_with_len 0 count) on
        ∙ each_quiet (λ n. None) (λ n. refl) (range_with_len 0 count) on
    left_quiet false on = refl

    sort_of_entry : (m : Mark) → (scopes.turned_by m.sort).turns ≡ sort_turn m.sort
    sort_of_entry m = at m.sort
      where
        at : (sort : MarkSort) → (scopes.turned_by sort).turns ≡ sort_turn sort
        at End = refl
        at Use = refl
        at Begin = refl

    own_entry : (m : Mark) (on : Bool) → turned_each entry_turn (scopes.scope_entries f facts m) on ≡ unwrap_or (scope_turn m) on
    own_entry m on = at (m.subject.0 == s.0) refl
      where
        at : (b : Bool) → (m.subject.0 == s.0) ≡ b → turned_each entry_turn (scopes.scope_entries f facts m) on ≡ unwrap_or (cond b (sort_turn m.sort) None) on
        at true is =
            let same : m.subject ≡ s = ap (λ (n : ℕ). record { 0 = n }) (eqb-true m.subject.0 s.0 is) in
            let here : is_scope f facts m.subject ≡ true = ap (is_scope f facts) same ∙ scope in
            ap (λ b. turned_each entry_turn (cond b (scopes.entry_of m ∷ []) []) on) here
            ∙ ap (λ b. unwrap_or (option_and_then (λ m. m.turns) (cond b (Some (scopes.turned_by m.sort)) None)) on) is
            ∙ ap (λ o. unwrap_or o on) (sort_of_entry m)
        at false is = by (is_scope f facts m.subject)
          where
            by : (b : Bool) → turned_each entry_turn (cond b (scopes.entry_of m ∷ []) []) on ≡ on
            by true = ap (λ b. unwrap_or (option_and_then (λ m. m.turns) (cond b (Some (scopes.turned_by m.sort)) None)) on) is
            by false = refl

    entries_turn : (m : Mark) (on : Bool) → turned_each entry_turn (scopes.mark_entries f facts count m) on ≡ unwrap_or (scope_turn m) on
    entries_turn m on =
        each_append entry_turn (scopes.scope_entries f facts m) (scopes.lost_entries f facts count m) on
        ∙ lost_quiet m.subject m.sort (turned_each entry_turn (scopes.scope_entries f facts m) on)
        ∙ own_entry m on

  pub turned_by_table : (f : Function) (facts : ValueId → Option Facts) (count : ℕ) → is_scope f (known_or facts) s ≡ true → (i : Item) (on : Bool)
      → turned_over (marks_for s.0 (scopes_of count facts f) i) on ≡ turned_each scope_turn (marks_of facts f i) on
  turned_by_table f facts count scope i on =
      let own : List Entry = flat_map (scopes.mark_entries f (known_or facts) count) (marks_of facts f i) in
      let last : List Entry = scopes.returned f (known_or facts) count (is_return f i) in
      over_as_each (marks_for s.0 (scopes_of count facts f) i) on
      ∙ each_filtered (λ m. m.turns) (means s.0) (own ++ last) on
      ∙ each_append entry_turn own last on
      ∙ left_quiet f (known_or facts) count scope (is_return f i) (turned_each entry_turn own on)
      ∙ each_flat entry_turn scope_turn (scopes.mark_entries f (known_or facts) count) (entries_turn f (known_or facts) count scope) (marks_of facts f i) on

  -- ---- by accesses

  -- accesses turn the scope where it ends and where it begins, and nowhere else
  pub record GoesByScope (turn : Access → Option Bool) : Type 0 where
    pub ends : (v : ValueId) → turn (Ends v) ≡ cond (is_same v s) (Some false) None
    pub begins : (v : ValueId) → turn (Begins v) ≡ cond (is_same v s) (Some true) None
    pub allocates : (v : ValueId) → turn (Allocates v) ≡ None
    pub deallocates : (v : ValueId) → turn (Deallocates v) ≡ None
    pub given : (v : ValueId) (c : Content) → turn (Given v c) ≡ None
    pub does : (x : Operated) → turn (Does x) ≡ None
    pub mentions : (v : ValueId) (a : Allowance) → turn (Mentions v a) ≡ None

  -- where an end turns the scope, and where a begin does
  abbrev end_turn : MarkSort → ValueId → Option Bool
  end_turn End v = cond (is_same v s) (Some false) None
  end_turn Use v = None
  end_turn Begin v = None

  abbrev begin_turn : MarkSort → ValueId → Option Bool
  begin_turn End v = None
  begin_turn Use v = None
  begin_turn Begin v = cond (is_same v s) (Some true) None

  abbrev by_end : Mark → Option Bool
  by_end m = end_turn m.sort m.subject

  abbrev by_begin : Mark → Option Bool
  by_begin m = begin_turn m.sort m.subject

  module _ (turn : Access → Option Bool) (by : GoesByScope turn) where
    ended_turn : (m : Mark) (on : Bool) → turned_each turn (accesses.ended m) on ≡ unwrap_or (by_end m) on
    ended_turn m on = at m.sort
      where
        at : (sort : MarkSort) → turned_each turn (accesses.ends_by m.subject sort) on ≡ unwrap_or (end_turn sort m.subject) on
        at End = ap (λ o. unwrap_or o on) (by.ends m.subject)
        at Use = refl
        at Begin = refl

    begun_turn : (m : Mark) (on : Bool) → turned_each turn (accesses.begun m) on ≡ unwrap_or (by_begin m) on
    begun_turn m on = at m.sort
      where
        at : (sort : MarkSort) → turned_each turn (accesses.begins_by m.subject sort) on ≡ unwrap_or (begin_turn sort m.subject) on
        at End = refl
        at Use = refl
        at Begin = ap (λ o. unwrap_or o on) (by.begins m.subject)

    mentions_quiet : (o : Option Inst) (ts : List Taken) (on : Bool) → turned_each turn (mentions_of o ts) on ≡ on
    mentions_quiet None ts on = refl
    mentions_quiet (Some i) ts on = at (deallocates i)
      where
        at : (b : Bool) → turned_each turn (cond b [] (map (mentioned (allowance_of i.op)) ts)) on ≡ on
        at true = refl
        at false =
            each_mapped turn (mentioned (allowance_of i.op)) ts on
            ∙ each_quiet (λ t. turn (mentioned (allowance_of i.op) t)) (λ t. by.mentions t.value (allowance_of i.op)) ts on

    does_quiet : (o : Option Inst) (on : Bool) → turned_each turn (does_of o) on ≡ on
    does_quiet None on = refl
    does_quiet (Some i) on = each_mapped turn Does (operations_of i) on ∙ each_quiet (λ x. turn (Does x)) by.does (operations_of i) on

    deallocations_quiet : (o : Option Inst) (on : Bool) → turned_each turn (deallocations_of o) on ≡ on
    deallocations_quiet None on = refl
    deallocations_quiet (Some i) on = at (deallocates i)
      where
        at : (b : Bool) → turned_each turn (cond b (map Deallocates (addresses_of i)) []) on ≡ on
        at true = each_mapped turn Deallocates (addresses_of i) on ∙ each_quiet (λ v. turn (Deallocates v)) by.deallocates (addresses_of i) on
        at false = refl

    made_turn : (v : ValueId) (x : Source) (on : Bool) → turned_each turn (made_by v x) on ≡ on
    made_turn v (source.Slot trivial) on = ap (λ o. unwrap_or o on) (by.allocates v)
    made_turn v (source.Argument row trivial) on = ap (λ o. unwrap_or o on) (by.given v row.before)
    made_turn v (source.Object fields) on = ap (λ o. unwrap_or o on) (by.allocates v)
    made_turn v (source.Borrow of) on = refl
    made_turn v (source.Upcast of) on = refl
    made_turn v (source.Loan of) on = refl
    made_turn v (source.Field of k trivial) on = refl
    made_turn v (source.Part of k) on = refl
    made_turn v source.Other on = refl

    made_quiet : (sources : List Source) (vs : List ValueId) (on : Bool) → turned_each turn (flat_map (made sources) vs) on ≡ on
    made_quiet sources vs on =
        each_flat turn (λ v. None) (made sources) (λ v on. made_turn v (source_at sources v) on) vs on ∙ each_quiet (λ v. None) (λ v. refl) vs on

    -- accesses turn it by the ends among the marks, and then by the begins
    accesses_turn : (sources : List Source) (facts : ValueId → Option Facts) (f : Function) (i : Item) (on : Bool)
        → turned_each turn (accesses_of sources facts f i) on ≡ turned_each by_begin (marks_of facts f i) (turned_each by_end (marks_of facts f i) on)
    accesses_turn sources facts f i on =
        let ends : List Access = flat_map accesses.ended (marks_of facts f i) in
        let begins : List Access = flat_map accesses.begun (marks_of facts f i) in
        let one : List Access = mentions_of (item_inst f i) (item_taken f i) in
        let two : List Access = does_of (item_inst f i) in
        let three : List Access = deallocations_of (item_inst f i) in
        let four : List Access = flat_map (made sources) (item_defined f i) in
        let left : Bool = turned_each turn ends on in
        each_append turn ends (one ++ (two ++ (three ++ (four ++ begins)))) on
        ∙ each_append turn one (two ++ (three ++ (four ++ begins))) left
        ∙ ap (turned_each turn (two ++ (three ++ (four ++ begins)))) (mentions_quiet (item_inst f i) (item_taken f i) left)
        ∙ each_append turn two (three ++ (four ++ begins)) left
        ∙ ap (turned_each turn (three ++ (four ++ begins))) (does_quiet (item_inst f i) left)
        ∙ each_append turn three (four ++ begins) left
        ∙ ap (turned_each turn (four ++ begins)) (deallocations_quiet (item_inst f i) left)
        ∙ each_append turn four begins left
        ∙ ap (turned_each turn begins) (made_quiet sources (item_defined f i) left)
        ∙ each_flat turn by_begin accesses.begun begun_turn (marks_of facts f i) left
        ∙ ap (turned_each by_begin (marks_of facts f i)) (each_flat turn by_end accesses.ended ended_turn (marks_of facts f i) on)

    -- ends come first among the marks, and begins last
    marks_turn : (ends uses begins : List Mark) → Each (IsOfSort End) ends → Each (IsOfSort Use) uses → Each (IsOfSort Begin) begins → (on : Bool)
        → turned_each by_begin (ends ++ (uses ++ begins)) (turned_each by_end (ends ++ (uses ++ begins)) on) ≡ turned_each scope_turn (ends ++ (uses ++ begins)) on
    marks_turn ends uses begins of_end of_use of_begin on =
        let behind : Bool = turned_each by_end ends on in
        ap (turned_each by_begin (ends ++ (uses ++ begins)))
        (each_append by_end ends (uses ++ begins) on
        ∙ each_append by_end uses begins behind
        ∙ each_none (IsOfSort Begin) by_end (λ m e. ap (λ sort. end_turn sort m.subject) e) begins of_begin (turned_each by_end uses behind)
        ∙ each_none (IsOfSort Use) by_end (λ m e. ap (λ sort. end_turn sort m.subject) e) uses of_use behind)
        ∙ each_append by_begin ends (uses ++ begins) behind
        ∙ ap (turned_each by_begin (uses ++ begins)) (each_none (IsOfSort End) by_begin (λ m e. ap (λ sort. begin_turn sort m.subject) e) ends of_end behind)
        ∙ each_append by_begin uses begins behind
        ∙ ap (turned_each by_begin begins) (each_none (IsOfSort Use) by_begin (λ m e. ap (λ sort. begin_turn sort m.subject) e) uses of_use behind)
        ∙ sym (each_append scope_turn ends (uses ++ begins) on
        ∙ each_append scope_turn uses begins (turned_each scope_turn ends on)
        ∙ ap (turned_each scope_turn begins) (each_none (IsOfSort Use) scope_turn use_turn uses of_use (turned_each scope_turn ends on)
        ∙ each_where (IsOfSort End) scope_turn by_end
        (λ m e. ap (λ sort. cond (is_same m.subject s) (sort_turn sort) None) e ∙ sym (ap (λ sort. end_turn sort m.subject) e)) ends of_end on)
        ∙ each_where (IsOfSort Begin) scope_turn by_begin
        (λ m e. ap (λ sort. cond (is_same m.subject s) (sort_turn sort) None) e ∙ sym (ap (λ sort. begin_turn sort m.subject) e)) begins of_begin behind)
      where
        use_turn : (m : Mark) → m.sort ≡ Use → scope_turn m ≡ None
        use_turn m e = ap (λ sort. cond (is_same m.subject s) (sort_turn sort) None) e ∙ none (is_same m.subject s)
          where
            none : (b : Bool) → cond b (sort_turn Use) None ≡ None
            none true = refl
            none false = refl

    pub turned_by_accesses : (sources : List Source) (facts : ValueId → Option Facts) (f : Function) (i : Item) (on : Bool)
        → turned_each turn (accesses_of sources facts f i) on ≡ turned_each scope_turn (marks_of facts f i) on
    turned_by_accesses sources facts f i on =
        let ends : List Mark = flat_map (marks.ended facts) (item_taken f i) in
        let uses : List Mark = flat_map (marks.used facts) (item_taken f i) in
        let begins : List Mark = flat_map (marks.begun facts) (item_defined f i) in
        let sorted : marks_of facts f i ≡ ends ++ (uses ++ begins) = append_assoc ends uses begins in
        accesses_turn sources facts f i on
        ∙ ap (λ ms. turned_each by_begin ms (turned_each by_end ms on)) sorted
        ∙ marks_turn ends uses begins (ends_are facts (item_taken f i)) (uses_are facts (item_taken f i)) (begins_are facts (item_defined f i)) on
        ∙ sym (ap (λ ms. turned_each scope_turn ms on) sorted)
