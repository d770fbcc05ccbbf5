-- The fields of new objects: what is to be written is empty, and what is written is full.
use Rattle.std.proofs.Common.{◌≡◌, inl, inr, ℕ, List, [], ◌∷◌, ◌++◌, map, refl, sym, ap, ◌∙◌, Bool, true, false, not, ◌&&◌, ◌||◌, Option, Some, None, eq-eqb}
use Rattle.std.specs.Prelude.{◌==◌, Contains, cond, flat_map, is_some, option_and_then, unwrap_or}
use Rattle.std.specs.List.{list_any}
use Rattle.std.proofs.lemmas.Bool.{eqb-true, false≢true, or_cases, true≢false}
use Rattle.std.proofs.lemmas.Option.{same_Some}
use Rattle.argument_conventions.specs.declared.row.AddressRow.{AddressRow}
use Rattle.sil_verifier_trails.specs.AcceptedTrails.inner.Defined.{IsDefinedOn, makes}
use Rattle.sil_verifier_values.specs.memory_rules_accesses.Accesses.{allowance_of, deallocations_of, does_of, ended, made, made_by, mentioned, mentions_of}
use Rattle.sil_verifier_values.specs.memory_rules_accesses.Locations.{cell_by, location_of, object_built}
use Rattle.sil_verifier_values.specs.memory_rules_accesses.Locations as locations
use Rattle.sil_verifier_values.specs.memory_rules_accesses.Operations.{addresses_of, deallocates, operations_of}
use Rattle.sil_verifier_values.specs.memory_rules_accesses.Rows.{field_has, has_by, has_operation, is_part}
use Rattle.sil_verifier_values.specs.memory_rules_accesses.Sources.{is_slot, is_slot_source, is_trivial_at, source_at, sources_of}
use Rattle.sil_verifier_values.specs.memory_rules_accesses.declared.access.Access.{Access}
use Rattle.sil_verifier_values.specs.memory_rules_accesses.declared.access.Access.TheVariants.{Allocates, Begins, Deallocates, Does, Ends, Given, Mentions}
use Rattle.sil_verifier_values.specs.memory_rules_accesses.declared.access.Operated.{Operated}
use Rattle.sil_verifier_values.specs.memory_rules_accesses.declared.access.Operation.{Operation}
use Rattle.sil_verifier_values.specs.memory_rules_accesses.declared.access.Operation.TheVariants.{FirstWrite, Handed, Lend, Read, Take, TrivialStore, Write}
use Rattle.sil_verifier_values.specs.memory_rules_accesses.declared.location.Cell.{Cell}
use Rattle.sil_verifier_values.specs.memory_rules_accesses.declared.location.Location.{Location}
use Rattle.sil_verifier_values.specs.memory_rules_accesses.declared.source.Source.{Source}
use Rattle.sil_verifier_values.specs.memory_rules_accesses.declared.source.Source.TheVariants as source
use Rattle.sil_verifier_values.specs.memory_rules_parts.Building.{fills, is_forbidden}
use Rattle.sil_verifier_values.specs.memory_rules_parts.Contents.{at_location, counts_at_part, deallocation_mark, given_mark, operation_mark, same_cell}
use Rattle.sil_verifier_values.specs.memory_rules_parts.Switches.{is_same, is_turned_on, when}
use Rattle.sil_verifier_values.specs.memory_rules_parts.declared.part.Part.{Part}
use Rattle.sil_verifier_values.specs.memory_rules_parts.declared.part.Part.TheVariants.{Building, Contents}
use Rattle.sil_verifier_values.specs.ownership_kinds_origins.Facts.{facts_in}
use Rattle.sil_verifier_trails.specs.RunTrails.inner.RunTrails.{IsRunTrail}
use Rattle.sil_verifier_trails.specs.AcceptedMemory.inner.PartTrails.{IsPartOf, accesses_in, is_on}
use Rattle.sil_verifier_trails.proofs.AcceptedMemory.PartsFollowed.{parts_followed}
use Rattle.sil_verifier_trails.proofs.AcceptedMemory.PartsTurned.{turn_by}
use Rattle.sil_verifier_trails.proofs.AcceptedMemory.InSlots.{when_quiet}
use Rattle.sil_verifier_trails.proofs.AcceptedMemory.Turning.{turned_each}
use Rattle.sil_verifier_trails.proofs.AcceptedTrails.Tests.{either, or_more}
use Rattle.sil_verifier_values.specs.inner.Known.{IsAcceptedBody}
use Rattle.sil_cfg_items.specs.Items.{item_defined, item_taken}
use Rattle.sil_cfg_items.specs.Parts.{item_inst}
use Rattle.sil_cfg_items.specs.declared.taken.Taken.{Taken}
use Rattle.numbered_form.specs.Lists.{Each}
use Rattle.sil_verifier_values.specs.ownership_kinds_chains.OwnershipChains.Facts.{has, known_or, value_of}
use Rattle.sil_verifier_values.specs.ownership_kinds_chains.OwnershipMarks.Marks.{marks_of}
use Rattle.sil_verifier_values.specs.reach_engine_marks.PathPatterns.Marks.{needs_off, turns_off, turns_on}
use Rattle.sil_verifier_values.specs.reach_engine_marks.declared.path_patterns.mark.Mark.{Mark}
use Rattle.numbered_form.proofs.PointChecks.Among.{Among, among_flat, among_left, among_right}
use Rattle.sil_ast.specs.declared.function.Function.{Function}
use Rattle.sil_ast.specs.declared.inst.Inst.{Inst}
use Rattle.sil_ast.specs.declared.module.Module.{Module}
use Rattle.sil_ast.specs.declared.place.ValueId.{ValueId}
use Rattle.sil_cfg.specs.declared.item.Item.{Item}
use Rattle.sil_rules.specs.declared.rule.Rule.{Rule}
use Rattle.sil_rules.specs.declared.rule.Rule.TheVariants as rule
use Rattle.sil_verifier_values.specs.sil_types_declarations.TypeDefinitions.Declarations.{Declarations, declarations_of}
use Rattle.sil_verifier_trails.specs.AcceptedPlaces.inner.Unfinished.{AreFieldsBuilt, AreMadeUnwritten, AreUnfinishedAllowed, AreUnwrittenEmpty, AreWrittenOnce}
use Rattle.sil_verifier_trails.proofs.AcceptedPlaces.Followed.{access_finds, item_leaves}
use Rattle.sil_verifier_trails.proofs.AcceptedPlaces.Items.{IsOfMemory, MentionAt, accesses_each, all_append, all_of, each_mentioned, ends_quiet, item_comes, mention_at, turn_step, turned_all}
use Rattle.sil_verifier_trails.proofs.AcceptedPlaces.ItemStacks.{accepted_in}
use Rattle.sil_verifier_trails.proofs.AcceptedPlaces.OperationsRight.{rows_right}
use Rattle.sil_verifier_trails.proofs.AcceptedPlaces.PartsThere.{built_object, field_there}

-- a mark that comes and turns
pub when_turned : (b : Bool) (m : Mark) (on : Bool) → option_and_then (λ (m : Mark). m.turns) (when b m) ≡ Some on → (b ≡ true) × (m.turns ≡ Some on)
when_turned true m on e = (refl, e)
when_turned false m on e = cc

pub turned_where : (b : Bool) (m : Mark) (on : Bool) → m.turns ≡ Some on → option_and_then (λ (m : Mark). m.turns) (when b m) ≡ cond b (Some on) None
turned_where true m on e = e
turned_where false m on e = refl

never_both : (b : Bool) → (b && false) ≡ false
never_both true = refl
never_both false = refl

-- ---- no operation empties a field

module _ (sources : List Source) (object : ValueId) (k : ℕ) where
  abbrev pub cell : Cell
  cell = record { subject = object; field = Some k }

  -- a root of another sort has another cell
  other_cell : (root : ValueId) → same_cell (record { subject = root; field = None }) cell ≡ false
  other_cell root = never_both (is_same root object)

  not_there : (root : ValueId) (c : Cell) (m : Mark) → c ≡ record { subject = root; field = None }
      → option_and_then (λ (m : Mark). m.turns) (when (same_cell c cell) m) ≡ Some false → ⊥
  not_there root c m is e =
      true≢false (sym (when_turned (same_cell c cell) m false e).0 ∙ ap (λ x. same_cell x cell) is ∙ other_cell root)

  field_operation : (building part : Bool) (o : Operation) (trivial counts : Bool) → field_has part building o ≡ true → (operation_mark trivial counts o).turns ≡ Some false → ⊥
  field_operation building part FirstWrite trivial counts h e = cc
  field_operation building part Read trivial counts h e = cc
  field_operation building part Lend trivial counts h e = cc
  field_operation building part Write trivial counts h e = cc
  field_operation building part TrivialStore trivial true h e = cc
  field_operation building part TrivialStore trivial false h e = cc
  field_operation building part (Handed row) trivial counts h e = false≢true h
  field_operation building part Take trivial counts h e = false≢true h

  not_emptied_by : (root : ValueId) (s : Source) (part : Bool) (o : Operation) (trivial counts : Bool) → has_by sources s part o ≡ true
      → option_and_then (λ (m : Mark). m.turns) (when (same_cell (cell_by sources root s) cell) (operation_mark trivial counts o)) ≡ Some false → ⊥
  not_emptied_by root (source.Slot t) part o trivial counts h e = not_there root _ (operation_mark trivial counts o) refl e
  not_emptied_by root (source.Argument row t) part o trivial counts h e = not_there root _ (operation_mark trivial counts o) refl e
  not_emptied_by root (source.Object fields) part o trivial counts h e = not_there root _ (operation_mark trivial counts o) refl e
  not_emptied_by root (source.Borrow of) part o trivial counts h e = not_there root _ (operation_mark trivial counts o) refl e
  not_emptied_by root (source.Upcast of) part o trivial counts h e = not_there root _ (operation_mark trivial counts o) refl e
  not_emptied_by root (source.Loan of) part o trivial counts h e = not_there root _ (operation_mark trivial counts o) refl e
  not_emptied_by root (source.Field of j t) part o trivial counts h e =
      field_operation (is_some (object_built sources of)) part o trivial counts h
      (when_turned (same_cell (cell_by sources root (source.Field of j t)) cell) (operation_mark trivial counts o) false e).1
  not_emptied_by root (source.Part of j) part o trivial counts h e = not_there root _ (operation_mark trivial counts o) refl e
  not_emptied_by root source.Other part o trivial counts h e = not_there root _ (operation_mark trivial counts o) refl e

  abbrev Empties : Operation → Option Location → Type 0
  Empties o l = option_and_then (λ (m : Mark). m.turns) (at_location sources cell o l) ≡ Some false

  not_emptied : (o : Operation) (l : Option Location) → ((x : Location) → l ≡ Some x → has_operation sources x o ≡ true) → Empties o l → ⊥
  not_emptied o None has e = cc
  not_emptied o (Some l) has e =
      not_emptied_by l.root (source_at sources l.root) (is_part l) o (is_trivial_at sources l.root) (counts_at_part sources l o) (has l refl) e

-- ---- both parts of a field

-- an operation that fills the cell ends its building
does_both : (o : Option Mark) (r : Rule) → (option_and_then (λ (m : Mark). m.turns) o ≡ Some false → ⊥) → (b c : Bool) → b ≡ not c
    → unwrap_or (option_and_then (λ (m : Mark). m.turns) (when (is_turned_on o) (turns_off r))) b ≡ not (unwrap_or (option_and_then (λ (m : Mark). m.turns) o) c)
does_both None r kept b c e = e
does_both (Some m) r kept b c e = at m.turns kept
  where
    at : (t : Option Bool) → (t ≡ Some false → ⊥)
        → unwrap_or (option_and_then (λ (m : Mark). m.turns) (when (unwrap_or t false) (turns_off r))) b ≡ not (unwrap_or t c)
    at None kept = e
    at (Some true) kept = refl
    at (Some false) kept = absurd (kept refl)

module _ (d : Declarations) (f : Function) (object : ValueId) (k : ℕ) where
  abbrev sources_in : List Source
  sources_in = sources_of d f

  abbrev Built : Part
  Built = Building object k

  abbrev Held : Part
  Held = Contents (cell sources_in object k) false None

  -- what holds of each access of an item of an accepted function
  abbrev IsSound : Access → Type 0
  IsSound (Ends v) = Unit {0}
  IsSound (Begins v) = Unit {0}
  IsSound (Allocates v) = Unit {0}
  IsSound (Deallocates v) = (is_slot sources_in v && is_same v object) ≡ false
  IsSound (Given v content) = is_same v object ≡ false
  IsSound (Does x) = Empties sources_in object k x.operation (location_of sources_in x.address) → ⊥
  IsSound (Mentions v a) = Unit {0}

  allocated_both : (p : Bool) (b c : Bool) → b ≡ not c → unwrap_or (cond p (Some true) None) b ≡ not (unwrap_or (cond p (Some false) None) c)
  allocated_both true b c e = refl
  allocated_both false b c e = e

  step_both : (x : Access) → IsSound x → (b c : Bool) → b ≡ not c → unwrap_or (turn_by d f Built x) b ≡ not (unwrap_or (turn_by d f Held x) c)
  step_both (Ends v) h b c e = e
  step_both (Begins v) h b c e = e
  step_both (Allocates v) h b c e =
      ap (λ o. unwrap_or o b) (turned_where (is_same v object) (turns_on rule.FieldNotBuilt) true refl) ∙ allocated_both (is_same v object) b c e
      ∙ sym (ap (λ o. not (unwrap_or o c)) (turned_where (is_same v object) (turns_off rule.LoadUninitialised) false refl))
  step_both (Deallocates v) h b c e = e ∙ sym (ap (λ t. not (unwrap_or (option_and_then (λ (m : Mark). m.turns) (when t (deallocation_mark false))) c)) h)
  step_both (Given v content) h b c e = e ∙ sym (ap (λ t. not (unwrap_or (option_and_then (λ (m : Mark). m.turns) (when t (given_mark content))) c)) h)
  step_both (Does x) h b c e = does_both (at_location sources_in (cell sources_in object k) x.operation (location_of sources_in x.address)) rule.FieldNotBuilt h b c e
  step_both (Mentions v a) h b c e =
      ap (λ o. unwrap_or o b) (when_quiet (is_forbidden sources_in (known_or (facts_in d f)) object v a) (needs_off rule.FieldNotBuilt) refl) ∙ e

  pub both_turned : (xs : List Access) → Each IsSound xs → (b c : Bool) → b ≡ not c → turned_each (turn_by d f Built) xs b ≡ not (turned_each (turn_by d f Held) xs c)
  both_turned [] h b c e = e
  both_turned (x ∷ xs) h b c e = both_turned xs h.1 _ _ (step_both x h.0 b c e)

  -- from the allocation on
  pub both_from : (xs : List Access) → Each IsSound xs → Among (Allocates object) xs → (b c : Bool)
      → turned_each (turn_by d f Built) xs b ≡ not (turned_each (turn_by d f Held) xs c)
  both_from [] h a b c = absurd a
  both_from (x ∷ xs) h (inl same) b c =
      let itself : is_same object object ≡ true = eq-eqb object.0 object.0 refl in
      let one : turn_by d f Built x ≡ Some true =
      ap (turn_by d f Built) (sym same) ∙ ap (λ t. option_and_then (λ (m : Mark). m.turns) (when t (turns_on rule.FieldNotBuilt))) itself in
      let other : turn_by d f Held x ≡ Some false =
      ap (turn_by d f Held) (sym same) ∙ ap (λ t. option_and_then (λ (m : Mark). m.turns) (when t (turns_off rule.LoadUninitialised))) itself in
      both_turned xs h.1 _ _ (ap (λ o. unwrap_or o b) one ∙ sym (ap (λ o. not (unwrap_or o c)) other))
  both_from (x ∷ xs) h (inr more) b c = both_from xs h.1 more (unwrap_or (turn_by d f Built x) b) (unwrap_or (turn_by d f Held x) c)

pub has_among : (vs : List ValueId) (v : ValueId) → has vs v.0 ≡ true → Among v vs
has_among [] v e = absurd (false≢true e)
has_among (w ∷ vs) v e =
    either (λ here. inl (sym (ap value_of (eqb-true w.0 v.0 here)))) (λ there. inr (has_among vs v there)) (or_cases (w.0 == v.0) (has vs v.0) e)

made_object : (v : ValueId) (s : Source) (n : ℕ) → s ≡ source.Object n → Among (Allocates v) (made_by v s)
made_object v (source.Object fields) n e = inl refl
made_object v _ n e = absurd (cc)

module _ (m : Module) (n : ℕ) (f : Function) (a : IsAcceptedBody m n f) (object : ValueId) (k : ℕ) where
  abbrev d : Declarations
  d = declarations_of m

  abbrev sources : List Source
  sources = sources_of d f

  module _ (there : IsPartOf d f (Building object k)) where
    is_object : source_at sources object ≡ source.Object (built_object d f object k there).0
    is_object = (built_object d f object k there).1

    pub held_there : IsPartOf d f (Held d f object k)
    held_there =
        field_there d f object k (built_object d f object k there).0 is_object (built_object d f object k there).2 (Held d f object k) (inl refl)

    no_slot_one : (v : ValueId) (b : Bool) → is_same v object ≡ b → (is_slot sources v && b) ≡ false
    no_slot_one v true is =
        let same : v ≡ object = ap value_of (eqb-true v.0 object.0 is) in
        ap (λ x. x && true) (ap (is_slot sources) same ∙ ap is_slot_source is_object)
    no_slot_one v false is = never_both (is_slot sources v)

    not_given : (v : ValueId) (row : AddressRow) (trivial : Bool) → source_at sources v ≡ source.Argument row trivial → (b : Bool) → is_same v object ≡ b → b ≡ false
    not_given v row trivial is true same =
        let equal : v ≡ object = ap value_of (eqb-true v.0 object.0 same) in
        let two : source.Argument row trivial ≡ source.Object (built_object d f object k there).0 = sym is ∙ ap (source_at sources) equal ∙ is_object in
        absurd (cc)
    not_given v row trivial is false same = refl

    made_sound : (v : ValueId) (s : Source) → source_at sources v ≡ s → Each (IsSound d f object k) (made_by v s)
    made_sound v (source.Slot trivial) is = (tt, tt)
    made_sound v (source.Argument row trivial) is = (not_given v row trivial is (is_same v object) refl, tt)
    made_sound v (source.Object n) is = (tt, tt)
    made_sound v (source.Borrow of) is = tt
    made_sound v (source.Upcast of) is = tt
    made_sound v (source.Loan of) is = tt
    made_sound v (source.Field of j trivial) is = tt
    made_sound v (source.Part of j) is = tt
    made_sound v source.Other is = tt

    sound : (i : Item) → Each (IsSound d f object k) (accesses_in d f i)
    sound i =
        accesses_each (IsSound d f object k) sources (facts_in d f) f i (λ v. tt) (λ v. tt) (λ v x. tt)
        (λ x is o c. not_emptied sources object k o.operation (location_of sources o.address) (λ l at. rows_right d f (accepted_in m n f a) i x is o c l at))
        (λ x is closes v c. no_slot_one v (is_same v object) refl)
        (λ v c. made_sound v (source_at sources v) refl)

    made_among : (i : Item) → makes f object i ≡ true → Among (Allocates object) (accesses_in d f i)
    made_among i e =
        let own = among_flat (made sources) (Allocates object) object (item_defined f i) (has_among (item_defined f i) object e)
        (made_object object (source_at sources object) (built_object d f object k there).0 is_object) in
        let marks = marks_of (facts_in d f) f i in
        among_right (Allocates object) (flat_map ended marks) _
        (among_right (Allocates object) (mentions_of (item_inst f i) (item_taken f i)) _
        (among_right (Allocates object) (does_of (item_inst f i)) _
        (among_right (Allocates object) (deallocations_of (item_inst f i)) _
        (among_left (Allocates object) (flat_map (made sources) (item_defined f i)) _ own))))

    abbrev Both : List Item → Type 0
    Both t = (on : Bool) × (is_on d f (Building object k) t ≡ Some on) × (is_on d f (Held d f object k) t ≡ Some (not on))

    opposite : (b c : Bool) → b ≡ not c → c ≡ not b
    opposite b true e = ap not (sym e)
    opposite b false e = ap not (sym e)

    -- how both stand behind an item
    behind_both : (t : List Item) (i : Item) → IsRunTrail f (i ∷ t) → (b c : Bool) → is_on d f (Building object k) t ≡ Some b → is_on d f (Held d f object k) t ≡ Some c
        → turned_each (turn_by d f (Building object k)) (accesses_in d f i) b ≡ not (turned_each (turn_by d f (Held d f object k)) (accesses_in d f i) c) → Both (i ∷ t)
    behind_both t i h b c one other e = (
      turned_each (turn_by d f (Building object k)) (accesses_in d f i) b,
      item_leaves d f (accepted_in m n f a) (Building object k) there refl t i h b one,
      item_leaves d f (accepted_in m n f a) (Held d f object k) held_there refl t i h c other ∙ ap Some (opposite _ _ e),
    )

    pub both_on : (t : List Item) → IsRunTrail f t → IsDefinedOn f t object → Both t
    both_on [] h made = absurd (false≢true made)
    both_on (i ∷ t) h made = at (makes f object i) refl (λ later. both_on t h.1 later)
      where
        was : (on : Bool) × (is_on d f (Building object k) t ≡ Some on)
        was = parts_followed d f (accepted_in m n f a) (Building object k) there t h.1

        held : (on : Bool) × (is_on d f (Held d f object k) t ≡ Some on)
        held = parts_followed d f (accepted_in m n f a) (Held d f object k) held_there t h.1

        at : (b : Bool) → makes f object i ≡ b → (IsDefinedOn f t object → Both t) → Both (i ∷ t)
        at true is before =
            behind_both t i h was.0 held.0 was.1 held.1 (both_from d f object k (accesses_in d f i) (sound i) (made_among i is) was.0 held.0)
        at false is before =
            let earlier : Both t = before (sym (ap (λ b. b || list_any (makes f object) t) is) ∙ made) in
            behind_both t i h earlier.0 (not earlier.0) earlier.1 earlier.2
            (both_turned d f object k (accesses_in d f i) (sound i) earlier.0 (not earlier.0) (twice earlier.0))
          where
            twice : (b : Bool) → b ≡ not (not b)
            twice true = refl
            twice false = refl

    -- ---- when a field is to be written

    abbrev turn : Access → Option Bool
    turn x = turn_by d f (Building object k) x

    by_memory : IsOfMemory (turn_step turn)
    by_memory = record {
      ends = λ v x. refl;
      begins = λ v x. refl;
      mentions = λ v x on. ap (λ o. unwrap_or o on) (when_quiet (is_forbidden sources (known_or (facts_in d f)) object v x) (needs_off rule.FieldNotBuilt) refl);
    }

    differs : (v : ValueId) → locations.is_object (source_at sources v) ≡ false → (b : Bool) → is_same v object ≡ b → b ≡ false
    differs v none true same =
        let equal : v ≡ object = ap value_of (eqb-true v.0 object.0 same) in
        absurd (true≢false (sym (ap locations.is_object (ap (source_at sources) equal ∙ is_object)) ∙ none))
    differs v none false same = refl

    turned_or : (b on : Bool) → unwrap_or (cond b (Some true) None) on ≡ (b || on)
    turned_or true on = refl
    turned_or false on = refl

    allocated_turn : (v : ValueId) (on : Bool) → unwrap_or (turn (Allocates v)) on ≡ (is_same v object || on)
    allocated_turn v on = ap (λ o. unwrap_or o on) (turned_where (is_same v object) (turns_on rule.FieldNotBuilt) true refl) ∙ turned_or (is_same v object) on

    other_turn : (v : ValueId) (s : Source) → source_at sources v ≡ s → locations.is_object s ≡ false → (on : Bool) → on ≡ (is_same v object || on)
    other_turn v s is none on = ap (λ b. b || on) (sym (differs v (ap locations.is_object is ∙ none) (is_same v object) refl))

    -- what is made turns it on, where it is the object
    made_turn : (v : ValueId) (s : Source) → source_at sources v ≡ s → (on : Bool) → all_of (turn_step turn) (made_by v s) on ≡ (is_same v object || on)
    made_turn v (source.Slot trivial) is on = allocated_turn v on
    made_turn v (source.Argument row trivial) is on = other_turn v (source.Argument row trivial) is refl on
    made_turn v (source.Object j) is on = allocated_turn v on
    made_turn v (source.Borrow of) is on = other_turn v (source.Borrow of) is refl on
    made_turn v (source.Upcast of) is on = other_turn v (source.Upcast of) is refl on
    made_turn v (source.Loan of) is on = other_turn v (source.Loan of) is refl on
    made_turn v (source.Field of j trivial) is on = other_turn v (source.Field of j trivial) is refl on
    made_turn v (source.Part of j) is on = other_turn v (source.Part of j) is refl on
    made_turn v source.Other is on = other_turn v source.Other is refl on

    all_made : (vs : List ValueId) (on : Bool) → all_of (turn_step turn) (flat_map (made sources) vs) on ≡ (has vs object.0 || on)
    all_made [] on = refl
    all_made (v ∷ vs) on =
        all_append (turn_step turn) (made sources v) (flat_map (made sources) vs) on
        ∙ ap (all_of (turn_step turn) (flat_map (made sources) vs)) (made_turn v (source_at sources v) refl on)
        ∙ all_made vs (is_same v object || on) ∙ or_more (is_same v object) (has vs object.0) on

    all_closed : (o : Option Inst) (on : Bool) → all_of (turn_step turn) (deallocations_of o) on ≡ on
    all_closed None on = refl
    all_closed (Some x) on = at (deallocates x)
      where
        each : (vs : List ValueId) → all_of (turn_step turn) (map Deallocates vs) on ≡ on
        each [] = refl
        each (v ∷ vs) = each vs

        at : (b : Bool) → all_of (turn_step turn) (cond b (map Deallocates (addresses_of x)) []) on ≡ on
        at true = each (addresses_of x)
        at false = refl

    -- what is done to locations doesn't turn it on
    off_stays : (b : Bool) → unwrap_or (option_and_then (λ (m : Mark). m.turns) (when b (turns_off rule.FieldNotBuilt))) false ≡ false
    off_stays true = refl
    off_stays false = refl

    all_done : (o : Option Inst) → all_of (turn_step turn) (does_of o) false ≡ false
    all_done None = refl
    all_done (Some x) = each (operations_of x)
      where
        each : (os : List Operated) → all_of (turn_step turn) (map Does os) false ≡ false
        each [] = refl
        each (o ∷ os) =
            ap (all_of (turn_step turn) (map Does os))
            (off_stays (fills sources (cell sources object k) o.operation (location_of sources o.address))) ∙ each os

    -- how an item leaves it
    pub item_turns : (t : List Item) (i : Item) → IsRunTrail f (i ∷ t) → (on : Bool) → is_on d f (Building object k) t ≡ Some on
        → is_on d f (Building object k) (i ∷ t) ≡ Some (makes f object i || all_of (turn_step turn) (does_of (item_inst f i)) on)
    item_turns t i h on was =
        item_leaves d f (accepted_in m n f a) (Building object k) there refl t i h on was
        ∙ ap Some (turned_all turn (accesses_in d f i) on ∙ item_comes (turn_step turn) by_memory sources (facts_in d f) f i on
        ∙ all_made (item_defined f i) (all_of (turn_step turn) (deallocations_of (item_inst f i)) (all_of (turn_step turn) (does_of (item_inst f i)) on))
        ∙ ap (λ b. makes f object i || b) (all_closed (item_inst f i) (all_of (turn_step turn) (does_of (item_inst f i)) on)))

    pub unwritten_where_made : (t : List Item) (i : Item) → IsRunTrail f (i ∷ t) → makes f object i ≡ true → is_on d f (Building object k) (i ∷ t) ≡ Some true
    unwritten_where_made t i h made =
        let was = parts_followed d f (accepted_in m n f a) (Building object k) there t h.1 in
        item_turns t i h was.0 was.1 ∙ ap (λ b. Some (b || all_of (turn_step turn) (does_of (item_inst f i)) was.0)) made

    pub unwritten_before : (t : List Item) (i : Item) → IsRunTrail f (i ∷ t) → makes f object i ≡ false → is_on d f (Building object k) (i ∷ t) ≡ Some true
        → is_on d f (Building object k) t ≡ Some true
    unwritten_before t i h made is =
        let was = parts_followed d f (accepted_in m n f a) (Building object k) there t h.1 in
        let left : all_of (turn_step turn) (does_of (item_inst f i)) was.0 ≡ true =
        ap (λ b. b || all_of (turn_step turn) (does_of (item_inst f i)) was.0) (sym made)
        ∙ same_Some (makes f object i || all_of (turn_step turn) (does_of (item_inst f i)) was.0) true (sym (item_turns t i h was.0 was.1) ∙ is) in
        was.1 ∙ ap Some (on_before was.0 left)
      where
        on_before : (b : Bool) → all_of (turn_step turn) (does_of (item_inst f i)) b ≡ true → b ≡ true
        on_before true e = refl
        on_before false e = absurd (false≢true (sym (all_done (item_inst f i)) ∙ e))

    -- ---- what is done with the object

    pub allowed : (t : List Item) (i : Item) → IsRunTrail f (i ∷ t) → is_on d f (Building object k) t ≡ Some true → (x : Inst) → item_inst f i ≡ Some x
        → deallocates x ≡ false → (y : Taken) → Contains (item_taken f i) y
        → is_forbidden sources (known_or (facts_in d f)) object y.value (allowance_of x.op) ≡ false
    allowed t i h on x is unclosed y c = at (is_forbidden sources (known_or (facts_in d f)) object y.value (allowance_of x.op)) refl
      where
        its : MentionAt sources (facts_in d f) f i y (allowance_of x.op)
        its = mention_at sources (facts_in d f) f i x is unclosed y c

        quiet : turned_each turn (flat_map ended (marks_of (facts_in d f) f i) ++ map (mentioned (allowance_of x.op)) its.front) true ≡ true
        quiet =
            turned_all turn (flat_map ended (marks_of (facts_in d f) f i) ++ map (mentioned (allowance_of x.op)) its.front) true
            ∙ all_append (turn_step turn) (flat_map ended (marks_of (facts_in d f) f i)) (map (mentioned (allowance_of x.op)) its.front) true
            ∙ ap (all_of (turn_step turn) (map (mentioned (allowance_of x.op)) its.front)) (ends_quiet (turn_step turn) by_memory (marks_of (facts_in d f) f i) true)
            ∙ each_mentioned (turn_step turn) by_memory (allowance_of x.op) its.front true

        at : (b : Bool) → is_forbidden sources (known_or (facts_in d f)) object y.value (allowance_of x.op) ≡ b → b ≡ false
        at false e = refl
        at true e =
            let found = access_finds d f (accepted_in m n f a) (Building object k) there t i h
            (flat_map ended (marks_of (facts_in d f) f i) ++ map (mentioned (allowance_of x.op)) its.front) its.behind
            (Mentions y.value (allowance_of x.op)) (needs_off rule.FieldNotBuilt) its.parts (ap (λ b. when b (needs_off rule.FieldNotBuilt)) e) true on in
            absurd (false≢true (ap not (sym quiet) ∙ found))

pub fields_built : AreFieldsBuilt
fields_built m n f a object k fields is lt = field_there (declarations_of m) f object k fields is lt (Building object k) (inr (inl refl))

pub unwritten_empty : AreUnwrittenEmpty
unwritten_empty m n f a object k there t h made = both_on m n f a object k there t h made

pub made_unwritten : AreMadeUnwritten
made_unwritten m n f a object k there t i h made = unwritten_where_made m n f a object k there t i h made

pub written_once : AreWrittenOnce
written_once m n f a object k there t i h made is = unwritten_before m n f a object k there t i h made is

pub unfinished_allowed : AreUnfinishedAllowed
unfinished_allowed m n f a object k there t i h on x is unclosed y c = allowed m n f a object k there t i h on x is unclosed y c
