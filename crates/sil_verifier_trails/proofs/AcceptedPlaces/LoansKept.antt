-- What an open loan lends isn't written, emptied or deallocated, and stays full.
use Rattle.std.proofs.Common.{◌≡◌, inl, ℕ, List, [], ◌∷◌, ◌++◌, append_assoc, map, refl, sym, ap, ◌∙◌, Bool, true, false, not, ◌&&◌, Option, Some, None}
use Rattle.std.specs.Prelude.{◌==◌, Contains, cond, flat_map, option_and_then, unwrap_or}
use Rattle.std.specs.List.{list_any}
use Rattle.std.proofs.lemmas.Bool.{false≢true}
use Rattle.sil_verifier_trails.specs.AcceptedTrails.inner.Passing.{is_end}
use Rattle.sil_verifier_values.specs.holder_model.Frames.{has_any}
use Rattle.sil_verifier_values.specs.memory_rules_accesses.Accesses as accesses
use Rattle.sil_verifier_values.specs.memory_rules_accesses.Accesses.{begun, deallocations_of, does_of, ended, ends_by, made, mentions_of}
use Rattle.sil_verifier_values.specs.memory_rules_accesses.Locations.{do_overlap, location_of}
use Rattle.sil_verifier_values.specs.memory_rules_accesses.Operations.{addresses_of, deallocates, operations_of}
use Rattle.sil_verifier_values.specs.memory_rules_accesses.Sources.{sources_of}
use Rattle.sil_verifier_values.specs.memory_rules_accesses.declared.access.Access.{Access}
use Rattle.sil_verifier_values.specs.memory_rules_accesses.declared.access.Access.TheVariants.{Allocates, Begins, Deallocates, Does, Ends, Given, Mentions}
use Rattle.sil_verifier_values.specs.memory_rules_accesses.declared.access.Operated.{Operated}
use Rattle.sil_verifier_values.specs.memory_rules_accesses.declared.source.Source.{Source}
use Rattle.sil_verifier_values.specs.memory_rules_parts.Loans.{disturbs, writes_at}
use Rattle.sil_verifier_values.specs.memory_rules_parts.Switches.{when}
use Rattle.sil_verifier_values.specs.memory_rules_parts.declared.part.Part.{Part}
use Rattle.sil_verifier_values.specs.memory_rules_accesses.declared.source.Source.TheVariants as source
use Rattle.sil_verifier_values.specs.memory_rules_parts.declared.part.Part.TheVariants.{Lent}
use Rattle.sil_verifier_values.specs.ownership_kinds_origins.Facts.{facts_in}
use Rattle.sil_verifier_trails.specs.RunTrails.inner.RunTrails.{IsRunTrail}
use Rattle.sil_verifier_trails.specs.AcceptedMemory.inner.PartTrails.{IsPartOf, accesses_in, is_on, meant}
use Rattle.sil_verifier_trails.proofs.AcceptedMemory.InSlots.{when_quiet}
use Rattle.sil_verifier_trails.proofs.AcceptedMemory.MarkSorts.{IsOfSort, begins_are, uses_are}
use Rattle.sil_verifier_trails.proofs.AcceptedMemory.PartsTurned.{turn_by}
use Rattle.sil_verifier_trails.proofs.AcceptedMemory.Turning.{turned_each}
use Rattle.sil_verifier_trails.proofs.AcceptedTrails.Tests.{each_of_both, or_first, or_second}
use Rattle.sil_verifier_values.specs.inner.Known.{IsAcceptedBody}
use Rattle.sil_cfg_items.specs.Items.{item_defined, item_taken}
use Rattle.sil_cfg_items.specs.Parts.{item_inst}
use Rattle.sil_cfg_items.specs.declared.taken.Taken.{Taken}
use Rattle.numbered_form.specs.Lists.{Each}
use Rattle.sil_verifier_values.specs.ownership_kinds_chains.declared.ownership_chains.facts.Facts.{Facts}
use Rattle.sil_verifier_values.specs.ownership_kinds_chains.OwnershipMarks.Marks as marks
use Rattle.sil_verifier_values.specs.ownership_kinds_chains.OwnershipMarks.Marks.{end_of, marks_of}
use Rattle.sil_verifier_values.specs.ownership_kinds_chains.declared.ownership_marks.mark.Mark as sorted
use Rattle.sil_verifier_values.specs.ownership_kinds_chains.declared.ownership_marks.mark.MarkSort.{MarkSort}
use Rattle.sil_verifier_values.specs.ownership_kinds_chains.declared.ownership_marks.mark.MarkSort.TheVariants.{Begin, End, Use}
use Rattle.sil_verifier_values.specs.reach_engine_marks.PathPatterns.Marks.{needs_off, turns_off}
use Rattle.sil_verifier_values.specs.reach_engine_marks.declared.path_patterns.mark.Mark.{Mark}
use Rattle.numbered_form.proofs.PointChecks.Among.{among_contained}
use Rattle.sil_ast.specs.declared.function.Function.{Function}
use Rattle.sil_ast.specs.declared.inst.Inst.{Inst}
use Rattle.sil_ast.specs.declared.module.Module.{Module}
use Rattle.sil_ast.specs.declared.place.ValueId.{ValueId}
use Rattle.sil_cfg.specs.declared.item.Item.{Item}
use Rattle.sil_cfg.specs.declared.item.Item.TheVariants as item
use Rattle.sil_rules.specs.declared.rule.Rule.TheVariants as rule
use Rattle.sil_verifier_values.specs.sil_types_declarations.TypeDefinitions.Declarations.{Declarations, declarations_of}
use Rattle.sil_verifier_values.specs.sil_types_declarations.declared.type_definitions.kind.Kind.{Kind}
use Rattle.sil_verifier_values.specs.sil_types_declarations.declared.type_definitions.kind.Kind.TheVariants as kind
use Rattle.sil_verifier_trails.specs.AcceptedPlaces.inner.Loans.{AreLoansFollowed, AreLoansThere, AreLoansUnwritten, IsLentOn}
use Rattle.sil_verifier_trails.proofs.AcceptedPlaces.Followed.{access_finds}
use Rattle.sil_verifier_trails.proofs.AcceptedPlaces.ItemStacks.{accepted_in}
use Rattle.sil_verifier_trails.proofs.AcceptedPlaces.Lists.{mapped_append, split_among}
use Rattle.sil_verifier_trails.proofs.AcceptedPlaces.PartsThere.{each_flat, part_there}

-- ---- an item that doesn't end the scope

-- no mark of the item ends the value
abbrev EndsOther : ValueId → sorted.Mark → Type 0
EndsOther v m = m.sort ≡ End → (m.subject.0 == v.0) ≡ false

end_other : (facts : ValueId → Option Facts) (v : ValueId) (t : Taken) → is_end facts v t ≡ false → Each (EndsOther v) (marks.ended facts t)
end_other facts v t e = by (facts t.value) e
  where
    where_so : (b : Bool) → (has_any (cond b (end_of t.value ∷ []) []) && (t.value.0 == v.0)) ≡ false → Each (EndsOther v) (cond b (end_of t.value ∷ []) [])
    where_so true h = ((λ s. h), tt)
    where_so false h = tt

    by_kind : (k : Kind) → (has_any (marks.ended_by k t.role t.value) && (t.value.0 == v.0)) ≡ false → Each (EndsOther v) (marks.ended_by k t.role t.value)
    by_kind kind.Owned h = where_so (marks.ends_owned t.role) h
    by_kind kind.Guaranteed h = where_so (marks.ends_scope t.role) h
    by_kind kind.Plain h = tt

    by : (o : Option Facts) → (has_any (marks.ended_with o t) && (t.value.0 == v.0)) ≡ false → Each (EndsOther v) (marks.ended_with o t)
    by None h = tt
    by (Some f) h = by_kind f.kind h

ends_other : (facts : ValueId → Option Facts) (v : ValueId) (ts : List Taken) → list_any (is_end facts v) ts ≡ false → Each (λ t. Each (EndsOther v) (marks.ended facts t)) ts
ends_other facts v [] e = tt
ends_other facts v (t ∷ ts) e =
    (end_other facts v t (or_first (is_end facts v t) (list_any (is_end facts v) ts) e), ends_other facts v ts (or_second (is_end facts v t) (list_any (is_end facts v) ts) e))

pub of_sort : (sort : MarkSort) → (sort ≡ End → ⊥) → (v : ValueId) (ms : List sorted.Mark) → Each (IsOfSort sort) ms → Each (EndsOther v) ms
of_sort sort other v [] h = tt
of_sort sort other v (m ∷ ms) h = ((λ e. absurd (other (sym h.0 ∙ e))), of_sort sort other v ms h.1)

marks_other : (facts : ValueId → Option Facts) (f : Function) (i : Item) (v : ValueId) → list_any (is_end facts v) (item_taken f i) ≡ false → Each (EndsOther v) (marks_of facts f i)
marks_other facts f i v e =
    each_of_both (EndsOther v) (flat_map (marks.ended facts) (item_taken f i) ++ flat_map (marks.used facts) (item_taken f i)) (flat_map (marks.begun facts) (item_defined f i))
    (each_of_both (EndsOther v) (flat_map (marks.ended facts) (item_taken f i)) (flat_map (marks.used facts) (item_taken f i))
    (each_flat (EndsOther v) (marks.ended facts) (item_taken f i) (ends_other facts v (item_taken f i) e))
    (of_sort Use (λ s. cc) v (flat_map (marks.used facts) (item_taken f i)) (uses_are facts (item_taken f i))))
    (of_sort Begin (λ s. cc) v (flat_map (marks.begun facts) (item_defined f i)) (begins_are facts (item_defined f i)))

regroup : {A : Type 0} (xs ys zs ws : List A) → xs ++ (ys ++ (zs ++ ws)) ≡ ((xs ++ ys) ++ zs) ++ ws
regroup xs ys zs ws = sym (append_assoc xs ys (zs ++ ws)) ∙ sym (append_assoc (xs ++ ys) zs ws)

-- ---- what disturbs a loan

module _ (m : Module) (n : ℕ) (f : Function) (a : IsAcceptedBody m n f) (scope address : ValueId) where
  abbrev d : Declarations
  d = declarations_of m

  abbrev sources : List Source
  sources = sources_of d f

  abbrev pub lent : Part
  lent = Lent scope address

  abbrev pub turn : Access → Option Bool
  turn x = turn_by d f lent x

  disturbed_means : (x : Access) → disturbs sources address x ≡ true → meant d f lent x ≡ Some (needs_off rule.WriteWhileBorrowed)
  disturbed_means (Ends v) e = absurd (false≢true e)
  disturbed_means (Begins v) e = absurd (false≢true e)
  disturbed_means (Allocates v) e = absurd (false≢true e)
  disturbed_means (Deallocates v) e = ap (λ b. when b (needs_off rule.WriteWhileBorrowed)) e
  disturbed_means (Given v content) e = absurd (false≢true e)
  disturbed_means (Does x) e = ap (λ b. when b (needs_off rule.WriteWhileBorrowed)) e
  disturbed_means (Mentions v b) e = absurd (false≢true e)

  -- no access disturbs it behind which it is on
  pub undisturbed : IsPartOf d f lent → (t : List Item) (i : Item) → IsRunTrail f (i ∷ t) → (front rest : List Access) (x : Access) → accesses_in d f i ≡ front ++ x ∷ rest
      → (on : Bool) → is_on d f lent t ≡ Some on → turned_each turn front on ≡ true → disturbs sources address x ≡ false
  undisturbed there t i h front rest x parts on was still = by (disturbs sources address x) refl
    where
      by : (b : Bool) → disturbs sources address x ≡ b → b ≡ false
      by false e = refl
      by true e =
          let found = access_finds d f (accepted_in m n f a) lent there t i h front rest x (needs_off rule.WriteWhileBorrowed) parts (disturbed_means x e) on was in
          absurd (false≢true (ap not (sym still) ∙ found))

  -- ---- an item that doesn't end the scope leaves it on until what it makes begins

  abbrev Quiet : Access → Type 0
  Quiet x = turn x ≡ None

  end_quiet : (k : sorted.Mark) → EndsOther scope k → Each Quiet (ended k)
  end_quiet k other = by k.sort other
    where
      by : (s : MarkSort) → (s ≡ End → (k.subject.0 == scope.0) ≡ false) → Each Quiet (ends_by k.subject s)
      by End h = (ap (λ b. option_and_then (λ (x : Mark). x.turns) (when b (turns_off rule.WriteWhileBorrowed))) (h refl), tt)
      by Use h = tt
      by Begin h = tt

  ends_quiet : (ms : List sorted.Mark) → Each (EndsOther scope) ms → Each (λ k. Each Quiet (ended k)) ms
  ends_quiet [] h = tt
  ends_quiet (k ∷ ms) h = (end_quiet k h.0, ends_quiet ms h.1)

  each_quiet : {A : Type 0} (g : A → Access) → ((x : A) → Quiet (g x)) → (xs : List A) → Each Quiet (map g xs)
  each_quiet g quiet [] = tt
  each_quiet g quiet (x ∷ xs) = (quiet x, each_quiet g quiet xs)

  mentions_quiet : (o : Option Inst) (ts : List Taken) → Each Quiet (mentions_of o ts)
  mentions_quiet None ts = tt
  mentions_quiet (Some x) ts = by (deallocates x)
    where
      by : (b : Bool) → Each Quiet (cond b [] (map (accesses.mentioned (accesses.allowance_of x.op)) ts))
      by true = tt
      by false = each_quiet (accesses.mentioned (accesses.allowance_of x.op)) (λ t. refl) ts

  does_one : (o : Operated) → Quiet (Does o)
  does_one o = when_quiet (disturbs sources address (Does o)) _ refl

  closes_one : (v : ValueId) → Quiet (Deallocates v)
  closes_one v = when_quiet (disturbs sources address (Deallocates v)) _ refl

  all_quiet : (xs : List Access) → Each Quiet xs → (on : Bool) → turned_each turn xs on ≡ on
  all_quiet [] h on = refl
  all_quiet (x ∷ xs) h on = all_quiet xs h.1 (unwrap_or (turn x) on) ∙ ap (λ t. unwrap_or t on) h.0

  module _ (t : List Item) (i : Item) (h : IsRunTrail f (i ∷ t)) (on : IsLentOn d f t i scope address) where
    opening : Each Quiet (flat_map ended (marks_of (facts_in d f) f i) ++ mentions_of (item_inst f i) (item_taken f i))
    opening =
        each_of_both Quiet (flat_map ended (marks_of (facts_in d f) f i)) (mentions_of (item_inst f i) (item_taken f i))
        (each_flat Quiet ended (marks_of (facts_in d f) f i) (ends_quiet (marks_of (facts_in d f) f i) (marks_other (facts_in d f) f i scope on.stays)))
        (mentions_quiet (item_inst f i) (item_taken f i))

    abbrev front_of : List Access → List Access
    front_of xs = (flat_map ended (marks_of (facts_in d f) f i) ++ mentions_of (item_inst f i) (item_taken f i)) ++ xs

    -- an access among those behind the mentions
    clear : (before after : List Access) (x : Access) → accesses_in d f i ≡ front_of before ++ x ∷ after → Each Quiet before → disturbs sources address x ≡ false
    clear before after x parts quiet =
        undisturbed on.there t i h (front_of before) after x parts true on.lent
        (all_quiet (front_of before) (each_of_both Quiet (flat_map ended (marks_of (facts_in d f) f i) ++ mentions_of (item_inst f i) (item_taken f i)) before opening quiet) true)

    pub done_clear : (x : Inst) → item_inst f i ≡ Some x → (o : Operated) → Contains (operations_of x) o → disturbs sources address (Does o) ≡ false
    done_clear x is o c =
        clear (map Does split.0) (map Does split.1 ++ (deallocations_of (item_inst f i) ++ (flat_map (made sources) (item_defined f i) ++ flat_map begun (marks_of (facts_in d f) f i)))) (Does o)
        (ap (λ xs. flat_map ended (marks_of (facts_in d f) f i) ++ (mentions_of (item_inst f i) (item_taken f i)
        ++ (xs ++ (deallocations_of (item_inst f i) ++ (flat_map (made sources) (item_defined f i) ++ flat_map begun (marks_of (facts_in d f) f i)))))) does
        ∙ ap (λ xs. flat_map ended (marks_of (facts_in d f) f i) ++ (mentions_of (item_inst f i) (item_taken f i) ++ xs))
        (append_assoc (map Does split.0) (Does o ∷ map Does split.1) _)
        ∙ regroup (flat_map ended (marks_of (facts_in d f) f i)) (mentions_of (item_inst f i) (item_taken f i)) (map Does split.0) _)
        (each_quiet Does does_one split.0)
      where
        split : (front rest : List Operated) × (operations_of x ≡ front ++ o ∷ rest)
        split = split_among (operations_of x) o (among_contained o (operations_of x) c)

        does : does_of (item_inst f i) ≡ map Does split.0 ++ Does o ∷ map Does split.1
        does = ap does_of is ∙ ap (map Does) split.2 ∙ mapped_append Does split.0 (o ∷ split.1)

    pub closed_clear : (x : Inst) → item_inst f i ≡ Some x → deallocates x ≡ true → (v : ValueId) → Contains (addresses_of x) v → disturbs sources address (Deallocates v) ≡ false
    closed_clear x is closes v c =
        clear (does_of (item_inst f i) ++ map Deallocates split.0)
        (map Deallocates split.1 ++ (flat_map (made sources) (item_defined f i) ++ flat_map begun (marks_of (facts_in d f) f i))) (Deallocates v)
        (ap (λ xs. flat_map ended (marks_of (facts_in d f) f i) ++ (mentions_of (item_inst f i) (item_taken f i) ++ (does_of (item_inst f i)
        ++ (xs ++ (flat_map (made sources) (item_defined f i) ++ flat_map begun (marks_of (facts_in d f) f i)))))) closing
        ∙ ap (λ xs. flat_map ended (marks_of (facts_in d f) f i) ++ (mentions_of (item_inst f i) (item_taken f i) ++ xs))
        (ap (λ xs. does_of (item_inst f i) ++ xs) (append_assoc (map Deallocates split.0) (Deallocates v ∷ map Deallocates split.1) _)
        ∙ sym (append_assoc (does_of (item_inst f i)) (map Deallocates split.0) _))
        ∙ regroup (flat_map ended (marks_of (facts_in d f) f i)) (mentions_of (item_inst f i) (item_taken f i)) (does_of (item_inst f i) ++ map Deallocates split.0) _)
        (each_of_both Quiet (does_of (item_inst f i)) (map Deallocates split.0) (does_all (item_inst f i)) (each_quiet Deallocates closes_one split.0))
      where
        split : (front rest : List ValueId) × (addresses_of x ≡ front ++ v ∷ rest)
        split = split_among (addresses_of x) v (among_contained v (addresses_of x) c)

        closing : deallocations_of (item_inst f i) ≡ map Deallocates split.0 ++ Deallocates v ∷ map Deallocates split.1
        closing =
            ap deallocations_of is ∙ ap (λ b. cond b (map Deallocates (addresses_of x)) []) closes ∙ ap (map Deallocates) split.2
            ∙ mapped_append Deallocates split.0 (v ∷ split.1)

        does_all : (o : Option Inst) → Each Quiet (does_of o)
        does_all None = tt
        does_all (Some y) = each_quiet Does does_one (operations_of y)

pub loans_followed : AreLoansFollowed
loans_followed m n f a scope address is = part_there (declarations_of m) f scope (source.Loan address) is (λ x. cc) (Lent scope address) (inl refl)

pub loans_unwritten : AreLoansUnwritten
loans_unwritten m n f a t p h scope address on o l done writing =
    let clear = done_clear m n f a scope address t (item.Inst p) h on done.inst done.is o done.among in
    let written : writes_at (location_of (sources_of (declarations_of m) f) o.address) o.operation ≡ true =
    ap (λ x. writes_at x o.operation) done.at ∙ writing in
    sym (ap (λ b. b && do_overlap (sources_of (declarations_of m) f) o.address address) written) ∙ clear

pub loans_there : AreLoansThere
loans_there m n f a t i h scope address on x slot is closes c = closed_clear m n f a scope address t i h on x is closes slot c
