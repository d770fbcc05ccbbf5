-- An address that an item takes finds its slot allocated, and its scopes open.
use Rattle.std.proofs.Common.{◌≡◌, ◌⊎◌, inl, inr, ℕ, zero, suc, List, [], ◌∷◌, ◌++◌, length, map, refl, sym, ap, ◌∙◌, subst, Bool, true, false, ◌||◌, Option, Some, None, eq-eqb}
use Rattle.std.specs.Prelude.{Contains, cond, flat_map, option_and_then, unwrap_or}
use Rattle.std.proofs.lemmas.Bool.{false≢true, true≢false}
use Rattle.std.proofs.lemmas.List.Elements.{Contains-append_cases}
use Rattle.std.proofs.lemmas.Option.{none-some, same_Some}
use Rattle.argument_conventions.specs.declared.row.AddressRow.{AddressRow}
use Rattle.instruction_table.specs.Forms.{is_terminator, roles_of}
use Rattle.instruction_table.specs.declared.entries.Role.TheVariants as role
use Rattle.instruction_table.specs.declared.op.Op.{Op}
use Rattle.instruction_table.specs.declared.op.Op.TheVariants as op
use Rattle.sil_verifier_trails.specs.AcceptedTrails.inner.Bases.{IsBaseOf}
use Rattle.sil_verifier_values.specs.memory_rules_accesses.Accesses.{allowance_of, ended, ends_by, mentioned}
use Rattle.sil_verifier_values.specs.memory_rules_accesses.Locations.{locate, located_by, location_of, whole}
use Rattle.sil_verifier_values.specs.memory_rules_accesses.Operations.{access_kind_of, address_of, addresses_of, deallocates, deallocates_by}
use Rattle.sil_verifier_values.specs.memory_rules_accesses.Sources.{is_slot, is_slot_source, source_at, sources_of}
use Rattle.sil_verifier_values.specs.memory_rules_accesses.declared.access.Access.{Access}
use Rattle.sil_verifier_values.specs.memory_rules_accesses.declared.access.Access.TheVariants.{Ends, Mentions}
use Rattle.sil_verifier_values.specs.memory_rules_accesses.declared.columns.Allowance.{Allowance}
use Rattle.sil_verifier_values.specs.memory_rules_accesses.declared.location.Location.{Location}
use Rattle.sil_verifier_values.specs.memory_rules_accesses.declared.source.Source.{Source}
use Rattle.sil_verifier_values.specs.memory_rules_accesses.declared.source.Source.TheVariants as source
use Rattle.sil_verifier_values.specs.memory_rules_parts.Parts.{is_scope, scope_part, scope_parts, slot_part, slot_part_at}
use Rattle.sil_verifier_values.specs.memory_rules_parts.Switches.{is_same, when}
use Rattle.sil_verifier_values.specs.memory_rules_parts.declared.part.Part.{Part}
use Rattle.sil_verifier_values.specs.memory_rules_parts.declared.part.Part.TheVariants.{Allocation, InScope, InSlot}
use Rattle.sil_verifier_values.specs.ownership_kinds_origins.Facts.{facts_in}
use Rattle.sil_verifier_trails.specs.RunTrails.inner.RunTrails.{IsRunTrail}
use Rattle.sil_verifier_trails.specs.AcceptedMemory.inner.PartTrails.{IsPartOf, is_on, meant}
use Rattle.sil_verifier_trails.proofs.AcceptedMemory.InSlots.{in_slots, when_quiet}
use Rattle.sil_verifier_trails.proofs.AcceptedMemory.PartsFollowed.{parts_followed}
use Rattle.sil_verifier_trails.proofs.AcceptedMemory.PartsTurned.{turn_by}
use Rattle.sil_verifier_trails.proofs.AcceptedMemory.Turning.{turned_each}
use Rattle.sil_verifier_trails.proofs.AcceptedTrails.Tests.{each_of_both}
use Rattle.sil_verifier_values.specs.inner.Known.{IsAcceptedBody}
use Rattle.sil_verifier_values.proofs.Accepted.{typed}
use Rattle.sil_verifier_values.proofs.Counted.{nothing_in}
use Rattle.sil_cfg_items.specs.Items.{item_taken, taken_along_in, taken_in}
use Rattle.sil_cfg_items.specs.Parts.{edge_in, inst_at, item_edge, item_inst}
use Rattle.sil_cfg_items.specs.Roles.{by_row, conventions_in, roles_for, taken_as, taken_by, taken_each}
use Rattle.sil_cfg_items.specs.declared.taken.Taken.{Taken}
use Rattle.numbered_form.specs.Lists.{Each}
use Rattle.numbered_form.specs.inner.Parts.{has_operands, is_typed}
use Rattle.sil_verifier_values.specs.ownership_kinds_chains.OwnershipChains.Facts.{has, known_or}
use Rattle.sil_verifier_values.specs.ownership_kinds_chains.OwnershipMarks.Marks.{marks_of}
use Rattle.sil_verifier_values.specs.ownership_kinds_chains.declared.ownership_marks.mark.Mark as sorted
use Rattle.sil_verifier_values.specs.ownership_kinds_chains.declared.ownership_marks.mark.MarkSort.{MarkSort}
use Rattle.sil_verifier_values.specs.ownership_kinds_chains.declared.ownership_marks.mark.MarkSort.TheVariants.{Begin, End, Use}
use Rattle.sil_verifier_values.specs.reach_engine_marks.PathPatterns.Marks.{needs_on, turns_off}
use Rattle.sil_verifier_values.specs.reach_engine_marks.declared.path_patterns.mark.Mark.{Mark}
use Rattle.numbered_form.specs.PointChecks.Points.{IsAt}
use Rattle.numbered_form.proofs.PointChecks.Among.{Among, among_contained, among_flat, among_left, among_right, contained_among}
use Rattle.sil_ast.specs.declared.function.Function.{Function}
use Rattle.sil_ast.specs.declared.inst.Inst.{Inst}
use Rattle.sil_ast.specs.declared.module.Module.{Module}
use Rattle.sil_ast.specs.declared.operands.Operand.{Operand}
use Rattle.sil_ast.specs.declared.place.PointId.{PointId}
use Rattle.sil_ast.specs.declared.place.ValueId.{ValueId}
use Rattle.sil_cfg.specs.declared.item.Item.{Item}
use Rattle.sil_cfg.specs.declared.item.Item.TheVariants as item
use Rattle.sil_rules.specs.declared.rule.Rule.TheVariants as rule
use Rattle.sil_verifier_values.specs.sil_types_declarations.TypeDefinitions.Declarations.{Declarations, declarations_of}
use Rattle.sil_verifier_trails.specs.AcceptedPlaces.inner.Located.{AreInAllocated, AreInOpenScopes, IsNamed, IsRoot, argument, field, member, root, slot}
use Rattle.sil_verifier_trails.proofs.AcceptedPlaces.Done.{one_operand}
use Rattle.sil_verifier_trails.proofs.AcceptedPlaces.Fields.{has_among}
use Rattle.sil_verifier_trails.proofs.AcceptedPlaces.Followed.{access_finds}
use Rattle.sil_verifier_trails.specs.AcceptedPlaces.inner.Stacks.{slots_on}
use Rattle.sil_verifier_trails.proofs.AcceptedPlaces.Locating.{root_found}
use Rattle.sil_verifier_trails.proofs.AcceptedPlaces.Items.{mention_at}
use Rattle.sil_verifier_trails.proofs.AcceptedPlaces.ItemStacks.{accepted_in, closed}
use Rattle.sil_verifier_trails.proofs.AcceptedPlaces.OperationsRight.{of_slots, stands_somewhere}
use Rattle.sil_verifier_trails.proofs.AcceptedPlaces.PartsThere.{allocation_there, each_flat, part_there}
use Rattle.sil_verifier_trails.proofs.AcceptedPlaces.StackTops.{slots_allocated}

-- ---- what only turns off was on before

abbrev pub TurnsOff : Option Bool → Type 0
TurnsOff t = (t ≡ None) ⊎ (t ≡ Some false)

pub on_before : (turn : Access → Option Bool) (xs : List Access) → Each (λ x. TurnsOff (turn x)) xs → (on : Bool) → turned_each turn xs on ≡ true → on ≡ true
on_before turn [] h on e = e
on_before turn (x ∷ xs) h on e = by h.0 (on_before turn xs h.1 (unwrap_or (turn x) on) e)
  where
    by : TurnsOff (turn x) → unwrap_or (turn x) on ≡ true → on ≡ true
    by (inl none) k = sym (ap (λ t. unwrap_or t on) none) ∙ k
    by (inr off) k = absurd (false≢true (sym (ap (λ t. unwrap_or t on) off) ∙ k))

module _ (turn : Access → Option Bool) (ends : (v : ValueId) → TurnsOff (turn (Ends v))) (mentions : (v : ValueId) (a : Allowance) → TurnsOff (turn (Mentions v a))) where
  abbrev Off : Access → Type 0
  Off x = TurnsOff (turn x)

  end_off : (v : ValueId) (sort : MarkSort) → Each Off (ends_by v sort)
  end_off v End = (ends v, tt)
  end_off v Use = tt
  end_off v Begin = tt

  ends_off : (marks : List sorted.Mark) → Each (λ m. Each Off (ended m)) marks
  ends_off [] = tt
  ends_off (m ∷ marks) = (end_off m.subject m.sort, ends_off marks)

  mentions_off : (a : Allowance) (ts : List Taken) → Each Off (map (mentioned a) ts)
  mentions_off a [] = tt
  mentions_off a (t ∷ ts) = (mentions t.value a, mentions_off a ts)

  front_off : (marks : List sorted.Mark) (a : Allowance) (ts : List Taken) → Each Off (flat_map ended marks ++ map (mentioned a) ts)
  front_off marks a ts = each_of_both Off (flat_map ended marks) (map (mentioned a) ts) (each_flat Off ended marks (ends_off marks)) (mentions_off a ts)

-- an item has an instruction where it takes something
inst_takes : (f : Function) (i : Item) (y : Taken) → Contains (item_taken f i) y → (x : Inst) × (item_inst f i ≡ Some x)
inst_takes f i y c = by (item_inst f i) refl (Contains-append_cases (taken_in (item_inst f i)) (taken_along_in (item_edge f i)) y c)
  where
    none_along : (i : Item) → item_inst f i ≡ None → Contains (taken_along_in (item_edge f i)) y → ⊥
    none_along item.Entry e c = nothing_in y c
    none_along (item.Inst p) e c = nothing_in y c
    none_along (item.Edge x) e c = nothing_in y (subst (λ o. Contains (taken_along_in (edge_in o x.index)) y) e c)
    none_along (item.Exit p) e c = nothing_in y c

    by : (o : Option Inst) → item_inst f i ≡ o → Contains (taken_in (item_inst f i)) y ⊎ Contains (taken_along_in (item_edge f i)) y → (x : Inst) × (item_inst f i ≡ Some x)
    by (Some x) is c = (x, is)
    by None is (inl c) = absurd (nothing_in y (subst (λ o. Contains (taken_in o) y) is c))
    by None is (inr c) = absurd (none_along i is c)

-- ---- what deallocates a slot

deallocation : (o : Op) → deallocates_by (access_kind_of o) ≡ true → o ≡ op.DeallocStack
deallocation op.DeallocStack e = refl
deallocation _ e = absurd (false≢true e)

ends_nothing : (o : Op) → is_terminator o ≡ true → deallocates_by (access_kind_of o) ≡ false
ends_nothing op.DeallocStack e = absurd (false≢true e)
ends_nothing _ e = refl

deallocates_one : (x : Inst) → deallocates x ≡ true → has_operands x.op x.operands ≡ true
    → (o : Operand) × (addresses_of x ≡ o.value ∷ []) × (taken_by x ≡ taken_as o (by_row role.AddressRole) ∷ [])
deallocates_one x closes has =
    let is : x.op ≡ op.DeallocStack = deallocation x.op closes in
    let one = one_operand is_typed x.operands (sym (ap (λ o. has_operands o x.operands) is) ∙ has) in
    let taken : taken_by x ≡ taken_as one.0 (by_row role.AddressRole) ∷ [] =
    ap (λ o. taken_each x.operands (roles_for (roles_of o) (conventions_in x) (length x.operands))) is
    ∙ ap (λ os. taken_each os (roles_for (roles_of op.DeallocStack) (conventions_in x) (length os))) one.1 in
    (one.0, ap (flat_map address_of) taken, taken)

pub slot_root : (s : Source) → is_slot_source s ≡ true → IsRoot s
slot_root (source.Slot trivial) e = slot
slot_root _ e = absurd (false≢true e)

module _ (m : Module) (n : ℕ) (f : Function) (a : IsAcceptedBody m n f) where
  abbrev d : Declarations
  d = declarations_of m

  abbrev sources : List Source
  sources = sources_of d f

  -- a part that its operand needs on is on
  mention_finds : (p : Part) → IsPartOf d f p → ((v : ValueId) → TurnsOff (turn_by d f p (Ends v))) → ((v : ValueId) (b : Allowance) → TurnsOff (turn_by d f p (Mentions v b)))
      → (t : List Item) (i : Item) → IsRunTrail f (i ∷ t) → (x : Inst) → item_inst f i ≡ Some x → deallocates x ≡ false → (y : Taken) → Contains (item_taken f i) y
      → meant d f p (Mentions y.value (allowance_of x.op)) ≡ Some (needs_on rule.AddressOutsideScope) → is_on d f p t ≡ Some true
  mention_finds p there ends mentions t i h x is stays y c means =
      let its = mention_at sources (facts_in d f) f i x is stays y c in
      let was = parts_followed d f (accepted_in m n f a) p there t h.1 in
      let found : turned_each (turn_by d f p) (flat_map ended (marks_of (facts_in d f) f i) ++ map (mentioned (allowance_of x.op)) its.front) was.0 ≡ true =
      access_finds d f (accepted_in m n f a) p there t i h (flat_map ended (marks_of (facts_in d f) f i) ++ map (mentioned (allowance_of x.op)) its.front) its.behind
      (Mentions y.value (allowance_of x.op)) (needs_on rule.AddressOutsideScope) its.parts means was.0 was.1 in
      was.1 ∙ ap (λ b. Some b) (on_before (turn_by d f p) (flat_map ended (marks_of (facts_in d f) f i) ++ map (mentioned (allowance_of x.op)) its.front)
      (front_off (turn_by d f p) ends mentions (marks_of (facts_in d f) f i) (allowance_of x.op) its.front) was.0 found)

  itself : (v : ValueId) → is_same v v ≡ true
  itself v = eq-eqb v.0 v.0 refl

  quiet_when : (b : Bool) → TurnsOff (option_and_then (λ (k : Mark). k.turns) (when b (needs_on rule.AddressOutsideScope)))
  quiet_when b = inl (when_quiet b (needs_on rule.AddressOutsideScope) refl)

  off_when : (b : Bool) → TurnsOff (option_and_then (λ (k : Mark). k.turns) (when b (turns_off rule.AddressOutsideScope)))
  off_when true = inr refl
  off_when false = inl refl

  -- ---- an address in its slot

  slot_listed : (v : ValueId) (l : Location) → location_of sources v ≡ Some l → is_slot sources l.root ≡ true → Among (InSlot v l.root) (slot_part_at sources v (location_of sources v))
  slot_listed v l at is = subst (λ o. Among (InSlot v l.root) (slot_part_at sources v o)) (sym at) (by (source_at sources l.root) is)
    where
      by : (s : Source) → is_slot_source s ≡ true → Among (InSlot v l.root) (slot_part v l.root s)
      by (source.Slot trivial) e = inl refl
      by _ e = absurd (false≢true e)

  -- a root lies nowhere else
  located_root : (v : ValueId) (l : Location) → location_of sources v ≡ Some l → IsRoot (source_at sources v) → l.root ≡ v
  located_root v l at r = by (length sources) at
    where
      by : (k : ℕ) → locate sources k v ≡ Some l → l.root ≡ v
      by zero e = absurd (none-some l e)
      by (suc k) e = ap (λ (x : Location). x.root) (same_Some l (whole v) (sym e ∙ root_found sources k v r))

  -- what is no address has no location
  abbrev lacks_location : Source → Bool
  lacks_location (source.Slot trivial) = false
  lacks_location (source.Argument row trivial) = false
  lacks_location (source.Object fields) = true
  lacks_location (source.Borrow of) = true
  lacks_location (source.Upcast of) = true
  lacks_location (source.Loan of) = true
  lacks_location (source.Field of k trivial) = false
  lacks_location (source.Part of k) = false
  lacks_location source.Other = true

  none_by : (others : ValueId → Option Location) (v : ValueId) (s : Source) → lacks_location s ≡ true → located_by others v s ≡ None
  none_by others v (source.Slot trivial) e = absurd (false≢true e)
  none_by others v (source.Argument row trivial) e = absurd (false≢true e)
  none_by others v (source.Object fields) e = refl
  none_by others v (source.Borrow of) e = refl
  none_by others v (source.Upcast of) e = refl
  none_by others v (source.Loan of) e = refl
  none_by others v (source.Field of k trivial) e = absurd (false≢true e)
  none_by others v (source.Part of k) e = absurd (false≢true e)
  none_by others v source.Other e = refl

  unlocated : (v : ValueId) (l : Location) → location_of sources v ≡ Some l → (s : Source) → source_at sources v ≡ s → lacks_location s ≡ true → ⊥
  unlocated v l at s is e = by (length sources) at
    where
      by : (k : ℕ) → locate sources k v ≡ Some l → ⊥
      by zero found = none-some l found
      by (suc k) found = none-some l (sym (ap (located_by (locate sources k) v) is ∙ none_by (locate sources k) v s e) ∙ found)

  in_slot_there : (v : ValueId) (l : Location) → location_of sources v ≡ Some l → is_slot sources l.root ≡ true → (s : Source) → source_at sources v ≡ s
      → IsPartOf d f (InSlot v l.root)
  in_slot_there v l at is (source.Slot trivial) e =
      part_there d f v (source.Slot trivial) e (λ x. cc) (InSlot v l.root)
      (inr (inr (among_right (InSlot v l.root) (scope_parts sources v _) (slot_part_at sources v (location_of sources v)) (slot_listed v l at is))))
  in_slot_there v l at is (source.Field of k trivial) e =
      part_there d f v (source.Field of k trivial) e (λ x. cc) (InSlot v l.root)
      (among_right (InSlot v l.root) (scope_parts sources v _) (slot_part_at sources v (location_of sources v)) (slot_listed v l at is))
  in_slot_there v l at is (source.Part of k) e =
      part_there d f v (source.Part of k) e (λ x. cc) (InSlot v l.root)
      (among_right (InSlot v l.root) (scope_parts sources v _) (slot_part_at sources v (location_of sources v)) (slot_listed v l at is))
  in_slot_there v l at is (source.Argument row trivial) e =
      let same = located_root v l at (subst IsRoot (sym e) argument) in
      absurd (false≢true (sym (ap is_slot_source e) ∙ ap (is_slot sources) (sym same) ∙ is))
  in_slot_there v l at is (source.Object fields) e = absurd (unlocated v l at (source.Object fields) e refl)
  in_slot_there v l at is (source.Borrow of) e = absurd (unlocated v l at (source.Borrow of) e refl)
  in_slot_there v l at is (source.Upcast of) e = absurd (unlocated v l at (source.Upcast of) e refl)
  in_slot_there v l at is (source.Loan of) e = absurd (unlocated v l at (source.Loan of) e refl)
  in_slot_there v l at is source.Other e = absurd (unlocated v l at source.Other e refl)

  -- ---- a slot that is deallocated

  closing : (t : List Item) (p : PointId) → IsRunTrail f (item.Inst p ∷ t) → (y : Taken) → Contains (item_taken f (item.Inst p)) y → (l : Location)
      → location_of sources y.value ≡ Some l → (x : Inst) → inst_at f p ≡ Some x → deallocates x ≡ true → is_on d f (Allocation l.root) t ≡ Some true
  closing t p h y c l at x is closes =
      slots_allocated d f (accepted_in m n f a) l.root (ap (is_slot sources) root_is ∙ is_one) t h.1
      ∙ ap (λ s. Some (has s l.root.0)) gone.0
      ∙ ap (λ b. Some (b || has (slots_on d f (item.Inst p ∷ t)) l.root.0)) (eq-eqb one.0.value.0 l.root.0 (ap (λ (v : ValueId). v.0) (sym root_is)))
    where
      here : (b k : ℕ) × IsAt f b k x
      here = stands_somewhere f (item.Inst p) x is

      one : (o : Operand) × (addresses_of x ≡ o.value ∷ []) × (taken_by x ≡ taken_as o (by_row role.AddressRole) ∷ [])
      one = deallocates_one x closes ((typed m n f a).insts here.0 here.1 x here.2).parts.operands

      gone : (slots_on d f t ≡ one.0.value ∷ slots_on d f (item.Inst p ∷ t)) × (has (slots_on d f (item.Inst p ∷ t)) one.0.value.0 ≡ false)
      gone = closed m n f a t (item.Inst p) x one.0.value h is closes one.1

      is_one : is_slot sources one.0.value ≡ true
      is_one = of_slots d f (accepted_in m n f a) (item.Inst p) x is closes one.0.value (subst (λ vs. Contains vs one.0.value) (sym one.1) (contained_among one.0.value (one.0.value ∷ []) (inl refl)))

      taken : item_taken f (item.Inst p) ≡ taken_as one.0 (by_row role.AddressRole) ∷ []
      taken = ap (λ o. taken_in o ++ []) is ∙ ap (λ ts. ts ++ []) one.2

      same : y.value ≡ one.0.value
      same = only (subst (Among y) taken (among_contained y (item_taken f (item.Inst p)) c))
        where
          only : Among y (taken_as one.0 (by_row role.AddressRole) ∷ []) → y.value ≡ one.0.value
          only (inl e) = ap (λ (z : Taken). z.value) e
          only (inr e) = absurd e

      is_root : IsRoot (source_at sources y.value)
      is_root = slot_root (source_at sources y.value) (ap (is_slot sources) same ∙ is_one)

      root_is : l.root ≡ one.0.value
      root_is = located_root y.value l at is_root ∙ same

  -- no terminator deallocates
  closing_at : (t : List Item) (i : Item) → IsRunTrail f (i ∷ t) → (y : Taken) → Contains (item_taken f i) y → (l : Location)
      → location_of sources y.value ≡ Some l → (x : Inst) → item_inst f i ≡ Some x → deallocates x ≡ true → is_on d f (Allocation l.root) t ≡ Some true
  closing_at t item.Entry h y c l at x is closes = absurd (none-some x is)
  closing_at t (item.Inst p) h y c l at x is closes = closing t p h y c l at x is closes
  closing_at t (item.Edge e) h y c l at x is closes =
      absurd (true≢false (sym closes ∙ ends_nothing x.op ((typed m n f a).ends e.block.0 x is).1.ends))
  closing_at t (item.Exit p) h y c l at x is closes =
      absurd (true≢false (sym closes ∙ ends_nothing x.op ((typed m n f a).ends p.block.0 x is).1.ends))

  pub in_allocated : (t : List Item) (i : Item) → IsRunTrail f (i ∷ t) → (y : Taken) → Contains (item_taken f i) y → (l : Location) → location_of sources y.value ≡ Some l
      → is_slot sources l.root ≡ true → is_on d f (Allocation l.root) t ≡ Some true
  in_allocated t i h y c l at is = by (inst_takes f i y c)
    where
      there : IsPartOf d f (InSlot y.value l.root)
      there = in_slot_there y.value l at is (source_at sources y.value) refl

      by : (x : Inst) × (item_inst f i ≡ Some x) → is_on d f (Allocation l.root) t ≡ Some true
      by (x, has_inst) = at_kind (deallocates x) refl
        where
          at_kind : (b : Bool) → deallocates x ≡ b → is_on d f (Allocation l.root) t ≡ Some true
          at_kind false stays =
              sym (in_slots d f (accepted_in m n f a) y.value l.root there (allocation_there d f l.root is) t h.1)
              ∙ mention_finds (InSlot y.value l.root) there (λ v. inl refl) (λ v b. quiet_when (is_same v y.value)) t i h x has_inst stays y c
              (ap (λ b. when b (needs_on rule.AddressOutsideScope)) (itself y.value))
          at_kind true closes = closing_at t i h y c l at x has_inst closes

  -- ---- an address in its scopes

  scope_listed : (v b : ValueId) (bases : List ValueId) → has bases b.0 ≡ true → is_scope sources b ≡ true → Among (InScope v b) (scope_parts sources v bases)
  scope_listed v b bases there is =
      among_flat (scope_part sources v) (InScope v b) b bases (has_among bases b there)
      (subst (λ x. Among (InScope v b) (cond x (InScope v b ∷ []) [])) (sym is) (inl refl))

  in_scope_there : (v b : ValueId) → IsBaseOf d f b v → is_scope sources b ≡ true → (s : Source) → source_at sources v ≡ s → lacks_location s ≡ false
      → ((row : AddressRow) (trivial : Bool) → s ≡ source.Argument row trivial → ⊥) → IsPartOf d f (InScope v b)
  in_scope_there v b base is (source.Slot trivial) e named other =
      part_there d f v (source.Slot trivial) e (λ x. cc) (InScope v b)
      (inr (inr (among_left (InScope v b) (scope_parts sources v (known_or (facts_in d f) v).bases) _ (scope_listed v b (known_or (facts_in d f) v).bases base is))))
  in_scope_there v b base is (source.Field of k trivial) e named other =
      part_there d f v (source.Field of k trivial) e (λ x. cc) (InScope v b)
      (among_left (InScope v b) (scope_parts sources v (known_or (facts_in d f) v).bases) _ (scope_listed v b (known_or (facts_in d f) v).bases base is))
  in_scope_there v b base is (source.Part of k) e named other =
      part_there d f v (source.Part of k) e (λ x. cc) (InScope v b)
      (among_left (InScope v b) (scope_parts sources v (known_or (facts_in d f) v).bases) _ (scope_listed v b (known_or (facts_in d f) v).bases base is))
  in_scope_there v b base is (source.Argument row trivial) e named other = absurd (other row trivial refl)
  in_scope_there v b base is (source.Object fields) e named other = absurd (true≢false named)
  in_scope_there v b base is (source.Borrow of) e named other = absurd (true≢false named)
  in_scope_there v b base is (source.Upcast of) e named other = absurd (true≢false named)
  in_scope_there v b base is (source.Loan of) e named other = absurd (true≢false named)
  in_scope_there v b base is source.Other e named other = absurd (true≢false named)

  rooted : (s : Source) → IsRoot s → lacks_location s ≡ false
  rooted _ slot = refl
  rooted _ argument = refl
  rooted _ field = refl

  named_so : (v : ValueId) → IsNamed sources v → lacks_location (source_at sources v) ≡ false
  named_so v (root r) = rooted (source_at sources v) r
  named_so v (member of k part) = ap lacks_location part

  pub in_open : (t : List Item) (i : Item) → IsRunTrail f (i ∷ t) → (x : Inst) → item_inst f i ≡ Some x → deallocates x ≡ false
      → (y : Taken) → Contains (item_taken f i) y → IsNamed sources y.value
      → ((row : AddressRow) (trivial : Bool) → source_at sources y.value ≡ source.Argument row trivial → ⊥)
      → (b : ValueId) → IsBaseOf d f b y.value → is_scope sources b ≡ true → is_on d f (InScope y.value b) t ≡ Some true
  in_open t i h x is stays y c named other b base scope =
      mention_finds (InScope y.value b) (in_scope_there y.value b base scope (source_at sources y.value) refl (named_so y.value named) other)
      (λ v. off_when (is_same v b)) (λ v k. quiet_when (is_same v y.value)) t i h x is stays y c (ap (λ k. when k (needs_on rule.AddressOutsideScope)) (itself y.value))

pub are_in_allocated : AreInAllocated
are_in_allocated m n f a t i h y c l at is = in_allocated m n f a t i h y c l at is

pub are_in_open_scopes : AreInOpenScopes
are_in_open_scopes m n f a t i h x is stays y c named other b base scope = in_open m n f a t i h x is stays y c named other b base scope
