-- How each item leaves the slots: by its row it opens one, closes the newest, or leaves all.
use Rattle.std.proofs.Common.{◌≡◌, ℕ, zero, suc, List, [], ◌∷◌, ◌++◌, append_assoc, map, refl, sym, ap, ◌∙◌, subst, Bool, true, false, not, Option, Some, None, ◌||◌, inl, eq-eqb}
use Rattle.std.specs.Prelude.{◌==◌, Contains, cond, flat_map, slice_get}
use Rattle.std.proofs.lemmas.Bool.{false≢true, true≢false}
use Rattle.std.proofs.lemmas.Option.{same_Some}
use Rattle.argument_conventions.specs.Arguments.{Told, arguments_of}
use Rattle.argument_conventions.specs.Rows.{address_row}
use Rattle.argument_conventions.specs.declared.row.AddressRow.{AddressRow}
use Rattle.instruction_table.specs.Forms.{ending_of}
use Rattle.instruction_table.specs.declared.op.Op.{Op}
use Rattle.instruction_table.specs.declared.op.Op.TheVariants as op
use Rattle.sil_verifier_trails.specs.AcceptedTrails.inner.Accepted.{IsAcceptedIn}
use Rattle.sil_verifier_values.specs.memory_rules_accesses.Accesses.{begun, deallocations_of, does_of, ended, made, made_by, mentions_of}
use Rattle.sil_verifier_values.specs.memory_rules_accesses.Operations.{access_kind_of, addresses_of, deallocates, deallocates_by, operations_of}
use Rattle.sil_verifier_values.specs.memory_rules_accesses.Sources.{argument_source_or, borrow_source, element_place, field_source, handed_source, is_slot, is_slot_source, is_trivial_member}
use Rattle.sil_verifier_values.specs.memory_rules_accesses.Sources.{loan_source, member_place, object_source, part_source, source_at, source_by, sources_of, upcast_source}
use Rattle.sil_verifier_values.specs.memory_rules_accesses.declared.access.Access.{Access}
use Rattle.sil_verifier_values.specs.memory_rules_accesses.declared.access.Access.TheVariants.{Deallocates, Does}
use Rattle.sil_verifier_values.specs.memory_rules_accesses.declared.access.Operated.{Operated}
use Rattle.sil_verifier_values.specs.memory_rules_accesses.declared.columns.AccessKind.{AccessKind}
use Rattle.sil_verifier_values.specs.memory_rules_accesses.declared.columns.AccessKind.TheVariants as access
use Rattle.sil_verifier_values.specs.memory_rules_accesses.declared.source.Source.{Source}
use Rattle.sil_verifier_values.specs.memory_rules_accesses.declared.source.Source.TheVariants as source
use Rattle.sil_verifier_values.specs.memory_rules_parts.declared.part.Part.TheVariants.{Allocation}
use Rattle.sil_verifier_values.specs.ownership_kinds_origins.Facts.{facts_in}
use Rattle.sil_verifier_trails.specs.RunTrails.inner.RunTrails.{IsRunTrail}
use Rattle.sil_verifier_trails.specs.AcceptedMemory.inner.PartTrails.{accesses_in}
use Rattle.sil_verifier_trails.proofs.AcceptedMemory.AccessesRight.{returns_right}
use Rattle.sil_verifier_trails.proofs.AcceptedMemory.PartsTurned.{turn_by}
use Rattle.sil_verifier_trails.proofs.AcceptedMemory.Turning.{turned_each}
use Rattle.sil_verifier_trails.proofs.AcceptedTrails.Unbroken.{are_accepted}
use Rattle.sil_verifier_values.specs.inner.Known.{IsAcceptedBody}
use Rattle.sil_verifier_values.specs.inner.Rows.{source_of_argument}
use Rattle.sil_cfg_items.specs.Items.{item_defined, item_taken}
use Rattle.sil_cfg_items.specs.Parts.{item_inst, terminator_in}
use Rattle.numbered_form.specs.Lists.{Each}
use Rattle.sil_verifier_values.specs.ownership_kinds_chains.OwnershipChains.Facts.{has}
use Rattle.sil_verifier_values.specs.ownership_kinds_chains.OwnershipMarks.Marks.{marks_of}
use Rattle.sil_verifier_values.specs.ownership_kinds_chains.declared.ownership_marks.mark.Mark.{Mark}
use Rattle.sil_verifier_values.specs.reach_engine_marks.PathPatterns.Marks.{needs_off}
use Rattle.numbered_form.proofs.PointChecks.Among.{contained_among}
use Rattle.sil_ast.specs.declared.function.Block.{Block}
use Rattle.sil_ast.specs.declared.function.Function.{Function}
use Rattle.sil_ast.specs.declared.inst.Inst.{Inst}
use Rattle.sil_ast.specs.declared.module.Module.{Module}
use Rattle.sil_ast.specs.declared.place.ValueId.{ValueId}
use Rattle.sil_ast.specs.declared.type_name.TypeName.{TypeName}
use Rattle.sil_cfg.specs.Returns.{is_return, returns_by, returns_in}
use Rattle.sil_cfg.specs.declared.item.Item.{Item}
use Rattle.sil_cfg.specs.declared.item.Item.TheVariants as item
use Rattle.sil_rules.specs.declared.rule.Rule.TheVariants as rule
use Rattle.sil_verifier_values.specs.sil_types_declarations.TypeDefinitions.Declarations.{Declarations, declarations_of}
use Rattle.numbered_form.specs.ValueTables.FirstValue.{first_value}
use Rattle.sil_verifier_trails.specs.AcceptedPlaces.inner.Stacks.{AreNoneLeft, AreSlotsClosed, AreSlotsKept, AreSlotsOpened, IsNewest, keeps_slots, keeps_slots_by}
use Rattle.sil_verifier_trails.specs.AcceptedPlaces.inner.Stacks.{slots_behind, slots_by, slots_on, without}
use Rattle.sil_verifier_trails.proofs.AcceptedPlaces.Followed.{accesses_leave}
use Rattle.sil_verifier_trails.proofs.AcceptedPlaces.Items.{IsOfMemory, all_append, all_of, each_contained, ends_quiet, item_comes, mentions_quiet}
use Rattle.sil_verifier_trails.proofs.AcceptedPlaces.Made.{IsMadeBy, argument, made_so, result}
use Rattle.sil_verifier_trails.proofs.AcceptedPlaces.OperationsRight.{of_slots}
use Rattle.sil_verifier_trails.proofs.AcceptedPlaces.PartsThere.{allocation_there}
use Rattle.sil_verifier_trails.proofs.AcceptedPlaces.Stacked.{has_behind}
use Rattle.sil_verifier_trails.proofs.AcceptedPlaces.StackTops.{AreOnce, are_slots, newest_deallocated, once_on, slots_allocated}

-- ---- what an item makes is a slot by one row alone

part_no_slot : (o : Option ValueId) (k : Option ℕ) → is_slot_source (part_source o k) ≡ false
part_no_slot None k = refl
part_no_slot (Some v) None = refl
part_no_slot (Some v) (Some k) = refl

field_no_slot : (o : Option ValueId) (k : Option ℕ) (trivial : Bool) → is_slot_source (field_source o k trivial) ≡ false
field_no_slot None k trivial = refl
field_no_slot (Some v) None trivial = refl
field_no_slot (Some v) (Some k) trivial = refl

borrow_no_slot : (o : Option ValueId) → is_slot_source (borrow_source o) ≡ false
borrow_no_slot None = refl
borrow_no_slot (Some v) = refl

upcast_no_slot : (o : Option ValueId) → is_slot_source (upcast_source o) ≡ false
upcast_no_slot None = refl
upcast_no_slot (Some v) = refl

loan_no_slot : (o : Option ValueId) → is_slot_source (loan_source o) ≡ false
loan_no_slot None = refl
loan_no_slot (Some v) = refl

object_no_slot : (d : Declarations) (o : Option TypeName) → is_slot_source (object_source d o) ≡ false
object_no_slot d None = refl
object_no_slot d (Some t) = refl

-- by its row the instruction makes no slot
abbrev pub opens_no_slot : AccessKind → Bool
opens_no_slot access.AllocatesSlot = false
opens_no_slot _ = true

result_no_slot : (k : AccessKind) (d : Declarations) (i : Inst) → opens_no_slot k ≡ true → is_slot_source (source_by k d i) ≡ false
result_no_slot access.NoAccess d i e = refl
result_no_slot access.AllocatesSlot d i e = absurd (false≢true e)
result_no_slot access.AllocatesObject d i e = object_no_slot d i.ty
result_no_slot access.DeallocatesSlot d i e = refl
result_no_slot access.LendsValue d i e = borrow_no_slot (first_value i)
result_no_slot access.Upcasts d i e = upcast_no_slot (first_value i)
result_no_slot access.LendsLocation d i e = loan_no_slot (first_value i)
result_no_slot access.NamesField d i e = field_no_slot (first_value i) (member_place d i.member) (is_trivial_member d i.member)
result_no_slot access.NamesMember d i e = part_no_slot (first_value i) (member_place d i.member)
result_no_slot access.NamesElement d i e = part_no_slot (first_value i) (element_place i.number)
result_no_slot access.Loads d i e = refl
result_no_slot access.Stores d i e = refl
result_no_slot access.Destroys d i e = refl
result_no_slot access.Passes d i e = refl

handed_no_slot : (trivial : Bool) (o : Option AddressRow) → is_slot_source (handed_source trivial o) ≡ false
handed_no_slot trivial None = refl
handed_no_slot trivial (Some row) = refl

told_no_slot : (d : Declarations) (o : Option Told) → is_slot_source (argument_source_or d o) ≡ false
told_no_slot d None = refl
told_no_slot d (Some a) = handed_no_slot _ (address_row a.convention)

argument_no_slot : (d : Declarations) (f : Function) (b k : ℕ) → is_slot_source (source_of_argument d f b k) ≡ false
argument_no_slot d f zero k = told_no_slot d (slice_get (arguments_of f.signature) k)
argument_no_slot d f (suc b) k = refl

keeps_opens : (k : AccessKind) → keeps_slots_by k ≡ true → (opens_no_slot k ≡ true) × (deallocates_by k ≡ false)
keeps_opens access.NoAccess e = (refl, refl)
keeps_opens access.AllocatesSlot e = absurd (false≢true e)
keeps_opens access.AllocatesObject e = (refl, refl)
keeps_opens access.DeallocatesSlot e = absurd (false≢true e)
keeps_opens access.LendsValue e = (refl, refl)
keeps_opens access.Upcasts e = (refl, refl)
keeps_opens access.LendsLocation e = (refl, refl)
keeps_opens access.NamesField e = (refl, refl)
keeps_opens access.NamesMember e = (refl, refl)
keeps_opens access.NamesElement e = (refl, refl)
keeps_opens access.Loads e = (refl, refl)
keeps_opens access.Stores e = (refl, refl)
keeps_opens access.Destroys e = (refl, refl)
keeps_opens access.Passes e = (refl, refl)

pub closes_opens : (k : AccessKind) → deallocates_by k ≡ true → opens_no_slot k ≡ true
closes_opens access.DeallocatesSlot e = refl
closes_opens _ e = absurd (false≢true e)

abbrev pub opens_none : Option Inst → Bool
opens_none None = true
opens_none (Some i) = opens_no_slot (access_kind_of i.op)

module _ (m : Module) (n : ℕ) (f : Function) (a : IsAcceptedBody m n f) where
  abbrev d : Declarations
  d = declarations_of m

  abbrev sources : List Source
  sources = sources_of d f

  pub accepted_in : IsAcceptedIn d f
  accepted_in = are_accepted m n f a.verified a.body

  not_made_slot : (i : Item) → opens_none (item_inst f i) ≡ true → (v : ValueId) → IsMadeBy d f i v → is_slot sources v ≡ false
  not_made_slot i none v (result x is from) = ap is_slot_source from ∙ result_no_slot (access_kind_of x.op) d x (sym (ap opens_none is) ∙ none)
  not_made_slot i none v (argument b k from) = ap is_slot_source from ∙ argument_no_slot d f b k

  pub none_made : (i : Item) → opens_none (item_inst f i) ≡ true → Each (λ v. is_slot sources v ≡ false) (item_defined f i)
  none_made i none = each_contained (λ v. is_slot sources v ≡ false) (item_defined f i) (λ v c. not_made_slot i none v (made_so m n f a i v c))

  -- ---- the slots behind an item

  by_memory : IsOfMemory (slots_by sources)
  by_memory = record { ends = λ v x. refl; begins = λ v x. refl; mentions = λ v m x. refl }

  behind_all : (xs : List Access) (slots : List ValueId) → slots_behind sources xs slots ≡ all_of (slots_by sources) xs slots
  behind_all [] slots = refl
  behind_all (x ∷ xs) slots = behind_all xs (slots_by sources x slots)

  each_does : (xs : List Operated) (slots : List ValueId) → all_of (slots_by sources) (map Does xs) slots ≡ slots
  each_does [] slots = refl
  each_does (x ∷ xs) slots = each_does xs slots

  does_quiet : (o : Option Inst) (slots : List ValueId) → all_of (slots_by sources) (does_of o) slots ≡ slots
  does_quiet None slots = refl
  does_quiet (Some x) slots = each_does (operations_of x) slots

  made_quiet : (v : ValueId) (s : Source) → is_slot sources v ≡ false → (slots : List ValueId) → all_of (slots_by sources) (made_by v s) slots ≡ slots
  made_quiet v (source.Slot trivial) none slots = ap (λ b. cond b (v ∷ slots) slots) none
  made_quiet v (source.Argument row trivial) none slots = refl
  made_quiet v (source.Object fields) none slots = ap (λ b. cond b (v ∷ slots) slots) none
  made_quiet v (source.Borrow of) none slots = refl
  made_quiet v (source.Upcast of) none slots = refl
  made_quiet v (source.Loan of) none slots = refl
  made_quiet v (source.Field of k trivial) none slots = refl
  made_quiet v (source.Part of k) none slots = refl
  made_quiet v source.Other none slots = refl

  all_made_quiet : (vs : List ValueId) → Each (λ v. is_slot sources v ≡ false) vs → (slots : List ValueId)
      → all_of (slots_by sources) (flat_map (made sources) vs) slots ≡ slots
  all_made_quiet [] h slots = refl
  all_made_quiet (v ∷ vs) h slots =
      all_append (slots_by sources) (made sources v) (flat_map (made sources) vs) slots
      ∙ ap (all_of (slots_by sources) (flat_map (made sources) vs)) (made_quiet v (source_at sources v) h.0 slots) ∙ all_made_quiet vs h.1 slots

  -- the slots behind an item, by what it deallocates and makes
  item_slots : (t : List Item) (i : Item) → slots_on d f (i ∷ t)
      ≡ all_of (slots_by sources) (flat_map (made sources) (item_defined f i)) (all_of (slots_by sources) (deallocations_of (item_inst f i)) (slots_on d f t))
  item_slots t i =
      behind_all (accesses_in d f i) (slots_on d f t) ∙ item_comes (slots_by sources) by_memory sources (facts_in d f) f i (slots_on d f t)
      ∙ ap (λ s. all_of (slots_by sources) (flat_map (made sources) (item_defined f i)) (all_of (slots_by sources) (deallocations_of (item_inst f i)) s))
      (does_quiet (item_inst f i) (slots_on d f t))

  none_closed : (o : Option Inst) → keeps_slots o ≡ true → deallocations_of o ≡ []
  none_closed None e = refl
  none_closed (Some x) e = ap (λ b. cond b (map Deallocates (addresses_of x)) []) (keeps_opens (access_kind_of x.op) e).1

  none_opened : (o : Option Inst) → keeps_slots o ≡ true → opens_none o ≡ true
  none_opened None e = refl
  none_opened (Some x) e = (keeps_opens (access_kind_of x.op) e).0

  pub kept : (t : List Item) (i : Item) → keeps_slots (item_inst f i) ≡ true → slots_on d f (i ∷ t) ≡ slots_on d f t
  kept t i e =
      item_slots t i
      ∙ ap (λ xs. all_of (slots_by sources) (flat_map (made sources) (item_defined f i)) (all_of (slots_by sources) xs (slots_on d f t)))
      (none_closed (item_inst f i) e)
      ∙ all_made_quiet (item_defined f i) (none_made i (none_opened (item_inst f i) e)) (slots_on d f t)

  -- ---- a slot is opened

  made_slot : (v : ValueId) (s : Source) → source_at sources v ≡ s → is_slot_source s ≡ true → (slots : List ValueId)
      → all_of (slots_by sources) (made_by v s) slots ≡ v ∷ slots
  made_slot v (source.Slot trivial) is e slots = ap (λ x. cond (is_slot_source x) (v ∷ slots) slots) is
  made_slot v _ is e slots = absurd (false≢true e)

  opens : (x : Inst) → access_kind_of x.op ≡ access.AllocatesSlot → deallocations_of (Some x) ≡ []
  opens x e = ap (λ k. cond (deallocates_by k) (map Deallocates (addresses_of x)) []) e

  pub opened : (t : List Item) (i : Item) (x : Inst) (slot : ValueId) → IsRunTrail f (i ∷ t) → item_inst f i ≡ Some x
      → access_kind_of x.op ≡ access.AllocatesSlot → item_defined f i ≡ slot ∷ [] → is_slot sources slot ≡ true
      → (slots_on d f (i ∷ t) ≡ slot ∷ slots_on d f t) × (has (slots_on d f t) slot.0 ≡ false)
  opened t i x slot h is kind defined is_one =
      (all, (subst (AreOnce sources) all (once_on d f accepted_in (i ∷ t) h)).0)
    where
      all : slots_on d f (i ∷ t) ≡ slot ∷ slots_on d f t
      all =
          item_slots t i
          ∙ ap (λ xs. all_of (slots_by sources) (flat_map (made sources) (item_defined f i)) (all_of (slots_by sources) xs (slots_on d f t)))
          (ap deallocations_of is ∙ opens x kind)
          ∙ ap (λ vs. all_of (slots_by sources) (flat_map (made sources) vs) (slots_on d f t)) defined
          ∙ all_append (slots_by sources) (made sources slot) [] (slots_on d f t)
          ∙ made_slot slot (source_at sources slot) refl is_one (slots_on d f t)

  -- ---- a slot is closed

  without_absent : (v : ValueId) (slots : List ValueId) → has slots v.0 ≡ false → without v slots ≡ slots
  without_absent v [] e = refl
  without_absent v (w ∷ slots) e = by (λ none. without_absent v slots none) (w.0 == v.0) refl
    where
      by : (has slots v.0 ≡ false → without v slots ≡ slots) → (b : Bool) → (w.0 == v.0) ≡ b → cond b (without v slots) (w ∷ without v slots) ≡ w ∷ slots
      by more true is = absurd (true≢false (sym (ap (λ b. b || has slots v.0) is) ∙ e))
      by more false is = ap (λ s. w ∷ s) (more (sym (ap (λ b. b || has slots v.0) is) ∙ e))

  pub closed : (t : List Item) (i : Item) (x : Inst) (slot : ValueId) → IsRunTrail f (i ∷ t) → item_inst f i ≡ Some x
      → deallocates x ≡ true → addresses_of x ≡ slot ∷ []
      → (slots_on d f t ≡ slot ∷ slots_on d f (i ∷ t)) × (has (slots_on d f (i ∷ t)) slot.0 ≡ false)
  closed t i x slot h is closes at =
      (now.parts ∙ ap (λ s. slot ∷ s) (sym left), ap (λ s. has s slot.0) left ∙ now.once)
    where
      marks : List Mark
      marks = marks_of (facts_in d f) f i

      front : List Access
      front = flat_map ended marks ++ (mentions_of (item_inst f i) (item_taken f i) ++ does_of (item_inst f i))

      rest : List Access
      rest = flat_map (made sources) (item_defined f i) ++ flat_map begun marks

      one : deallocations_of (item_inst f i) ≡ Deallocates slot ∷ []
      one = ap deallocations_of is ∙ ap (λ b. cond b (map Deallocates (addresses_of x)) []) closes ∙ ap (map Deallocates) at

      parts : accesses_in d f i ≡ front ++ Deallocates slot ∷ rest
      parts =
          ap (λ xs. flat_map ended marks ++ (mentions_of (item_inst f i) (item_taken f i) ++ (does_of (item_inst f i) ++ (xs ++ rest)))) one
          ∙ ap (λ xs. flat_map ended marks ++ xs)
          (sym (append_assoc (mentions_of (item_inst f i) (item_taken f i)) (does_of (item_inst f i)) (Deallocates slot ∷ rest)))
          ∙ sym (append_assoc (flat_map ended marks) (mentions_of (item_inst f i) (item_taken f i) ++ does_of (item_inst f i)) (Deallocates slot ∷ rest))

      quiet : slots_behind sources front (slots_on d f t) ≡ slots_on d f t
      quiet =
          behind_all front (slots_on d f t)
          ∙ all_append (slots_by sources) (flat_map ended marks) (mentions_of (item_inst f i) (item_taken f i) ++ does_of (item_inst f i)) (slots_on d f t)
          ∙ ap (all_of (slots_by sources) (mentions_of (item_inst f i) (item_taken f i) ++ does_of (item_inst f i)))
          (ends_quiet (slots_by sources) by_memory marks (slots_on d f t))
          ∙ all_append (slots_by sources) (mentions_of (item_inst f i) (item_taken f i)) (does_of (item_inst f i)) (slots_on d f t)
          ∙ ap (all_of (slots_by sources) (does_of (item_inst f i)))
          (mentions_quiet (slots_by sources) by_memory (item_inst f i) (item_taken f i) (slots_on d f t))
          ∙ does_quiet (item_inst f i) (slots_on d f t)

      is_one : is_slot sources slot ≡ true
      is_one = of_slots d f accepted_in i x is closes slot (subst (λ vs. Contains vs slot) (sym at) (contained_among slot (slot ∷ []) (inl refl)))

      now : IsNewest (slots_on d f t) slot
      now = subst (λ s. IsNewest s slot) quiet (newest_deallocated d f accepted_in t i h front rest slot parts is_one)

      left : slots_on d f (i ∷ t) ≡ now.older
      left =
          item_slots t i
          ∙ ap (λ xs. all_of (slots_by sources) (flat_map (made sources) (item_defined f i)) (all_of (slots_by sources) xs (slots_on d f t))) one
          ∙ all_made_quiet (item_defined f i) (none_made i (ap opens_none is ∙ closes_opens (access_kind_of x.op) closes)) (without slot (slots_on d f t))
          ∙ ap (without slot) now.parts
          ∙ ap (λ b. cond b (without slot now.older) (slot ∷ without slot now.older)) (eq-eqb slot.0 slot.0 refl)
          ∙ without_absent slot now.older now.once

  -- ---- at a return

  return_keeps : (o : Op) → returns_by (ending_of o) ≡ true → keeps_slots_by (access_kind_of o) ≡ true
  return_keeps op.Return e = refl
  return_keeps _ e = absurd (false≢true e)

  block_keeps : (o : Option Block) → returns_in o ≡ true → keeps_slots (terminator_in o) ≡ true
  block_keeps None e = refl
  block_keeps (Some b) e = return_keeps b.terminator.op e

  returned_keeps : (i : Item) → is_return f i ≡ true → keeps_slots (item_inst f i) ≡ true
  returned_keeps (item.Exit p) e = block_keeps (slice_get f.blocks p.block.0) e
  returned_keeps _ e = absurd (false≢true e)

  not_true : (b : Bool) → not b ≡ true → b ≡ false
  not_true true e = absurd (false≢true e)
  not_true false e = refl

  pub none_left : (t : List Item) (i : Item) → IsRunTrail f (i ∷ t) → is_return f i ≡ true → slots_on d f t ≡ []
  none_left t i h returns = sym (kept t i (returned_keeps i returns)) ∙ at (slots_on d f (i ∷ t)) refl (are_slots d f (i ∷ t))
    where
      absent : (slot : ValueId) → is_slot sources slot ≡ true → has (slots_on d f (i ∷ t)) slot.0 ≡ false
      absent slot is =
          let p = Allocation slot in
          let r = returns_right d f accepted_in (Allocation slot) (allocation_there d f slot is) t i h (needs_off rule.StackLeft) returns refl in
          let was : r.on ≡ has (slots_on d f t) slot.0 = same_Some r.on (has (slots_on d f t) slot.0) (sym r.was ∙ slots_allocated d f accepted_in slot is t h.1) in
          has_behind d f slot is (accesses_in d f i) (slots_on d f t)
          ∙ ap (turned_each (turn_by d f (Allocation slot)) (accesses_in d f i)) (sym was)
          ∙ sym (accesses_leave d f accepted_in (Allocation slot) (allocation_there d f slot is) (accesses_in d f i) r.on r.then r.left)
          ∙ not_true r.then r.found

      at : (slots : List ValueId) → slots_on d f (i ∷ t) ≡ slots → Each (λ v. is_slot sources v ≡ true) slots → slots ≡ []
      at [] is all = refl
      at (w ∷ slots) is all =
          absurd (true≢false (sym (ap (λ b. b || has slots w.0) (eq-eqb w.0 w.0 refl)) ∙ sym (ap (λ s. has s w.0) is) ∙ absent w all.0))

pub slots_kept : AreSlotsKept
slots_kept m n f a t i e = kept m n f a t i e

pub slots_opened : AreSlotsOpened
slots_opened m n f a t i x slot h is kind defined one = opened m n f a t i x slot h is kind defined one

pub slots_closed : AreSlotsClosed
slots_closed m n f a t i x slot h is closes at = closed m n f a t i x slot h is closes at

pub none_left_over : AreNoneLeft
none_left_over m n f a t i h returns = none_left m n f a t i h returns
