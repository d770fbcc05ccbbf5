-- What an open loan lends is full: it was when it was lent, and nothing empties it since.
use Rattle.std.proofs.Common.{◌≡◌, inl, inr, ℕ, zero, suc, List, [], ◌∷◌, ◌++◌, length, refl, sym, ap, ◌∙◌, subst, Bool, true, false, not, ◌&&◌, ◌||◌, Option, Some, None, eq-eqb}
use Rattle.std.specs.Prelude.{◌==◌, Contains, cond, flat_map, option_and_then, option_map, slice_get}
use Rattle.std.specs.List.{starts_with}
use Rattle.std.proofs.lemmas.Bool.{and_parts, eqb-true, false≢true, true≢false}
use Rattle.std.proofs.lemmas.Option.{none-some, same_Some}
use Rattle.argument_conventions.specs.Arguments.{Told, arguments_of}
use Rattle.argument_conventions.specs.Rows.{address_row, keeps_full, keeps_full_by, only_reads}
use Rattle.argument_conventions.specs.declared.row.AddressRow.{AddressRow}
use Rattle.argument_conventions.specs.declared.row.Content.{Content}
use Rattle.argument_conventions.specs.declared.row.Content.TheVariants.{Empty, Full}
use Rattle.instruction_table.specs.Forms.{is_terminator, roles_of}
use Rattle.instruction_table.specs.declared.entries.Role.TheVariants as role
use Rattle.instruction_table.specs.declared.op.Op.{Op}
use Rattle.instruction_table.specs.declared.op.Op.TheVariants as op
use Rattle.sil_verifier_values.specs.memory_rules_accesses.Accesses.{begins_by, begun, ended, ends_by, made_by}
use Rattle.sil_verifier_values.specs.memory_rules_accesses.Locations.{cell_by, cell_of, location_of, meet, overlap, same_step, whole}
use Rattle.sil_verifier_values.specs.memory_rules_accesses.Operations.{access_kind_of, operated, operations_of}
use Rattle.sil_verifier_values.specs.memory_rules_accesses.Rows.{has_by, has_operation, has_steps, is_part, shared_has, slot_has}
use Rattle.sil_verifier_values.specs.memory_rules_accesses.Sources.{argument_source_or, borrow_source, element_place, field_source, handed_source, is_slot, is_slot_source, is_trivial_at}
use Rattle.sil_verifier_values.specs.memory_rules_accesses.Sources.{is_trivial_member, loan_source, member_place, object_source, part_source, result_source, slot_source}
use Rattle.sil_verifier_values.specs.memory_rules_accesses.Sources.{source_at, source_by, sources_of, upcast_source}
use Rattle.sil_verifier_values.specs.memory_rules_accesses.declared.access.Access.{Access}
use Rattle.sil_verifier_values.specs.memory_rules_accesses.declared.access.Access.TheVariants.{Deallocates, Does}
use Rattle.sil_verifier_values.specs.memory_rules_accesses.declared.access.Operated.{Operated}
use Rattle.sil_verifier_values.specs.memory_rules_accesses.declared.access.Operation.{Operation}
use Rattle.sil_verifier_values.specs.memory_rules_accesses.declared.access.Operation.TheVariants.{FirstWrite, Handed, Lend, Read, Take, TrivialStore, Write}
use Rattle.sil_verifier_values.specs.memory_rules_accesses.declared.columns.AccessKind.{AccessKind}
use Rattle.sil_verifier_values.specs.memory_rules_accesses.declared.columns.AccessKind.TheVariants as access
use Rattle.sil_verifier_values.specs.memory_rules_accesses.declared.location.Cell.{Cell}
use Rattle.sil_verifier_values.specs.memory_rules_accesses.declared.location.Location.{Location}
use Rattle.sil_verifier_values.specs.memory_rules_accesses.declared.source.Source.{Source}
use Rattle.sil_verifier_values.specs.memory_rules_accesses.declared.source.Source.TheVariants as source
use Rattle.sil_verifier_values.specs.memory_rules_parts.Contents.{at_location, counts_at_part, deallocation_mark, handed_mark, operation_mark, same_cell}
use Rattle.sil_verifier_values.specs.memory_rules_parts.Loans.{disturbs, writes, writes_at}
use Rattle.sil_verifier_values.specs.memory_rules_parts.Parts.{whole_cell}
use Rattle.sil_verifier_values.specs.memory_rules_parts.Switches.{is_same, when}
use Rattle.sil_verifier_values.specs.memory_rules_parts.declared.part.Part.{Part}
use Rattle.sil_verifier_values.specs.memory_rules_parts.declared.part.Part.TheVariants.{Allocation, Contents, Lent}
use Rattle.sil_verifier_values.specs.ownership_kinds_origins.Facts.{facts_in}
use Rattle.sil_verifier_trails.specs.RunTrails.inner.RunTrails.{GoesOn, IsRunTrail}
use Rattle.sil_verifier_trails.specs.AcceptedMemory.inner.PartTrails.{IsPartOf, accesses_in, is_on}
use Rattle.sil_verifier_trails.proofs.AcceptedMemory.InSlots.{when_quiet}
use Rattle.sil_verifier_trails.proofs.AcceptedMemory.MarkSorts.{ends_are, uses_are}
use Rattle.sil_verifier_trails.proofs.AcceptedMemory.PartsFollowed.{parts_followed}
use Rattle.sil_verifier_trails.proofs.AcceptedMemory.PartsTurned.{turn_by}
use Rattle.sil_verifier_trails.proofs.AcceptedMemory.Turning.{each_append, turned_each}
use Rattle.sil_verifier_trails.proofs.AcceptedTrails.Tests.{each_of_both, or_first, or_right, or_second}
use Rattle.sil_verifier_values.specs.inner.Known.{IsAcceptedBody}
use Rattle.sil_verifier_values.specs.inner.Rows.{source_of_argument}
use Rattle.sil_verifier_values.proofs.Accepted.{typed}
use Rattle.sil_cfg_items.specs.Items.{item_defined, item_taken, taken_in}
use Rattle.sil_cfg_items.specs.Parts.{inst_at, item_inst, results_in, terminator_of}
use Rattle.sil_cfg_items.specs.Roles.{by_row, conventions_in, roles_for, taken_as, taken_by, taken_each}
use Rattle.sil_cfg_items.specs.declared.taken.Taken.{Taken}
use Rattle.numbered_form.specs.Lists.{Each}
use Rattle.numbered_form.specs.inner.Parts.{has_operands, is_typed}
use Rattle.sil_verifier_values.specs.ownership_kinds_chains.OwnershipChains.Facts.{has, value_of}
use Rattle.sil_verifier_values.specs.ownership_kinds_chains.declared.ownership_chains.facts.Facts.{Facts}
use Rattle.sil_verifier_values.specs.ownership_kinds_chains.OwnershipMarks.Marks as marks
use Rattle.sil_verifier_values.specs.ownership_kinds_chains.OwnershipMarks.Marks.{begin_of, marks_of}
use Rattle.sil_verifier_values.specs.ownership_kinds_chains.declared.ownership_marks.mark.Mark as sorted
use Rattle.sil_verifier_values.specs.ownership_kinds_chains.declared.ownership_marks.mark.MarkSort.{MarkSort}
use Rattle.sil_verifier_values.specs.ownership_kinds_chains.declared.ownership_marks.mark.MarkSort.TheVariants.{Begin, End, Use}
use Rattle.sil_verifier_values.specs.reach_engine_marks.PathPatterns.Marks.{turns_off, turns_on}
use Rattle.sil_verifier_values.specs.reach_engine_marks.declared.path_patterns.mark.Mark.{Mark}
use Rattle.numbered_form.specs.PointChecks.Points.{IsAt}
use Rattle.numbered_form.proofs.PointChecks.Among.{Among, among_contained, contained_among}
use Rattle.sil_ast.specs.declared.function.Function.{Function}
use Rattle.sil_ast.specs.declared.inst.Inst.{Inst}
use Rattle.sil_ast.specs.declared.module.Module.{Module}
use Rattle.sil_ast.specs.declared.operands.Operand.{Operand}
use Rattle.sil_ast.specs.declared.place.PointId.{PointId}
use Rattle.sil_ast.specs.declared.place.ValueId.{ValueId}
use Rattle.sil_ast.specs.declared.type_name.TypeName.{TypeName}
use Rattle.sil_cfg.specs.declared.item.Item.{Item}
use Rattle.sil_cfg.specs.declared.item.Item.TheVariants as item
use Rattle.sil_rules.specs.declared.rule.Rule.TheVariants as rule
use Rattle.sil_verifier_values.specs.sil_types_declarations.TypeDefinitions.Declarations.{Declarations, declarations_of}
use Rattle.numbered_form.specs.ValueTables.FirstValue.{first_value}
use Rattle.sil_verifier_trails.specs.AcceptedPlaces.inner.Cells.{IsFoundSo, mark_at}
use Rattle.sil_verifier_trails.specs.AcceptedPlaces.inner.Loans.{AreLoansFull}
use Rattle.sil_verifier_trails.specs.AcceptedPlaces.inner.Stacks.{keeps_slots, keeps_slots_by, slots_on}
use Rattle.sil_verifier_trails.proofs.AcceptedPlaces.CellTurns.{reads_stay}
use Rattle.sil_verifier_trails.proofs.AcceptedPlaces.CellsRight.{found_so, itself, unturned}
use Rattle.sil_verifier_trails.proofs.AcceptedPlaces.Done.{IsDoneBy, IsRow, done_by, done_with, none_handed_by_row, of_call, of_row, one_operand}
use Rattle.sil_verifier_trails.proofs.AcceptedPlaces.Fields.{has_among, when_turned}
use Rattle.sil_verifier_trails.proofs.AcceptedPlaces.Followed.{item_leaves}
use Rattle.sil_verifier_trails.proofs.AcceptedPlaces.Items.{accesses_each, accesses_join}
use Rattle.sil_verifier_trails.proofs.AcceptedPlaces.ItemStacks.{accepted_in, kept}
use Rattle.sil_verifier_trails.proofs.AcceptedPlaces.Lists.{each_split}
use Rattle.sil_verifier_trails.proofs.AcceptedPlaces.LoansKept.{turn, undisturbed}
use Rattle.sil_verifier_trails.proofs.AcceptedPlaces.Locating.{root_location}
use Rattle.sil_verifier_trails.proofs.AcceptedPlaces.Made.{IsMadeBy, argument, made_so, result, results_so}
use Rattle.sil_verifier_trails.proofs.AcceptedPlaces.MadeOnce.{StaysOn, argument_once, is_argument, slot_once, stays_on}
use Rattle.sil_verifier_trails.proofs.AcceptedPlaces.Mentioned.{TurnsOff, in_allocated, on_before, slot_root}
use Rattle.sil_verifier_trails.proofs.AcceptedPlaces.OperationsRight.{rows_right, stands_somewhere}
use Rattle.sil_verifier_trails.proofs.AcceptedPlaces.PartsThere.{each_flat, each_where_among, loan_source_of}
use Rattle.sil_verifier_trails.proofs.AcceptedPlaces.Stacked.{has_behind}
use Rattle.sil_verifier_trails.proofs.AcceptedPlaces.StackTops.{slots_allocated}

-- ---- which row makes a loan

-- the source is a loan of this address
abbrev LendsBy : AccessKind → Option ValueId → ValueId → Type 0
LendsBy k o v = (k ≡ access.LendsLocation) × (o ≡ Some v)

slot_no : (d : Declarations) (o : Option TypeName) (v : ValueId) → slot_source d o ≡ source.Loan v → ⊥
slot_no d None v e = cc
slot_no d (Some t) v e = cc

object_no : (d : Declarations) (o : Option TypeName) (v : ValueId) → object_source d o ≡ source.Loan v → ⊥
object_no d None v e = cc
object_no d (Some t) v e = cc

borrow_no : (o : Option ValueId) (v : ValueId) → borrow_source o ≡ source.Loan v → ⊥
borrow_no None v e = cc
borrow_no (Some w) v e = cc

upcast_no : (o : Option ValueId) (v : ValueId) → upcast_source o ≡ source.Loan v → ⊥
upcast_no None v e = cc
upcast_no (Some w) v e = cc

field_no : (o : Option ValueId) (k : Option ℕ) (b : Bool) (v : ValueId) → field_source o k b ≡ source.Loan v → ⊥
field_no None k b v e = cc
field_no (Some w) None b v e = cc
field_no (Some w) (Some k) b v e = cc

part_no : (o : Option ValueId) (k : Option ℕ) (v : ValueId) → part_source o k ≡ source.Loan v → ⊥
part_no None k v e = cc
part_no (Some w) None v e = cc
part_no (Some w) (Some k) v e = cc

loan_of : (o : Option ValueId) (v : ValueId) → loan_source o ≡ source.Loan v → o ≡ Some v
loan_of None v e = cc
loan_of (Some w) v e = let same : w ≡ v = cc in ap (λ x. Some x) same

loan_row : (k : AccessKind) (d : Declarations) (i : Inst) (v : ValueId) → source_by k d i ≡ source.Loan v → LendsBy k (first_value i) v
loan_row access.NoAccess d i v e = cc
loan_row access.AllocatesSlot d i v e = absurd (slot_no d i.ty v e)
loan_row access.AllocatesObject d i v e = absurd (object_no d i.ty v e)
loan_row access.DeallocatesSlot d i v e = cc
loan_row access.LendsValue d i v e = absurd (borrow_no (first_value i) v e)
loan_row access.Upcasts d i v e = absurd (upcast_no (first_value i) v e)
loan_row access.LendsLocation d i v e = (refl, loan_of (first_value i) v e)
loan_row access.NamesField d i v e = absurd (field_no (first_value i) (member_place d i.member) (is_trivial_member d i.member) v e)
loan_row access.NamesMember d i v e = absurd (part_no (first_value i) (member_place d i.member) v e)
loan_row access.NamesElement d i v e = absurd (part_no (first_value i) (element_place i.number) v e)
loan_row access.Loads d i v e = cc
loan_row access.Stores d i v e = cc
loan_row access.Destroys d i v e = cc
loan_row access.Passes d i v e = cc

handed_no : (trivial : Bool) (o : Option AddressRow) (v : ValueId) → handed_source trivial o ≡ source.Loan v → ⊥
handed_no trivial None v e = cc
handed_no trivial (Some row) v e = cc

told_no : (d : Declarations) (o : Option Told) (v : ValueId) → argument_source_or d o ≡ source.Loan v → ⊥
told_no d None v e = cc
told_no d (Some x) v e = handed_no _ (address_row x.convention) v e

argument_no : (d : Declarations) (f : Function) (b k : ℕ) (v : ValueId) → source_of_argument d f b k ≡ source.Loan v → ⊥
argument_no d f zero k v e = told_no d (slice_get (arguments_of f.signature) k) v e
argument_no d f (suc b) k v e = cc

abbrev lends_location : AccessKind → Bool
lends_location access.LendsLocation = true
lends_location _ = false

load_borrow : (o : Op) → lends_location (access_kind_of o) ≡ true → o ≡ op.LoadBorrow
load_borrow op.LoadBorrow e = refl
load_borrow _ e = absurd (false≢true e)

-- the one operation of what makes a loan, and its one operand
module _ (x : Inst) (kind : access_kind_of x.op ≡ access.LendsLocation) (formed : has_operands x.op x.operands ≡ true) (v : ValueId) (first : first_value x ≡ Some v) where
  is_load_borrow : x.op ≡ op.LoadBorrow
  is_load_borrow = load_borrow x.op (ap lends_location kind)

  its_operand : (o : Operand) × (x.operands ≡ o ∷ [])
  its_operand = one_operand is_typed x.operands (sym (ap (λ o. has_operands o x.operands) is_load_borrow) ∙ formed)

  same_value : its_operand.0.value ≡ v
  same_value =
      same_Some its_operand.0.value v (sym (ap (λ os. option_map (λ (o : Operand). o.value) (slice_get os 0)) its_operand.1) ∙ first)

  lends_there : operations_of x ≡ operated v Lend ∷ []
  lends_there =
      ap (λ z. done_with x z x.operands) is_load_borrow ∙ ap (done_with x op.LoadBorrow) its_operand.1 ∙ ap (λ w. operated w Lend ∷ []) same_value

  takes_there : taken_by x ≡ taken_as its_operand.0 (by_row role.AddressRole) ∷ []
  takes_there =
      ap (λ o. taken_each x.operands (roles_for (roles_of o) (conventions_in x) (length x.operands))) is_load_borrow
      ∙ ap (λ os. taken_each os (roles_for (roles_of op.LoadBorrow) (conventions_in x) (length os))) its_operand.1

  taken_value : (taken_as its_operand.0 (by_row role.AddressRole)).value ≡ v
  taken_value = same_value

-- ---- what empties a place

-- a row that takes what is there
handed_off : (trivial : Bool) (before after : Content) → (handed_mark trivial before after).turns ≡ Some false → after ≡ Empty
handed_off trivial Full Full e = cc
handed_off false Full Empty e = refl
handed_off true Full Empty e = cc
handed_off false Empty Full e = cc
handed_off true Empty Full e = cc
handed_off false Empty Empty e = cc
handed_off true Empty Empty e = cc

not_kept : (before after : Content) → after ≡ Empty → keeps_full_by before after ≡ false
not_kept Empty after e = refl
not_kept Full Empty e = refl
not_kept Full Full e = let two : Full ≡ Empty = e in cc

reads_nothing : (row : AddressRow) → IsRow row → row.after ≡ Empty → (b : Bool) → only_reads row ≡ b → b ≡ false
reads_nothing row of empty true is = let full = (reads_stay row of is).1 in let two : Full ≡ Empty = sym full ∙ empty in cc
reads_nothing row of empty false is = refl

-- the operation empties a whole root, which is a slot or an argument
record Empties (sources : List Source) (l : Location) (o : Operation) : Type 0 where
  is_whole : has_steps l.path ≡ false
  writing : writes (is_part l) o ≡ true
  own_cell : cell_of sources l.root ≡ whole_cell l.root

not_so : (b : Bool) → not b ≡ true → b ≡ false
not_so true e = absurd (false≢true e)
not_so false e = refl

module _ (sources : List Source) where
  abbrev WholeBy : ValueId → Source → Bool → Type 0
  WholeBy root s part = (part ≡ false) × (cell_by sources root s ≡ whole_cell root)

  take_whole : (root : ValueId) (s : Source) (part : Bool) → has_by sources s part Take ≡ true → WholeBy root s part
  take_whole root (source.Slot t) part h = (not_so part h, refl)
  take_whole root (source.Argument row t) part h = by row.shared h
    where
      by : (b : Bool) → cond b (shared_has Take) (slot_has part Take) ≡ true → (part ≡ false) × (whole_cell root ≡ whole_cell root)
      by true e = absurd (false≢true e)
      by false e = (not_so part e, refl)
  take_whole root (source.Object fields) part h = absurd (false≢true h)
  take_whole root (source.Borrow of) part h = absurd (false≢true h)
  take_whole root (source.Upcast of) part h = absurd (false≢true h)
  take_whole root (source.Loan of) part h = absurd (false≢true h)
  take_whole root (source.Field of k t) part h = absurd (false≢true h)
  take_whole root (source.Part of k) part h = absurd (false≢true h)
  take_whole root source.Other part h = absurd (false≢true h)

  hand_whole : (root : ValueId) (s : Source) (part : Bool) (row : AddressRow) → IsRow row → row.after ≡ Empty → has_by sources s part (Handed row) ≡ true → WholeBy root s part
  hand_whole root (source.Slot t) part row of empty h = (not_so part (either_so part (keeps_full row) (not_kept row.before row.after empty) h), refl)
    where
      either_so : (p k : Bool) → k ≡ false → (not p || k) ≡ true → not p ≡ true
      either_so true k none e = absurd (true≢false (sym e ∙ none))
      either_so false k none e = refl
  hand_whole root (source.Argument r t) part row of empty h = by r.shared h
    where
      either_so : (p k : Bool) → k ≡ false → (not p || k) ≡ true → not p ≡ true
      either_so true k none e = absurd (true≢false (sym e ∙ none))
      either_so false k none e = refl

      by : (b : Bool) → cond b (shared_has (Handed row)) (slot_has part (Handed row)) ≡ true → (part ≡ false) × (whole_cell root ≡ whole_cell root)
      by true e = absurd (true≢false (sym e ∙ reads_nothing row of empty (only_reads row) refl))
      by false e = (not_so part (either_so part (keeps_full row) (not_kept row.before row.after empty) e), refl)
  hand_whole root (source.Object fields) part row of empty h = absurd (false≢true h)
  hand_whole root (source.Borrow v) part row of empty h = absurd (false≢true h)
  hand_whole root (source.Upcast v) part row of empty h = absurd (false≢true h)
  hand_whole root (source.Loan v) part row of empty h = absurd (false≢true h)
  hand_whole root (source.Field v k t) part row of empty h = absurd (false≢true h)
  hand_whole root (source.Part v k) part row of empty h = absurd (false≢true h)
  hand_whole root source.Other part row of empty h = absurd (false≢true h)

  empties : (l : Location) (o : Operation) (trivial counts : Bool) → ((row : AddressRow) → o ≡ Handed row → IsRow row) → has_operation sources l o ≡ true
      → (operation_mark trivial counts o).turns ≡ Some false → Empties sources l o
  empties l FirstWrite trivial counts of h e = cc
  empties l Read trivial counts of h e = cc
  empties l Lend trivial counts of h e = cc
  empties l Write trivial counts of h e = cc
  empties l TrivialStore trivial true of h e = cc
  empties l TrivialStore trivial false of h e = cc
  empties l (Handed row) trivial counts of h e =
      let empty = handed_off trivial row.before row.after e in
      let whole_one = hand_whole l.root (source_at sources l.root) (is_part l) row (of row refl) empty h in
      record { is_whole = whole_one.0; writing = ap not (reads_nothing row (of row refl) empty (only_reads row) refl); own_cell = whole_one.1 }
  empties l Take trivial counts of h e =
      let whole_one = take_whole l.root (source_at sources l.root) (is_part l) h in record { is_whole = whole_one.0; writing = refl; own_cell = whole_one.1 }

  -- what may be lent is a slot, an argument, or a part of one
  data MayLend (root : ValueId) : Type 0 where
    of_slot : (t : Bool) → source_at sources root ≡ source.Slot t → MayLend root
    of_argument : (row : AddressRow) (t : Bool) → source_at sources root ≡ source.Argument row t → MayLend root

  may_lend : (root : ValueId) (part : Bool) (s : Source) → source_at sources root ≡ s → has_by sources s part Lend ≡ true → MayLend root
  may_lend root part (source.Slot t) is h = of_slot t is
  may_lend root part (source.Argument row t) is h = of_argument row t is
  may_lend root part (source.Object fields) is h = absurd (false≢true h)
  may_lend root part (source.Borrow of) is h = absurd (false≢true h)
  may_lend root part (source.Upcast of) is h = absurd (false≢true h)
  may_lend root part (source.Loan of) is h = absurd (false≢true h)
  may_lend root part (source.Field of k t) is h = absurd (false≢true h)
  may_lend root part (source.Part of k) is h = absurd (false≢true h)
  may_lend root part source.Other is h = absurd (false≢true h)

  lent_cell : (root : ValueId) → MayLend root → cell_of sources root ≡ whole_cell root
  lent_cell root (of_slot t is) = ap (cell_by sources root) is
  lent_cell root (of_argument row t is) = ap (cell_by sources root) is

  -- a whole root overlaps all that lies there
  whole_overlaps : (l k : Location) → l.root.0 ≡ k.root.0 → has_steps l.path ≡ false → overlap l k ≡ true
  whole_overlaps l k same none =
      ap (λ b. b && (starts_with same_step l.path k.path || starts_with same_step k.path l.path)) (eq-eqb l.root.0 k.root.0 same) ∙ by l.path none
    where
      by : (path : List ℕ) → has_steps path ≡ false → (starts_with same_step path k.path || starts_with same_step k.path path) ≡ true
      by [] e = or_right (starts_with same_step [] k.path) true refl
      by (j ∷ path) e = absurd (true≢false e)

-- ---- an item that doesn't make the scope doesn't begin it

abbrev BeginsOther : ValueId → sorted.Mark → Type 0
BeginsOther v k = k.sort ≡ Begin → (k.subject.0 == v.0) ≡ false

none_begin : (sort : MarkSort) → (sort ≡ Begin → ⊥) → (v : ValueId) (ms : List sorted.Mark) → Each (λ k. k.sort ≡ sort) ms → Each (BeginsOther v) ms
none_begin sort other v [] h = tt
none_begin sort other v (k ∷ ms) h = ((λ e. absurd (other (sym h.0 ∙ e))), none_begin sort other v ms h.1)

begin_other : (facts : ValueId → Option Facts) (v : ValueId) (w : ValueId) → (w.0 == v.0) ≡ false → Each (BeginsOther v) (marks.begun facts w)
begin_other facts v w e = by (facts w)
  where
    where_so : (b : Bool) → Each (BeginsOther v) (cond b (begin_of w ∷ []) [])
    where_so true = ((λ s. e), tt)
    where_so false = tt

    by : (o : Option Facts) → Each (BeginsOther v) (marks.begun_with o w)
    by None = tt
    by (Some x) = where_so (marks.is_own_base x.kind w x.bases)

begins_other : (facts : ValueId → Option Facts) (v : ValueId) (ws : List ValueId) → has ws v.0 ≡ false → Each (λ w. Each (BeginsOther v) (marks.begun facts w)) ws
begins_other facts v [] e = tt
begins_other facts v (w ∷ ws) e =
    (begin_other facts v w (or_first (w.0 == v.0) (has ws v.0) e), begins_other facts v ws (or_second (w.0 == v.0) (has ws v.0) e))

marks_begin : (facts : ValueId → Option Facts) (f : Function) (i : Item) (v : ValueId) → has (item_defined f i) v.0 ≡ false → Each (BeginsOther v) (marks_of facts f i)
marks_begin facts f i v e =
    each_of_both (BeginsOther v) (flat_map (marks.ended facts) (item_taken f i) ++ flat_map (marks.used facts) (item_taken f i)) (flat_map (marks.begun facts) (item_defined f i))
    (each_of_both (BeginsOther v) (flat_map (marks.ended facts) (item_taken f i)) (flat_map (marks.used facts) (item_taken f i))
    (none_begin End (λ s. cc) v (flat_map (marks.ended facts) (item_taken f i)) (ends_are facts (item_taken f i)))
    (none_begin Use (λ s. cc) v (flat_map (marks.used facts) (item_taken f i)) (uses_are facts (item_taken f i))))
    (each_flat (BeginsOther v) (marks.begun facts) (item_defined f i) (begins_other facts v (item_defined f i) e))

each_rest : {A : Type 0} (P : A → Type 0) (xs ys : List A) → Each P (xs ++ ys) → Each P ys
each_rest P [] ys h = h
each_rest P (x ∷ xs) ys h = each_rest P xs ys h.1

each_both : {A : Type 0} (P Q R : A → Type 0) → ((x : A) → P x → Q x → R x) → (xs : List A) → Each P xs → Each Q xs → Each R xs
each_both P Q R go [] h k = tt
each_both P Q R go (x ∷ xs) h k = (go x h.0 k.0, each_both P Q R go xs h.1 k.1)

-- ---- along a trail

has_contained : (vs : List ValueId) (v : ValueId) → Among v vs → has vs v.0 ≡ true
has_contained [] v h = absurd h
has_contained (w ∷ vs) v (inl same) = ap (λ b. b || has vs v.0) (eq-eqb w.0 v.0 (ap (λ (x : ValueId). x.0) (sym same)))
has_contained (w ∷ vs) v (inr more) = or_right (w.0 == v.0) (has vs v.0) (has_contained vs v more)

goes_on : (f : Function) (t : List Item) (i : Item) → IsRunTrail f (i ∷ t) → (t ≡ [] → ⊥) → GoesOn t
goes_on f [] i h some = absurd (some refl)
goes_on f (item.Entry ∷ t) i h some = tt
goes_on f (item.Inst p ∷ t) i h some = tt
goes_on f (item.Edge e ∷ t) i h some = tt
goes_on f (item.Exit p ∷ t) i h some = absurd h.0

module _ (m : Module) (n : ℕ) (f : Function) (a : IsAcceptedBody m n f) (scope address : ValueId) (there : IsPartOf (declarations_of m) f (Lent scope address)) (l : Location)
    (at : location_of (sources_of (declarations_of m) f) address ≡ Some l) (trivial : Bool) (left : Option Content)
    (cells : IsPartOf (declarations_of m) f (Contents (cell_of (sources_of (declarations_of m) f) l.root) trivial left)) where
  abbrev d : Declarations
  d = declarations_of m

  abbrev sources : List Source
  sources = sources_of d f

  abbrev lent : Part
  lent = Lent scope address

  abbrev held : Part
  held = Contents (cell_of sources l.root) trivial left

  source_is : source_at sources scope ≡ source.Loan address
  source_is = loan_source_of d f scope address there

  -- what is lent is full; its slot is allocated; and its row lends it
  record IsKept (t : List Item) : Type 0 where
    full : is_on d f held t ≡ Some true
    allocated : is_slot sources l.root ≡ true → has (slots_on d f t) l.root.0 ≡ true
    row : has_operation sources l Lend ≡ true

  -- ---- the item that opens the scope

  opened : (t : List Item) (p : PointId) → IsRunTrail f (item.Inst p ∷ t) → (x : Inst) → inst_at f p ≡ Some x → has (item_defined f (item.Inst p)) scope.0 ≡ true
      → IsKept (item.Inst p ∷ t)
  opened t p h x is made = record { full = found.left ∙ ap (λ b. Some b) found.found; allocated = λ e. ap (λ s. has s l.root.0) same_slots ∙ slot_there e; row = has_row }
    where
      from : source_at sources scope ≡ result_source d x
      from = each_where_among (λ w. source_at sources w ≡ result_source d x) (item_defined f (item.Inst p)) scope (results_so m n f a p x is)
          (has_among (item_defined f (item.Inst p)) scope made)

      lends : LendsBy (access_kind_of x.op) (first_value x) address
      lends = loan_row (access_kind_of x.op) d x address (sym from ∙ source_is)

      here : (b k : ℕ) × IsAt f b k x
      here = stands_somewhere f (item.Inst p) x is

      formed : has_operands x.op x.operands ≡ true
      formed = ((typed m n f a).insts here.0 here.1 x here.2).parts.operands

      among : Contains (operations_of x) (operated address Lend)
      among = subst (λ os. Contains os (operated address Lend)) (sym (lends_there x lends.0 formed address lends.1)) (contained_among (operated address Lend) (operated address Lend ∷ []) (inl refl))

      found : IsFoundSo d f t (item.Inst p) (Contents (cell_of sources l.root) trivial left) (mark_at d f l Lend)
      found = found_so m n f a (cell_of sources l.root) trivial left p x is cells t h (operated address Lend) among l at (itself (cell_of sources l.root))

      has_row : has_operation sources l Lend ≡ true
      has_row = rows_right d f (accepted_in m n f a) (item.Inst p) x is (operated address Lend) among l at

      same_slots : slots_on d f (item.Inst p ∷ t) ≡ slots_on d f t
      same_slots = kept m n f a t (item.Inst p) (ap keeps_slots is ∙ ap keeps_slots_by lends.0)

      operand : Taken
      operand = taken_as (its_operand x lends.0 formed address lends.1).0 (by_row role.AddressRole)

      is_taken : Contains (item_taken f (item.Inst p)) operand
      is_taken =
          subst (λ ts. Contains ts operand) (sym (ap (λ o. taken_in o ++ []) is ∙ ap (λ ts. ts ++ []) (takes_there x lends.0 formed address lends.1)))
          (contained_among operand (operand ∷ []) (inl refl))

      slot_there : is_slot sources l.root ≡ true → has (slots_on d f t) l.root.0 ≡ true
      slot_there e =
          same_Some (has (slots_on d f t) l.root.0) true
          (sym (slots_allocated d f (accepted_in m n f a) l.root e t h.1)
          ∙ in_allocated m n f a t (item.Inst p) h operand is_taken l (ap (location_of sources) (taken_value x lends.0 formed address lends.1) ∙ at) e)

  -- no other item opens it
  opens : (t : List Item) (i : Item) → IsRunTrail f (i ∷ t) → has (item_defined f i) scope.0 ≡ true → IsKept (i ∷ t)
  opens t i h made = by i h made (made_so m n f a i scope (contained_among scope (item_defined f i) (has_among (item_defined f i) scope made)))
    where
      at_inst : (p : PointId) (o : Option Inst) → inst_at f p ≡ o → IsRunTrail f (item.Inst p ∷ t) → has (item_defined f (item.Inst p)) scope.0 ≡ true → IsKept (item.Inst p ∷ t)
      at_inst p None is h made = absurd (false≢true (sym (ap (λ o. has (results_in o ++ []) scope.0) is) ∙ made))
      at_inst p (Some x) is h made = opened t p h x is made

      at_end : (x : Inst) (b : ℕ) → terminator_of f b ≡ Some x → source_at sources scope ≡ result_source d x → ⊥
      at_end x b is from =
          let lends = loan_row (access_kind_of x.op) d x address (sym from ∙ source_is) in
          true≢false (sym (((typed m n f a).ends b x is).1.ends) ∙ ap is_terminator (load_borrow x.op (ap lends_location lends.0)))

      by : (i : Item) → IsRunTrail f (i ∷ t) → has (item_defined f i) scope.0 ≡ true → IsMadeBy d f i scope → IsKept (i ∷ t)
      by (item.Inst p) h made so = at_inst p (inst_at f p) refl h made
      by item.Entry h made (result x is from) = absurd (none-some x is)
      by item.Entry h made (argument b k from) = absurd (argument_no d f b k address (sym from ∙ source_is))
      by (item.Edge e) h made (result x is from) = absurd (at_end x e.block.0 is from)
      by (item.Edge e) h made (argument b k from) = absurd (argument_no d f b k address (sym from ∙ source_is))
      by (item.Exit p) h made (result x is from) = absurd (at_end x p.block.0 is from)
      by (item.Exit p) h made (argument b k from) = absurd (argument_no d f b k address (sym from ∙ source_is))

  -- ---- an item in the scope

  module _ (t : List Item) (i : Item) (h : IsRunTrail f (i ∷ t)) (unmade : has (item_defined f i) scope.0 ≡ false) (still : is_on d f lent (i ∷ t) ≡ Some true) where
    was : (on : Bool) × (is_on d f lent t ≡ Some on)
    was = parts_followed d f (accepted_in m n f a) lent there t h.1

    off_when : (b : Bool) → TurnsOff (option_and_then (λ (k : Mark). k.turns) (when b (turns_off rule.WriteWhileBorrowed)))
    off_when true = inr refl
    off_when false = inl refl

    ends_off : (v : ValueId) (s : MarkSort) → Each (λ x. TurnsOff (turn m n f a scope address x)) (ends_by v s)
    ends_off v End = (off_when (is_same v scope), tt)
    ends_off v Use = tt
    ends_off v Begin = tt

    all_ends_off : (ms : List sorted.Mark) → Each (λ k. Each (λ x. TurnsOff (turn m n f a scope address x)) (ended k)) ms
    all_ends_off [] = tt
    all_ends_off (k ∷ ms) = (ends_off k.subject k.sort, all_ends_off ms)

    begins_off : (v : ValueId) (s : MarkSort) → (s ≡ Begin → (v.0 == scope.0) ≡ false) → Each (λ x. TurnsOff (turn m n f a scope address x)) (begins_by v s)
    begins_off v End other = tt
    begins_off v Use other = tt
    begins_off v Begin other = (inl (ap (λ b. option_and_then (λ (k : Mark). k.turns) (when b (turns_on rule.WriteWhileBorrowed))) (other refl)), tt)

    all_begins_off : (ms : List sorted.Mark) → Each (BeginsOther scope) ms → Each (λ k. Each (λ x. TurnsOff (turn m n f a scope address x)) (begun k)) ms
    all_begins_off [] other = tt
    all_begins_off (k ∷ ms) other = (begins_off k.subject k.sort other.0, all_begins_off ms other.1)

    made_off : (v : ValueId) (s : Source) → Each (λ x. TurnsOff (turn m n f a scope address x)) (made_by v s)
    made_off v (source.Slot b) = (inl refl, tt)
    made_off v (source.Argument row b) = (inl refl, tt)
    made_off v (source.Object fields) = (inl refl, tt)
    made_off v (source.Borrow of) = tt
    made_off v (source.Upcast of) = tt
    made_off v (source.Loan of) = tt
    made_off v (source.Field of k b) = tt
    made_off v (source.Part of k) = tt
    made_off v source.Other = tt

    all_off : Each (λ x. TurnsOff (turn m n f a scope address x)) (accesses_in d f i)
    all_off =
        accesses_join (λ x. TurnsOff (turn m n f a scope address x)) sources (facts_in d f) f i (λ v b. inl refl)
        (λ x is o c. inl (when_quiet (disturbs sources address (Does o)) _ refl)) (λ x is closes v c. inl (when_quiet (disturbs sources address (Deallocates v)) _ refl))
        (λ v c. made_off v (source_at sources v))
        (each_flat (λ x. TurnsOff (turn m n f a scope address x)) ended (marks_of (facts_in d f) f i) (all_ends_off (marks_of (facts_in d f) f i)))
        (each_flat (λ x. TurnsOff (turn m n f a scope address x)) begun (marks_of (facts_in d f) f i)
        (all_begins_off (marks_of (facts_in d f) f i) (marks_begin (facts_in d f) f i scope unmade)))

    on_behind : turned_each (turn m n f a scope address) (accesses_in d f i) was.0 ≡ true
    on_behind = same_Some _ true (sym (item_leaves d f (accepted_in m n f a) lent there refl t i h was.0 was.1) ∙ still)

    pub on_before_item : is_on d f lent t ≡ Some true
    on_before_item = was.1 ∙ ap (λ b. Some b) (on_before (turn m n f a scope address) (accesses_in d f i) all_off was.0 on_behind)

    -- so no access disturbs what is lent
    clear : Each (λ x. disturbs sources address x ≡ false) (accesses_in d f i)
    clear =
        each_split (λ x. disturbs sources address x ≡ false) (accesses_in d f i)
        (λ front rest x e. undisturbed m n f a scope address there t i h front rest x e was.0 was.1
        (on_before (turn m n f a scope address) (x ∷ rest) (each_rest (λ y. TurnsOff (turn m n f a scope address y)) front (x ∷ rest)
        (subst (Each (λ y. TurnsOff (turn m n f a scope address y))) e all_off)) (turned_each (turn m n f a scope address) front was.0)
        (sym (each_append (turn m n f a scope address) front (x ∷ rest) was.0)
        ∙ ap (λ xs. turned_each (turn m n f a scope address) xs was.0) (sym e) ∙ on_behind)))

    module _ (before : IsKept t) where
      lies : MayLend sources l.root
      lies = may_lend sources l.root (is_part l) (source_at sources l.root) refl before.row

      own : cell_of sources l.root ≡ whole_cell l.root
      own = lent_cell sources l.root lies

      begun_trail : GoesOn t
      begun_trail = goes_on f t i h (λ e. let two : Some false ≡ Some true = sym (ap (is_on d f lent) e) ∙ on_before_item in cc)

      root_unmade : has (item_defined f i) l.root.0 ≡ false
      root_unmade = by lies
        where
          by : MayLend sources l.root → has (item_defined f i) l.root.0 ≡ false
          by (of_slot b is) = slot_once m n f a t i h l.root (before.allocated (ap is_slot_source is))
          by (of_argument row b is) = argument_once m n f a l.root (ap (is_argument m n f a) is) t i h begun_trail

      -- an operation that empties the cell disturbs what is lent
      done_disturbs : (x : Inst) → item_inst f i ≡ Some x → (o : Operated) → Contains (operations_of x) o → turn_by d f held (Does o) ≡ Some false
          → disturbs sources address (Does o) ≡ true
      done_disturbs x is o c e = by (location_of sources o.address) refl e
        where
          rows : (row : AddressRow) → o.operation ≡ Handed row → IsRow row
          rows row same = from (done_by x o c)
            where
              from : IsDoneBy x o → IsRow row
              from (of_row k r) = absurd (none_handed_by_row (access_kind_of x.op) x.qualifier row (r ∙ ap (λ z. Some z) same))
              from (of_call r other so call) = let two : Handed r ≡ Handed row = sym other ∙ same in let one : r ≡ row = cc in subst IsRow one so

          by : (lo : Option Location) → location_of sources o.address ≡ lo
              → option_and_then (λ (k : Mark). k.turns) (at_location sources (cell_of sources l.root) o.operation lo) ≡ Some false → disturbs sources address (Does o) ≡ true
          by None here k = cc
          by (Some lo) here k =
              let both = when_turned (same_cell (cell_of sources lo.root) (cell_of sources l.root)) _ false k in
              let emptied = empties sources lo o.operation (is_trivial_at sources lo.root) (counts_at_part sources lo o.operation) rows
              (rows_right d f (accepted_in m n f a) i x is o c lo here) both.1 in
              let same : lo.root.0 ≡ l.root.0 =
              eqb-true lo.root.0 l.root.0 (and_parts (is_same lo.root l.root) true
              (sym (ap (λ z. same_cell z (cell_of sources l.root)) emptied.own_cell ∙ ap (same_cell (whole_cell lo.root)) own) ∙ both.0)).0 in
              ap (λ z. writes_at z o.operation && meet z (location_of sources address)) here
              ∙ ap (λ b. b && meet (Some lo) (location_of sources address)) emptied.writing
              ∙ ap (meet (Some lo)) at ∙ whole_overlaps sources lo l same emptied.is_whole

      closed_disturbs : (v : ValueId) → is_slot sources v ≡ true → is_same v l.root ≡ true → disturbs sources address (Deallocates v) ≡ true
      closed_disturbs v slot_v same =
          ap (λ z. meet z (location_of sources address)) (root_location m n f a v (slot_root (source_at sources v) slot_v))
          ∙ ap (meet (Some (whole v))) at ∙ whole_overlaps sources (whole v) l (eqb-true v.0 l.root.0 same) refl

      not_the_root : (v : ValueId) → Contains (item_defined f i) v → is_same v l.root ≡ true → ⊥
      not_the_root v c same =
          let made = has_contained (item_defined f i) v (among_contained v (item_defined f i) c) in
          true≢false (sym made ∙ ap (has (item_defined f i)) (eqb-true v.0 l.root.0 same) ∙ root_unmade)

      same_subject : (v : ValueId) → is_same v (cell_of sources l.root).subject ≡ is_same v l.root
      same_subject v = ap (λ (c : Cell). is_same v c.subject) own

      abbrev Disturbing : Access → Type 0
      Disturbing x = turn_by d f held x ≡ Some false → disturbs sources address x ≡ true

      made_held : (v : ValueId) → Contains (item_defined f i) v → (s : Source) → Each Disturbing (made_by v s)
      made_held v c (source.Slot b) = ((λ e. absurd (not_the_root v c (sym (same_subject v) ∙ (when_turned (is_same v (cell_of sources l.root).subject) _ false e).0))), tt)
      made_held v c (source.Argument row b) = ((λ e. absurd (not_the_root v c (sym (same_subject v) ∙ (when_turned (is_same v (cell_of sources l.root).subject) _ false e).0))), tt)
      made_held v c (source.Object fields) = ((λ e. absurd (not_the_root v c (sym (same_subject v) ∙ (when_turned (is_same v (cell_of sources l.root).subject) _ false e).0))), tt)
      made_held v c (source.Borrow of) = tt
      made_held v c (source.Upcast of) = tt
      made_held v c (source.Loan of) = tt
      made_held v c (source.Field of k b) = tt
      made_held v c (source.Part of k) = tt
      made_held v c source.Other = tt

      held_disturbed : Each Disturbing (accesses_in d f i)
      held_disturbed =
          accesses_each Disturbing sources (facts_in d f) f i (λ v e. cc) (λ v e. cc) (λ v b e. cc) done_disturbs
          (λ x is closes v c e. let both = and_parts (is_slot sources v) (is_same v (cell_of sources l.root).subject)
          (when_turned (is_slot sources v && is_same v (cell_of sources l.root).subject) (deallocation_mark trivial) false e).0 in
          closed_disturbs v both.0 (sym (same_subject v) ∙ both.1))
          (λ v c. made_held v c (source_at sources v))

      abbrev Closing : Access → Type 0
      Closing x = turn_by d f (Allocation l.root) x ≡ Some false → disturbs sources address x ≡ true

      turned_true : (b : Bool) (k : Mark) → k.turns ≡ Some true → option_and_then (λ (x : Mark). x.turns) (when b k) ≡ Some false → ⊥
      turned_true true k is e = let two : Some true ≡ Some false = sym is ∙ e in cc
      turned_true false k is e = cc

      made_slot : (v : ValueId) (s : Source) → Each Closing (made_by v s)
      made_slot v (source.Slot b) = ((λ e. absurd (turned_true (is_same v l.root) _ refl e)), tt)
      made_slot v (source.Argument row b) = ((λ e. cc), tt)
      made_slot v (source.Object fields) = ((λ e. absurd (turned_true (is_same v l.root) _ refl e)), tt)
      made_slot v (source.Borrow of) = tt
      made_slot v (source.Upcast of) = tt
      made_slot v (source.Loan of) = tt
      made_slot v (source.Field of k b) = tt
      made_slot v (source.Part of k) = tt
      made_slot v source.Other = tt

      slot_disturbed : is_slot sources l.root ≡ true → Each Closing (accesses_in d f i)
      slot_disturbed is_one =
          accesses_each Closing sources (facts_in d f) f i (λ v e. cc) (λ v e. cc) (λ v b e. cc) (λ x is o c e. cc)
          (λ x is closes v c e. let same = (when_turned (is_same v l.root) _ false e).0 in
          closed_disturbs v (ap (is_slot sources) (ap value_of (eqb-true v.0 l.root.0 same)) ∙ is_one) same)
          (λ v c. made_slot v (source_at sources v))

      stays : IsKept (i ∷ t)
      stays = record {
        full = item_leaves d f (accepted_in m n f a) held cells (unturned m n f a (cell_of sources l.root) trivial left) t i h true before.full
            ∙ ap (λ b. Some b) (stays_on (turn_by d f held) (accesses_in d f i)
            (each_both Disturbing (λ x. disturbs sources address x ≡ false) (λ x. StaysOn (turn_by d f held x)) (λ x one none e. true≢false (sym (one e) ∙ none))
            (accesses_in d f i) held_disturbed clear));
        allocated = λ is_one. has_behind d f l.root is_one (accesses_in d f i) (slots_on d f t)
            ∙ ap (turned_each (turn_by d f (Allocation l.root)) (accesses_in d f i)) (before.allocated is_one)
            ∙ stays_on (turn_by d f (Allocation l.root)) (accesses_in d f i)
            (each_both Closing (λ x. disturbs sources address x ≡ false) (λ x. StaysOn (turn_by d f (Allocation l.root) x)) (λ x one none e. true≢false (sym (one e) ∙ none))
            (accesses_in d f i) (slot_disturbed is_one) clear);
        row = before.row;
      }

  is_kept : (t : List Item) → IsRunTrail f t → is_on d f lent t ≡ Some true → IsKept t
  is_kept [] h on = cc
  is_kept (i ∷ t) h on = by (has (item_defined f i) scope.0) refl (λ earlier. is_kept t h.1 earlier)
    where
      by : (b : Bool) → has (item_defined f i) scope.0 ≡ b → (is_on d f lent t ≡ Some true → IsKept t) → IsKept (i ∷ t)
      by true made more = opens t i h made
      by false unmade more = stays t i h unmade on (more (on_before_item t i h unmade on))

  pub full_while_lent : (t : List Item) → IsRunTrail f t → is_on d f lent t ≡ Some true → is_on d f held t ≡ Some true
  full_while_lent t h on = (is_kept t h on).full

pub loans_full : AreLoansFull
loans_full m n f a t h scope address there on l at trivial left cells = full_while_lent m n f a scope address there l at trivial left cells t h on
