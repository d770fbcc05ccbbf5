-- How items leave cells on which they don't operate: as they were, empty where they are made, and as the entry is given them.
use Rattle.std.proofs.Common.{◌≡◌, ◌⊎◌, inl, inr, ℕ, List, [], ◌∷◌, ◌++◌, append_assoc, map, refl, sym, ap, ◌∙◌, subst, Bool, true, false, ◌&&◌, ◌||◌, Option, Some, None, eq-eqb}
use Rattle.std.specs.Prelude.{◌==◌, cond, flat_map, option_and_then, slice_get, unwrap_or}
use Rattle.std.specs.List.{list_any}
use Rattle.std.proofs.lemmas.Bool.{eqb-true, false≢true, true≢false}
use Rattle.std.proofs.lemmas.Option.{none-some, same_Some}
use Rattle.argument_conventions.specs.declared.row.Content.{Content}
use Rattle.argument_conventions.specs.declared.row.Content.TheVariants.{Empty, Full}
use Rattle.instruction_table.specs.Forms.{ending_of}
use Rattle.instruction_table.specs.declared.op.Op.{Op}
use Rattle.instruction_table.specs.declared.op.Op.TheVariants as op
use Rattle.sil_verifier_values.specs.memory_rules_accesses.Accesses.{begun, deallocations_of, does_of, ended, made, made_by, mentions_of}
use Rattle.sil_verifier_values.specs.memory_rules_accesses.Operations.{access_kind_of, addresses_of, deallocates, deallocates_by, operations_of}
use Rattle.sil_verifier_values.specs.memory_rules_accesses.Sources.{is_slot, is_slot_source, source_at, sources_of}
use Rattle.sil_verifier_values.specs.memory_rules_accesses.declared.access.Access.{Access}
use Rattle.sil_verifier_values.specs.memory_rules_accesses.declared.access.Access.TheVariants.{Deallocates, Does}
use Rattle.sil_verifier_values.specs.memory_rules_accesses.declared.access.Operated.{Operated}
use Rattle.sil_verifier_values.specs.memory_rules_accesses.declared.columns.AccessKind.{AccessKind}
use Rattle.sil_verifier_values.specs.memory_rules_accesses.declared.columns.AccessKind.TheVariants as access
use Rattle.sil_verifier_values.specs.memory_rules_accesses.declared.location.Cell.{Cell}
use Rattle.sil_verifier_values.specs.memory_rules_accesses.declared.source.Source.{Source}
use Rattle.sil_verifier_values.specs.memory_rules_accesses.declared.source.Source.TheVariants as source
use Rattle.sil_verifier_values.specs.memory_rules_parts.Contents.{deallocation_mark, given_mark}
use Rattle.sil_verifier_values.specs.memory_rules_parts.Parts.{whole_cell}
use Rattle.sil_verifier_values.specs.memory_rules_parts.Switches.{is_same, when}
use Rattle.sil_verifier_values.specs.memory_rules_parts.declared.part.Part.{Part}
use Rattle.sil_verifier_values.specs.memory_rules_parts.declared.part.Part.TheVariants.{Contents}
use Rattle.sil_verifier_values.specs.ownership_kinds_origins.Facts.{facts_in}
use Rattle.sil_verifier_trails.specs.RunTrails.inner.RunTrails.{IsRunTrail}
use Rattle.sil_verifier_trails.specs.RunTrails.inner.Switched.{finds}
use Rattle.sil_verifier_trails.specs.AcceptedMemory.inner.PartTrails.{IsPartOf, accesses_in, is_on, meant}
use Rattle.sil_verifier_trails.proofs.AcceptedMemory.AccessesRight.{returns_right}
use Rattle.sil_verifier_trails.proofs.AcceptedMemory.PartsFollowed.{parts_followed}
use Rattle.sil_verifier_trails.proofs.AcceptedTrails.Tests.{or_first, or_second}
use Rattle.sil_verifier_trails.proofs.AcceptedMemory.Turning.{turned_each}
use Rattle.sil_verifier_values.specs.inner.Known.{IsAcceptedBody}
use Rattle.sil_cfg_items.specs.Items.{item_defined, item_taken}
use Rattle.sil_cfg_items.specs.Parts.{item_inst, terminator_in}
use Rattle.numbered_form.specs.Lists.{Each}
use Rattle.sil_verifier_values.specs.ownership_kinds_chains.OwnershipChains.Facts.{has, value_of}
use Rattle.sil_verifier_values.specs.ownership_kinds_chains.OwnershipMarks.Marks.{marks_of}
use Rattle.sil_verifier_values.specs.reach_engine_marks.declared.path_patterns.mark.Mark.{Mark}
use Rattle.numbered_form.proofs.PointChecks.Among.{Among}
use Rattle.sil_ast.specs.declared.function.Block.{Block}
use Rattle.sil_ast.specs.declared.function.Function.{Function}
use Rattle.sil_ast.specs.declared.inst.Inst.{Inst}
use Rattle.sil_ast.specs.declared.module.Module.{Module}
use Rattle.sil_ast.specs.declared.place.ValueId.{ValueId}
use Rattle.sil_cfg.specs.Returns.{is_return, returns_by, returns_in}
use Rattle.sil_cfg.specs.declared.item.Item.{Item}
use Rattle.sil_cfg.specs.declared.item.Item.TheVariants as item
use Rattle.sil_verifier_values.specs.sil_types_declarations.TypeDefinitions.Declarations.{Declarations, declarations_of}
use Rattle.sil_verifier_trails.specs.AcceptedPlaces.inner.Cells.{AreCellsKept, AreDeallocatedEmpty, AreFieldsFollowed, AreGivenSo, AreNewEmpty, AreReturnedSo, AreRootsFollowed, IsFoundSo}
use Rattle.sil_verifier_trails.specs.AcceptedPlaces.inner.Cells.{is_full, operates_on, part_by, touches}
use Rattle.sil_verifier_trails.proofs.AcceptedPlaces.CellsRight.{acts, away, by_memory, d, held, sources, turn, unturned}
use Rattle.sil_verifier_trails.proofs.AcceptedPlaces.Done.{none_done, operates, passes}
use Rattle.sil_verifier_trails.proofs.AcceptedPlaces.Fields.{turned_where}
use Rattle.sil_verifier_trails.proofs.AcceptedPlaces.Followed.{access_finds, accesses_leave, item_leaves}
use Rattle.sil_verifier_trails.proofs.AcceptedPlaces.Items.{all_append, all_of, ends_quiet, item_comes, mentions_quiet, turn_step, turned_all}
use Rattle.sil_verifier_trails.proofs.AcceptedPlaces.ItemStacks.{accepted_in, closes_opens, none_made, opens_none}
use Rattle.sil_verifier_trails.proofs.AcceptedPlaces.PartsThere.{CellFits, field_there, part_fits, part_there}

-- no operation, by the row
idle_done : (i : Inst) → acts (access_kind_of i.op) ≡ false → operations_of i ≡ []
idle_done i e = none_done i (or_first (operates (access_kind_of i.op)) (passes (access_kind_of i.op)) e) (or_second (operates (access_kind_of i.op)) (passes (access_kind_of i.op)) e)

closes_idle : (k : AccessKind) → deallocates_by k ≡ true → acts k ≡ false
closes_idle access.DeallocatesSlot e = refl
closes_idle _ e = absurd (false≢true e)

return_idle : (o : Op) → returns_by (ending_of o) ≡ true → (acts (access_kind_of o) ≡ false) × (deallocates_by (access_kind_of o) ≡ false)
return_idle op.Return e = (refl, refl)
return_idle _ e = absurd (false≢true e)

module _ (m : Module) (n : ℕ) (f : Function) (a : IsAcceptedBody m n f) (cell : Cell) (trivial : Bool) (left : Option Content) where
  abbrev step : Access → Bool → Bool
  step = turn_step (turn m n f a cell trivial left)

  abbrev S : List Source
  S = sources m n f a

  -- ---- what is done

  no_operation : (os : List Operated) → list_any (operates_on S cell) os ≡ false → (on : Bool) → all_of step (map Does os) on ≡ on
  no_operation [] e on = refl
  no_operation (o ∷ os) e on =
      ap (λ t. all_of step (map Does os) (unwrap_or t on)) (away m n f a cell trivial left o (or_first (operates_on S cell o) (list_any (operates_on S cell) os) e))
      ∙ no_operation os (or_second (operates_on S cell o) (list_any (operates_on S cell) os) e) on

  no_deallocation : (vs : List ValueId) → list_any (λ v. is_slot S v && is_same v cell.subject) vs ≡ false → (on : Bool) → all_of step (map Deallocates vs) on ≡ on
  no_deallocation [] e on = refl
  no_deallocation (v ∷ vs) e on =
      let here = or_first (is_slot S v && is_same v cell.subject) (list_any (λ v. is_slot S v && is_same v cell.subject) vs) e in
      ap (λ b. all_of step (map Deallocates vs) (unwrap_or (option_and_then (λ (x : Mark). x.turns) (when b (deallocation_mark trivial))) on)) here
      ∙ no_deallocation vs (or_second (is_slot S v && is_same v cell.subject) (list_any (λ v. is_slot S v && is_same v cell.subject) vs) e) on

  untouched : (x : Option Inst) → touches S cell x ≡ false → (on : Bool) → all_of step (deallocations_of x) (all_of step (does_of x) on) ≡ on
  untouched None e on = refl
  untouched (Some x) e on =
      ap (all_of step (deallocations_of (Some x)))
      (no_operation (operations_of x) (or_first (list_any (operates_on S cell) (operations_of x)) _ e) on)
      ∙ by (deallocates x) refl
    where
      among : Bool
      among = list_any (λ v. is_slot S v && is_same v cell.subject) (addresses_of x)

      by : (b : Bool) → deallocates x ≡ b → all_of step (cond b (map Deallocates (addresses_of x)) []) on ≡ on
      by true is =
          no_deallocation (addresses_of x)
          (sym (ap (λ b. b && list_any (λ v. is_slot S v && is_same v cell.subject) (addresses_of x)) is)
          ∙ or_second (list_any (operates_on S cell) (operations_of x)) (deallocates x && list_any (λ v. is_slot S v && is_same v cell.subject) (addresses_of x)) e) on
      by false is = refl

  -- ---- what is made

  -- how what a value of this source is leaves the cell, where it is the cell's
  abbrev made_so : Source → Option Bool
  made_so (source.Slot t) = Some false
  made_so (source.Argument row t) = Some (is_full row.before)
  made_so (source.Object fields) = Some false
  made_so (source.Borrow of) = None
  made_so (source.Upcast of) = None
  made_so (source.Loan of) = None
  made_so (source.Field of k t) = None
  made_so (source.Part of k) = None
  made_so source.Other = None

  given_turns : (c : Content) → (given_mark c).turns ≡ Some (is_full c)
  given_turns Empty = refl
  given_turns Full = refl

  nothing : (b : Bool) (x : Option Bool) → x ≡ None → cond b x None ≡ None
  nothing true x e = e
  nothing false x e = refl

  made_turn : (v : ValueId) (s : Source) (on : Bool) → all_of step (made_by v s) on ≡ unwrap_or (cond (is_same v cell.subject) (made_so s) None) on
  made_turn v (source.Slot t) on = ap (λ o. unwrap_or o on) (turned_where (is_same v cell.subject) _ false refl)
  made_turn v (source.Argument row t) on = ap (λ o. unwrap_or o on) (turned_where (is_same v cell.subject) (given_mark row.before) (is_full row.before) (given_turns row.before))
  made_turn v (source.Object fields) on = ap (λ o. unwrap_or o on) (turned_where (is_same v cell.subject) _ false refl)
  made_turn v (source.Borrow of) on = ap (λ o. unwrap_or o on) (sym (nothing (is_same v cell.subject) None refl))
  made_turn v (source.Upcast of) on = ap (λ o. unwrap_or o on) (sym (nothing (is_same v cell.subject) None refl))
  made_turn v (source.Loan of) on = ap (λ o. unwrap_or o on) (sym (nothing (is_same v cell.subject) None refl))
  made_turn v (source.Field of k t) on = ap (λ o. unwrap_or o on) (sym (nothing (is_same v cell.subject) None refl))
  made_turn v (source.Part of k) on = ap (λ o. unwrap_or o on) (sym (nothing (is_same v cell.subject) None refl))
  made_turn v source.Other on = ap (λ o. unwrap_or o on) (sym (nothing (is_same v cell.subject) None refl))

  -- what is made turns it where it is the cell's
  all_made : (vs : List ValueId) (on : Bool) → all_of step (flat_map (made S) vs) on
      ≡ unwrap_or (cond (has vs cell.subject.0) (made_so (source_at S cell.subject)) None) on
  all_made [] on = refl
  all_made (v ∷ vs) on =
      all_append step (made S v) (flat_map (made S) vs) on
      ∙ ap (all_of step (flat_map (made S) vs)) (made_turn v (source_at S v) on)
      ∙ all_made vs (unwrap_or (cond (is_same v cell.subject) (made_so (source_at S v)) None) on)
      ∙ by (is_same v cell.subject) refl (has vs cell.subject.0)
    where
      twice : (o : Option Bool) → unwrap_or o (unwrap_or o on) ≡ unwrap_or o on
      twice None = refl
      twice (Some b) = refl

      by : (x : Bool) → is_same v cell.subject ≡ x → (y : Bool)
          → unwrap_or (cond y (made_so (source_at S cell.subject)) None) (unwrap_or (cond x (made_so (source_at S v)) None) on)
          ≡ unwrap_or (cond (x || y) (made_so (source_at S cell.subject)) None) on
      by true is y = let same : v ≡ cell.subject = ap value_of (eqb-true v.0 cell.subject.0 is) in
          ap (λ w. unwrap_or (cond y (made_so (source_at S cell.subject)) None) (unwrap_or (made_so (source_at S w)) on)) same ∙ again y
        where
          again : (y : Bool) → unwrap_or (cond y (made_so (source_at S cell.subject)) None) (unwrap_or (made_so (source_at S cell.subject)) on)
              ≡ unwrap_or (made_so (source_at S cell.subject)) on
          again true = twice (made_so (source_at S cell.subject))
          again false = refl
      by false is y = refl

  module _ (there : IsPartOf (d m n f a) f (held m n f a cell trivial left)) (t : List Item) (i : Item) (h : IsRunTrail f (i ∷ t)) where
    was : (on : Bool) × (is_on (d m n f a) f (held m n f a cell trivial left) t ≡ Some on)
    was = parts_followed (d m n f a) f (accepted_in m n f a) (held m n f a cell trivial left) there t h.1

    -- how an item leaves it
    comes : (on : Bool) → is_on (d m n f a) f (held m n f a cell trivial left) t ≡ Some on → is_on (d m n f a) f (held m n f a cell trivial left) (i ∷ t)
        ≡ Some (unwrap_or (cond (has (item_defined f i) cell.subject.0) (made_so (source_at S cell.subject)) None)
        (all_of step (deallocations_of (item_inst f i)) (all_of step (does_of (item_inst f i)) on)))
    comes on is =
        item_leaves (d m n f a) f (accepted_in m n f a) (held m n f a cell trivial left) there (unturned m n f a cell trivial left) t i h on is
        ∙ ap Some (turned_all (turn m n f a cell trivial left) (accesses_in (d m n f a) f i) on
        ∙ item_comes step (by_memory m n f a cell trivial left) S (facts_in (d m n f a) f) f i on
        ∙ all_made (item_defined f i) (all_of step (deallocations_of (item_inst f i)) (all_of step (does_of (item_inst f i)) on)))

    pub kept : touches S cell (item_inst f i) ≡ false → has (item_defined f i) cell.subject.0 ≡ false
        → is_on (d m n f a) f (held m n f a cell trivial left) (i ∷ t) ≡ is_on (d m n f a) f (held m n f a cell trivial left) t
    kept clear other =
        comes was.0 was.1
        ∙ ap (λ b. Some (unwrap_or (cond b (made_so (source_at S cell.subject)) None)
        (all_of step (deallocations_of (item_inst f i)) (all_of step (does_of (item_inst f i)) was.0)))) other
        ∙ ap Some (untouched (item_inst f i) clear was.0) ∙ sym was.1

    pub new_empty : made_so (source_at S cell.subject) ≡ Some false → has (item_defined f i) cell.subject.0 ≡ true
        → is_on (d m n f a) f (held m n f a cell trivial left) (i ∷ t) ≡ Some false
    new_empty is one =
        comes was.0 was.1
        ∙ ap (λ b. Some (unwrap_or (cond b (made_so (source_at S cell.subject)) None)
        (all_of step (deallocations_of (item_inst f i)) (all_of step (does_of (item_inst f i)) was.0)))) one
        ∙ ap (λ o. Some (unwrap_or o (all_of step (deallocations_of (item_inst f i)) (all_of step (does_of (item_inst f i)) was.0)))) is

-- ---- what is new

-- what is followed with nothing left to ask of it is a slot's, or the field of a new object
fits_new : (v : ValueId) (s : Source) (cell : Cell) (trivial : Bool) → CellFits v s cell trivial None → (cell.subject ≡ v) × ((is_slot_source s ≡ true) ⊎ ((k : ℕ) × (s ≡ source.Object k)))
fits_new v (source.Slot t) cell trivial fit = (ap (λ (c : Cell). c.subject) fit.0, inl refl)
fits_new v (source.Argument row t) cell trivial fit = absurd (none-some row.after fit.2)
fits_new v (source.Object fields) cell trivial fit = (ap (λ (c : Cell). c.subject) fit.1, inr (fields, refl))
fits_new v (source.Borrow of) cell trivial fit = absurd fit
fits_new v (source.Upcast of) cell trivial fit = absurd fit
fits_new v (source.Loan of) cell trivial fit = absurd fit
fits_new v (source.Field of k t) cell trivial fit = absurd fit
fits_new v (source.Part of k) cell trivial fit = absurd fit
fits_new v source.Other cell trivial fit = absurd fit

slot_empty : (s : Source) → is_slot_source s ≡ true → (row : Source → Option Bool) → ((t : Bool) → row (source.Slot t) ≡ Some false) → row s ≡ Some false
slot_empty (source.Slot t) e row so = so t
slot_empty _ e row so = absurd (false≢true e)

pub cells_kept : AreCellsKept
cells_kept m n f a t i h cell trivial left there clear other = kept m n f a cell trivial left there t i h clear other

-- so it is empty when it is made
new_by : (table : List Source) (cell : Cell) (trivial : Bool) (v : ValueId) → CellFits v (source_at table v) cell trivial None → (row : Source → Option Bool)
    → ((t : Bool) → row (source.Slot t) ≡ Some false) → ((k : ℕ) → row (source.Object k) ≡ Some false) → row (source_at table cell.subject) ≡ Some false
new_by table cell trivial v fit row slots objects = by (fits_new v (source_at table v) cell trivial fit)
  where
    by : (cell.subject ≡ v) × ((is_slot_source (source_at table v) ≡ true) ⊎ ((k : ℕ) × (source_at table v ≡ source.Object k)))
        → row (source_at table cell.subject) ≡ Some false
    by (same, inl slot) = ap (λ w. row (source_at table w)) same ∙ slot_empty (source_at table v) slot row slots
    by (same, inr object) = ap (λ w. row (source_at table w)) same ∙ ap row object.1 ∙ objects object.0

pub new_are_empty : AreNewEmpty
new_are_empty m n f a t i h cell trivial there one =
    let at = part_fits (declarations_of m) f (Contents cell trivial None) there in
    new_empty m n f a cell trivial None there t i h
    (new_by (sources_of (declarations_of m) f) cell trivial at.0 at.1 (made_so m n f a cell trivial None) (λ b. refl) (λ k. refl)) one

-- ---- a slot is deallocated

module _ (m : Module) (n : ℕ) (f : Function) (a : IsAcceptedBody m n f) (slot : ValueId) (trivial : Bool)
    (is : source_at (sources_of (declarations_of m) f) slot ≡ source.Slot trivial) where
  abbrev Place : Part
  Place = Contents (whole_cell slot) trivial None

  abbrev D : Declarations
  D = declarations_of m

  slot_there : IsPartOf D f Place
  slot_there = part_there D f slot (source.Slot trivial) is (λ x. cc) Place (inl refl)

  is_one : is_slot (sources_of D f) slot ≡ true
  is_one = ap is_slot_source is

  own : (is_slot (sources_of D f) slot && is_same slot slot) ≡ true
  own = ap (λ b. b && is_same slot slot) is_one ∙ eq-eqb slot.0 slot.0 refl

  pub deallocated : (t : List Item) (i : Item) → IsRunTrail f (i ∷ t) → (x : Inst) → item_inst f i ≡ Some x → deallocates x ≡ true → addresses_of x ≡ slot ∷ []
      → has (item_defined f i) slot.0 ≡ false → IsFoundSo D f t i Place (deallocation_mark trivial)
  deallocated t i h x at closes only unmade =
      record {
        on = before.0;
        was = before.1;
        found = subst (λ b. finds (deallocation_mark trivial).needs b ≡ true) (front_quiet before.0)
            (access_finds D f (accepted_in m n f a) Place slot_there t i h front rest (Deallocates slot) (deallocation_mark trivial) parts means before.0 before.1);
        left =
            comes m n f a (whole_cell slot) trivial None slot_there t i h before.0 before.1
            ∙ ap (λ b. Some (unwrap_or (cond b (made_so m n f a (whole_cell slot) trivial None (source_at (sources_of D f) slot)) None)
            (all_of (step m n f a (whole_cell slot) trivial None) (deallocations_of (item_inst f i))
            (all_of (step m n f a (whole_cell slot) trivial None) (does_of (item_inst f i)) before.0)))) unmade
            ∙ ap (λ xs. Some (all_of (step m n f a (whole_cell slot) trivial None) (deallocations_of (item_inst f i))
            (all_of (step m n f a (whole_cell slot) trivial None) xs before.0))) none
            ∙ ap (λ xs. Some (all_of (step m n f a (whole_cell slot) trivial None) xs before.0)) one
            ∙ ap (λ o. Some (unwrap_or (option_and_then (λ (y : Mark). y.turns) o) before.0)) means;
      }
    where
      before : (on : Bool) × (is_on D f Place t ≡ Some on)
      before = parts_followed D f (accepted_in m n f a) Place slot_there t h.1

      none : does_of (item_inst f i) ≡ []
      none = ap does_of at ∙ ap (map Does) (idle_done x (closes_idle (access_kind_of x.op) closes))

      one : deallocations_of (item_inst f i) ≡ Deallocates slot ∷ []
      one = ap deallocations_of at ∙ ap (λ b. cond b (map Deallocates (addresses_of x)) []) closes ∙ ap (map Deallocates) only

      means : meant D f Place (Deallocates slot) ≡ Some (deallocation_mark trivial)
      means = ap (λ b. when b (deallocation_mark trivial)) own

      front : List Access
      front = flat_map ended (marks_of (facts_in D f) f i) ++ mentions_of (item_inst f i) (item_taken f i)

      rest : List Access
      rest = flat_map (made (sources_of D f)) (item_defined f i) ++ flat_map begun (marks_of (facts_in D f) f i)

      parts : accesses_in D f i ≡ front ++ Deallocates slot ∷ rest
      parts =
          ap (λ xs. flat_map ended (marks_of (facts_in D f) f i) ++ (mentions_of (item_inst f i) (item_taken f i)
          ++ (xs ++ (deallocations_of (item_inst f i) ++ rest)))) none
          ∙ ap (λ xs. flat_map ended (marks_of (facts_in D f) f i) ++ (mentions_of (item_inst f i) (item_taken f i) ++ (xs ++ rest))) one
          ∙ sym (append_assoc (flat_map ended (marks_of (facts_in D f) f i)) (mentions_of (item_inst f i) (item_taken f i)) (Deallocates slot ∷ rest))

      front_quiet : (on : Bool) → turned_each (turn m n f a (whole_cell slot) trivial None) front on ≡ on
      front_quiet on =
          turned_all (turn m n f a (whole_cell slot) trivial None) front on
          ∙ all_append (step m n f a (whole_cell slot) trivial None) (flat_map ended (marks_of (facts_in D f) f i)) (mentions_of (item_inst f i) (item_taken f i)) on
          ∙ ap (all_of (step m n f a (whole_cell slot) trivial None) (mentions_of (item_inst f i) (item_taken f i)))
          (ends_quiet (step m n f a (whole_cell slot) trivial None) (by_memory m n f a (whole_cell slot) trivial None) (marks_of (facts_in D f) f i) on)
          ∙ mentions_quiet (step m n f a (whole_cell slot) trivial None) (by_memory m n f a (whole_cell slot) trivial None) (item_inst f i) (item_taken f i) on

-- what deallocates a slot makes none
not_there : (table : List Source) (slot : ValueId) (vs : List ValueId) → is_slot table slot ≡ true → Each (λ v. is_slot table v ≡ false) vs → has vs slot.0 ≡ false
not_there table slot [] is h = refl
not_there table slot (v ∷ vs) is h = by (not_there table slot vs is h.1) (v.0 == slot.0) refl
  where
    by : has vs slot.0 ≡ false → (b : Bool) → (v.0 == slot.0) ≡ b → (b || has vs slot.0) ≡ false
    by none true e = absurd (true≢false (sym is ∙ ap (is_slot table) (sym (ap value_of (eqb-true v.0 slot.0 e))) ∙ h.0))
    by none false e = none

pub deallocated_empty : AreDeallocatedEmpty
deallocated_empty m n f a t i h x slot trivial at closes only is =
    deallocated m n f a slot trivial is t i h x at closes only
    (not_there (sources_of (declarations_of m) f) slot (item_defined f i) (ap is_slot_source is)
    (none_made m n f a i (ap opens_none at ∙ closes_opens (access_kind_of x.op) closes)))

-- ---- arguments

pub given_so : AreGivenSo
given_so m n f a v row trivial is mine made =
    let there = part_there (declarations_of m) f v (source.Argument row trivial) is (λ x. cc) (Contents (whole_cell v) trivial (Some row.after))
    (subst (λ b. Among (Contents (whole_cell v) trivial (Some row.after)) (cond b [] (Contents (whole_cell v) trivial (Some row.after) ∷ []))) (sym mine) (inl refl)) in
    comes m n f a (whole_cell v) trivial (Some row.after) there [] item.Entry (a.body.body, tt) false refl
    ∙ ap (λ b. Some (unwrap_or (cond b (made_so m n f a (whole_cell v) trivial (Some row.after) (source_at (sources_of (declarations_of m) f) v)) None) false)) made
    ∙ ap (λ s. Some (unwrap_or (made_so m n f a (whole_cell v) trivial (Some row.after) s) false)) is

-- ---- at a return

return_items : (f : Function) (i : Item) → is_return f i ≡ true → (x : Inst) → item_inst f i ≡ Some x → (acts (access_kind_of x.op) ≡ false) × (deallocates_by (access_kind_of x.op) ≡ false)
return_items f (item.Exit p) e x is = by (slice_get f.blocks p.block.0) e is
  where
    by : (o : Option Block) → returns_in o ≡ true → terminator_in o ≡ Some x → (acts (access_kind_of x.op) ≡ false) × (deallocates_by (access_kind_of x.op) ≡ false)
    by None r s = absurd (false≢true r)
    by (Some b) r s =
        let same : b.terminator ≡ x = same_Some b.terminator x s in
        subst (λ (y : Inst). (acts (access_kind_of y.op) ≡ false) × (deallocates_by (access_kind_of y.op) ≡ false)) same (return_idle b.terminator.op r)
return_items f _ e x is = absurd (false≢true e)

return_makes : (f : Function) (i : Item) → is_return f i ≡ true → item_defined f i ≡ []
return_makes f (item.Exit p) e = refl
return_makes f _ e = absurd (false≢true e)

module _ (m : Module) (n : ℕ) (f : Function) (a : IsAcceptedBody m n f) (cell : Cell) (trivial : Bool) (left : Option Content) where
  quiet_inst : (x : Inst) → acts (access_kind_of x.op) ≡ false → deallocates_by (access_kind_of x.op) ≡ false → (on : Bool)
      → all_of (step m n f a cell trivial left) (deallocations_of (Some x)) (all_of (step m n f a cell trivial left) (does_of (Some x)) on) ≡ on
  quiet_inst x idle unclosed on =
      ap (λ xs. all_of (step m n f a cell trivial left) (deallocations_of (Some x)) (all_of (step m n f a cell trivial left) (map Does xs) on)) (idle_done x idle)
      ∙ ap (λ b. all_of (step m n f a cell trivial left) (cond b (map Deallocates (addresses_of x)) []) on) unclosed

  pub return_quiet : (i : Item) → is_return f i ≡ true → (x : Option Inst) → item_inst f i ≡ x → (on : Bool)
      → all_of (step m n f a cell trivial left) (deallocations_of x) (all_of (step m n f a cell trivial left) (does_of x) on) ≡ on
  return_quiet i e None is on = refl
  return_quiet i e (Some x) is on = let idle = return_items f i e x is in quiet_inst x idle.0 idle.1 on

pub returned_so : AreReturnedSo
returned_so m n f a t i h returns cell trivial left mark there asks =
    let D = declarations_of m in
    let r = returns_right D f (accepted_in m n f a) (Contents cell trivial left) there t i h mark returns asks in
    let quiet : r.then ≡ r.on =
    accesses_leave D f (accepted_in m n f a) (Contents cell trivial left) there (accesses_in D f i) r.on r.then r.left
    ∙ turned_all (turn m n f a cell trivial left) (accesses_in D f i) r.on
    ∙ item_comes (step m n f a cell trivial left) (by_memory m n f a cell trivial left) (sources_of D f) (facts_in D f) f i r.on
    ∙ ap (λ vs. all_of (step m n f a cell trivial left) (flat_map (made (sources_of D f)) vs) (all_of (step m n f a cell trivial left) (deallocations_of (item_inst f i))
    (all_of (step m n f a cell trivial left) (does_of (item_inst f i)) r.on))) (return_makes f i returns)
    ∙ return_quiet m n f a cell trivial left i returns (item_inst f i) refl r.on in
    (r.on, r.was, ap (finds mark.needs) (sym quiet) ∙ r.found)

-- ---- which cells are followed

pub fields_followed : AreFieldsFollowed
fields_followed m n f a object k fields is lt = field_there (declarations_of m) f object k fields is lt (Contents (record { subject = object; field = Some k }) false None) (inl refl)

followed_by : (d : Declarations) (f : Function) (root : ValueId) (s : Source) → source_at (sources_of d f) root ≡ s → (p : Part) → part_by (sources_of d f) root s ≡ Some p
    → ((of : ValueId) (k : ℕ) (trivial : Bool) → s ≡ source.Field of k trivial → ⊥) → IsPartOf d f p
followed_by d f root (source.Slot trivial) is p e other =
    part_there d f root (source.Slot trivial) is (λ x. cc) p (inl (sym (same_Some (Contents (whole_cell root) trivial None) p e)))
followed_by d f root (source.Argument row trivial) is p e other = at row.shared refl e
  where
    at : (b : Bool) → row.shared ≡ b → cond b None (Some (Contents (whole_cell root) trivial (Some row.after))) ≡ Some p → IsPartOf d f p
    at true own e = absurd (none-some p e)
    at false own e =
        part_there d f root (source.Argument row trivial) is (λ x. cc) p
        (subst (λ b. Among p (cond b [] (Contents (whole_cell root) trivial (Some row.after) ∷ []))) (sym own)
        (inl (sym (same_Some (Contents (whole_cell root) trivial (Some row.after)) p e))))
followed_by d f root (source.Object fields) is p e other = absurd (none-some p e)
followed_by d f root (source.Borrow of) is p e other = absurd (none-some p e)
followed_by d f root (source.Upcast of) is p e other = absurd (none-some p e)
followed_by d f root (source.Loan of) is p e other = absurd (none-some p e)
followed_by d f root (source.Field of k trivial) is p e other = absurd (other of k trivial refl)
followed_by d f root (source.Part of k) is p e other = absurd (none-some p e)
followed_by d f root source.Other is p e other = absurd (none-some p e)

pub roots_followed : AreRootsFollowed
roots_followed m n f a root p e other =
    followed_by (declarations_of m) f root (source_at (sources_of (declarations_of m) f) root) refl p e other
