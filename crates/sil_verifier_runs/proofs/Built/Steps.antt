-- How each item leaves what a trail says of new objects.
use Rattle.std.proofs.Common.{◌≡◌, ◌⊎◌, inl, inr, ℕ, zero, suc, ◌<◌, List, [], ◌∷◌, map, refl, sym, ap, ◌∙◌, subst, arith, Bool, true, false, not, ◌&&◌, ◌||◌, Option, Some}
use Rattle.std.proofs.Common.{None, eq-eqb}
use Rattle.std.specs.Prelude.{◌==◌, Contains, cond, nat_lt, option_and_then, slice_get, unwrap_or}
use Rattle.std.specs.List.{list_any}
use Rattle.std.proofs.lemmas.Bool.{and_parts, eqb-true, false≢true, true≢false}
use Rattle.std.proofs.lemmas.Option.{none-some, same_Some}
use Rattle.std.proofs.lemmas.Bool.Decides.{nat_tests}
use Rattle.argument_conventions.specs.Arguments.{Told, arguments_of}
use Rattle.argument_conventions.specs.Rows.{address_row}
use Rattle.argument_conventions.specs.declared.row.AddressRow.{AddressRow}
use Rattle.sil_verifier_frames.specs.sil_verifier_trails.AcceptedTrails.inner.Defined.{makes}
use Rattle.sil_verifier_frames.specs.memory_rules_accesses.Accesses.{does_of}
use Rattle.sil_verifier_frames.specs.memory_rules_accesses.Locations.{cell_by, cell_of, field_cell, location_of, object_built}
use Rattle.sil_verifier_frames.specs.memory_rules_accesses.Operations.{operations_of}
use Rattle.sil_verifier_frames.specs.memory_rules_accesses.Sources.{argument_source_or, handed_source, is_trivial_at, source_at, sources_of}
use Rattle.sil_verifier_frames.specs.memory_rules_accesses.declared.access.Access.{Access}
use Rattle.sil_verifier_frames.specs.memory_rules_accesses.declared.access.Access.TheVariants.{Does}
use Rattle.sil_verifier_frames.specs.memory_rules_accesses.declared.access.Operated.{Operated}
use Rattle.sil_verifier_frames.specs.memory_rules_accesses.declared.location.Cell.{Cell}
use Rattle.sil_verifier_frames.specs.memory_rules_accesses.declared.location.Location.{Location}
use Rattle.sil_verifier_frames.specs.memory_rules_accesses.declared.source.Source.{Source}
use Rattle.sil_verifier_frames.specs.memory_rules_accesses.declared.source.Source.TheVariants as source
use Rattle.sil_verifier_frames.specs.memory_rules_parts.Building.{fills, is_object_of}
use Rattle.sil_verifier_frames.specs.memory_rules_parts.Contents.{counts_at_part, operation_mark, same_cell}
use Rattle.sil_verifier_frames.specs.memory_rules_parts.Switches.{is_turned_on, when}
use Rattle.sil_verifier_frames.specs.memory_rules_parts.declared.part.Part.{Part}
use Rattle.sil_verifier_frames.specs.memory_rules_parts.declared.part.Part.TheVariants.{Building, Contents}
use Rattle.sil_verifier_frames.specs.sil_verifier_trails.RunTrails.inner.RunTrails.{IsRunTrail}
use Rattle.sil_verifier_frames.specs.sil_verifier_trails.RunTrails.inner.Since.{is_none_since}
use Rattle.sil_verifier_frames.specs.sil_verifier_trails.AcceptedMemory.inner.PartTrails.{IsPartOf, is_on}
use Rattle.sil_verifier_frames.proofs.sil_verifier_trails.AcceptedMemory.PartsFollowed.{parts_followed}
use Rattle.sil_verifier_frames.proofs.sil_verifier_trails.AcceptedMemory.PartsTurned.{turn_by}
use Rattle.sil_verifier_frames.proofs.sil_verifier_trails.AcceptedTrails.Tests.{or_right}
use Rattle.sil_verifier_frames.proofs.sil_verifier_trails.AcceptedPlaces.CellsKept.{fields_followed}
use Rattle.sil_verifier_frames.proofs.sil_verifier_trails.AcceptedPlaces.CellsRight.{operations_right}
use Rattle.sil_verifier_frames.proofs.sil_verifier_trails.AcceptedPlaces.Fields.{fields_built, has_among, item_turns, made_unwritten, unwritten_empty, written_once}
use Rattle.sil_verifier_frames.proofs.sil_verifier_trails.AcceptedPlaces.Items.{all_of, each_contained, turn_step}
use Rattle.sil_verifier_frames.proofs.sil_verifier_trails.AcceptedPlaces.ItemStacks.{accepted_in}
use Rattle.sil_verifier_frames.proofs.sil_verifier_trails.AcceptedPlaces.Made.{IsMadeBy, argument, made_so, result}
use Rattle.sil_verifier_frames.specs.sil_verifier_trails.AcceptedPlaces.inner.Cells.{IsDoneAt, IsFoundSo, mark_at}
use Rattle.sil_verifier_frames.specs.sil_verifier_values.inner.Known.{IsAcceptedBody}
use Rattle.sil_verifier_frames.specs.sil_verifier_values.inner.Rows.{source_of_argument}
use Rattle.sil_verifier_frames.proofs.sil_verifier_values.Counted.{nothing_in}
use Rattle.sil_verifier_frames.specs.holder_model_laws.HolderLaws.inner.Built.Building.{IsNewField}
use Rattle.sil_verifier_frames.specs.holder_model_laws.HolderLaws.inner.Built.Laws.{IsMadeNow, IsWrittenNow}
use Rattle.sil_cfg_items.specs.Items.{item_defined}
use Rattle.sil_cfg_items.specs.Parts.{inst_at, item_inst}
use Rattle.numbered_form.specs.Lists.{Each}
use Rattle.sil_verifier_frames.specs.ownership_kinds_chains.OwnershipChains.Facts.{has, value_of}
use Rattle.reach_engine_marks.specs.PathPatterns.Marks.{turns_off}
use Rattle.reach_engine_marks.specs.declared.path_patterns.mark.Mark.{Mark}
use Rattle.numbered_form.proofs.PointChecks.Among.{Among, among_contained, contained_among}
use Rattle.sil_ast.specs.declared.function.Function.{Function}
use Rattle.sil_ast.specs.declared.inst.Inst.{Inst}
use Rattle.sil_ast.specs.declared.module.Module.{Module}
use Rattle.sil_ast.specs.declared.place.PointId.{PointId}
use Rattle.sil_ast.specs.declared.place.ValueId.{ValueId}
use Rattle.sil_cfg.specs.declared.item.Item.{Item}
use Rattle.sil_cfg.specs.declared.item.Item.TheVariants as item
use Rattle.sil_rules.specs.declared.rule.Rule.TheVariants as rule
use Rattle.sil_types_declarations.specs.TypeDefinitions.Declarations.{Declarations, declarations_of}
use Rattle.sil_verifier_runs.specs.inner.Built.Said.{has_new_field, said_in}
use Rattle.sil_verifier_runs.specs.inner.Built.Laws.{AreAsMadeBefore, AreFieldsFilled, AreFieldsLeft, AreNoneAtEntry, AreObjectsMade, FillsField, FillsNone, MakesObject}

-- ---- what the tests say

below_so : (k fields : ℕ) → nat_lt k fields ≡ true → k < fields
below_so k fields e = grind (arith, nat_tests)

below_told : (k fields : ℕ) → k < fields → nat_lt k fields ≡ true
below_told k fields h = grind (arith, nat_tests)

pub field_told : (s : Source) (k : ℕ) → has_new_field s k ≡ true → (fields : ℕ) × (s ≡ source.Object fields) × (k < fields)
field_told (source.Object fields) k e = (fields, refl, below_so k fields e)
field_told _ k e = absurd (false≢true e)

pub new_field_told : (sources : List Source) (object : ValueId) (k : ℕ) → IsNewField sources object k → has_new_field (source_at sources object) k ≡ true
new_field_told sources object k h = ap (λ s. has_new_field s k) h.is ∙ below_told k h.fields h.within

pub built_told : (object : ValueId) (o : Option ValueId) → is_object_of object o ≡ true → o ≡ Some object
built_told object None e = absurd (false≢true e)
built_told object (Some v) e = ap (λ w. Some w) (ap value_of (eqb-true v.0 object.0 e))

handed_no_object : (trivial : Bool) (row : Option AddressRow) (fields : ℕ) → handed_source trivial row ≡ source.Object fields → ⊥
handed_no_object trivial None fields e = cc
handed_no_object trivial (Some row) fields e = cc

told_no_object : (d : Declarations) (o : Option Told) (fields : ℕ) → argument_source_or d o ≡ source.Object fields → ⊥
told_no_object d None fields e = cc
told_no_object d (Some t) fields e = handed_no_object _ (address_row t.convention) fields e

argument_no_object : (d : Declarations) (f : Function) (b k fields : ℕ) → source_of_argument d f b k ≡ source.Object fields → ⊥
argument_no_object d f zero k fields e = told_no_object d (slice_get (arguments_of f.signature) k) fields e
argument_no_object d f (suc b) k fields e = cc

-- ---- what was made when

pub as_made_before : AreAsMadeBefore
as_made_before f t i object v other since =
    let both = and_parts (not (makes f object i)) (is_none_since (makes f object) (makes f v) t)
    (ap (λ b. b || (not (makes f object i) && is_none_since (makes f object) (makes f v) t)) (sym other) ∙ since) in
    (off (makes f object i) both.0, both.1)
  where
    off : (b : Bool) → not b ≡ true → b ≡ false
    off true e = absurd (false≢true e)
    off false e = refl

-- ---- the entry

module _ (m : Module) (n : ℕ) (f : Function) (a : IsAcceptedBody m n f) where
  abbrev d : Declarations
  d = declarations_of m

  abbrev sources : List Source
  sources = sources_of d f

  not_of_entry : (object : ValueId) (fields : ℕ) → source_at sources object ≡ source.Object fields → makes f object item.Entry ≡ false
  not_of_entry object fields is = at (makes f object item.Entry) refl
    where
      by : IsMadeBy d f item.Entry object → ⊥
      by (result x none row) = none-some x none
      by (argument b k row) = argument_no_object d f b k fields (sym row ∙ is)

      at : (b : Bool) → makes f object item.Entry ≡ b → b ≡ false
      at false e = refl
      at true e =
          absurd (by (made_so m n f a item.Entry object (contained_among object (item_defined f item.Entry) (has_among (item_defined f item.Entry) object e))))

  -- ---- a field of a new object

  module _ (object : ValueId) (k : ℕ) where
    abbrev Built : Part
    Built = Building object k

    abbrev unwritten_at : List Item → Option Bool
    unwritten_at t = (said_in d f t).unwritten object k

    pub told : (t : List Item) → has_new_field (source_at sources object) k ≡ true → unwritten_at t ≡ is_on d f Built t
    told t e = ap (λ b. cond b (is_on d f Built t) None) e

    untold : (t : List Item) → has_new_field (source_at sources object) k ≡ false → unwritten_at t ≡ None
    untold t e = ap (λ b. cond b (is_on d f Built t) None) e

    pub there : has_new_field (source_at sources object) k ≡ true → IsPartOf d f Built
    there e = let x = field_told (source_at sources object) k e in fields_built m n f a object k x.0 x.1 x.2

    pub held_there : has_new_field (source_at sources object) k ≡ true → IsPartOf d f (Contents (record { subject = object; field = Some k }) false None)
    held_there e = let x = field_told (source_at sources object) k e in fields_followed m n f a object k x.0 x.1 x.2

    abbrev turn : Access → Option Bool
    turn x = turn_by d f Built x

    abbrev Quiet : Operated → Type 0
    Quiet o = fills sources (record { subject = object; field = Some k }) o.operation (location_of sources o.address) ≡ false

    quiet_all : (os : List Operated) → Each Quiet os → (on : Bool) → all_of (turn_step turn) (map Does os) on ≡ on
    quiet_all [] h on = refl
    quiet_all (o ∷ os) h on =
        ap (all_of (turn_step turn) (map Does os))
        (ap (λ b. unwrap_or (option_and_then (λ (x : Mark). x.turns) (when b (turns_off rule.FieldNotBuilt))) on) h.0)
        ∙ quiet_all os h.1 on

    quiet_item : (i : Item) → FillsNone d f i object k → (x : Option Inst) → item_inst f i ≡ x → (on : Bool) → all_of (turn_step turn) (does_of x) on ≡ on
    quiet_item i none None is on = refl
    quiet_item i none (Some x) is on = quiet_all (operations_of x) (each_contained Quiet (operations_of x) (λ o c. none x is o c)) on

    left_as : (t : List Item) (i : Item) → IsRunTrail f (i ∷ t) → makes f object i ≡ false → (e : has_new_field (source_at sources object) k ≡ true)
        → FillsNone d f i object k ⊎ (unwritten_at t ≡ Some false) → is_on d f Built (i ∷ t) ≡ is_on d f Built t
    left_as t i h other e (inl none) =
        let was = parts_followed d f (accepted_in m n f a) Built (there e) t h.1 in
        item_turns m n f a object k (there e) t i h was.0 was.1
        ∙ ap (λ b. Some (b || all_of (turn_step turn) (does_of (item_inst f i)) was.0)) other
        ∙ ap (λ b. Some b) (quiet_item i none (item_inst f i) refl was.0) ∙ sym was.1
    left_as t i h other e (inr off) = at now.0 now.1
      where
        was : is_on d f Built t ≡ Some false
        was = sym (told t e) ∙ off

        now : (on : Bool) × (is_on d f Built (i ∷ t) ≡ Some on)
        now = parts_followed d f (accepted_in m n f a) Built (there e) (i ∷ t) h

        at : (on : Bool) → is_on d f Built (i ∷ t) ≡ Some on → is_on d f Built (i ∷ t) ≡ is_on d f Built t
        at false is = is ∙ sym was
        at true is = let before : Some true ≡ Some false = sym (written_once m n f a object k (there e) t i h other is) ∙ was in absurd (true≢false (same_Some true false before))

    left : (t : List Item) (i : Item) → IsRunTrail f (i ∷ t) → makes f object i ≡ false → FillsNone d f i object k ⊎ (unwritten_at t ≡ Some false)
        → unwritten_at (i ∷ t) ≡ unwritten_at t
    left t i h other clear = at (has_new_field (source_at sources object) k) refl
      where
        at : (b : Bool) → has_new_field (source_at sources object) k ≡ b → unwritten_at (i ∷ t) ≡ unwritten_at t
        at true e = told (i ∷ t) e ∙ left_as t i h other e clear ∙ sym (told t e)
        at false e = untold (i ∷ t) e ∙ sym (untold t e)

pub fields_left : AreFieldsLeft
fields_left m n f a t i h object k other clear = left m n f a object k t i h other clear

pub none_at_entry : AreNoneAtEntry
none_at_entry m n f a object u =
    let d : Declarations = declarations_of m in
    let is_new = new_field_told (sources_of d f) object u.field u.of in
    let on : is_on d f (Building object u.field) (item.Entry ∷ []) ≡ Some true = sym (told m n f a object u.field (item.Entry ∷ []) is_new) ∙ u.unwritten in
    let first : Some false ≡ Some true =
    written_once m n f a object u.field (there m n f a object u.field is_new) [] item.Entry (a.body.body, tt) (not_of_entry m n f a object u.of.fields u.of.is) on in
    false≢true (same_Some false true first)

-- ---- an object is made

module _ (m : Module) (n : ℕ) (f : Function) (a : IsAcceptedBody m n f) (t : List Item) (p : PointId) (h : IsRunTrail f (item.Inst p ∷ t)) (object : ValueId)
    (makes_it : MakesObject f p object) where
  itself : makes f object (item.Inst p) ≡ true
  itself = ap (λ vs. has vs object.0) makes_it.alone ∙ ap (λ b. b || false) (eq-eqb object.0 object.0 refl)

  unmade : (w : ValueId) → (w ≡ object → ⊥) → makes f w (item.Inst p) ≡ false
  unmade w other = ap (λ vs. has vs w.0) makes_it.alone ∙ at (object.0 == w.0) refl
    where
      at : (b : Bool) → (object.0 == w.0) ≡ b → (b || false) ≡ false
      at false e = refl
      at true e = absurd (other (sym (ap value_of (eqb-true object.0 w.0 e))))

  nothing : (x : Inst) → inst_at f p ≡ Some x → (o : Operated) → Contains (operations_of x) o → Contains [] o
  nothing x is o c =
      subst (λ os. Contains os o) (ap operations_of (same_Some x makes_it.inst (sym is ∙ makes_it.is)) ∙ makes_it.none) c

  made_now : IsMadeNow (sources_of (declarations_of m) f) (said_in (declarations_of m) f t) (said_in (declarations_of m) f (item.Inst p ∷ t)) object
  made_now = record {
    unwritten = λ k new.
        let is_new = new_field_told (sources_of (declarations_of m) f) object k new in
        told m n f a object k (item.Inst p ∷ t) is_new ∙ made_unwritten m n f a object k (there m n f a object k is_new) t (item.Inst p) h itself;
    others = λ w other k. fields_left m n f a t (item.Inst p) h w k (unmade w other) (inl (λ x is o c. absurd (nothing_in o (nothing x is o c))));
    as_made = λ w v other since.
        let before = as_made_before f t (item.Inst p) w v (unmade v other) since in
        ((λ same. true≢false (sym itself ∙ ap (λ z. makes f z (item.Inst p)) (sym same) ∙ before.0)), before.1);
  }

pub objects_made : AreObjectsMade
objects_made m n f a t p h object makes_it = made_now m n f a t p h object makes_it

-- ---- a field is filled

module _ (m : Module) (n : ℕ) (f : Function) (a : IsAcceptedBody m n f) (t : List Item) (p : PointId) (h : IsRunTrail f (item.Inst p ∷ t)) (object : ValueId) (k : ℕ)
    (filled : FillsField (declarations_of m) f t p object k) where
  abbrev decls : Declarations
  decls = declarations_of m

  abbrev table : List Source
  table = sources_of decls f

  abbrev cell : Cell
  cell = record { subject = object; field = Some k }

  abbrev l : Location
  l = filled.location

  is_new : has_new_field (source_at table object) k ≡ true
  is_new = new_field_told table object k filled.field

  makes_none : (w : ValueId) → makes f w (item.Inst p) ≡ false
  makes_none w = ap (λ vs. has vs w.0) filled.none

  at_cell : cell_of table l.root ≡ cell
  at_cell =
      ap (cell_by table l.root) filled.address.is
      ∙ ap (λ o. field_cell o l.root k) (built_told object (object_built table filled.of) filled.built)

  done : IsDoneAt decls f p filled.does l
  done = record {
    inst = filled.inst;
    is = filled.is;
    among = contained_among filled.does (operations_of filled.inst) (subst (Among filled.does) (sym filled.alone) (inl refl));
    at = filled.address.at;
  }

  found : IsFoundSo decls f t (item.Inst p) (Contents (cell_of table l.root) false None) (mark_at decls f l filled.does.operation)
  found =
      operations_right m n f a t p h filled.does l done false None
      (subst (λ c. IsPartOf decls f (Contents c false None)) (sym at_cell) (held_there m n f a object k is_new))

  abbrev mark : Mark
  mark = operation_mark (is_trivial_at (sources_of (declarations_of m) f) filled.location.root)
      (counts_at_part (sources_of (declarations_of m) f) filled.location filled.does.operation) filled.does.operation

  both : (on : Bool) × (is_on decls f (Building object k) (item.Inst p ∷ t) ≡ Some on) × (is_on decls f (Contents cell false None) (item.Inst p ∷ t) ≡ Some (not on))
  both =
      unwritten_empty m n f a object k (there m n f a object k is_new) (item.Inst p ∷ t) h
      (or_right (makes f object (item.Inst p)) (list_any (makes f object) t) filled.defined)

  full : not both.0 ≡ true
  full =
      same_Some (not both.0) true
      (sym both.2 ∙ ap (λ c. is_on decls f (Contents c false None) (item.Inst p ∷ t)) (sym at_cell) ∙ found.left ∙ ap (λ b. Some b) (filled.full found.on found.found))

  off : (b : Bool) → not b ≡ true → b ≡ false
  off true e = absurd (false≢true e)
  off false e = refl

  apart : (w : ValueId) (j : ℕ) → ((w ≡ object) × (j ≡ k) → ⊥) → (b : Bool) → same_cell cell (record { subject = w; field = Some j }) ≡ b → b ≡ false
  apart w j other false e = refl
  apart w j other true e =
      let parts = and_parts (object.0 == w.0) (k == j) e in
      absurd (other (sym (ap value_of (eqb-true object.0 w.0 parts.0)), sym (eqb-true k j parts.1)))

  elsewhere : (w : ValueId) (j : ℕ) → ((w ≡ object) × (j ≡ k) → ⊥) → (x : Inst) → inst_at f p ≡ Some x → (o : Operated) → Contains (operations_of x) o
      → fills table (record { subject = w; field = Some j }) o.operation (location_of table o.address) ≡ false
  elsewhere w j other x is o c =
      ap (λ (z : Operated). fills table (record { subject = w; field = Some j }) z.operation (location_of table z.address)) same
      ∙ ap (fills table (record { subject = w; field = Some j }) filled.does.operation) filled.address.at
      ∙ ap (λ z. is_turned_on (when (same_cell z (record { subject = w; field = Some j })) mark)) at_cell
      ∙ ap (λ b. is_turned_on (when b mark)) (apart w j other (same_cell cell (record { subject = w; field = Some j })) refl)
    where
      among : Among o (filled.does ∷ [])
      among =
          subst (Among o) (ap operations_of (same_Some x filled.inst (sym is ∙ filled.is)) ∙ filled.alone) (among_contained o (operations_of x) c)

      same : o ≡ filled.does
      same = only among
        where
          only : Among o (filled.does ∷ []) → o ≡ filled.does
          only (inl e) = e
          only (inr e) = absurd e

  filled_now : IsWrittenNow (said_in (declarations_of m) f t) (said_in (declarations_of m) f (item.Inst p ∷ t)) object k
  filled_now = record {
    written = told m n f a object k (item.Inst p ∷ t) is_new ∙ both.1 ∙ ap (λ b. Some b) (off both.0 full);
    others = λ w j other. fields_left m n f a t (item.Inst p) h w j (makes_none w) (inl (λ x is o c. elsewhere w j other x is o c));
    as_made = λ w v since. (as_made_before f t (item.Inst p) w v (makes_none v) since).1;
  }

pub fields_filled : AreFieldsFilled
fields_filled m n f a t p h object k filled = filled_now m n f a t p h object k filled
