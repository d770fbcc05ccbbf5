-- An operation at the field of a new object asks what the trail says of it; and an unfinished object is taken only where its taker's row allows it.
use Rattle.std.proofs.Common.{◌≡◌, inl, inr, ℕ, List, ◌∷◌, refl, sym, ap, ◌∙◌, subst, Bool, true, false, not, is_some, ◌&&◌, Option, Some, None, eq-eqb}
use Rattle.std.specs.Prelude.{Contains, option_map}
use Rattle.std.specs.Option.{option_to_list}
use Rattle.std.proofs.lemmas.Bool.{and_parts, false≢true, or_parts, true≢false}
use Rattle.std.proofs.lemmas.List.Elements.{Contains-append_left}
use Rattle.std.proofs.lemmas.Option.{same_Some}
use Rattle.argument_conventions.specs.declared.row.Content.{Content}
use Rattle.argument_conventions.specs.declared.row.Content.TheVariants as content
use Rattle.sil_verifier_frames.specs.sil_verifier_trails.AcceptedTrails.inner.Bases.{IsAsMade}
use Rattle.sil_verifier_frames.specs.holder_model.MemoryEffects.{asked_before}
use Rattle.sil_verifier_frames.specs.memory_rules_accesses.Accesses.{allowance_of}
use Rattle.sil_verifier_frames.specs.memory_rules_accesses.Locations.{cell_by, cell_of, field_cell, object_built}
use Rattle.sil_verifier_frames.specs.memory_rules_accesses.Operations.{access_kind_of, operated, operated_at, operation_at, operations_of}
use Rattle.sil_verifier_frames.specs.memory_rules_accesses.Rows.{field_has, has_by, has_operation, is_part}
use Rattle.sil_verifier_frames.specs.memory_rules_accesses.Sources.{is_trivial_at, source_at, sources_of}
use Rattle.sil_verifier_frames.specs.memory_rules_accesses.declared.access.Operated.{Operated}
use Rattle.sil_verifier_frames.specs.memory_rules_accesses.declared.access.Operation.{Operation}
use Rattle.sil_verifier_frames.specs.memory_rules_accesses.declared.access.Operation.TheVariants.{FirstWrite, Read, Lend, Write, TrivialStore, Handed, Take}
use Rattle.sil_verifier_frames.specs.memory_rules_accesses.declared.location.Location.{Location}
use Rattle.sil_verifier_frames.specs.memory_rules_accesses.declared.source.Source.{Source}
use Rattle.sil_verifier_frames.specs.memory_rules_parts.Building.{builds, goes_by_borrow, is_forbidden, takes_borrow, takes_object}
use Rattle.sil_verifier_frames.specs.memory_rules_parts.Contents.{operation_mark}
use Rattle.sil_verifier_frames.specs.memory_rules_parts.Switches.{is_same}
use Rattle.sil_verifier_frames.specs.memory_rules_parts.declared.part.Part.TheVariants.{Building, Contents}
use Rattle.sil_verifier_frames.specs.sil_verifier_trails.RunTrails.inner.RunTrails.{IsRunTrail}
use Rattle.sil_verifier_frames.specs.sil_verifier_trails.RunTrails.inner.Switched.{finds}
use Rattle.sil_verifier_frames.specs.sil_verifier_trails.AcceptedMemory.inner.PartTrails.{IsPartOf, is_on}
use Rattle.sil_verifier_frames.proofs.sil_verifier_trails.AcceptedPlaces.CellsRight.{operations_right}
use Rattle.sil_verifier_frames.proofs.sil_verifier_trails.AcceptedPlaces.Fields.{unfinished_allowed, unwritten_empty}
use Rattle.sil_verifier_frames.proofs.sil_verifier_trails.AcceptedPlaces.ItemStacks.{accepted_in}
use Rattle.sil_verifier_frames.proofs.sil_verifier_trails.AcceptedPlaces.OperationsRight.{rows_right}
use Rattle.sil_verifier_frames.specs.sil_verifier_trails.AcceptedPlaces.inner.Cells.{IsDoneAt, IsFoundSo, mark_at}
use Rattle.sil_verifier_frames.specs.sil_verifier_values.inner.Known.{IsAcceptedBody, facts_at}
use Rattle.sil_verifier_frames.specs.holder_model_laws.HolderLaws.inner.Built.Building.{IsFieldAddress, IsNewField, address}
use Rattle.sil_verifier_frames.specs.holder_model_laws.HolderLaws.inner.Built.Laws.{asks_empty}
use Rattle.sil_cfg_items.specs.Items.{item_taken, taken_along_in, taken_in}
use Rattle.sil_cfg_items.specs.Parts.{item_edge, item_inst}
use Rattle.sil_cfg_items.specs.Roles.{taken_by}
use Rattle.sil_cfg_items.specs.declared.taken.Taken.{Taken}
use Rattle.numbered_form.proofs.PointChecks.Among.{Among, among_contained, contained_among, flat_among}
use Rattle.sil_ast.specs.declared.function.Function.{Function}
use Rattle.sil_ast.specs.declared.inst.Inst.{Inst}
use Rattle.sil_ast.specs.declared.module.Module.{Module}
use Rattle.sil_ast.specs.declared.place.PointId.{PointId}
use Rattle.sil_ast.specs.declared.place.ValueId.{ValueId}
use Rattle.sil_cfg.specs.declared.item.Item.{Item}
use Rattle.sil_cfg.specs.declared.item.Item.TheVariants as item
use Rattle.sil_types_declarations.specs.TypeDefinitions.Declarations.{Declarations, declarations_of}
use Rattle.sil_verifier_runs.specs.inner.Built.Operands.{AreFieldsRight, AreUnfinishedOperands}
use Rattle.sil_verifier_runs.specs.inner.Built.Said.{has_new_field, said_in}
use Rattle.sil_verifier_runs.proofs.Built.About.{about_as_made}
use Rattle.sil_verifier_runs.proofs.Built.ByBorrow.{builders_by_borrow}
use Rattle.sil_verifier_runs.proofs.Built.Classes.{fields_new}
use Rattle.sil_verifier_runs.proofs.Built.Steps.{built_told, held_there, new_field_told, there, told}

-- ---- what is asked of a field is what its mark needs

when_empty : (b : Bool) → not (not b) ≡ true → (c : Content) → Some content.Empty ≡ Some c → b ≡ asks_empty c
when_empty true e c is = ap asks_empty (same_Some content.Empty c is)
when_empty false e c is = absurd (false≢true e)

when_full : (b : Bool) → not b ≡ true → (c : Content) → Some content.Full ≡ Some c → b ≡ asks_empty c
when_full true e c is = absurd (false≢true e)
when_full false e c is = ap asks_empty (same_Some content.Full c is)

-- where a field that is to be written is one that is empty
asked_so : (trivial part building : Bool) (o : Operation) (unwritten : Bool) → field_has part building o ≡ true
    → finds (operation_mark trivial part o).needs (not unwritten) ≡ true → (c : Content) → asked_before part o ≡ Some c → unwritten ≡ asks_empty c
asked_so trivial part building FirstWrite b row e c is = when_empty b e c is
asked_so trivial part building Read b row e c is = when_full b e c is
asked_so trivial part building Lend b row e c is = when_full b e c is
asked_so trivial part building Write b row e c is = when_full b e c is
asked_so trivial true building TrivialStore b row e c is = when_full b e c is
asked_so trivial false building TrivialStore b row e c is = cc
asked_so trivial part building (Handed r) b row e c is = absurd (false≢true row)
asked_so trivial part building Take b row e c is = when_full b e c is

-- an operation is done at an operand
address_at : (o : Operated) (t : Taken) (x : Option Operation) → Among o (option_to_list (option_map (operated t.value) x)) → o.address ≡ t.value
address_at o t None a = absurd a
address_at o t (Some y) (inl e) = ap (λ (z : Operated). z.address) e
address_at o t (Some y) (inr a) = absurd a

pub operand_of_operation : (i : Inst) (o : Operated) → Contains (operations_of i) o → (t : Taken) × Contains (taken_by i) t × (o.address ≡ t.value)
operand_of_operation i o c =
    let at = flat_among (operated_at (access_kind_of i.op) i.qualifier) o (taken_by i) (among_contained o (operations_of i) c) in
    (at.0, contained_among at.0 (taken_by i) at.1, address_at o at.0 (operation_at (access_kind_of i.op) i.qualifier at.0) at.2)

module _ (m : Module) (n : ℕ) (f : Function) (a : IsAcceptedBody m n f) (t : List Item) (p : PointId) (h : IsRunTrail f (item.Inst p ∷ t)) (o : Operated) (l : Location)
    (done : IsDoneAt (declarations_of m) f p o l) (of : ValueId) (k : ℕ) (at : IsFieldAddress (sources_of (declarations_of m) f) o.address l of k) where
  abbrev d : Declarations
  d = declarations_of m

  abbrev sources : List Source
  sources = sources_of d f

  row : has_operation sources l o.operation ≡ true
  row = rows_right d f (accepted_in m n f a) (item.Inst p) done.inst done.is o done.among l done.at

  module _ (object : ValueId) (built : builds sources object of ≡ true) where
    field : IsNewField sources object k
    field = fields_new m n f a o.address object l of k at built

    -- ---- it is as it was made

    taken : (y : Taken) × Contains (item_taken f (item.Inst p)) y × (o.address ≡ y.value)
    taken =
        let y = operand_of_operation done.inst o done.among in (
          y.0,
          Contains-append_left (taken_in (item_inst f (item.Inst p))) (taken_along_in (item_edge f (item.Inst p))) y.0
              (subst (λ x. Contains (taken_in x) y.0) (sym done.is) y.1),
          y.2,
        )

    as_made : IsAsMade f t object o.address
    as_made =
        subst (IsAsMade f t object) (sym taken.2)
        (about_as_made m n f a t (item.Inst p) h taken.0 taken.1 object (address l of k (subst (λ v. IsFieldAddress sources v l of k) taken.2 at) built))

    -- ---- it is found as it is asked

    is_new : has_new_field (source_at sources object) k ≡ true
    is_new = new_field_told sources object k field

    at_cell : cell_of sources l.root ≡ record { subject = object; field = Some k }
    at_cell = ap (cell_by sources l.root) at.is ∙ ap (λ o. field_cell o l.root k) (built_told object (object_built sources of) built)

    found : IsFoundSo d f t (item.Inst p) (Contents (cell_of sources l.root) false None) (mark_at d f l o.operation)
    found =
        operations_right m n f a t p h o l done false None
        (subst (λ c. IsPartOf d f (Contents c false None)) (sym at_cell) (held_there m n f a object k is_new))

    both : (on : Bool) × (is_on d f (Building object k) t ≡ Some on) × (is_on d f (Contents (record { subject = object; field = Some k }) false None) t ≡ Some (not on))
    both = unwritten_empty m n f a object k (there m n f a object k is_new) t h.1 as_made.defined

    holds : found.on ≡ not both.0
    holds =
        same_Some found.on (not both.0)
        (sym found.was ∙ ap (λ c. is_on d f (Contents c false None) t) at_cell ∙ both.2)

    field_row : field_has (is_part l) (is_some (object_built sources of)) o.operation ≡ true
    field_row = subst (λ s. has_by sources s (is_part l) o.operation ≡ true) at.is row

    asked : (c : Content) → asked_before (is_part l) o.operation ≡ Some c → (said_in d f t).unwritten object k ≡ Some (asks_empty c)
    asked c is =
        told m n f a object k t is_new ∙ both.1
        ∙ ap (λ b. Some b) (asked_so (is_trivial_at sources l.root) (is_part l) (is_some (object_built sources of)) o.operation both.0 field_row
        (subst (λ b. finds (mark_at d f l o.operation).needs b ≡ true) holds found.found) c is)

pub fields_right : AreFieldsRight
fields_right m n f a t p h o l done of k at = record {
  row = row m n f a t p h o l done of k at;
  field = field m n f a t p h o l done of k at;
  found = asked m n f a t p h o l done of k at;
  as_made = λ object built. (as_made m n f a t p h o l done of k at object built).since;
}

-- ---- what takes an unfinished object

allowed : (b c : Bool) → (b && not c) ≡ false → b ≡ true → c ≡ true
allowed true true e is = refl
allowed true false e is = absurd (true≢false e)
allowed false c e is = absurd (false≢true is)

pub unfinished_operands : AreUnfinishedOperands
unfinished_operands m n f a t i h x is stays y c object u =
    let d : Declarations = declarations_of m in
    let sources : List Source = sources_of d f in
    let of_new = new_field_told sources object u.field u.of in
    let unwritten : is_on d f (Building object u.field) t ≡ Some true = sym (told m n f a object u.field t of_new) ∙ u.unwritten in
    let none : is_forbidden sources (facts_at d f) object y.value (allowance_of x.op) ≡ false =
    unfinished_allowed m n f a object u.field (there m n f a object u.field of_new) t i h unwritten x is stays y c in
    let whole : Bool = is_same y.value object && not (takes_object (allowance_of x.op)) in
    let borrowed : Bool = goes_by_borrow sources (facts_at d f y.value) object && not (builds sources object y.value && takes_borrow (allowance_of x.op)) in
    let parts = or_parts whole borrowed none in (
      λ same. allowed (is_same y.value object) (takes_object (allowance_of x.op)) parts.0 (eq-eqb y.value.0 object.0 (ap (λ (v : ValueId). v.0) same)),
      λ built. (and_parts (builds sources object y.value) (takes_borrow (allowance_of x.op))
          (allowed (goes_by_borrow sources (facts_at d f y.value) object) (builds sources object y.value && takes_borrow (allowance_of x.op)) parts.1
          (builders_by_borrow m n f a y.value object built))).1,
    )
