-- What makes a value that is about a new object takes another one that is about it, so the object is as it was when the value was made.
use Rattle.std.proofs.Common.{◌≡◌, ◌⊎◌, inl, inr, ℕ, zero, suc, List, [], ◌∷◌, ◌++◌, length, map, reverse, refl, sym, ap, ap₂, ◌∙◌, subst, Bool, true, false, not, ◌&&◌, ◌||◌}
use Rattle.std.proofs.Common.{Option, Some, None, eq-eqb}
use Rattle.std.specs.Prelude.{◌==◌, Contains, cond, option_map, slice_get}
use Rattle.std.specs.List.{list_any}
use Rattle.std.proofs.lemmas.Bool.{eqb-true, false≢true, true≢false}
use Rattle.std.proofs.lemmas.List.{reverse-reverse}
use Rattle.std.proofs.lemmas.Option.{none-some, same_Some}
use Rattle.argument_conventions.specs.Arguments.{Told, arguments_of}
use Rattle.argument_conventions.specs.Rows.{address_row}
use Rattle.argument_conventions.specs.declared.row.AddressRow.{AddressRow}
use Rattle.instruction_table.specs.Forms.{is_terminator}
use Rattle.instruction_table.specs.declared.op.Op.{Op}
use Rattle.instruction_table.specs.declared.op.Op.TheVariants as op
use Rattle.sil_verifier_frames.specs.sil_verifier_trails.AcceptedTrails.inner.Bases.{IsAsMade}
use Rattle.sil_verifier_frames.specs.sil_verifier_trails.AcceptedTrails.inner.Defined.{IsDefinedOn, makes}
use Rattle.sil_verifier_frames.specs.memory_rules_accesses.Locations.{below, below_by, is_object, locate, located_by, object_lent, upcast_from, whole}
use Rattle.sil_verifier_frames.specs.memory_rules_accesses.Operations.{access_kind_of}
use Rattle.sil_verifier_frames.specs.memory_rules_accesses.Sources.{argument_source_or, borrow_source, element_place, field_source, handed_source, is_trivial_member}
use Rattle.sil_verifier_frames.specs.memory_rules_accesses.Sources.{loan_source, member_place, object_source, part_source}
use Rattle.sil_verifier_frames.specs.memory_rules_accesses.Sources.{result_source, slot_source, source_at, source_by, sources_of}
use Rattle.sil_verifier_frames.specs.memory_rules_accesses.Sources.{upcast_source}
use Rattle.sil_verifier_frames.specs.memory_rules_accesses.declared.columns.AccessKind.{AccessKind}
use Rattle.sil_verifier_frames.specs.memory_rules_accesses.declared.columns.AccessKind.TheVariants as access
use Rattle.sil_verifier_frames.specs.memory_rules_accesses.declared.location.Location.{Location}
use Rattle.sil_verifier_frames.specs.memory_rules_accesses.declared.source.Source.{Source}
use Rattle.sil_verifier_frames.specs.memory_rules_accesses.declared.source.Source.TheVariants as source
use Rattle.sil_verifier_frames.specs.memory_rules_parts.Building.{builds, is_object_of}
use Rattle.sil_verifier_frames.specs.sil_verifier_trails.RunTrails.inner.RunTrails.{IsTurnedTrail}
use Rattle.sil_verifier_frames.specs.sil_verifier_trails.RunTrails.inner.Since.{is_none_since}
use Rattle.sil_verifier_frames.proofs.sil_verifier_trails.AcceptedTrails.Tests.{any_alike, any_reversed, each_weaker, or_right, picked}
use Rattle.sil_verifier_frames.proofs.sil_verifier_trails.RunTrails.RunPaths.{are_trails}
use Rattle.sil_verifier_frames.proofs.sil_verifier_trails.RunTrails.SplicedRuns.{are_spliced}
use Rattle.sil_verifier_frames.proofs.sil_verifier_trails.RunTrails.TurnedTrails.{are_of_items, turned_item, turned_older}
use Rattle.sil_verifier_frames.proofs.sil_verifier_trails.AcceptedPlaces.Fields.{has_among}
use Rattle.sil_verifier_frames.proofs.sil_verifier_trails.AcceptedPlaces.ItemStacks.{accepted_in}
use Rattle.sil_verifier_frames.proofs.sil_verifier_trails.AcceptedPlaces.Locating.{member_location, root_location, taken_before}
use Rattle.sil_verifier_frames.proofs.sil_verifier_trails.AcceptedPlaces.Made.{IsMadeBy, argument, made_so, result}
use Rattle.sil_verifier_frames.specs.sil_verifier_trails.AcceptedPlaces.inner.Located.{IsRoot}
use Rattle.sil_verifier_frames.specs.sil_verifier_trails.AcceptedPlaces.inner.Located as located
use Rattle.sil_verifier_frames.proofs.sil_verifier_trails.AcceptedPremises.MadeAtStops.{made_at_stops}
use Rattle.sil_verifier_frames.specs.sil_verifier_values.inner.Known.{IsAcceptedBody}
use Rattle.sil_verifier_frames.specs.sil_verifier_values.inner.Rows.{source_of_argument}
use Rattle.sil_verifier_frames.specs.holder_model.RunTyping.EndForms.{value_in}
use Rattle.sil_verifier_frames.proofs.sil_verifier_values.Accepted.{in_ownership_form, typed, well_typed}
use Rattle.sil_verifier_frames.specs.holder_model_laws.HolderLaws.inner.Built.Building.{IsAbout, IsFieldAddress, address, borrow, itself}
use Rattle.sil_cfg_items.specs.Items.{item_defined, item_taken}
use Rattle.sil_cfg_items.specs.Parts.{inst_at, item_inst}
use Rattle.sil_cfg_items.specs.declared.taken.Taken.{Taken}
use Rattle.numbered_form.specs.Lists.{Each}
use Rattle.sil_verifier_frames.proofs.holder_model_typing.OwnedRunTyping.OwnedInsts.{owned_inst}
use Rattle.sil_verifier_frames.specs.ownership_kinds_chains.OwnershipChains.Facts.{value_of}
use Rattle.numbered_form.proofs.PointChecks.Among.{Among, among_contained, contained_among}
use Rattle.sil_ast.specs.declared.function.Function.{Function}
use Rattle.sil_ast.specs.declared.inst.Inst.{Inst}
use Rattle.sil_ast.specs.declared.module.Module.{Module}
use Rattle.sil_ast.specs.declared.operands.Operand.{Operand}
use Rattle.sil_ast.specs.declared.place.EdgeId.{EdgeId}
use Rattle.sil_ast.specs.declared.place.PointId.{PointId}
use Rattle.sil_ast.specs.declared.place.ValueId.{ValueId}
use Rattle.sil_ast.specs.declared.type_name.TypeName.{TypeName}
use Rattle.sil_cfg.specs.Items.{IsItem, flow_of}
use Rattle.sil_cfg.specs.Walk.{IsTrail}
use Rattle.sil_cfg.specs.declared.item.Item.{Item}
use Rattle.sil_cfg.specs.declared.item.Item.TheVariants as items
use Rattle.sil_cfg.specs.inner.Splice.{Precedes, Stop, is_at, item, same_item}
use Rattle.sil_cfg.proofs.Places.{same_item-true}
use Rattle.sil_types_declarations.specs.TypeDefinitions.Declarations.{Declarations, declarations_of}
use Rattle.numbered_form.specs.ValueTables.FirstValue.{first_value}
use Rattle.sil_verifier_runs.specs.inner.Built.About.{AreAboutAsMade, AreAboutTaken, IsAboutTaken}

-- ---- the operand that a source is made of

abbrev pub operand_of : Source → Option ValueId
operand_of (source.Slot trivial) = None
operand_of (source.Argument row trivial) = None
operand_of (source.Object fields) = None
operand_of (source.Borrow of) = Some of
operand_of (source.Upcast of) = Some of
operand_of (source.Loan of) = Some of
operand_of (source.Field of k trivial) = Some of
operand_of (source.Part of k) = Some of
operand_of source.Other = None

slot_of : (d : Declarations) (o : Option TypeName) (w : ValueId) → operand_of (slot_source d o) ≡ Some w → ⊥
slot_of d None w e = none-some w e
slot_of d (Some t) w e = none-some w e

object_of : (d : Declarations) (o : Option TypeName) (w : ValueId) → operand_of (object_source d o) ≡ Some w → ⊥
object_of d None w e = none-some w e
object_of d (Some t) w e = none-some w e

borrow_of : (o : Option ValueId) (w : ValueId) → operand_of (borrow_source o) ≡ Some w → o ≡ Some w
borrow_of None w e = e
borrow_of (Some v) w e = e

upcast_of : (o : Option ValueId) (w : ValueId) → operand_of (upcast_source o) ≡ Some w → o ≡ Some w
upcast_of None w e = e
upcast_of (Some v) w e = e

loan_of : (o : Option ValueId) (w : ValueId) → operand_of (loan_source o) ≡ Some w → o ≡ Some w
loan_of None w e = e
loan_of (Some v) w e = e

field_of : (o : Option ValueId) (k : Option ℕ) (trivial : Bool) (w : ValueId) → operand_of (field_source o k trivial) ≡ Some w → o ≡ Some w
field_of None k trivial w e = e
field_of (Some v) None trivial w e = absurd (none-some w e)
field_of (Some v) (Some k) trivial w e = e

part_of : (o : Option ValueId) (k : Option ℕ) (w : ValueId) → operand_of (part_source o k) ≡ Some w → o ≡ Some w
part_of None k w e = e
part_of (Some v) None w e = absurd (none-some w e)
part_of (Some v) (Some k) w e = e

pub first_of : (d : Declarations) (i : Inst) (k : AccessKind) (w : ValueId) → operand_of (source_by k d i) ≡ Some w → first_value i ≡ Some w
first_of d i access.NoAccess w e = absurd (none-some w e)
first_of d i access.AllocatesSlot w e = absurd (slot_of d i.ty w e)
first_of d i access.AllocatesObject w e = absurd (object_of d i.ty w e)
first_of d i access.DeallocatesSlot w e = absurd (none-some w e)
first_of d i access.LendsValue w e = borrow_of (first_value i) w e
first_of d i access.Upcasts w e = upcast_of (first_value i) w e
first_of d i access.LendsLocation w e = loan_of (first_value i) w e
first_of d i access.NamesField w e = field_of (first_value i) (member_place d i.member) (is_trivial_member d i.member) w e
first_of d i access.NamesMember w e = part_of (first_value i) (member_place d i.member) w e
first_of d i access.NamesElement w e = part_of (first_value i) (element_place i.number) w e
first_of d i access.Loads w e = absurd (none-some w e)
first_of d i access.Stores w e = absurd (none-some w e)
first_of d i access.Destroys w e = absurd (none-some w e)
first_of d i access.Passes w e = absurd (none-some w e)

handed_of : (trivial : Bool) (row : Option AddressRow) (w : ValueId) → operand_of (handed_source trivial row) ≡ Some w → ⊥
handed_of trivial None w e = none-some w e
handed_of trivial (Some row) w e = none-some w e

told_of : (d : Declarations) (o : Option Told) (w : ValueId) → operand_of (argument_source_or d o) ≡ Some w → ⊥
told_of d None w e = none-some w e
told_of d (Some t) w e = handed_of _ (address_row t.convention) w e

argument_of : (d : Declarations) (f : Function) (b k : ℕ) (w : ValueId) → operand_of (source_of_argument d f b k) ≡ Some w → ⊥
argument_of d f zero k w e = told_of d (slice_get (arguments_of f.signature) k) w e
argument_of d f (suc b) k w e = none-some w e

ending_idle : (o : Op) → is_terminator o ≡ true → (d : Declarations) (i : Inst) → source_by (access_kind_of o) d i ≡ source.Other
ending_idle op.Br e d i = refl
ending_idle op.CondBr e d i = refl
ending_idle op.SwitchEnum e d i = refl
ending_idle op.Return e d i = refl
ending_idle op.Unreachable e d i = refl
ending_idle _ e d i = absurd (false≢true e)

-- ---- building borrows, step by step

module _ (sources : List Source) (object : ValueId) where
  abbrev pub lends : Source → Bool
  lends s = is_object_of object (object_lent sources s)

  abbrev pub lent : ℕ → ValueId → Bool
  lent n v = lends (source_at sources (below sources n v))

  object_lends : (of : ValueId) (b : Bool) → is_object_of object (cond b (Some of) None) ≡ true → source.Borrow of ≡ source.Borrow object
  object_lends of false e = absurd (false≢true e)
  object_lends of true e = ap (λ v. source.Borrow v) (ap value_of (eqb-true of.0 object.0 e))

  pub lent_is : (s : Source) → lends s ≡ true → s ≡ source.Borrow object
  lent_is (source.Borrow of) e = object_lends of (is_object (source_at sources of)) e
  lent_is _ e = absurd (false≢true e)

  pub borrow_stays : (n : ℕ) (v : ValueId) → source_at sources v ≡ source.Borrow object → below sources n v ≡ v
  borrow_stays zero v is = refl
  borrow_stays (suc n) v is = ap (below_by (below sources n) v) is

  pub lent_more : (n : ℕ) (v : ValueId) → lent n v ≡ true → lent (suc n) v ≡ true
  lent_more zero v e = ap (λ w. lends (source_at sources w)) (borrow_stays 1 v (lent_is (source_at sources v) e)) ∙ e
  lent_more (suc n) v e = by (λ of h. lent_more n of h) (source_at sources v) refl e
    where
      by : ((of : ValueId) → lent n of ≡ true → lent (suc n) of ≡ true) → (s : Source) → source_at sources v ≡ s → lends (source_at sources (below_by (below sources n) v s)) ≡ true
          → lends (source_at sources (below_by (below sources (suc n)) v s)) ≡ true
      by more (source.Upcast of) is h = more of h
      by more (source.Slot trivial) is h = h
      by more (source.Argument row trivial) is h = h
      by more (source.Object fields) is h = h
      by more (source.Borrow of) is h = h
      by more (source.Loan of) is h = h
      by more (source.Field of k trivial) is h = h
      by more (source.Part of k) is h = h
      by more source.Other is h = h

  abbrev IsBuilder : ℕ → ValueId → Type 0
  IsBuilder n v = (source_at sources v ≡ source.Borrow object) ⊎ ((of : ValueId) × (source_at sources v ≡ source.Upcast of) × (lent n of ≡ true))

  builder_by : (n : ℕ) (v : ValueId) → lent n v ≡ true → IsBuilder n v
  builder_by zero v e = inl (lent_is (source_at sources v) e)
  builder_by (suc n) v e = by (source_at sources v) refl e
    where
      by : (s : Source) → source_at sources v ≡ s → lends (source_at sources (below_by (below sources n) v s)) ≡ true → IsBuilder (suc n) v
      by (source.Upcast of) is h = inr (of, is, lent_more n of h)
      by (source.Slot trivial) is h = inl (lent_is (source_at sources v) h)
      by (source.Argument row trivial) is h = inl (lent_is (source_at sources v) h)
      by (source.Object fields) is h = inl (lent_is (source_at sources v) h)
      by (source.Borrow of) is h = inl (lent_is (source_at sources v) h)
      by (source.Loan of) is h = inl (lent_is (source_at sources v) h)
      by (source.Field of k trivial) is h = inl (lent_is (source_at sources v) h)
      by (source.Part of k) is h = inl (lent_is (source_at sources v) h)
      by source.Other is h = inl (lent_is (source_at sources v) h)

  -- it borrows the object, or is an upcast of another one
  pub builder : (v : ValueId) → builds sources object v ≡ true
      → (source_at sources v ≡ source.Borrow object) ⊎ ((of : ValueId) × (source_at sources v ≡ source.Upcast of) × (builds sources object of ≡ true))
  unfolding upcast_from
  builder v e = builder_by (length sources) v e

  pub unlocated : (n : ℕ) (v : ValueId) (l : Location) (s : Source) → source_at sources v ≡ s → ((others : ValueId → Option Location) → located_by others v s ≡ None)
      → locate sources n v ≡ Some l → ⊥
  unlocated zero v l s is none e = none-some l e
  unlocated (suc n) v l s is none e = none-some l (sym (none (locate sources n)) ∙ sym (ap (located_by (locate sources n) v) is) ∙ e)

module _ (m : Module) (n : ℕ) (f : Function) (a : IsAcceptedBody m n f) where
  abbrev d : Declarations
  d = declarations_of m

  abbrev sources : List Source
  sources = sources_of d f

  -- ---- what an item takes for a value that it makes

  first_taken : (ts : List Taken) (os : List Operand) (w : ValueId) → map (λ (t : Taken). t.value) ts ≡ map value_in os
      → option_map (λ (o : Operand). o.value) (slice_get os 0) ≡ Some w → (y : Taken) × Contains ts y × (y.value ≡ w)
  first_taken ts [] w same e = absurd (none-some w e)
  first_taken [] (o ∷ os) w same e = cc
  first_taken (t ∷ ts) (o ∷ os) w same e =
      let one : o.value ≡ w = same_Some o.value w e in
      let two : t.value ≡ o.value = cc in
      (t, contained_among t (t ∷ ts) (inl refl), two ∙ one)

  taken_by_inst : (p : PointId) (x : Inst) → inst_at f p ≡ Some x → (w : ValueId) → operand_of (result_source d x) ≡ Some w
      → (y : Taken) × Contains (item_taken f (items.Inst p)) y × (y.value ≡ w)
  taken_by_inst p x is w e =
      first_taken (item_taken f (items.Inst p)) x.operands w
      (owned_inst m (well_typed m a.verified) n f a.body.there p x is (in_ownership_form m n f a)).takes (first_of d x (access_kind_of x.op) w e)

  ends_idle : (b : ℕ) (x : Inst) → is_terminator x.op ≡ true → (w : ValueId) → operand_of (result_source d x) ≡ Some w → ⊥
  ends_idle b x ending w e = none-some w (sym (ap operand_of (ending_idle x.op ending d x)) ∙ e)

  taken_by_item : (i : Item) (x : Inst) → item_inst f i ≡ Some x → (w : ValueId) → operand_of (result_source d x) ≡ Some w
      → (y : Taken) × Contains (item_taken f i) y × (y.value ≡ w)
  taken_by_item items.Entry x is w e = absurd (none-some x is)
  taken_by_item (items.Inst p) x is w e = taken_by_inst p x is w e
  taken_by_item (items.Edge g) x is w e = absurd (ends_idle g.block.0 x ((typed m n f a).ends g.block.0 x is).1.ends w e)
  taken_by_item (items.Exit p) x is w e = absurd (ends_idle p.block.0 x ((typed m n f a).ends p.block.0 x is).1.ends w e)

  pub taken_for : (i : Item) (v w : ValueId) → makes f v i ≡ true → operand_of (source_at sources v) ≡ Some w → (y : Taken) × Contains (item_taken f i) y × (y.value ≡ w)
  taken_for i v w made e = by (made_so m n f a i v (contained_among v (item_defined f i) (has_among (item_defined f i) v made)))
    where
      by : IsMadeBy d f i v → (y : Taken) × Contains (item_taken f i) y × (y.value ≡ w)
      by (result x is row) = taken_by_item i x is w (sym (ap operand_of row) ∙ e)
      by (argument b k row) = absurd (argument_of d f b k w (sym (ap operand_of row) ∙ e))

  module _ (object : ValueId) where
    taken_about : (i : Item) (v w : ValueId) → makes f v i ≡ true → operand_of (source_at sources v) ≡ Some w → IsAbout sources object w → IsAboutTaken d f i object v
    taken_about i v w made e about =
        let y = taken_for i v w made e in inr (y.0, y.1, subst (IsAbout sources object) (sym y.2) about)

    about_borrow : (i : Item) (v : ValueId) → makes f v i ≡ true → builds sources object v ≡ true → IsAboutTaken d f i object v
    about_borrow i v made built = by (builder sources object v built)
      where
        by : (source_at sources v ≡ source.Borrow object) ⊎ ((of : ValueId) × (source_at sources v ≡ source.Upcast of) × (builds sources object of ≡ true))
            → IsAboutTaken d f i object v
        by (inl is) = taken_about i v object made (ap operand_of is) (itself refl)
        by (inr (of, is, more)) = taken_about i v of made (ap operand_of is) (borrow more)

    about_address : (i : Item) (v : ValueId) → makes f v i ≡ true → (l : Location) (of : ValueId) (k : ℕ) → IsFieldAddress sources v l of k → builds sources object of ≡ true
        → IsAboutTaken d f i object v
    about_address i v made l of k at built = by (source_at sources v) refl
      where
        at_root : IsRoot (source_at sources v) → source_at sources v ≡ source.Field of k at.trivial
        at_root r =
            let same : l ≡ whole v = same_Some l (whole v) (sym at.at ∙ root_location m n f a v r) in
            sym (ap (λ (x : Location). source_at sources x.root) same) ∙ at.is

        none : (s : Source) → source_at sources v ≡ s → ((others : ValueId → Option Location) → located_by others v s ≡ None) → ⊥
        none s is lacks = unlocated sources object (length sources) v l s is lacks at.at

        by : (s : Source) → source_at sources v ≡ s → IsAboutTaken d f i object v
        by (source.Slot trivial) is =
            let two : source.Slot trivial ≡ source.Field of k at.trivial = sym is ∙ at_root (subst IsRoot (sym is) located.slot) in absurd (cc)
        by (source.Argument row trivial) is =
            let two : source.Argument row trivial ≡ source.Field of k at.trivial = sym is ∙ at_root (subst IsRoot (sym is) located.argument) in absurd (cc)
        by (source.Field w j trivial) is =
            taken_about i v of made (ap operand_of (at_root (subst IsRoot (sym is) located.field))) (borrow built)
        by (source.Part w j) is =
            let inner = member_location m n f a v w j is l at.at in
            taken_about i v w made (ap operand_of is)
            (address inner.0 of k
            (record { at = inner.1; trivial = at.trivial; is = sym (ap (λ (x : Location). source_at sources x.root) inner.2) ∙ at.is }) built)
        by (source.Object fields) is = absurd (none (source.Object fields) is (λ o. refl))
        by (source.Borrow w) is = absurd (none (source.Borrow w) is (λ o. refl))
        by (source.Upcast w) is = absurd (none (source.Upcast w) is (λ o. refl))
        by (source.Loan w) is = absurd (none (source.Loan w) is (λ o. refl))
        by source.Other is = absurd (none source.Other is (λ o. refl))

    about_taken : (i : Item) (v : ValueId) → makes f v i ≡ true → IsAbout sources object v → IsAboutTaken d f i object v
    about_taken i v made (itself same) = inl same
    about_taken i v made (borrow built) = about_borrow i v made built
    about_taken i v made (address l of k at built) = about_address i v made l of k at built

pub are_about_taken : AreAboutTaken
are_about_taken m n f a i object v made about = about_taken m n f a object i v made about

-- ---- the object is as it was

-- what passes has come since itself
since_itself : (p : Item → Bool) (t : List Item) → list_any p t ≡ true → is_none_since p p t ≡ true
since_itself p [] h = h
since_itself p (i ∷ t) h = at (p i) (is_none_since p p t) (since_itself p t) h
  where
    at : (here : Bool) (none : Bool) → (list_any p t ≡ true → none ≡ true) → (here || list_any p t) ≡ true → (here || (not here && none)) ≡ true
    at true none more e = refl
    at false none more e = more e

since_alike : (p q r s : Item → Bool) (t : List Item) → Each (λ i. p i ≡ r i) t → Each (λ i. q i ≡ s i) t → is_none_since p q t ≡ is_none_since r s t
since_alike p q r s [] h k = refl
since_alike p q r s (i ∷ t) h k = ap₂ (λ a b. a || b) k.0 (ap₂ (λ a b. not a && b) h.0 (since_alike p q r s t h.1 k.1))

same_one : (i : Item) → same_item i i ≡ true
same_one items.Entry = refl
same_one (items.Inst p) = ap₂ (λ a b. a && b) (eq-eqb p.block.0 p.block.0 refl) (eq-eqb p.index p.index refl)
same_one (items.Edge e) = ap₂ (λ a b. a && b) (eq-eqb e.block.0 e.block.0 refl) (eq-eqb e.index e.index refl)
same_one (items.Exit p) = ap₂ (λ a b. a && b) (eq-eqb p.block.0 p.block.0 refl) (eq-eqb p.index p.index refl)

among_any : (y : Taken) (ts : List Taken) → Among y ts → list_any (λ (x : Taken). x.value.0 == y.value.0) ts ≡ true
among_any y [] h = absurd h
among_any y (t ∷ ts) (inl same) =
    ap (λ b. b || list_any (λ (x : Taken). x.value.0 == y.value.0) ts) (eq-eqb t.value.0 y.value.0 (ap (λ (x : Taken). x.value.0) (sym same)))
among_any y (t ∷ ts) (inr more) = or_right (t.value.0 == y.value.0) (list_any (λ (x : Taken). x.value.0 == y.value.0) ts) (among_any y ts more)

module _ (m : Module) (n : ℕ) (f : Function) (a : IsAcceptedBody m n f) (object : ValueId) where
  abbrev About : ValueId → Type 0
  About v = IsAbout (sources_of (declarations_of m) f) object v

  abbrev IsTakenAt : Item → ValueId → Type 0
  IsTakenAt i w = list_any (λ (y : Taken). y.value.0 == w.0) (item_taken f i) ≡ true

  pub before_item : (t : List Item) (i : Item) → IsTurnedTrail f (i ∷ t) → (y : Taken) → Contains (item_taken f i) y → IsDefinedOn f t y.value
  before_item t i h y c = taken_before m n f a t i h y.value (among_any y (item_taken f i) (among_contained y (item_taken f i) c))

  -- the object is defined where something about it is
  object_defined : (t : List Item) → IsTurnedTrail f t → (v : ValueId) → IsDefinedOn f t v → About v → IsDefinedOn f t object
  object_defined [] h v made about = absurd (false≢true made)
  object_defined (i ∷ t) h v made about = at (makes f v i) refl (object_defined t (turned_older f i t h))
    where
      at : (x : Bool) → makes f v i ≡ x → ((w : ValueId) → IsDefinedOn f t w → About w → IsDefinedOn f t object) → IsDefinedOn f (i ∷ t) object
      at true is more = by (about_taken m n f a object i v is about)
        where
          by : IsAboutTaken (declarations_of m) f i object v → IsDefinedOn f (i ∷ t) object
          by (inl same) = subst (IsDefinedOn f (i ∷ t)) same made
          by (inr (y, c, its)) = or_right (makes f object i) (list_any (makes f object) t) (more y.value (before_item t i h y c) its)
      at false is more = or_right (makes f object i) (list_any (makes f object) t) (more v (sym (ap (λ x. x || list_any (makes f v) t) is) ∙ made) about)

  turned : (w : List EdgeId) (before : List Item) (i : Item) → IsTrail (flow_of f) w (before ++ i ∷ []) → IsTurnedTrail f (i ∷ reverse before)
  turned w before i trail = (w, subst (λ v. IsTrail (flow_of f) w (v ++ i ∷ [])) (sym (reverse-reverse before)) trail)

  abbrev IsStopOf : ValueId → Stop → Type 0
  IsStopOf v s = (i : Item) → IsItem f i → makes f v i ≡ is_at (flow_of f) s i

  made_at : (v : ValueId) (s : Stop) → IsStopOf v s → (t : List Item) → IsTurnedTrail f t → Each (λ i. makes f v i ≡ is_at (flow_of f) s i) t
  made_at v s stop t h = each_weaker (IsItem f) (λ i. makes f v i ≡ is_at (flow_of f) s i) stop t (are_of_items f t h)

  stops_before : (v : ValueId) (s : Stop) → IsStopOf v s → (before : List Item) → IsTurnedTrail f (reverse before) → IsDefinedOn f (reverse before) v
      → list_any (is_at (flow_of f) s) before ≡ true
  stops_before v s stop before h made =
      sym (any_reversed (is_at (flow_of f) s) before)
      ∙ sym (any_alike (makes f v) (is_at (flow_of f) s) (reverse before) (made_at v s stop (reverse before) h)) ∙ made

  object_precedes : (v : ValueId) (r s : Stop) → IsStopOf object r → IsStopOf v s → About v → (v ≡ object → ⊥) → Precedes (flow_of f) r s
  object_precedes v r s at_object at_v about other w before i trail here =
      let h = turned w before i trail in
      let older = turned_older f i (reverse before) h in
      stops_before object r at_object before older
      (by (reverse before) h older (about_taken m n f a object i v (at_v i (turned_item f i (reverse before) h) ∙ here) about))
    where
      by : (t : List Item) → IsTurnedTrail f (i ∷ t) → IsTurnedTrail f t → IsAboutTaken (declarations_of m) f i object v → IsDefinedOn f t object
      by t h older (inl same) = absurd (other same)
      by t h older (inr (y, c, its)) = object_defined t older y.value (before_item t i h y c) its

  taken_precedes : (v : ValueId) (s : Stop) → IsStopOf v s → (i : Item) → IsTakenAt i v → Precedes (flow_of f) s (item i)
  taken_precedes v s at_v i among w before j trail here =
      let h = turned w before j trail in
      let older = turned_older f j (reverse before) h in
      let same : j ≡ i = same_item-true j i here in
      stops_before v s at_v before older
      (taken_before m n f a (reverse before) j h v (ap (λ k. list_any (λ (y : Taken). y.value.0 == v.0) (item_taken f k)) same ∙ among))

  stop_of : (v : ValueId) (t : List Item) → IsTurnedTrail f t → IsDefinedOn f t v → (s : Stop) × IsStopOf v s
  stop_of v t h made = let i = picked (makes f v) (IsItem f) t (are_of_items f t h) made in made_at_stops m n f a v i.0 i.2 i.1

  as_made : (t : List Item) (i : Item) → IsTurnedTrail f (i ∷ t) → (v : ValueId) → IsTakenAt i v → About v → IsAsMade f t object v
  as_made t i h v among about = record { defined = defined; since = at (v.0 == object.0) refl }
    where
      made : IsDefinedOn f t v
      made = taken_before m n f a t i h v among

      older : IsTurnedTrail f t
      older = turned_older f i t h

      defined : IsDefinedOn f t object
      defined = object_defined t older v made about

      at : (x : Bool) → (v.0 == object.0) ≡ x → is_none_since (makes f object) (makes f v) t ≡ true
      at true is =
          subst (λ u. is_none_since (makes f u) (makes f v) t ≡ true) (ap value_of (eqb-true v.0 object.0 is)) (since_itself (makes f v) t made)
      at false is =
          let r = stop_of object t older defined in
          let s = stop_of v t older made in
          let differ : v ≡ object → ⊥ = λ same. true≢false (sym (eq-eqb v.0 object.0 (ap (λ (x : ValueId). x.0) same)) ∙ is) in
          since_alike (makes f object) (makes f v) (is_at (flow_of f) r.0) (is_at (flow_of f) s.0) t (made_at object r.0 r.1 t older) (made_at v s.0 s.1 t older)
          ∙ are_spliced f r.0 s.0 (item i) (object_precedes v r.0 s.0 r.1 s.1 about differ) (taken_precedes v s.0 s.1 i among) t i h (same_one i)

pub about_as_made : AreAboutAsMade
about_as_made m n f a t i h y c object about =
    as_made m n f a object t i (are_trails f (accepted_in m n f a).once (i ∷ t) h) y.value (among_any y (item_taken f i) (among_contained y (item_taken f i) c)) about
