-- Rows that hand on their operand, or name a field or a member: what the result names, the operand named, or what the operand is about it is about.
use Rattle.std.proofs.Common.{◌≡◌, inl, ℕ, zero, suc, List, [], ◌∷◌, refl, sym, ap, ◌∙◌, subst, true, false, Some}
use Rattle.std.specs.Prelude.{Contains, slice_get}
use Rattle.std.proofs.lemmas.Bool.{false≢true}
use Rattle.std.proofs.lemmas.Option.{none-some, same_Some}
use Rattle.instruction_table.specs.declared.op.Op.{Op}
use Rattle.instruction_table.specs.declared.op.Op.TheVariants as op
use Rattle.sil_verifier_frames.specs.sil_verifier_trails.AcceptedTrails.inner.Defined.{makes}
use Rattle.sil_verifier_frames.specs.holder_model.Data.{AddressOf, Datum, ValueOf}
use Rattle.sil_verifier_frames.specs.holder_model.Effects as effects
use Rattle.sil_verifier_frames.specs.holder_model.Effects.{Change, effect_of, unchanged}
use Rattle.sil_verifier_frames.specs.holder_model.Frames.{Frame, Operands}
use Rattle.sil_verifier_frames.specs.holder_model.MemoryEffects.{effect}
use Rattle.sil_verifier_frames.specs.holder_model.ModuleShapes.{shapes_of}
use Rattle.sil_verifier_frames.specs.holder_model.States.{Runs, Task}
use Rattle.sil_verifier_frames.specs.holder_model.declared.row_effect.RowEffect.TheVariants as row
use Rattle.sil_verifier_frames.specs.memory_rules_accesses.Operations.{access_kind_of}
use Rattle.sil_verifier_frames.specs.memory_rules_accesses.Sources.{is_trivial_member, sources_of}
use Rattle.sil_verifier_frames.specs.memory_rules_accesses.declared.location.Location.{Location}
use Rattle.sil_verifier_frames.proofs.sil_verifier_trails.AcceptedPlaces.Fields.{has_among}
use Rattle.sil_verifier_frames.specs.holder_model_laws.HolderLaws.inner.Built.Building.{IsFieldAddress}
use Rattle.sil_verifier_frames.specs.holder_model_laws.HolderLaws.inner.Built.FrameObjects.{IsInField, Names}
use Rattle.sil_verifier_frames.specs.holder_model_laws.HolderLaws.inner.Built.Laws.{GoesOn, MayBegin}
use Rattle.sil_verifier_frames.proofs.holder_model_laws.HolderLaws.Built.Handing as handing
use Rattle.sil_cfg_items.specs.Items.{item_defined, item_taken}
use Rattle.sil_cfg_items.specs.Parts.{inst_at}
use Rattle.sil_cfg_items.specs.declared.taken.Taken.{Taken}
use Rattle.numbered_form.proofs.PointChecks.Among.{contained_among}
use Rattle.holder_model_values.specs.RunValues.Memory.{Memory, object_at}
use Rattle.holder_model_values.specs.RunValues.Places.{Place}
use Rattle.holder_model_values.specs.RunValues.Shapes.{Shape}
use Rattle.holder_model_values.specs.RunValues.Values as value
use Rattle.holder_model_values.specs.RunValues.Values.{Value, object_of}
use Rattle.sil_ast.specs.declared.function.Function.{Function}
use Rattle.sil_ast.specs.declared.inst.Inst.{Inst}
use Rattle.sil_ast.specs.declared.module.Module.{Module}
use Rattle.sil_ast.specs.declared.place.ObjectId.{ObjectId}
use Rattle.sil_ast.specs.declared.place.PointId.{PointId}
use Rattle.sil_ast.specs.declared.place.ValueId.{ValueId}
use Rattle.sil_cfg.specs.declared.item.Item.TheVariants as item
use Rattle.sil_types_declarations.specs.TypeDefinitions.Declarations.{declarations_of}
use Rattle.numbered_form.specs.ValueTables.FirstValue.{first_value}
use Rattle.sil_verifier_runs.specs.inner.Built.Said.{said}
use Rattle.sil_verifier_runs.proofs.Built.Apart.{keeps_apart}
use Rattle.sil_verifier_runs.proofs.Built.EntriesNamed.{AreNamed}
use Rattle.sil_verifier_runs.proofs.Built.FieldPlaces.{fields_placed, members_placed}
use Rattle.sil_verifier_runs.proofs.Built.Filling.{fills_none, stores}
use Rattle.sil_verifier_runs.proofs.Built.GivenValues.{TakesOne, has_value, one_given, takes_one}
use Rattle.sil_verifier_runs.proofs.Built.GoesOn.{GivesOn, borrow_goes, field_goes, field_source_is, first_is, gives_on, lends, member_goes, moves}
use Rattle.sil_verifier_runs.proofs.Built.GoesOn.{names_field, names_member, part_source_is, upcast_goes, upcasts}
use Rattle.sil_verifier_runs.proofs.Built.ItemsDone.{IsQuietly, MakesNone, WritesNone, makes_object, may_behind, stack_stays, whole_may}
use Rattle.sil_verifier_runs.proofs.Built.PlaceForms.{gives_place, is_handing, made_row}
use Rattle.sil_verifier_runs.proofs.Built.RowChanges.{Gives, NamesField, NamesMember, gave, named_field, named_member}
use Rattle.sil_verifier_runs.proofs.Built.WholeOperands.{IsValueOf, Ready, holds_objects, no_address, whole_value}

-- ---- rows

-- such a row writes nothing and makes nothing
pub record HandsOn (o : Op) : Type 0 where
  pub writes : stores (access_kind_of o) ≡ false
  pub makes : makes_object (access_kind_of o) ≡ false

pub handing_row : (o : Op) → is_handing (effect_of o) ≡ true → HandsOn o
handing_row op.MoveValue e = record { writes = refl; makes = refl }
handing_row op.BeginBorrow e = record { writes = refl; makes = refl }
handing_row op.Upcast e = record { writes = refl; makes = refl }
handing_row op.StructElementAddr e = record { writes = refl; makes = refl }
handing_row op.TupleElementAddr e = record { writes = refl; makes = refl }
handing_row op.RefElementAddr e = record { writes = refl; makes = refl }
handing_row _ e = absurd (false≢true e)

only_datum : (z y : Datum) (k : ℕ) → slice_get (z ∷ []) k ≡ Some y → z ≡ y
only_datum z y zero e = same_Some z y e
only_datum z y (suc k) e = absurd (none-some y e)

object_value : (v : Value) (o : ObjectId) → object_of v ≡ Some o → v ≡ value.Object o
object_value (value.Int n) o e = absurd (none-some o e)
object_value (value.Object q) o e = ap (λ z. value.Object z) (same_Some q o e)
object_value (value.Group members) o e = absurd (none-some o e)
object_value (value.Case index) o e = absurd (none-some o e)
object_value (value.Full index payload) o e = absurd (none-some o e)

module _ (m : Module) (memory : Memory) (rest : List (Task Frame)) (frame : Frame) (f : Function) (p : PointId) (ops : Operands)
    (ready : Ready m memory rest frame f (item.Inst p) ops) (x : Inst) (is : inst_at f p ≡ Some x) where
  abbrev Quietly : Change → Type 0
  Quietly c = IsQuietly m memory rest frame f (item.Inst p) ops.left c

  abbrev May : ValueId → Datum → Type 0
  May v z = MayBegin (shapes_of m) (sources_of (declarations_of m) f) (said m f frame.trail) memory ops.left v z

  -- the one operand
  one_operand : (z : Datum) → ops.given ≡ z ∷ [] → TakesOne m frame.function.0 f ready.doing.body ready.w memory frame.entries ops.left ready.entries p x is z
  one_operand z given =
      takes_one m frame.function.0 f ready.doing.body ready.w memory frame.entries ops.left ready.entries p x is z
      (subst (AreNamed memory frame.entries ops.left (item_taken f (item.Inst p))) given ready.named)

  among_one : (y : Taken) → item_taken f (item.Inst p) ≡ y ∷ [] → Contains (item_taken f (item.Inst p)) y
  among_one y alone = subst (λ ts. Contains ts y) (sym alone) (contained_among y (y ∷ []) (inl refl))

  -- ---- what it leaves alone

  module _ (hands : HandsOn x.op) where
    same_inst : (y : Inst) → inst_at f p ≡ Some y → x ≡ y
    same_inst y so = same_Some x y (sym is ∙ so)

    pub makes_none : MakesNone m memory rest frame f (item.Inst p) ops.left
    makes_none y so = subst (λ (z : Inst). makes_object (access_kind_of z.op) ≡ false) (same_inst y so) hands.makes

    pub writes_none : WritesNone m memory rest frame f (item.Inst p) ops.left
    writes_none object k =
        inl (fills_none m frame.function.0 f ready.doing.body (item.Inst p) object k
        (λ y so. subst (λ (z : Inst). stores (access_kind_of z.op) ≡ false) (same_inst y so) hands.writes))

  -- one result, in the same memory
  one_result : (z : Datum) → ((v : ValueId) → makes f v (item.Inst p) ≡ true → May v z) → Quietly (record (unchanged memory) { results = z ∷ [] })
  one_result z may = record {
    whole = ready.doing.stands.whole;
    stays = stack_stays m memory memory (Runs frame ∷ rest) (ready.doing.stands.whole, λ o whole. whole) refl;
    dropped = tt;
    may = λ v y made begun. subst (May v) (only_datum z y begun.place begun.datum) (may v made);
  }

  -- ---- the operand itself

  module _ (c : Change) (values : List Shape) (made : effect (declarations_of m) (shapes_of m) values memory x ops.given ≡ effects.Makes c) where
    module _ (e : effect_of x.op ≡ row.GivesOperand) where
      left : Gives (declarations_of m) (shapes_of m) values memory x ops.given c made
      left = gave (declarations_of m) (shapes_of m) values memory x ops.given c made e

      one : TakesOne m frame.function.0 f ready.doing.body ready.w memory frame.entries ops.left ready.entries p x is left.datum
      one = one_operand left.datum left.given

      value_of : IsValueOf left.datum
      value_of =
          one_given m frame.function.0 f ready.doing.body ready.w memory frame.entries ops.left ready.entries p x is (ap has_value e) left.datum
          (subst (AreNamed memory frame.entries ops.left (item_taken f (item.Inst p))) left.given ready.named)

      names : Names frame.entries one.taken.value (ValueOf value_of.0)
      names = one.names ∙ ap (λ z. Some z) value_of.1

      nowhere : (l : Location) (of : ValueId) (k : ℕ) → IsFieldAddress (sources_of (declarations_of m) f) one.taken.value l of k → ⊥
      nowhere = no_address m memory rest frame f (item.Inst p) ops ready one.taken (among_one one.taken one.alone) value_of.0 names

      again : (v : ValueId) → GoesOn (sources_of (declarations_of m) f) (said m f frame.trail) one.taken.value v → May v left.datum
      again v goes =
          subst (May v) (sym value_of.1)
          (may_behind m memory rest frame f (item.Inst p) ops.left ready.doing memory v (ValueOf value_of.0)
          (handing.begin_again (shapes_of m) (sources_of (declarations_of m) f) (said m f frame.trail) memory frame.entries
          (holds_objects m memory rest frame f (item.Inst p) ops ready) one.taken.value v value_of.0 names goes))

      may : (how : GivesOn x.op) (v : ValueId) → makes f v (item.Inst p) ≡ true → May v left.datum
      may (moves keeps takes) v made_it =
          subst (May v) (sym value_of.1)
          (whole_may m memory rest frame f (item.Inst p) ops.left ready.doing memory
          (λ y so. subst (λ (z : Inst). keeps_apart (access_kind_of z.op) ≡ true) (same_Some x y (sym is ∙ so)) keeps) v (ValueOf value_of.0) made_it
          (whole_value m memory rest frame f (item.Inst p) ops ready x is takes one.taken (among_one one.taken one.alone) value_of.0 names))
      may (lends kind none) v made_it =
          again v (borrow_goes m frame.function.0 f ready.doing.body frame.trail p ready.doing.trail x is one.taken one.alone v made_it kind none nowhere)
      may (upcasts kind none) v made_it =
          again v (upcast_goes m frame.function.0 f ready.doing.body frame.trail p ready.doing.trail x is one.taken one.alone v made_it kind none nowhere)

      pub gives_quietly : Quietly c
      gives_quietly = subst Quietly (sym left.is) (one_result left.datum (may (gives_on x.op e)))

    -- ---- a member

    module _ (e : effect_of x.op ≡ row.AddressesMember) where
      member_left : NamesMember (declarations_of m) (shapes_of m) values memory x ops.given c made
      member_left = named_member (declarations_of m) (shapes_of m) values memory x ops.given c made e

      member_one : TakesOne m frame.function.0 f ready.doing.body ready.w memory frame.entries ops.left ready.entries p x is (AddressOf member_left.at)
      member_one = one_operand (AddressOf member_left.at) member_left.given

      member_first : first_value x ≡ Some member_one.taken.value
      member_first = first_is m frame.function.0 f ready.doing.body frame.trail p ready.doing.trail x is member_one.taken member_one.alone

      member_may : (v : ValueId) → makes f v (item.Inst p) ≡ true → May v (AddressOf member_left.place)
      member_may v made_it =
          let rows = names_member x.op e in
          let goes =
          member_goes m frame.function.0 f ready.doing.body frame.trail p ready.doing.trail x is member_one.taken member_one.alone v made_it rows.1 (ap gives_place e)
          member_left.number
          (made_row m frame.function.0 f ready.doing.body p x is v made_it
          ∙ part_source_is (declarations_of m) x member_left.number member_left.part member_one.taken.value member_first rows.0) in
          may_behind m memory rest frame f (item.Inst p) ops.left ready.doing memory v (AddressOf member_left.place)
          (handing.name_member (shapes_of m) (sources_of (declarations_of m) f) (said m f frame.trail) memory frame.entries
          (holds_objects m memory rest frame f (item.Inst p) ops ready) member_one.taken.value v member_left.at member_one.names goes member_left.number member_left.place
          member_left.member
          (members_placed m frame.function.0 f ready.doing.body p x is e v
          (contained_among v (item_defined f (item.Inst p)) (has_among (item_defined f (item.Inst p)) v made_it)) member_one.taken.value member_first))

      pub member_quietly : Quietly c
      member_quietly = subst Quietly (sym member_left.is) (one_result (AddressOf member_left.place) member_may)

    -- ---- a field

    module _ (e : effect_of x.op ≡ row.AddressesField) where
      field_left : NamesField (declarations_of m) (shapes_of m) values memory x ops.given c made
      field_left = named_field (declarations_of m) (shapes_of m) values memory x ops.given c made e

      field_one : TakesOne m frame.function.0 f ready.doing.body ready.w memory frame.entries ops.left ready.entries p x is (ValueOf field_left.from)
      field_one = one_operand (ValueOf field_left.from) field_left.given

      field_names : Names frame.entries field_one.taken.value (ValueOf (value.Object field_left.object))
      field_names = field_one.names ∙ ap (λ z. Some (ValueOf z)) (object_value field_left.from field_left.object field_left.object_is)

      field_first : first_value x ≡ Some field_one.taken.value
      field_first = first_is m frame.function.0 f ready.doing.body frame.trail p ready.doing.trail x is field_one.taken field_one.alone

      field_may : (v : ValueId) → makes f v (item.Inst p) ≡ true → May v (AddressOf field_left.place)
      field_may v made_it =
          let names = names_field x.op e in
          let goes =
          field_goes m frame.function.0 f ready.doing.body frame.trail p ready.doing.trail x is field_one.taken field_one.alone v made_it names
          field_left.number (is_trivial_member (declarations_of m) x.member)
          (made_row m frame.function.0 f ready.doing.body p x is v made_it
          ∙ field_source_is (declarations_of m) x field_left.number field_left.part field_one.taken.value field_first names)
          (no_address m memory rest frame f (item.Inst p) ops ready field_one.taken (among_one field_one.taken field_one.alone) field_left.from field_one.names) in
          may_behind m memory rest frame f (item.Inst p) ops.left ready.doing memory v (AddressOf field_left.place)
          (handing.name_field (shapes_of m) (sources_of (declarations_of m) f) (said m f frame.trail) memory frame.entries
          (holds_objects m memory rest frame f (item.Inst p) ops ready) field_one.taken.value v field_left.object field_names goes field_left.place
          (ap (λ (q : Place). q.home) field_left.place_is)
          (λ l of k at. subst (IsInField (shapes_of m) field_left.object (object_at memory field_left.object) l k) (sym field_left.place_is)
          (fields_placed m frame.function.0 f ready.doing.body ready.w ready.of memory ready.typed frame.entries ready.entries p x is e v
          (contained_among v (item_defined f (item.Inst p)) (has_among (item_defined f (item.Inst p)) v made_it)) field_one.taken.value field_first
          field_left.object field_names field_left.named field_left.number field_left.shape field_left.member field_left.part field_left.there l of k at)))

      pub field_quietly : Quietly c
      field_quietly = subst Quietly (sym field_left.is) (one_result (AddressOf field_left.place) field_may)
