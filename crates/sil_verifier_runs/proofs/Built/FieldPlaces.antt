-- The address of a field names a place of the operand's object, and that of a member a place within the one that its operand names.
use Rattle.std.proofs.Common.{◌≡◌, ◌≤◌, ◌<◌, ℕ, List, [], ◌∷◌, ◌++◌, length, map, refl, sym, ap, ◌∙◌, subst, arith, true, false, Option, Some, None}
use Rattle.std.specs.Prelude.{Contains, slice_get}
use Rattle.std.proofs.lemmas.Option.{same_Some, slice_get_within}
use Rattle.sil_verifier_frames.specs.holder_model.Data.{ValueOf}
use Rattle.sil_verifier_frames.specs.holder_model.Effects.{effect_of, part_number, part_number_by}
use Rattle.sil_verifier_frames.specs.holder_model.Frames.{Entry}
use Rattle.sil_verifier_frames.specs.holder_model.ModuleShapes.{field_shapes, shapes_of}
use Rattle.sil_verifier_frames.specs.holder_model.declared.row_effect.RowEffect.TheVariants as row
use Rattle.sil_verifier_frames.specs.memory_rules_accesses.Locations.{whole}
use Rattle.sil_verifier_frames.specs.memory_rules_accesses.Operations.{access_kind_of}
use Rattle.sil_verifier_frames.specs.memory_rules_accesses.Rows.{has_steps, is_part}
use Rattle.sil_verifier_frames.specs.memory_rules_accesses.Sources.{element_place, field_source, is_trivial_member, member_place, part_source, result_source, source_at, source_by}
use Rattle.sil_verifier_frames.specs.memory_rules_accesses.Sources.{sources_of}
use Rattle.sil_verifier_frames.specs.memory_rules_accesses.declared.location.Location.{Location}
use Rattle.sil_verifier_frames.specs.memory_rules_accesses.declared.source.Source.{Source}
use Rattle.sil_verifier_frames.specs.memory_rules_accesses.declared.source.Source.TheVariants as source
use Rattle.sil_verifier_frames.proofs.sil_verifier_trails.AcceptedPlaces.Locating.{member_location, root_location}
use Rattle.sil_verifier_frames.proofs.sil_verifier_trails.AcceptedPlaces.Made.{results_so}
use Rattle.sil_verifier_frames.proofs.sil_verifier_trails.AcceptedPlaces.PartsThere.{each_where_among}
use Rattle.sil_verifier_frames.specs.sil_verifier_trails.AcceptedPlaces.inner.Located.{IsRoot}
use Rattle.sil_verifier_frames.specs.sil_verifier_trails.AcceptedPlaces.inner.Located as located
use Rattle.sil_verifier_frames.specs.sil_verifier_values.inner.Known.{IsAcceptedBody}
use Rattle.sil_verifier_frames.specs.holder_model.RunTyping.EndForms.{value_in}
use Rattle.sil_verifier_frames.specs.holder_model.RunTyping.Forms.{OfValue, form_of, forms_of}
use Rattle.sil_verifier_frames.proofs.sil_verifier_values.Accepted.{in_ownership_form, well_typed}
use Rattle.sil_verifier_frames.specs.holder_model_laws.HolderLaws.inner.Built.Building.{IsFieldAddress}
use Rattle.sil_verifier_frames.specs.holder_model_laws.HolderLaws.inner.Built.FrameObjects.{IsInField, Names, fields_of_object, place_of_field}
use Rattle.instruction_table.specs.Forms.{detail_of}
use Rattle.instruction_table.specs.declared.op.Op.{Op}
use Rattle.instruction_table.specs.declared.op.Op.TheVariants as op
use Rattle.sil_cfg_items.specs.Items.{item_defined}
use Rattle.sil_cfg_items.specs.Parts.{inst_at}
use Rattle.sil_verifier_frames.specs.holder_model_laws.HolderLaws.inner.Cells.Cells.{has_cell}
use Rattle.sil_verifier_frames.proofs.holder_model_typing.OwnedRunTyping.OwnedInsts.{owned_inst}
use Rattle.sil_verifier_frames.proofs.holder_model_typing.RunTypingLaws.Rows.Points.{in_front}
use Rattle.numbered_form.proofs.PointChecks.Among.{among_contained}
use Rattle.holder_model_values.specs.RunValues.Memory.{Memory, object_at}
use Rattle.holder_model_values.specs.RunValues.Places.{Inside, field_in, offset}
use Rattle.holder_model_values.specs.RunValues.Shapes.{Reference, Shape}
use Rattle.holder_model_values.specs.RunValues.Values as value
use Rattle.sil_ast.specs.declared.function.Function.{Function}
use Rattle.sil_ast.specs.declared.inst.Inst.{Inst}
use Rattle.sil_ast.specs.declared.member.Member.{Member}
use Rattle.sil_ast.specs.declared.module.Module.{Module}
use Rattle.sil_ast.specs.declared.place.ObjectId.{ObjectId}
use Rattle.sil_ast.specs.declared.place.PointId.{PointId}
use Rattle.sil_ast.specs.declared.place.ValueId.{ValueId}
use Rattle.sil_cfg.specs.declared.item.Item.TheVariants as item
use Rattle.sil_types_declarations.specs.TypeDefinitions.Declarations.{Declarations, declarations_of, is_class}
use Rattle.sil_verifier_frames.specs.inner.Typed.TypedStates.{EntriesAre}
use Rattle.sil_verifier_frames.specs.holder_model_typing.TypedMemory.inner.Worlds.{IsWorldOf, MemoryIs, Suits, World, names}
use Rattle.sil_verifier_frames.proofs.Typed.Data.{read_value}
use Rattle.sil_verifier_frames.proofs.holder_model_typing.TypedMemory.Growth.{offset_front}
use Rattle.sil_verifier_frames.proofs.holder_model_typing.TypedMemory.Homes.{object_is}
use Rattle.sil_verifier_frames.proofs.holder_model_typing.TypedMemory.Naming.{NamedBy, each_at, named_by}
use Rattle.numbered_form.specs.ValueTables.FirstValue.{first_value}
use Rattle.sil_verifier_runs.specs.inner.Built.FieldPlaces.{AreFieldsPlaced, AreMembersPlaced}
use Rattle.sil_verifier_runs.proofs.Built.About.{unlocated}
use Rattle.sil_verifier_runs.proofs.Built.Classes.{first_by, sound}
use Rattle.sil_verifier_runs.proofs.Built.ObjectRows.{declared, object_row, of_objects}
use Rattle.sil_verifier_runs.proofs.Built.Reading.{named_datum}

-- ---- by the row

field_op : (o : Op) → effect_of o ≡ row.AddressesField → o ≡ op.RefElementAddr
field_op op.RefElementAddr e = refl
field_op _ e = absurd (cc)

-- a member, or an element
abbrev IsPartSource : Declarations → Inst → Op → Type 0
IsPartSource d x o = (k : Option ℕ) × (source_by (access_kind_of o) d x ≡ part_source (first_value x) k)

part_op : (d : Declarations) (x : Inst) (o : Op) → effect_of o ≡ row.AddressesMember → IsPartSource d x o
part_op d x op.StructElementAddr e = (member_place d x.member, refl)
part_op d x op.TupleElementAddr e = (element_place x.number, refl)
part_op d x _ e = absurd (cc)

steps_behind : (path : List ℕ) (k : ℕ) → has_steps (path ++ k ∷ []) ≡ true
steps_behind [] k = refl
steps_behind (j ∷ path) k = refl

module _ (m : Module) (n : ℕ) (f : Function) (a : IsAcceptedBody m n f) (p : PointId) (x : Inst) (is : inst_at f p ≡ Some x)
    (v : ValueId) (among : Contains (item_defined f (item.Inst p)) v) (y : ValueId) (first : first_value x ≡ Some y)
    (l : Location) (of : ValueId) (k : ℕ) (address : IsFieldAddress (sources_of (declarations_of m) f) v l of k) where
  abbrev d : Declarations
  d = declarations_of m

  abbrev sources : List Source
  sources = sources_of d f

  its_source : source_at sources v ≡ result_source d x
  its_source =
      each_where_among (λ w. source_at sources w ≡ result_source d x) (item_defined f (item.Inst p)) v (results_so m n f a p x is)
      (among_contained v (item_defined f (item.Inst p)) among)

  -- ---- members

  member_at : (o : Option ℕ) → source_at sources v ≡ part_source (Some y) o → (is_part l ≡ true) × ((u : Location) × IsFieldAddress sources y u of k)
  member_at None e =
      absurd (unlocated sources v (length sources) v l source.Other e (λ others. refl) address.at)
  member_at (Some j) e =
      let inner = member_location m n f a v y j e l address.at in (
        ap is_part inner.2 ∙ steps_behind inner.0.path j,
        (inner.0, record { at = inner.1; trivial = address.trivial; is = sym (ap (λ (u : Location). source_at sources u.root) inner.2) ∙ address.is }),
      )

  member_placed : effect_of x.op ≡ row.AddressesMember → (is_part l ≡ true) × ((u : Location) × IsFieldAddress sources y u of k)
  member_placed effect =
      let part = part_op d x x.op effect in member_at part.0 (its_source ∙ part.1 ∙ ap (λ o. part_source o part.0) first)

  -- ---- fields

  module _ (effect : effect_of x.op ≡ row.AddressesField) (member : Member) (number : ℕ) (s : Shape) (named : x.member ≡ Some member) (counted : part_number d x ≡ Some number)
      (there : slice_get (field_shapes (shapes_of m) member.owner) number ≡ Some s) where
    op_is : x.op ≡ op.RefElementAddr
    op_is = field_op x.op effect

    numbered : member_place d x.member ≡ Some number
    numbered = sym (ap (λ o. part_number_by (detail_of o) d x) op_is) ∙ counted

    field_at : source_at sources v ≡ source.Field y number (is_trivial_member d x.member)
    field_at =
        its_source ∙ ap (λ o. source_by (access_kind_of o) d x) op_is
        ∙ ap (λ o. field_source o (member_place d x.member) (is_trivial_member d x.member)) first
        ∙ ap (λ o. field_source (Some y) o (is_trivial_member d x.member)) numbered

    whole_is : l ≡ whole v
    whole_is = same_Some l (whole v) (sym address.at ∙ root_location m n f a v (subst IsRoot (sym field_at) located.field))

    number_is : number ≡ k
    number_is =
        let two : source.Field y number (is_trivial_member d x.member) ≡ source.Field of k address.trivial =
        sym field_at ∙ sym (ap (λ (u : Location). source_at sources u.root) whole_is) ∙ address.is in
        cc

    module _ (w : World) (world : IsWorldOf m w) (memory : Memory) (typed : MemoryIs m w memory) (entries : List Entry) (entries_typed : EntriesAre m w f entries)
        (o : ObjectId) (held : Names entries y (ValueOf (value.Object o))) where
      abbrev shapes : List Shape
      shapes = field_shapes (shapes_of m) member.owner

      operand_form : form_of d f y ≡ OfValue (Reference member.owner)
      operand_form =
          declared m x (forms_of d f (map value_in x.operands)) (forms_of d f x.results)
          (object_row m x (forms_of d f (map value_in x.operands)) (forms_of d f x.results)
          (owned_inst m (well_typed m a.verified) n f a.body.there p x is (in_ownership_form m n f a)).row (ap of_objects effect))
          effect member named (form_of d f y) (first_by m n f a x.operands y first)

      suited : names m w member.owner o ≡ true
      suited =
          let read = read_value m w (named_datum m w f entries entries_typed y (ValueOf (value.Object o)) held) (Reference member.owner) operand_form in
          let same : read.0 ≡ value.Object o = let e = read.1 in cc in
          subst (Suits m w (Reference member.owner)) same read.2

      own : NamedBy m w member.owner o
      own = named_by m w member.owner o suited

      more : (more : List Shape) × (field_shapes (shapes_of m) own.own ≡ shapes ++ more)
      more =
          (sound m n f a).fields own.own member.owner (each_at (λ c. is_class d c ≡ true) w.classes o.0 own.own world own.there) own.is

      all_fields : fields_of_object (shapes_of m) (object_at memory o) ≡ shapes ++ more.0
      all_fields = ap (field_shapes (shapes_of m)) (object_is m w memory typed o own.own own.there).is ∙ more.1

      within : number ≤ length shapes
      within = let lt : number < length shapes = slice_get_within shapes number s there in omega arith

      same_place : place_of_field (shapes_of m) o (object_at memory o) number s ≡ field_in o shapes number s
      same_place =
          ap (λ first. record { home = Inside o; first = first; shape = s; is_part = false })
          (ap (λ ss. offset ss number) all_fields ∙ offset_front shapes more.0 number within)

      in_field : IsInField (shapes_of m) o (object_at memory o) l number (field_in o shapes number s)
      in_field = record {
        shape = s;
        there = ap (λ ss. slice_get ss number) all_fields ∙ in_front shapes more.0 number s there;
        home = refl;
        part = sym (ap is_part whole_is);
        within = λ c has. subst (λ q. has_cell q c ≡ true) (sym same_place) has;
        whole = λ all c has. subst (λ q. has_cell q c ≡ true) same_place has;
      }

      field_placed : IsInField (shapes_of m) o (object_at memory o) l k (field_in o shapes number s)
      field_placed = subst (λ j. IsInField (shapes_of m) o (object_at memory o) l j (field_in o shapes number s)) number_is in_field

pub members_placed : AreMembersPlaced
members_placed m n f a p x is effect v among y first l of k address = member_placed m n f a p x is v among y first l of k address effect

pub fields_placed : AreFieldsPlaced
fields_placed m n f a w world memory typed entries entries_typed p x is effect v among y first o held member number s named counted there l of k address =
    field_placed m n f a p x is v among y first l of k address effect member number s named counted there w world memory typed entries entries_typed o held
