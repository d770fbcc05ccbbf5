-- A row that takes a struct or tuple of a typed state apart finds what it needs: as many members as results, and none with the number of the whole.
use Rattle.std.proofs.Common.{◌≡◌, ◌+◌, ◌<◌, List, [], ◌∷◌, length, map, refl, sym, ap, ap₂, ◌∙◌, subst, arith, Bool, true, false}
use Rattle.std.specs.Prelude.{◌==◌}
use Rattle.std.proofs.lemmas.Bool.{eqb-true}
use Rattle.std.proofs.lemmas.List.{length-map}
use Rattle.instruction_table.specs.declared.op.Op.{Op}
use Rattle.instruction_table.specs.declared.op.Op.TheVariants as op
use Rattle.numbered_form.specs.Lists.{Each}
use Rattle.sil_ast.specs.declared.function.Function.{Function}
use Rattle.sil_ast.specs.declared.inst.Inst.{Inst}
use Rattle.sil_ast.specs.declared.module.Module.{Module}
use Rattle.sil_ast.specs.declared.operands.Operand.{Operand}
use Rattle.sil_ast.specs.declared.place.PointId.{PointId}
use Rattle.sil_ast.specs.declared.place.ValueId.{ValueId}
use Rattle.sil_types_declarations.specs.TypeDefinitions.Declarations.{Declarations, declarations_of}
use Rattle.holder_model_values.specs.RunValues.Shapes as shape
use Rattle.holder_model_values.specs.RunValues.Shapes.{Shape}
use Rattle.holder_model_values.proofs.ValueParts.Groups.{each_length}
use Rattle.sil_verifier_runs.specs.sil_verifier_values.inner.Known.{IsAcceptedBody}
use Rattle.sil_verifier_runs.specs.holder_model.RunTyping.Forms.{Form, OfValue, form_of}
use Rattle.sil_verifier_runs.specs.holder_model.Data.{Datum, ValueOf}
use Rattle.sil_verifier_runs.specs.holder_model.Effects.{Change, Effect, Makes, effect_by, effect_of, gives, unchanged, with_some}
use Rattle.sil_verifier_runs.specs.holder_model.Faults.{HolderFault}
use Rattle.sil_verifier_runs.specs.holder_model.Frames.{Frame, Operands}
use Rattle.sil_verifier_runs.specs.holder_model.HolderStates.{HolderState}
use Rattle.sil_verifier_runs.specs.holder_model.MemoryEffects.{at_places}
use Rattle.sil_verifier_runs.specs.holder_model.ModuleShapes.{shape_at, shapes_in, shapes_of}
use Rattle.sil_verifier_runs.specs.holder_model.Standing.{stands_at}
use Rattle.sil_verifier_runs.specs.holder_model.States.{Task}
use Rattle.sil_verifier_runs.specs.holder_model.declared.row_effect.RowEffect.{RowEffect}
use Rattle.sil_verifier_runs.specs.holder_model.declared.row_effect.RowEffect.TheVariants as row
use Rattle.sil_verifier_runs.specs.holder_model.LoweredRun.LowStepParts.{LowState}
use Rattle.ownership_lowering_laws.specs.ownership_lowering_model.LoweredInsts.{lowering_of}
use Rattle.ownership_lowering_laws.specs.ownership_lowering_model.LoweredModules.{lowered}
use Rattle.sil_verifier_runs.specs.ownership_kinds_origins.Renamings.{renames}
use Rattle.sil_verifier_runs.specs.sil_verifier_frames.inner.Typed.TypedStates.{FrameIs}
use Rattle.ownership_lowering_laws.specs.holder_model_typing.TypedMemory.inner.Worlds.{World, names}
use Rattle.sil_verifier_runs.proofs.sil_verifier_trails.AcceptedTrails.Tests.{same_value}
use Rattle.sil_verifier_runs.proofs.sil_verifier_frames.Typed.Data.{DataAre}
use Rattle.sil_verifier_runs.proofs.sil_verifier_frames.Typed.ShapesTold.{shape_in, shape_told}
use Rattle.ownership_lowering_laws.proofs.holder_model_typing.TypedMemory.Grouped.{Members, suits_group}
use Rattle.ownership_lowering_runs.specs.StoredRuns.inner.Lowering.{IsOwnName}
use Rattle.ownership_lowering_runs.specs.StoredRuns.inner.Names.{IsOld, lowered_number}
use Rattle.ownership_lowering_runs.specs.StoredRuns.inner.PlaceRows.{StandsAt, operand_value}
use Rattle.ownership_lowering_runs.specs.StoredRuns.inner.RowsRight.{RowRight, TakesApart, held_effect}
use Rattle.ownership_lowering_runs.proofs.StoredRuns.PlacesFound.{one_of}
use Rattle.ownership_lowering_runs.proofs.StoredRuns.StandsThere.{operands_old}
use Rattle.ownership_lowering_runs.proofs.StoredRuns.Typed.TypedInsts.{given_typed, operand_forms}
use Rattle.ownership_lowering_runs.proofs.StoredRuns.Typed.TypedPlainRows.{OneValue, one_value_of}
use Rattle.ownership_lowering_runs.proofs.SameRuns.TakenApart.{ApartSo, as_long, member_found, members_placed, members_smaller, size_of, sizes_of, struct_taken_apart, tuple_taken_apart}

-- which rows take apart
data PartsSo (o : Op) : Type 0 where
  fields : o ≡ op.DestructureStruct → PartsSo o
  elements : o ≡ op.DestructureTuple → PartsSo o

parts_op : (o : Op) → effect_of o ≡ row.GivesMembers → PartsSo o
parts_op op.DestructureStruct e = PartsSo.fields refl
parts_op op.DestructureTuple e = PartsSo.elements refl
parts_op _ e = absurd (cc)

module _ (m : Module) (s : HolderState) (l : LowState) (w : World) (frame : Frame) (rest : List (Task Frame)) (f : Function) (i : Inst) (ops : Operands) (c : Change)
    (a : IsAcceptedBody m frame.function.0 f) (frame_is : FrameIs m w f frame) (x : StandsAt m s l frame rest f i ops)
    (apart : effect_of i.op ≡ row.GivesMembers) (is : held_effect m s l frame f i ops ≡ Makes c) where
  abbrev d : Declarations
  d = declarations_of m

  abbrev p : PointId
  p = stands_at f frame.trail

  abbrev form : ValueId → Form
  form v = form_of d f v

  abbrev number : ValueId → ValueId
  number v = lowered_number d f v

  abbrev Right : Change → Type 0
  Right k = RowRight m s l frame f i ops k

  abbrev done : RowEffect → List Datum → Effect HolderFault
  done r xs =
      effect_by d (shapes_of m) (shapes_in (shapes_of m) frame.function) s.memory i
      (at_places d (shapes_of m) (shapes_in (shapes_of m) frame.function) s.memory i) r xs

  given : DataAre m w (operand_forms m f i) ops.given
  given = given_typed m s l w frame rest f i ops a frame_is x

  shape_is : (v : ValueId) (u : Shape) → form v ≡ OfValue u → shape_at (shapes_in (shapes_of m) frame.function) v ≡ u
  shape_is v u e = shape_told m frame.function f x.there v ∙ ap shape_in e

  module _ (so : ApartSo m frame.function.0 f a p i x.here) (keeps : renames i.op ≡ false) where
    o : (o : Operand) × (i.operands ≡ o ∷ [])
    o = one_of form i.operands (OfValue so.whole) so.ins

    y : OneValue m w so.whole ops.given
    y = one_value_of m w (operand_forms m f i) ops.given given so.whole so.ins

    parts : Members (names m w) so.parts y.value
    parts = suits_group (names m w) so.whole so.parts so.group y.value y.suits

    whole_is : form o.0.value ≡ OfValue so.whole
    whole_is =
        let all : form o.0.value ∷ [] ≡ OfValue so.whole ∷ [] = ap (λ os. map form (map operand_value os)) (sym o.1) ∙ so.ins in
        cc

    whole_old : IsOld f o.0.value
    whole_old = (subst (λ os. Each (IsOld f) (map operand_value os)) o.1 (operands_old m s l frame rest f i ops x)).0

    abbrev IsOther : ValueId → Type 0
    IsOther v = ((number o.0.value).0 == (number v).0) ≡ false

    -- a value of a smaller shape has another number
    other : (v : ValueId) (u : Shape) → form v ≡ OfValue u → IsOld f v → size_of u < size_of so.whole → IsOther v
    other v u v_is old less = at ((number o.0.value).0 == (number v).0) refl
      where
        at : (b : Bool) → ((number o.0.value).0 == (number v).0) ≡ b → b ≡ false
        at false e = refl
        at true e =
            let same : number o.0.value ≡ number v = same_value (number o.0.value) (number v) (eqb-true (number o.0.value).0 (number v).0 e) in
            let alike : so.whole ≡ u =
            sym (shape_is o.0.value so.whole whole_is) ∙ sym (x.lowers.shapes o.0.value whole_old)
            ∙ ap (shape_at (shapes_in (shapes_of (lowered m)) frame.function)) same ∙ x.lowers.shapes v old ∙ shape_is v u v_is in
            let sizes : size_of so.whole ≡ size_of u = ap size_of alike in
            absurd (omega (arith, sizes, less))

    all_other : (vs : List ValueId) (us : List Shape) → map form vs ≡ map OfValue us → sizes_of (shape.members_of us) < size_of so.whole → Each (IsOwnName f) vs
        → Each IsOther vs
    all_other [] us e less own = tt
    all_other (v ∷ vs) [] e less own = absurd (cc)
    all_other (v ∷ vs) (u ∷ us) e less own =
        let below : size_of u + sizes_of (shape.members_of us) < size_of so.whole = less in
        let first : size_of u < size_of so.whole = omega (arith, below) in
        let others : sizes_of (shape.members_of us) < size_of so.whole = omega (arith, below) in
        (other v u (cc) own.0.0 first, all_other vs us (cc) others own.1)

    takes_apart : TakesApart m s l frame f i ops o.0 y.value parts.values
    takes_apart = record {
      one = o.1;
      given = y.given;
      members = parts.are;
      as_many = each_length (names m w) so.parts parts.values parts.fit ∙ sym (as_long form OfValue i.results so.parts so.outs);
      others = all_other i.results so.parts so.outs (members_smaller so.whole so.parts so.group) (x.lowers.results p i x.here keeps);
    }

    made_so : Right (record (unchanged s.memory) { results = map ValueOf parts.values }) → Right c
    made_so right = is_made _ right (sym (ap (with_some (λ ys. gives s.memory (map ValueOf ys))) parts.are) ∙ sym (ap₂ (λ r xs. done r xs) apart y.given) ∙ is)
      where
        is_made : (k : Change) → Right k → ◌≡◌ {A = Effect HolderFault} (Makes k) (Makes c) → Right c
        is_made k right e = subst Right (cc) right

  struct_right : i.op ≡ op.DestructureStruct → Right c
  struct_right is_op =
      let it = struct_taken_apart m frame.function.0 f a p i x.here is_op in
      let keeps : renames i.op ≡ false = ap renames is_op in
      let one = o it.so keeps in
      made_so it.so keeps
      (RowRight.struct_apart one.0 (y it.so keeps).value (parts it.so keeps).values apart keeps (takes_apart it.so keeps) (ap lowering_of is_op)
      (it.as_many ∙ sym (ap length (members_placed m frame.function.0 f a p i x.here it one.0 one.1) ∙ length-map it.fields _))
      (member_found m frame.function.0 f a p i x.here it one.0 one.1))

  tuple_right : i.op ≡ op.DestructureTuple → Right c
  tuple_right is_op =
      let so = tuple_taken_apart m frame.function.0 f a p i x.here is_op in
      let keeps : renames i.op ≡ false = ap renames is_op in
      made_so so keeps (RowRight.tuple_apart (o so keeps).0 (y so keeps).value (parts so keeps).values apart keeps (takes_apart so keeps) (ap lowering_of is_op))

  pub apart_right : Right c
  apart_right = by (parts_op i.op apart)
    where
      by : PartsSo i.op → Right c
      by (PartsSo.fields is_op) = struct_right is_op
      by (PartsSo.elements is_op) = tuple_right is_op
