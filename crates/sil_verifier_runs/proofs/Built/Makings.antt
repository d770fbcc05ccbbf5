-- The row that makes an object: its entry holds the object, all of whose fields are to be written now.
use Rattle.std.proofs.Common.{◌≡◌, ◌<◌, List, [], ◌∷◌, ◌++◌, append-nil, length, refl, sym, ap, ◌∙◌, subst, Bool, true, false, ◌||◌, Option, Some, None, Ok, eq-eqb}
use Rattle.std.specs.Prelude.{◌==◌, cond, is_some, slice_get}
use Rattle.std.proofs.lemmas.Bool.{eqb-true, false≢true}
use Rattle.std.proofs.lemmas.Option.{same_Some}
use Rattle.instruction_table.specs.Forms.{result_kind_of}
use Rattle.instruction_table.specs.declared.op.Op.{Op}
use Rattle.instruction_table.specs.declared.op.Op.TheVariants as op
use Rattle.sil_verifier_frames.specs.holder_model.Data.{Datum, ValueOf}
use Rattle.sil_verifier_frames.specs.holder_model.Effects as effects
use Rattle.sil_verifier_frames.specs.holder_model.Effects.{Change, effect_of}
use Rattle.sil_verifier_frames.specs.holder_model.Frames.{Entry, Frame, Held, Operands, entry_at, made_entry, results_put}
use Rattle.sil_verifier_frames.specs.holder_model.MemoryEffects.{effect}
use Rattle.sil_verifier_frames.specs.holder_model.ModuleShapes.{field_shapes, shapes_in, shapes_of}
use Rattle.sil_verifier_frames.specs.holder_model.States.{Runs, Task, dropping}
use Rattle.sil_verifier_frames.specs.holder_model.declared.row_effect.RowEffect.{RowEffect}
use Rattle.sil_verifier_frames.specs.holder_model.declared.row_effect.RowEffect.TheVariants as row
use Rattle.sil_verifier_frames.specs.memory_rules_accesses.Operations.{access_kind_of}
use Rattle.sil_verifier_frames.specs.memory_rules_accesses.Sources.{field_count_in, object_source, source_at, source_by, sources_of}
use Rattle.sil_verifier_frames.specs.memory_rules_accesses.declared.source.Source.TheVariants as source
use Rattle.sil_verifier_frames.specs.ownership_kinds_origins.Facts.{facts_in}
use Rattle.sil_verifier_frames.specs.sil_types.Typing.RowTypes.{given_by, gives}
use Rattle.sil_verifier_frames.specs.sil_types.Typing.Shapes.{where_it}
use Rattle.sil_verifier_frames.specs.ownership_kinds_origins.Origins.{is_trivial_or_untyped}
use Rattle.sil_verifier_frames.proofs.sil_verifier_trails.AcceptedPlaces.Done.{none_done, operates, passes}
use Rattle.sil_verifier_frames.proofs.sil_verifier_trails.AcceptedPlaces.OperationsRight.{stands_somewhere}
use Rattle.sil_verifier_frames.specs.sil_verifier_values.inner.Known.{kind_at, type_in}
use Rattle.sil_verifier_frames.specs.sil_verifier_values.inner.Operands.{kind_by_row, kind_together}
use Rattle.sil_verifier_frames.specs.holder_model.RunTyping.CallForms.{IsOf}
use Rattle.sil_verifier_frames.specs.holder_model.RunTyping.Forms.{forms_of}
use Rattle.sil_verifier_frames.proofs.sil_verifier_values.Accepted.{typed}
use Rattle.sil_verifier_frames.proofs.sil_verifier_values.Made.{items_of}
use Rattle.sil_verifier_frames.proofs.sil_verifier_values.Suited.{results_of_kinds}
use Rattle.sil_verifier_frames.specs.holder_model_laws.HolderLaws.inner.Built.FrameObjects.{Holds}
use Rattle.sil_verifier_frames.proofs.sil_verifier_trails.HeldEntries.EntriesEnded.{entry_set_same}
use Rattle.sil_verifier_frames.specs.holder_model_laws.HolderLaws.inner.Held.Items.{frame_behind}
use Rattle.sil_verifier_frames.specs.holder_model_laws.HolderLaws.inner.Held.ObjectStates.{TasksBuild}
use Rattle.sil_verifier_frames.proofs.holder_model_laws.HolderLaws.Held.Items.{making_right}
use Rattle.sil_cfg_items.specs.Items.{item_defined}
use Rattle.sil_cfg_items.specs.Parts.{inst_at, results_in}
use Rattle.numbered_form.specs.Lists.{Each}
use Rattle.sil_verifier_frames.proofs.holder_model_typing.RunTypingLaws.ValueForms.{row_kept}
use Rattle.sil_verifier_frames.specs.ownership_kinds_chains.OwnershipChains.Facts.{has, known_or, value_of}
use Rattle.sil_verifier_frames.specs.ownership_kinds_chains.declared.ownership_chains.facts.Facts.{Facts}
use Rattle.holder_model_values.specs.RunValues.Memory.{Memory, new_object}
use Rattle.holder_model_values.specs.RunValues.Places.{Place}
use Rattle.holder_model_values.specs.RunValues.Shapes.{Shape, class_in}
use Rattle.holder_model_values.specs.RunValues.Values as value
use Rattle.sil_ast.specs.declared.function.Function.{Function}
use Rattle.sil_ast.specs.declared.inst.Inst.{Inst}
use Rattle.sil_ast.specs.declared.module.Module.{Module}
use Rattle.sil_ast.specs.declared.place.ObjectId.{ObjectId}
use Rattle.sil_ast.specs.declared.place.PointId.{PointId}
use Rattle.sil_ast.specs.declared.place.ValueId.{ValueId}
use Rattle.sil_ast.specs.declared.type_name.TypeName.{TypeName, out-TypeName}
use Rattle.sil_cfg.specs.declared.item.Item.TheVariants as item
use Rattle.sil_types_declarations.specs.TypeDefinitions.Declarations.{declarations_of}
use Rattle.sil_types_declarations.specs.TypeDefinitions.Rules.{is_class_type}
use Rattle.sil_types_declarations.specs.declared.type_definitions.kind.Kind.{Kind}
use Rattle.sil_types_declarations.specs.declared.type_definitions.kind.Kind.TheVariants as kind
use Rattle.sil_verifier_frames.proofs.Typed.ShapesTold.{first_shape, result_told, shape_in}
use Rattle.sil_verifier_frames.specs.holder_model_laws.HolderLaws.inner.Whole.Whole.{IsWholeMemory}
use Rattle.sil_verifier_runs.specs.inner.Built.Said.{said}
use Rattle.sil_verifier_runs.proofs.Built.Classes.{ObjectClass, object_class}
use Rattle.sil_verifier_runs.proofs.Built.EntriesNamed.{IsPut, first_put, put_other}
use Rattle.sil_verifier_runs.proofs.Built.PlaceForms.{made_row}
use Rattle.sil_verifier_runs.proofs.Built.RowChanges.{MakesObject, made_object}
use Rattle.sil_verifier_runs.proofs.Built.Steps.{objects_made}
use Rattle.sil_verifier_runs.proofs.Built.WholeOperands.{Ready}

-- ---- the row

abbrev makes_one : RowEffect → Bool
makes_one row.MakesObject = true
makes_one _ = false

object_op : (o : Op) → makes_one (effect_of o) ≡ true → o ≡ op.AllocRef
object_op op.AllocRef e = refl
object_op _ e = absurd (false≢true e)

some_type : (p : TypeName → Bool) (o : Option TypeName) → is_some (gives (where_it p o)) ≡ true → (t : TypeName) × (o ≡ Some t)
some_type p None e = absurd (false≢true e)
some_type p (Some t) e = (t, refl)

-- one result is put
pub record OnePut (facts : ValueId → Option Facts) (vs : List ValueId) (x : Datum) (left behind : List Entry) : Type 0 where
  pub value : ValueId
  pub alone : vs ≡ value ∷ []
  pub put : IsPut facts value x left behind

pub one_put : (facts : ValueId → Option Facts) (vs : List ValueId) (x : Datum) (left behind : List Entry) → results_put facts vs (x ∷ []) left ≡ Ok behind
    → OnePut facts vs x left behind
one_put facts [] x left behind is = absurd (cc)
one_put facts (v ∷ []) x left behind is =
    let p = first_put facts v [] x [] left behind is in
    let same : p.0 ≡ behind = let e = p.2 in cc in
    record { value = v; alone = refl; put = subst (IsPut facts v x left) same p.1 }
one_put facts (v ∷ w ∷ vs) x left behind is = let p = first_put facts v (w ∷ vs) x [] left behind is in absurd (let e = p.2 in cc)

-- what holds an object is Owned
owned_holds : (k : Kind) (o : ObjectId) (e : Entry) → (k ≡ kind.Guaranteed → ⊥) → made_entry k (ValueOf (value.Object o)) ≡ Ok e → e ≡ Held (ValueOf (value.Object o))
owned_holds kind.Owned o e not is = cc
owned_holds kind.Guaranteed o e not is = absurd (not refl)
owned_holds kind.Plain o e not is = absurd (cc)

module _ (m : Module) (memory : Memory) (rest : List (Task Frame)) (frame : Frame) (f : Function) (p : PointId) (ops : Operands)
    (ready : Ready m memory rest frame f (item.Inst p) ops) (x : Inst) (is : inst_at f p ≡ Some x) (c : Change)
    (made : effect (declarations_of m) (shapes_of m) (shapes_in (shapes_of m) frame.function) memory x ops.given ≡ effects.Makes c) (e : effect_of x.op ≡ row.MakesObject) where
  abbrev values : List Shape
  values = shapes_in (shapes_of m) frame.function

  left : MakesObject (declarations_of m) (shapes_of m) values memory x ops.given c made
  left = made_object (declarations_of m) (shapes_of m) values memory x ops.given c made e

  op_is : x.op ≡ op.AllocRef
  op_is = object_op x.op (ap makes_one e)

  module _ (behind : List Entry) (slots : List Place) (put : results_put (facts_in (declarations_of m) f) (item_defined f (item.Inst p)) c.results ops.left ≡ Ok behind) where
    one : OnePut (facts_in (declarations_of m) f) (item_defined f (item.Inst p)) (ValueOf (value.Object (new_object memory))) ops.left behind
    one =
        one_put (facts_in (declarations_of m) f) (item_defined f (item.Inst p)) (ValueOf (value.Object (new_object memory))) ops.left behind
        (ap (λ (k : Change). results_put (facts_in (declarations_of m) f) (item_defined f (item.Inst p)) k.results ops.left) (sym left.is) ∙ put)

    abbrev object : ValueId
    object = one.value

    results_are : x.results ≡ object ∷ []
    results_are = sym (ap (λ o. results_in o ++ []) is ∙ append-nil x.results) ∙ one.alone

    it_makes : has (item_defined f (item.Inst p)) object.0 ≡ true
    it_makes = ap (λ vs. has vs object.0) one.alone ∙ ap (λ b. b || false) (eq-eqb object.0 object.0 refl)

    -- ---- what the object is to memory

    ty : (t : TypeName) × (x.ty ≡ Some t)
    ty =
        let at = stands_somewhere f (item.Inst p) x is in
        some_type (is_class_type (declarations_of m)) x.ty
        (subst (λ o. is_some (given_by o (declarations_of m) x) ≡ true) op_is
        (row_kept m f x ((typed m frame.function.0 f ready.doing.body).insts at.0 at.1 x at.2)))

    source_is : source_at (sources_of (declarations_of m) f) object ≡ source.Object (field_count_in (declarations_of m) (out-TypeName ty.0))
    source_is =
        made_row m frame.function.0 f ready.doing.body p x is object it_makes ∙ ap (λ o. source_by (access_kind_of o) (declarations_of m) x) op_is
        ∙ ap (object_source (declarations_of m)) ty.1

    class : ObjectClass m frame.function.0 f ready.doing.body object (field_count_in (declarations_of m) (out-TypeName ty.0))
    class = object_class m frame.function.0 f ready.doing.body object (field_count_in (declarations_of m) (out-TypeName ty.0)) source_is

    same_class : left.class ≡ class.class
    same_class =
        same_Some left.class class.class
        (sym left.shape ∙ ap class_in (sym (result_told m frame.function f ready.doing.body.body.there memory x))
        ∙ ap (λ vs. class_in (first_shape (forms_of (declarations_of m) f vs))) results_are ∙ ap (λ y. class_in (shape_in y)) class.of)

    count : source_at (sources_of (declarations_of m) f) object ≡ source.Object (length (field_shapes (shapes_of m) left.class))
    count = source_is ∙ ap (λ n. source.Object n) (class.count ∙ ap (λ name. length (field_shapes (shapes_of m) name)) (sym same_class))

    -- ---- its entry

    not_guaranteed : kind_at (declarations_of m) f object ≡ kind.Guaranteed → ⊥
    not_guaranteed guaranteed =
        let at = stands_somewhere f (item.Inst p) x is in
        no (is_trivial_or_untyped (declarations_of m) (type_in (declarations_of m) f object))
        (sym (results_of_kinds m frame.function.0 f ready.doing.body at.0 at.1 0 x object at.2 (ap (λ vs. slice_get vs 0) results_are)
        ∙ ap (λ r. cond (is_trivial_or_untyped (declarations_of m) (type_in (declarations_of m) f object)) kind.Plain (kind_by_row r (kind_together (declarations_of m) f x)))
        (ap result_kind_of op_is)) ∙ guaranteed)
      where
        no : (b : Bool) → cond b kind.Plain kind.Owned ≡ kind.Guaranteed → ⊥
        no true h = cc
        no false h = cc

    within : object.0 < length ops.left
    within =
        subst (λ n. object.0 < n) (sym ready.size)
        (subst (Each (IsOf f)) one.alone (items_of m frame.function.0 f ready.doing.body (item.Inst p)).defined).0

    holds : Holds behind object (new_object memory)
    holds =
        ap (λ es. entry_at es object) one.put.behind_is ∙ entry_set_same ops.left object one.put.entry within
        ∙ owned_holds (known_or (facts_in (declarations_of m) f) object).kind (new_object memory) one.put.entry not_guaranteed one.put.made

    others : (v : ValueId) → (v ≡ object → ⊥) → entry_at behind v ≡ entry_at ops.left v
    others v differ =
        put_other (facts_in (declarations_of m) f) (item_defined f (item.Inst p)) c.results ops.left behind put v
        (ap (λ vs. has vs v.0) one.alone ∙ at (object.0 == v.0) refl)
      where
        at : (b : Bool) → (object.0 == v.0) ≡ b → (b || false) ≡ false
        at false e = refl
        at true e = absurd (differ (sym (ap value_of (eqb-true object.0 v.0 e))))

    -- ---- the frame behind it

    pub made_right : IsWholeMemory c.memory × TasksBuild m (said m) c.memory (dropping c.dropped (Runs (frame_behind frame (item.Inst p) behind slots) ∷ rest))
    made_right =
        subst (λ (k : Change). IsWholeMemory k.memory × TasksBuild m (said m) k.memory (dropping k.dropped (Runs (frame_behind frame (item.Inst p) behind slots) ∷ rest)))
        (sym left.is)
        (making_right m (said m) memory rest frame f (item.Inst p) ops.left behind left.class slots ready.doing.stands (record {
          loses = ready.doing.loses;
          object = object;
          count = count;
          now = objects_made m frame.function.0 f ready.doing.body frame.trail p ready.doing.trail object (record {
            inst = x;
            is = is;
            none = none_done x (ap (λ o. operates (access_kind_of o)) op_is) (ap (λ o. passes (access_kind_of o)) op_is);
            alone = one.alone;
          });
          new = record { free = one.put.free; holds = holds; others = others };
        }))
