-- A building borrow names its object as one of the object's class, or of a class above it. So a field that is named by way of one is the object's.
use Rattle.std.proofs.Common.{◌≡◌, ◌<◌, ◌+◌, ℕ, List, [], ◌∷◌, length, map, sym, ap, ◌∙◌, subst, arith, length-append, Bool, true, Some}
use Rattle.std.specs.Prelude.{is_some, option_map, slice_get, unwrap_or}
use Rattle.std.proofs.lemmas.List.{length-map}
use Rattle.std.proofs.lemmas.Option.{none-some, same_Some, slice_get-map, slice_get_within}
use Rattle.sil_verifier_frames.specs.memory_rules_accesses.Operations.{access_kind_of}
use Rattle.sil_verifier_frames.specs.memory_rules_accesses.Sources.{field_count_in, object_source, result_source, source_at, source_by, sources_of}
use Rattle.sil_verifier_frames.specs.memory_rules_accesses.declared.location.Location.{Location}
use Rattle.sil_verifier_frames.specs.memory_rules_accesses.declared.source.Source.{Source}
use Rattle.sil_verifier_frames.specs.memory_rules_accesses.declared.source.Source.TheVariants as source
use Rattle.sil_verifier_frames.specs.memory_rules_parts.Building.{builds}
use Rattle.sil_verifier_frames.specs.sil_types.Typing.RowTypes.{given_by, gives, made_types}
use Rattle.sil_verifier_frames.specs.sil_types.Typing.Shapes.{target, where_it}
use Rattle.sil_verifier_frames.specs.sil_types.Typing.Values.{function_at, value_functions}
use Rattle.sil_verifier_frames.specs.sil_verifier_values.inner.Known.{IsAcceptedBody, type_in}
use Rattle.sil_verifier_frames.proofs.sil_verifier_values.Accepted.{typed, well_typed}
use Rattle.sil_verifier_frames.specs.holder_model_laws.HolderLaws.inner.Built.Building.{IsFieldAddress, IsNewField}
use Rattle.sil_verifier_frames.proofs.holder_model_laws.HolderLaws.Built.About.{built_new}
use Rattle.instruction_table.specs.Forms.{detail_of}
use Rattle.instruction_table.specs.declared.op.Op.TheVariants as op
use Rattle.numbered_form.specs.Names.{Name}
use Rattle.sil_verifier_frames.specs.holder_model.Effects.{effect_of, part_number, part_number_by}
use Rattle.sil_verifier_frames.specs.holder_model.ModuleShapes.{field_shape, field_shapes, shapes_of}
use Rattle.sil_verifier_frames.specs.holder_model.declared.row_effect.RowEffect.TheVariants as row
use Rattle.sil_verifier_frames.specs.holder_model.RunTyping.Classes.{ClassesAreSound, is_a}
use Rattle.sil_verifier_frames.specs.holder_model.RunTyping.EndForms.{value_in}
use Rattle.sil_verifier_frames.specs.holder_model.RunTyping.Forms.{OfValue, form_by, form_of, forms_of}
use Rattle.sil_verifier_frames.proofs.holder_model_typing.RunTypingLaws.ClassFacts.{classes, field_shapes_are}
use Rattle.sil_verifier_frames.proofs.holder_model_typing.RunTypingLaws.Rows.Finding.{where_found}
use Rattle.sil_verifier_frames.proofs.holder_model_typing.RunTypingLaws.Rows.Forms.{value_form}
use Rattle.sil_verifier_frames.proofs.holder_model_typing.RunTypingLaws.Rows.Layers.{out-Named, target-Named}
use Rattle.sil_verifier_frames.proofs.holder_model_typing.RunTypingLaws.Rows.Shares.{given_one}
use Rattle.sil_verifier_frames.proofs.holder_model_typing.RunTypingLaws.ShapeFacts.{class_type_shape}
use Rattle.sil_verifier_frames.proofs.holder_model_typing.RunTypingLaws.ValueForms.{row_kept}
use Rattle.holder_model_values.specs.RunValues.Shapes.{Reference, Shape, shape_of}
use Rattle.sil_ast.specs.declared.function.Function.{Function}
use Rattle.sil_ast.specs.declared.inst.Inst.{Inst}
use Rattle.sil_ast.specs.declared.module.Module.{Module}
use Rattle.sil_ast.specs.declared.operands.Operand.{Operand}
use Rattle.sil_ast.specs.declared.place.ValueId.{ValueId}
use Rattle.sil_ast.specs.declared.type_name.TypeName.{TypeName, out-TypeName}
use Rattle.sil_ast.specs.declared.type_name.TypeName.TheVariants as type
use Rattle.sil_types_declarations.specs.TypeDefinitions.Declarations.{Declarations, declarations_of, is_class}
use Rattle.sil_types_declarations.specs.TypeDefinitions.Lookups.{fields_of}
use Rattle.sil_types_declarations.specs.TypeDefinitions.Rules.{is_class_type}
use Rattle.numbered_form.specs.ValueTables.FirstValue.{first_value}
use Rattle.sil_verifier_runs.specs.inner.Built.Operands.{AreFieldsNew}
use Rattle.sil_verifier_runs.proofs.Built.About.{first_of, operand_of}
use Rattle.sil_verifier_runs.proofs.Built.Builders.{each_builder}
use Rattle.sil_verifier_runs.proofs.Built.ObjectRows.{ObjectRow, handed, made, named, object_row, of_objects}
use Rattle.sil_verifier_runs.proofs.Built.ValueRows.{IsResultOf, field_number, is_made, made_there, makes_borrow, makes_field, makes_object, makes_upcast}

module _ (m : Module) (n : ℕ) (f : Function) (a : IsAcceptedBody m n f) where
  abbrev d : Declarations
  d = declarations_of m

  abbrev sources : List Source
  sources = sources_of d f

  abbrev ResultOf : ValueId → Inst → Type 0
  ResultOf v x = IsResultOf m n f a v x

  pub sound : ClassesAreSound m
  sound = classes m (well_typed m a.verified)

  -- ---- what an instruction hands on

  result_form : (v : ValueId) (x : Inst) (r : ResultOf v x) → slice_get (forms_of d f x.results) r.place ≡ Some (form_of d f v)
  result_form v x r = slice_get-map (form_of d f) x.results r.place ∙ ap (option_map (form_of d f)) r.at

  pub first_by : (os : List Operand) (w : ValueId) → option_map (λ (o : Operand). o.value) (slice_get os 0) ≡ Some w
      → slice_get (forms_of d f (map value_in os)) 0 ≡ Some (form_of d f w)
  first_by [] w e = absurd (none-some w e)
  first_by (o ∷ os) w e = ap (λ v. Some (form_of d f v)) (same_Some o.value w e)

  row_of : (v : ValueId) (x : Inst) → ResultOf v x → of_objects (effect_of x.op) ≡ true
      → ObjectRow m x (forms_of d f (map value_in x.operands)) (forms_of d f x.results)
  row_of v x r h = object_row m x (forms_of d f (map value_in x.operands)) (forms_of d f x.results) r.forms.row h

  abbrev IsOfClass : ValueId → Name → Type 0
  IsOfClass v class = form_of d f v ≡ OfValue (Reference class)

  -- what is made of an object is of its class, or of one above
  abbrev IsBelow : Name → ValueId → Type 0
  IsBelow class v = (above : Name) × IsOfClass v above × (is_a d class above ≡ true)

  goes_on : (v w : ValueId) (x : Inst) → ResultOf v x → effect_of x.op ≡ row.GivesOperand → first_value x ≡ Some w → (class : Name) → IsOfClass w class → IsBelow class v
  goes_on v w x r effect first class is =
      handed m x sound (forms_of d f (map value_in x.operands)) (forms_of d f x.results) (row_of v x r (ap of_objects effect)) effect class
      (first_by x.operands w first ∙ ap (λ form. Some form) is) r.place (form_of d f v) (result_form v x r)

  first_in : (v w : ValueId) (x : Inst) → ResultOf v x → operand_of (source_at sources v) ≡ Some w → first_value x ≡ Some w
  first_in v w x r e = first_of d x (access_kind_of x.op) w (sym (ap operand_of r.row.source) ∙ e)

  borrowed : (v w : ValueId) → source_at sources v ≡ source.Borrow w → (class : Name) → IsOfClass w class → IsBelow class v
  borrowed v w is class of_class =
      let x = made_there m n f a v (ap is_made is) in
      goes_on v w x.0 x.1 (ap effect_of (makes_borrow d x.0 w (sym x.1.row.source ∙ is))) (first_in v w x.0 x.1 (ap operand_of is)) class of_class

  upcast : (v w : ValueId) → source_at sources v ≡ source.Upcast w → (class : Name) → IsOfClass w class → IsBelow class v
  upcast v w is class of_class =
      let x = made_there m n f a v (ap is_made is) in
      goes_on v w x.0 x.1 (ap effect_of (makes_upcast d x.0 w (sym x.1.row.source ∙ is))) (first_in v w x.0 x.1 (ap operand_of is)) class of_class

  -- ---- the class of a new object

  pub record ObjectClass (object : ValueId) (fields : ℕ) : Type 0 where
    pub class : Name
    pub of : form_of d f object ≡ OfValue (Reference class)
    pub is : is_class d class ≡ true
    pub count : fields ≡ length (field_shapes (shapes_of m) class)

  module _ (object : ValueId) (fields : ℕ) (is : source_at sources object ≡ source.Object fields) where
    x : (x : Inst) × ResultOf object x
    x = made_there m n f a object (ap is_made is)

    of_object : result_source d x.0 ≡ source.Object fields
    of_object = sym x.1.row.source ∙ is

    op_is : x.0.op ≡ op.AllocRef
    op_is = makes_object d x.0 fields of_object

    only : x.1.place ≡ 0
    only =
        made m x.0 (forms_of d f (map value_in x.0.operands)) (forms_of d f x.0.results) (row_of object x.0 x.1 (ap (λ o. of_objects (effect_of o)) op_is))
        (ap effect_of op_is) x.1.place (form_of d f object) (result_form object x.0 x.1)

    kept : is_some (gives (where_it (is_class_type d) x.0.ty)) ≡ true
    kept = subst (λ o. is_some (given_by o d x.0) ≡ true) op_is (row_kept m f x.0 ((typed m n f a).insts x.1.block x.1.index x.0 x.1.here))

    it : (t : TypeName) × (where_it (is_class_type d) x.0.ty ≡ Some t)
    it = given_one (where_it (is_class_type d) x.0.ty) kept

    found : (x.0.ty ≡ Some it.0) × (is_class_type d it.0 ≡ true)
    found = where_found (is_class_type d) x.0.ty it.0 it.1

    class : (name : Name) × (it.0 ≡ type.Named name) × (is_class d name ≡ true) × (shape_of d it.0 ≡ Reference name)
    class = class_type_shape m (well_typed m a.verified) it.0 found.1

    typed_so : type_in d f object ≡ Some it.0
    typed_so =
        x.1.row.typed ∙ ap (slice_get (made_types d x.0)) only ∙ ap (λ o. slice_get (unwrap_or (given_by o d x.0) []) 0) op_is
        ∙ ap (λ o. slice_get (unwrap_or (gives o) []) 0) it.1

    counted : fields ≡ field_count_in d (out-TypeName it.0)
    counted =
        let two : source.Object (field_count_in d (out-TypeName it.0)) ≡ source.Object fields =
        sym (ap (object_source d) found.0) ∙ sym (ap (λ o. source_by (access_kind_of o) d x.0) op_is) ∙ of_object in
        cc

    pub object_class : ObjectClass object fields
    object_class = record {
      class = class.0;
      of = ap (λ o. form_by d o (function_at (value_functions f) object.0)) typed_so
          ∙ value_form d it.0 (ap target class.1 ∙ target-Named class.0) ∙ ap OfValue class.3;
      is = class.2;
      count = counted ∙ ap (λ t. field_count_in d (out-TypeName t)) class.1 ∙ ap (field_count_in d) (out-Named class.0)
          ∙ sym (length-map (fields_of d class.0) (field_shape d)) ∙ sym (ap length (field_shapes_are m (well_typed m a.verified) class.0 class.2));
    }

  -- ---- building borrows

  -- a building borrow is of the class of its object, or of one above
  pub builder_below : (object : ValueId) (class : Name) → IsOfClass object class → (v : ValueId) → builds sources object v ≡ true → IsBelow class v
  builder_below object class of_class =
      each_builder sources object (IsBelow class) (λ v is built. borrowed v object is class of_class)
      (λ v w is built below. let next = upcast v w is below.0 below.1 in (next.0, next.1, sound.passes class below.0 next.0 below.2 next.2))

  -- ---- the fields of an object

  -- a field's number is one of the class of the object that its address is named at
  pub record FieldOf (k : ℕ) (class : Name) : Type 0 where
    pub shape : Shape
    pub there : slice_get (field_shapes (shapes_of m) class) k ≡ Some shape

  pub field_of : (v of : ValueId) (k : ℕ) (trivial : Bool) → source_at sources v ≡ source.Field of k trivial → (class : Name) → IsOfClass of class → FieldOf k class
  field_of v of k trivial is class of_class =
      record { shape = field.0; there = subst (λ j. slice_get (field_shapes (shapes_of m) class) j ≡ Some field.0) same field.3 }
    where
      x : (x : Inst) × ResultOf v x
      x = made_there m n f a v (ap is_made is)

      names : result_source d x.0 ≡ source.Field of k trivial
      names = sym x.1.row.source ∙ is

      op_is : x.0.op ≡ op.RefElementAddr
      op_is = makes_field d x.0 of k trivial names

      field : (s : Shape) × (j : ℕ) × (part_number d x.0 ≡ Some j) × (slice_get (field_shapes (shapes_of m) class) j ≡ Some s)
      field =
          named m x.0 (forms_of d f (map value_in x.0.operands)) (forms_of d f x.0.results) (row_of v x.0 x.1 (ap (λ o. of_objects (effect_of o)) op_is))
          (ap effect_of op_is) class (first_by x.0.operands of (first_in v of x.0 x.1 (ap operand_of is)) ∙ ap (λ form. Some form) of_class)

      same : field.1 ≡ k
      same =
          same_Some field.1 k (sym field.2 ∙ ap (λ o. part_number_by (detail_of o) d x.0) op_is ∙ field_number d x.0 of k trivial names)

  new_field : (v object : ValueId) (l : Location) (of : ValueId) (k : ℕ) → IsFieldAddress sources v l of k → builds sources object of ≡ true → IsNewField sources object k
  new_field v object l of k at built =
      record { fields = new.0; is = new.1; within = within }
    where
      new : (fields : ℕ) × (source_at sources object ≡ source.Object fields)
      new = built_new sources object of built

      own : ObjectClass object new.0
      own = object_class object new.0 new.1

      below : IsBelow own.class of
      below = builder_below object own.class own.of of built

      field : FieldOf k below.0
      field = field_of l.root of k at.trivial at.is below.0 below.1

      within : k < new.0
      within =
          let inside : k < length (field_shapes (shapes_of m) below.0) = slice_get_within (field_shapes (shapes_of m) below.0) k field.shape field.there in
          let first = sound.fields own.class below.0 own.is below.2 in
          let count : new.0 ≡ length (field_shapes (shapes_of m) own.class) = own.count in
          let long : length (field_shapes (shapes_of m) own.class) ≡ length (field_shapes (shapes_of m) below.0) + length first.0 =
          ap length first.1 ∙ length-append (field_shapes (shapes_of m) below.0) first.0 in
          omega arith

pub fields_new : AreFieldsNew
fields_new m n f a v object l of k at built = new_field m n f a v object l of k at built
