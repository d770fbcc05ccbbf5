-- What typing says of rows beside their forms: the class of a new object, the enum of a case, and the type that is written at an operand.
use Rattle.std.proofs.Common.{◌≡◌, List, [], ◌∷◌, map, refl, sym, ap, ◌∙◌, subst, true, Option, Some}
use Rattle.std.specs.Prelude.{◌&&◌, option_and_then, slice_get}
use Rattle.std.proofs.lemmas.Bool.{and_parts}
use Rattle.instruction_table.specs.Forms.{detail_of}
use Rattle.instruction_table.specs.declared.entries.Detail.TheVariants as detail
use Rattle.instruction_table.specs.declared.forms.Part.TheVariants as part
use Rattle.instruction_table.specs.declared.op.Op.{Op}
use Rattle.instruction_table.specs.declared.op.Op.TheVariants as op
use Rattle.holder_model.specs.Effects.{effect_of}
use Rattle.holder_model.specs.declared.row_effect.RowEffect.{RowEffect}
use Rattle.holder_model.specs.declared.row_effect.RowEffect.TheVariants as row
use Rattle.numbered_form.specs.Lists.{is_empty}
use Rattle.numbered_form.specs.Names.{Name}
use Rattle.numbered_form.specs.inner.Parts.{are_of_parts, is_typed}
use Rattle.numbered_form.specs.inner.Types.{IsPlainType}
use Rattle.holder_model_values.specs.RunValues.Shapes.{Reference, shape_of}
use Rattle.sil_ast.specs.declared.function.Function.{Function}
use Rattle.sil_ast.specs.declared.inst.Inst.{Inst}
use Rattle.sil_ast.specs.declared.member.Member.{Member}
use Rattle.sil_ast.specs.declared.module.Module.{Module}
use Rattle.sil_ast.specs.declared.operands.Operand.{Operand}
use Rattle.sil_ast.specs.declared.place.ValueId.{ValueId}
use Rattle.sil_ast.specs.declared.type_name.TypeName.{TypeName}
use Rattle.sil_ast.specs.declared.type_name.TypeName.TheVariants as type
use Rattle.sil_types.specs.Typing.OperandTypes.{are_as_written, is_as_written, is_as_written_by}
use Rattle.sil_types.specs.Typing.RowTypes.{gives, is_made_by_case, type_of, written}
use Rattle.sil_types.specs.Typing.Same.{is_same_type}
use Rattle.sil_types.specs.Typing.Shapes.{case_in, is_enum, target, where_it}
use Rattle.sil_types.specs.Typing.Values.{type_at, type_of_value, value_types}
use Rattle.sil_types_declarations.specs.TypeDefinitions.Declarations.{Declarations, declarations_of, is_class}
use Rattle.sil_types_declarations.specs.TypeDefinitions.Rules.{is_class_type}
use Rattle.holder_model.specs.RunTyping.Forms.{OfValue, forms_of}
use Rattle.holder_model.specs.RunTyping.Runnable.{IsRunnable}
use Rattle.count_machine_layouts.proofs.holder_model_typing.RunTypingLaws.Rows.Addresses.{no_target}
use Rattle.count_machine_layouts.proofs.holder_model_typing.RunTypingLaws.Rows.Finding.{found_behind, if_some, passed, some_of, where_found}
use Rattle.count_machine_layouts.proofs.holder_model_typing.RunTypingLaws.Rows.Forms.{value_form}
use Rattle.count_machine_layouts.proofs.holder_model_typing.RunTypingLaws.Rows.Known.{Known}
use Rattle.count_machine_layouts.proofs.holder_model_typing.RunTypingLaws.Rows.Layers.{target-Named}
use Rattle.count_machine_layouts.proofs.holder_model_typing.RunTypingLaws.Rows.Shares.{given_one, gives_form, is_nothing, of_parts}
use Rattle.count_machine_layouts.proofs.holder_model_typing.RunTypingLaws.RunnableTyped.{well_typed}
use Rattle.count_machine_layouts.proofs.holder_model_typing.RunTypingLaws.ShapeFacts.{class_type_shape, same_types}
use Rattle.count_machine_layouts.proofs.holder_model_typing.RunTypingLaws.Sizes.{plain_type}
use Rattle.count_machine_model.specs.ReadyCode.ReadyOps.{operands_of}

module _ (m : Module) (f : Function) (i : Inst) where
  abbrev d : Declarations
  d = declarations_of m

  abbrev types : List (Option TypeName)
  types = value_types d f

  pub record NewObject : Type 0 where
    pub class : Name
    pub ty : i.ty ≡ Some (type.Named class)
    pub is : is_class d class ≡ true
    pub form : forms_of d f i.results ≡ OfValue (Reference class) ∷ []

  pub record NewCase : Type 0 where
    pub ty : TypeName
    pub of : i.ty ≡ Some ty
    pub kind : is_enum d ty ≡ true
    pub named : Member
    pub member : i.member ≡ Some named
    pub form : forms_of d f i.results ≡ OfValue (shape_of d ty) ∷ []

  -- the one operand has the type that is written at it
  pub record WrittenOperand : Type 0 where
    pub operand : ValueId
    pub ty : TypeName
    pub only : operands_of i ≡ operand ∷ []
    pub of : written 0 i ≡ Some ty
    pub typed : type_at types operand.0 ≡ Some ty

  abbrev pub Told : RowEffect → Type 0
  Told row.MakesObject = NewObject
  Told row.ChoosesCase = NewCase
  Told row.GivesMember = WrittenOperand
  Told row.AddressesMember = WrittenOperand
  Told row.AddressesField = detail_of i.op ≡ detail.Field
  Told _ = Unit {0}

  pub written_operand : are_of_parts (part.Typed ∷ []) i.operands ≡ true → are_as_written types i.operands ≡ true → WrittenOperand
  written_operand = at i.operands refl
    where
      one : (o : Operand) → i.operands ≡ o ∷ [] → (t : TypeName) → o.ty ≡ Some t → is_as_written types o ≡ true → WrittenOperand
      one o is t ty kept =
          let found = passed (is_same_type t) (type_of_value types o) (subst (λ x. is_as_written_by types o x ≡ true) ty kept) in
          record {
            operand = o.value;
            ty = t;
            only = ap (map (λ (x : Operand). x.value)) is;
            of = ap (λ os. option_and_then type_of (slice_get os 0)) is ∙ ty;
            typed = found.1 ∙ ap Some (sym (same_types t found.0 found.2));
          }

      at : (os : List Operand) → i.operands ≡ os → are_of_parts (part.Typed ∷ []) os ≡ true → are_as_written types os ≡ true → WrittenOperand
      at [] is e kept = absurd (cc)
      at (o ∷ os) is e kept =
          let parts = and_parts (is_typed o) (is_empty os) e in
          let it = some_of o.ty parts.0 in
          one o (is ∙ ap (λ xs. o ∷ xs) (is_nothing os parts.1)) it.0 it.1 (and_parts (is_as_written types o) (are_as_written types os) kept).0

  module _ (r : IsRunnable m) where
    new_object : Known m f i op.AllocRef → NewObject
    new_object k =
        let it = given_one (where_it (is_class_type d) i.ty) k.keeps in
        let found = where_found (is_class_type d) i.ty it.0 it.1 in
        let class = class_type_shape m (well_typed m r) it.0 found.1 in
        record {
          class = class.0;
          ty = found.0 ∙ ap Some class.1;
          is = class.2;
          form = gives_form m f i op.AllocRef k refl it.0 (ap gives it.1)
              ∙ ap (λ x. x ∷ []) (value_form d it.0 (ap target class.1 ∙ target-Named class.0) ∙ ap OfValue class.3);
        }

    new_case : Known m f i op.Enum → NewCase
    new_case k =
        let test = λ (t : TypeName). is_enum d t && is_made_by_case d i t in
        let it = given_one (where_it test i.ty) k.keeps in
        let found = where_found test i.ty it.0 it.1 in
        let both = and_parts (is_enum d it.0) (is_made_by_case d i it.0) found.1 in
        let made = passed _ (option_and_then (λ n. case_in d n it.0) i.member) both.1 in
        let named = found_behind (λ n. case_in d n it.0) i.member made.0 made.1 in
        let plain = (if_some IsPlainType i.ty it.0 found.0 k.types.ty).written in
        record {
          ty = it.0;
          of = found.0;
          kind = both.0;
          named = named.0;
          member = named.1;
          form = gives_form m f i op.Enum k refl it.0 (ap gives it.1) ∙ ap (λ x. x ∷ []) (value_form d it.0 (no_target it.0 (plain_type it.0 plain)));
        }

    told : (o : Op) → Known m f i o → Told (effect_of o)
    told op.AllocRef k = new_object k
    told op.Enum k = new_case k
    told op.StructExtract k = written_operand (of_parts _ k.operands) k.written
    told op.TupleExtract k = written_operand (of_parts _ k.operands) k.written
    told op.StructElementAddr k = written_operand (of_parts _ k.operands) k.written
    told op.TupleElementAddr k = written_operand (of_parts _ k.operands) k.written
    told op.RefElementAddr k = ap detail_of k.op
    told _ k = tt

    pub row_told : Known m f i i.op → Told (effect_of i.op)
    row_told k = told i.op k
