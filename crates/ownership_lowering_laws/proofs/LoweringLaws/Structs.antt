-- The members of a struct that is taken apart: there are as many results as it has fields.
use Rattle.std.proofs.Common.{◌≡◌, List, [], ◌∷◌, length, map, append-nil, sym, ap, ◌∙◌, subst, true, Some}
use Rattle.std.specs.Prelude.{is_some, option_and_then, option_map, slice_get, unwrap_or}
use Rattle.std.specs.List.{flat_map}
use Rattle.std.specs.Option.{option_to_list}
use Rattle.std.proofs.lemmas.Bool.{eqb-true}
use Rattle.std.proofs.lemmas.List.{length-map}
use Rattle.instruction_table.specs.declared.op.Op.TheVariants as op
use Rattle.sil_ast.specs.declared.decl.Decl.{Decl}
use Rattle.sil_ast.specs.declared.decl.Field.{Field}
use Rattle.sil_ast.specs.declared.function.Function.{Function}
use Rattle.sil_ast.specs.declared.inst.Inst.{Inst}
use Rattle.sil_ast.specs.declared.operands.Operand.{Operand}
use Rattle.sil_ast.specs.declared.type_name.TypeName.{TypeName, out-TypeName}
use Rattle.instruction_table.specs.Forms.{results_of}
use Rattle.numbered_form.specs.Names.{Name}
use Rattle.holder_model_typing.specs.sil_types.Typing.ResultCounts.{is_count_by}
use Rattle.holder_model_typing.specs.sil_types.Typing.RowTypes.{all_fields, given_by, type_of, written}
use Rattle.holder_model_typing.specs.sil_types.Typing.Shapes.{decl_of_type, field_type, fields_of_struct, name_in, struct_fields}
use Rattle.sil_types_declarations.specs.TypeDefinitions.Declarations.{Declarations, decl_of}
use Rattle.ownership_lowering_model.specs.Extracts.{member_of, members_named, members_of_struct}
use Rattle.ownership_lowering_laws.proofs.LoweringLaws.Known.{Known}
use Rattle.holder_model_typing.proofs.RunTypingLaws.Rows.Finding.{found_behind, mapped_some}
use Rattle.holder_model_typing.proofs.RunTypingLaws.Rows.Shares.{some_behind}

-- the type is a struct with these fields
pub record IsStruct (d : Declarations) (t : TypeName) (fields : List Field) : Type 0 where
  pub name : Name
  pub is_name : name_in (out-TypeName t) ≡ Some name
  pub declared : Decl
  pub is_declared : decl_of d name ≡ Some declared
  pub is_fields : struct_fields declared ≡ Some fields
  pub members : members_of_struct d t ≡ map (member_of name) fields

pub struct_is : (d : Declarations) (t : TypeName) (fields : List Field) → fields_of_struct d t ≡ Some fields → IsStruct d t fields
struct_is d t fields e =
    let x = found_behind struct_fields (decl_of_type d t) fields e in
    let n = found_behind (decl_of d) (name_in (out-TypeName t)) x.0 x.1 in
    record {
      name = n.0;
      is_name = n.1;
      declared = x.0;
      is_declared = n.2;
      is_fields = x.2;
      members = ap (λ o. flat_map (members_named d t) (option_to_list o)) n.1
          ∙ append-nil (members_named d t n.0)
          ∙ ap (λ o. map (member_of n.0) (unwrap_or o [])) e;
    }

-- an instruction takes this operand apart, of which there is one
pub record TakesApart (d : Declarations) (i : Inst) (x : Operand) : Type 0 where
  pub ty : TypeName
  pub is_type : x.ty ≡ Some ty
  pub fields : List Field
  pub struct : IsStruct d ty fields
  pub as_many : length i.results ≡ length fields

pub takes_apart : (d : Declarations) (f : Function) (i : Inst) → Known d f i → i.op ≡ op.DestructureStruct → (x : Operand) → i.operands ≡ x ∷ []
    → TakesApart d i x
takes_apart d f i k e x only =
    let t = some_behind (all_fields d) (written 0 i) (subst (λ o. is_some (given_by o d i) ≡ true) e k.lowerable.keeps) in
    let fields = mapped_some (map field_type) (fields_of_struct d t.0) t.2 in
    let given : given_by op.DestructureStruct d i ≡ Some (map field_type fields.0) =
    ap (option_and_then (all_fields d)) t.1 ∙ ap (option_map (map field_type)) fields.1 in
    let count : is_count_by (results_of op.DestructureStruct) (Some (map field_type fields.0)) (length i.results) ≡ true =
    subst (λ g. is_count_by (results_of op.DestructureStruct) g (length i.results) ≡ true) given
    (subst (λ o. is_count_by (results_of o) (given_by o d i) (length i.results) ≡ true) e k.lowerable.results) in
    record {
      ty = t.0;
      is_type = ap (λ os. option_and_then type_of (slice_get os 0)) (sym only) ∙ t.1;
      fields = fields.0;
      struct = struct_is d t.0 fields.0 fields.1;
      as_many = sym (eqb-true (length (map field_type fields.0)) (length i.results) count) ∙ length-map fields.0 field_type;
    }
