-- The forms of the arguments of blocks, by their types; and what 201 says of an instruction, part by part.
use Rattle.std.proofs.Common.{◌≡◌, ℕ, List, [], ◌∷◌, length, map, refl, sym, ap, ap₂, ◌∙◌, true, Option, Some, None}
use Rattle.std.specs.Prelude.{◌&&◌, slice_get}
use Rattle.std.specs.List.{list_all}
use Rattle.std.proofs.lemmas.List.{length-map}
use Rattle.std.proofs.lemmas.List.FromFn.{length-map-range_with_len}
use Rattle.holder_model.specs.sil_cfg_items.Items.{arg_value}
use Rattle.sil_ast.specs.Blocks.{args_in, args_of}
use Rattle.sil_ast.specs.declared.function.Block.{Block}
use Rattle.sil_ast.specs.declared.function.BlockArg.{BlockArg}
use Rattle.sil_ast.specs.declared.function.Function.{Function}
use Rattle.sil_ast.specs.declared.inst.Inst.{Inst}
use Rattle.sil_ast.specs.declared.module.Module.{Module}
use Rattle.sil_ast.specs.declared.operands.Operand.{Operand}
use Rattle.sil_ast.specs.declared.type_name.TypeName.{TypeName}
use Rattle.holder_model.specs.sil_types.Typing.OperandTypes.{are_as_asked, are_as_written, edge_is_as_written, is_as_written}
use Rattle.holder_model.specs.sil_types.Typing.RowTypes.{keeps_row, made_types}
use Rattle.holder_model.specs.sil_types.Typing.Shapes.{target}
use Rattle.holder_model.specs.sil_types.Typing.Values.{arg_has, arg_type, arg_types, function_at, result_types, value_functions, value_types}
use Rattle.holder_model.specs.sil_types_declarations.TypeDefinitions.Declarations.{Declarations, declarations_of}
use Rattle.holder_model.specs.holder_model_values.RunValues.Shapes.{shape_of}
use Rattle.holder_model.specs.RunTyping.Forms.{OfValue, form_by, form_of, forms_of}
use Rattle.holder_model_typing.proofs.RunTypingLaws.Found.{both_first, both_second}
use Rattle.holder_model_typing.proofs.RunTypingLaws.FunctionFacts.{TypedFunction, TypedInst}
use Rattle.holder_model_typing.proofs.RunTypingLaws.ListFacts.{map_twice, maps_alike}
use Rattle.holder_model_typing.proofs.RunTypingLaws.Rows.Finding.{passes_at}
use Rattle.holder_model_typing.proofs.RunTypingLaws.Rows.Forms.{typed_form, value_form, written_form}
use Rattle.holder_model_typing.proofs.RunTypingLaws.Rows.Tables.{row_at, told_of_args}

-- values of types that are no addresses
pub value_forms : (d : Declarations) (ts : List TypeName) → ((k : ℕ) (t : TypeName) → slice_get ts k ≡ Some t → target t ≡ None) → map (typed_form d) ts ≡ map OfValue (map (shape_of d) ts)
value_forms d ts e = maps_alike (typed_form d) (λ t. OfValue (shape_of d t)) ts (λ k t at. value_form d t (e k t at)) ∙ sym (map_twice OfValue (shape_of d) ts)

-- an argument is what its type says
pub args_forms : (m : Module) (f : Function) → TypedFunction m f → (b : ℕ) →
    forms_of (declarations_of m) f (map arg_value (args_of f b)) ≡ map (typed_form (declarations_of m)) (map arg_type (args_of f b))
args_forms m f typed b = at (slice_get f.blocks b) refl
  where
    d : Declarations
    d = declarations_of m

    told : (args : List BlockArg) → map (row_at None (value_types d f)) (map arg_value args) ≡ map arg_has args → forms_of d f (map arg_value args) ≡ map (typed_form d) (map arg_type args)
    told [] e = refl
    told (a ∷ args) e =
        let first : row_at None (value_types d f) a.value ≡ Some a.ty = cc in
        let rest : map (row_at None (value_types d f)) (map arg_value args) ≡ map arg_has args = cc in
        ap₂ (λ x xs. x ∷ xs) (ap (λ o. form_by d o (function_at (value_functions f) a.value.0)) first) (told args rest)

    at : (o : Option Block) → slice_get f.blocks b ≡ o → forms_of d f (map arg_value (args_in o)) ≡ map (typed_form d) (map arg_type (args_in o))
    at None is = refl
    at (Some x) is =
        told x.args (told_of_args arg_types (result_types d) (λ n xs. length-map xs arg_has) (λ i. length-map-range_with_len (slice_get (made_types d i)) 0 (length i.results))
        None f typed.numbered.values b x is)

-- what 201 says of an instruction, part by part
module _ (m : Module) (f : Function) (i : Inst) (typed : TypedInst m f i) where
  row_and_written : (keeps_row (declarations_of m) i && are_as_written (value_types (declarations_of m) f) i.operands
      && list_all (edge_is_as_written (value_types (declarations_of m) f)) i.edges) ≡ true
  row_and_written = both_first _ (are_as_asked (value_types (declarations_of m) f) i) typed.operands

  pub row_kept : keeps_row (declarations_of m) i ≡ true
  row_kept = both_first _ (are_as_written (value_types (declarations_of m) f) i.operands) (both_first _ (list_all (edge_is_as_written (value_types (declarations_of m) f)) i.edges) row_and_written)

  pub operands_written : are_as_written (value_types (declarations_of m) f) i.operands ≡ true
  operands_written = both_second (keeps_row (declarations_of m) i) _ (both_first _ (list_all (edge_is_as_written (value_types (declarations_of m) f)) i.edges) row_and_written)

  pub edges_written : list_all (edge_is_as_written (value_types (declarations_of m) f)) i.edges ≡ true
  edges_written = both_second (keeps_row (declarations_of m) i && are_as_written (value_types (declarations_of m) f) i.operands) _ row_and_written

  pub operands_asked : are_as_asked (value_types (declarations_of m) f) i ≡ true
  operands_asked =
      both_second (keeps_row (declarations_of m) i && are_as_written (value_types (declarations_of m) f) i.operands
      && list_all (edge_is_as_written (value_types (declarations_of m) f)) i.edges) _ typed.operands

  -- an operand with a type written is what this type says
  pub operand_written : (k : ℕ) (o : Operand) (t : TypeName) → slice_get i.operands k ≡ Some o → o.ty ≡ Some t → form_of (declarations_of m) f o.value ≡ typed_form (declarations_of m) t
  operand_written k o t at ty = written_form (declarations_of m) f o t ty (passes_at (is_as_written (value_types (declarations_of m) f)) i.operands k o operands_written at)
