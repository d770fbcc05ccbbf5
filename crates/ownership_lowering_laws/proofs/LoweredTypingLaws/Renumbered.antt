-- What typing says of an instruction, it says of it with new numbers too: it speaks of values only through their types.
use Rattle.std.proofs.Common.{◌≡◌, ℕ, zero, suc, List, [], ◌∷◌, ◌++◌, map, refl, ap, ap₂, ◌∙◌, Option, Some, None}
use Rattle.std.specs.Prelude.{◌&&◌, ◌||◌, option_and_then, option_map, slice_get, is_some, unwrap_or, if◌then◌else◌}
use Rattle.std.specs.List.{list_all, range_with_len}
use Rattle.std.specs.Option.{option_to_list}
use Rattle.std.proofs.lemmas.List.{length-map}
use Rattle.instruction_table.specs.Forms.{bare_operands_of}
use Rattle.instruction_table.specs.declared.entries.BareOperands.{BareOperands}
use Rattle.instruction_table.specs.declared.entries.BareOperands.TheVariants.{NoBare, StoredValue, WeakValue, UnownedValue, Condition, Arguments}
use Rattle.instruction_table.specs.declared.entries.InForms.{InForms}
use Rattle.instruction_table.specs.declared.entries.InForms.TheVariants.{BothForms, OwnershipForm, LoweredForm, ByWord, ByStorage}
use Rattle.instruction_table.specs.declared.op.Op.{Op}
use Rattle.instruction_table.specs.declared.op.Op.TheVariants as op
use Rattle.numbered_form.specs.Lists.{Each}
use Rattle.sil_ast.specs.declared.inst.Edge.{Edge}
use Rattle.sil_ast.specs.declared.inst.Inst.{Inst}
use Rattle.sil_ast.specs.declared.operands.Operand.{Operand}
use Rattle.sil_ast.specs.declared.place.ValueId.{ValueId}
use Rattle.sil_ast.specs.declared.type_name.TypeName.{TypeName}
use Rattle.sil_ast.specs.declared.type_name.TypeName.TheVariants as type
use Rattle.sil_types_declarations.specs.TypeDefinitions.Declarations.{Declarations}
use Rattle.sil_types_declarations.specs.TypeDefinitions.Rules.{is_class_type}
use Rattle.holder_model_typing.specs.sil_types.Typing.Builtins.{builtin_named, builtin_operands, builtin_result}
use Rattle.holder_model_typing.specs.sil_types.Typing.FormRules.{may_stand_lowered}
use Rattle.holder_model_typing.specs.sil_types.Typing.OperandTypes.{are_as_asked_by, are_as_written, asked_by, bare_by, edge_is_as_written, has_operand_types, has_type}
use Rattle.holder_model_typing.specs.sil_types.Typing.OperandTypes.{is_as_written_by}
use Rattle.holder_model_typing.specs.sil_types.Typing.RowTypes.{MadeTypes, address_of, address_of_field, all_fields, all_written, are_elements, given_by, gives, is_base}
use Rattle.holder_model_typing.specs.sil_types.Typing.RowTypes.{is_counted_value, is_payload, is_struct_of}
use Rattle.holder_model_typing.specs.sil_types.Typing.RowTypes.{member_type, passes, row_types, takes, type_of, written}
use Rattle.holder_model_typing.specs.sil_types.Typing.Same.{all_pairs, are_same_types, is_same_type}
use Rattle.holder_model_typing.specs.sil_types.Typing.Shapes.{case_in, class_field, element_of, elements, field_address, field_type, is_bit, is_enum, is_nontrivial, is_object}
use Rattle.holder_model_typing.specs.sil_types.Typing.Shapes.{is_storage}
use Rattle.holder_model_typing.specs.sil_types.Typing.Shapes.{object_at, struct_field, target, unowned_at, weak_at, where_it}
use Rattle.holder_model_typing.specs.sil_types.Typing.Values.{result_types, type_at}
use Rattle.ownership_lowering_model.specs.Numbers.{renumbered_edge, renumbered_inst, renumbered_operand}

module _ (num : ValueId → ValueId) where
  -- ---- types that are written

  written_at : (n : ℕ) (os : List Operand) → option_and_then type_of (slice_get (map (renumbered_operand num) os) n) ≡ option_and_then type_of (slice_get os n)
  written_at n [] = refl
  written_at zero (o ∷ os) = refl
  written_at (suc n) (o ∷ os) = written_at n os

  pub written_same : (n : ℕ) (i : Inst) → written n (renumbered_inst num i) ≡ written n i
  written_same n i = written_at n i.operands

  pub all_written_same : (os : List Operand) → all_written (map (renumbered_operand num) os) ≡ all_written os
  all_written_same [] = refl
  all_written_same (o ∷ os) = ap (λ ts. option_to_list o.ty ++ ts) (all_written_same os)

  module _ (d : Declarations) where
    by_op : (o : Op) (i : Inst) → given_by o d (renumbered_inst num i) ≡ given_by o d i
    by_op op.Builtin i =
        ap (λ ts. option_and_then
        (λ b. if are_same_types ts (builtin_operands b) then gives (where_it (is_same_type (builtin_result b)) i.ty) else None)
        (option_and_then builtin_named i.text))
        (all_written_same i.operands)
    by_op op.CondFail i = ap (λ w. takes (where_it is_bit w)) (written_same 0 i)
    by_op op.DeallocStack i = ap (λ w. takes (option_and_then target w)) (written_same 0 i)
    by_op op.CopyValue i = ap (λ w. gives (where_it (is_nontrivial d) w)) (written_same 0 i)
    by_op op.DestroyValue i = ap (λ w. takes (where_it (is_nontrivial d) w)) (written_same 0 i)
    by_op op.MoveValue i = ap (λ w. gives (where_it is_object w)) (written_same 0 i)
    by_op op.BeginBorrow i = ap (λ w. gives (where_it (is_nontrivial d) w)) (written_same 0 i)
    by_op op.EndBorrow i = ap (λ w. takes (where_it (is_nontrivial d) w)) (written_same 0 i)
    by_op op.Load i = ap (λ w. gives (option_and_then object_at w)) (written_same 0 i)
    by_op op.Store i = ap (λ w. takes (option_and_then object_at w)) (written_same 1 i)
    by_op op.LoadBorrow i = ap (λ w. gives (where_it (is_nontrivial d) (option_and_then target w))) (written_same 0 i)
    by_op op.DestroyAddr i = ap (λ w. takes (where_it (λ t. is_nontrivial d t || is_storage t) (option_and_then target w))) (written_same 0 i)
    by_op op.LoadWeak i = ap (λ w. gives (option_and_then weak_at w)) (written_same 0 i)
    by_op op.StoreWeak i = ap (λ w. takes (option_and_then weak_at w)) (written_same 1 i)
    by_op op.LoadUnowned i = ap (λ w. gives (option_and_then unowned_at w)) (written_same 0 i)
    by_op op.StoreUnowned i = ap (λ w. takes (option_and_then unowned_at w)) (written_same 1 i)
    by_op op.Struct i = ap (λ ts. gives (where_it (is_struct_of d ts) i.ty)) (all_written_same i.operands)
    by_op op.Tuple i = ap (λ ts. if are_elements ts then Some (type.Tuple ts ∷ []) else None) (all_written_same i.operands)
    by_op op.Enum i =
        ap (λ ts. gives (where_it (λ t. is_enum d t && passes (is_payload ts) (option_and_then (λ m. case_in d m t) i.member)) i.ty))
        (all_written_same i.operands)
    by_op op.StructExtract i = ap (λ w. member_type (struct_field d) field_type i w) (written_same 0 i)
    by_op op.TupleExtract i = ap (λ w. gives (option_and_then (element_of i.number) w)) (written_same 0 i)
    by_op op.DestructureStruct i = ap (λ w. option_and_then (all_fields d) w) (written_same 0 i)
    by_op op.DestructureTuple i = ap (λ w. option_and_then elements w) (written_same 0 i)
    by_op op.StructElementAddr i = ap (λ w. member_type (struct_field d) address_of_field i (option_and_then target w)) (written_same 0 i)
    by_op op.TupleElementAddr i = ap (λ w. gives (option_map address_of (option_and_then (element_of i.number) (option_and_then target w)))) (written_same 0 i)
    by_op op.RefElementAddr i = ap (λ w. member_type (class_field d) field_address i w) (written_same 0 i)
    by_op op.StrongRetain i = ap (λ w. takes (where_it (is_class_type d) w)) (written_same 0 i)
    by_op op.StrongRelease i = ap (λ w. takes (where_it (is_class_type d) w)) (written_same 0 i)
    by_op op.RetainValue i = ap (λ w. takes (where_it (is_counted_value d) w)) (written_same 0 i)
    by_op op.ReleaseValue i = ap (λ w. takes (where_it (is_counted_value d) w)) (written_same 0 i)
    by_op op.SwitchEnum i = ap (λ w. takes (where_it (is_enum d) w)) (written_same 0 i)
    by_op op.Upcast i = ap (λ w. gives (where_it (is_base d w) i.ty)) (written_same 0 i)
    by_op _ i = refl

    pub row_same : (i : Inst) → row_types d (renumbered_inst num i) ≡ row_types d i
    row_same i = by_op i.op i

    pub result_types_same : (i : Inst) → result_types d (renumbered_inst num i) ≡ result_types d i
    result_types_same i =
        ap₂ (λ (r : MadeTypes) (n : ℕ). map (slice_get (unwrap_or r [])) (range_with_len 0 n)) (row_same i) (length-map i.results num)

  -- ---- the types of values

  -- values have the same types, by their old numbers in one table and by their new ones in the other
  module _ (old new : List (Option TypeName)) where
    abbrev pub IsSame : Operand → Type 0
    IsSame o = type_at new (num o.value).0 ≡ type_at old o.value.0

    abbrev pub AreSameAlong : Edge → Type 0
    AreSameAlong e = Each IsSame e.args

    has_type_same : (o : Operand) (t : TypeName) → IsSame o → has_type new (renumbered_operand num o) t ≡ has_type old o t
    has_type_same o t e = ap (passes (is_same_type t)) e

    as_written_by : (o : Operand) (t : Option TypeName) → IsSame o → is_as_written_by new (renumbered_operand num o) t ≡ is_as_written_by old o t
    as_written_by o None e = refl
    as_written_by o (Some t) e = has_type_same o t e

    pub written_alike : (os : List Operand) → Each IsSame os → are_as_written new (map (renumbered_operand num) os) ≡ are_as_written old os
    written_alike [] h = refl
    written_alike (o ∷ os) h = ap₂ (λ a b. a && b) (as_written_by o o.ty h.0) (written_alike os h.1)

    pub edges_alike : (es : List Edge) → Each AreSameAlong es
        → list_all (edge_is_as_written new) (map (renumbered_edge num) es) ≡ list_all (edge_is_as_written old) es
    edges_alike [] h = refl
    edges_alike (e ∷ es) h = ap₂ (λ a b. a && b) (written_alike e.args h.0) (edges_alike es h.1)

    pairs_alike : (os : List Operand) (ts : List TypeName) → Each IsSame os
        → all_pairs (has_type new) (map (renumbered_operand num) os) ts ≡ all_pairs (has_type old) os ts
    pairs_alike [] [] h = refl
    pairs_alike [] (t ∷ ts) h = refl
    pairs_alike (o ∷ os) [] h = refl
    pairs_alike (o ∷ os) (t ∷ ts) h = ap₂ (λ a b. a && b) (has_type_same o t h.0) (pairs_alike os ts h.1)

    first_alike : (os : List Operand) (ts : List TypeName) → Each IsSame os
        → all_pairs (has_type new) (bare_by StoredValue (map (renumbered_operand num) os)) ts ≡ all_pairs (has_type old) (bare_by StoredValue os) ts
    first_alike [] ts h = pairs_alike [] ts tt
    first_alike (o ∷ os) ts h = pairs_alike (o ∷ []) ts (h.0, tt)

    behind_alike : (os : List Operand) (ts : List TypeName) → Each IsSame os
        → all_pairs (has_type new) (bare_by Arguments (map (renumbered_operand num) os)) ts ≡ all_pairs (has_type old) (bare_by Arguments os) ts
    behind_alike [] ts h = pairs_alike [] ts tt
    behind_alike (o ∷ os) ts h = pairs_alike os ts h.1

    pub asked_alike : (b : BareOperands) (i : Inst) → Each IsSame i.operands → are_as_asked_by b new (renumbered_inst num i) ≡ are_as_asked_by b old i
    asked_alike NoBare i h = refl
    asked_alike StoredValue i h =
        ap (λ w. all_pairs (has_type new) (bare_by StoredValue (map (renumbered_operand num) i.operands)) (option_to_list (option_and_then object_at w)))
        (written_same 1 i)
        ∙ first_alike i.operands (asked_by StoredValue i) h
    asked_alike WeakValue i h =
        ap (λ w. all_pairs (has_type new) (bare_by WeakValue (map (renumbered_operand num) i.operands)) (option_to_list (option_and_then weak_at w)))
        (written_same 1 i)
        ∙ first_alike i.operands (asked_by WeakValue i) h
    asked_alike UnownedValue i h =
        ap (λ w. all_pairs (has_type new) (bare_by UnownedValue (map (renumbered_operand num) i.operands)) (option_to_list (option_and_then unowned_at w)))
        (written_same 1 i)
        ∙ first_alike i.operands (asked_by UnownedValue i) h
    asked_alike Condition i h = first_alike i.operands (asked_by Condition i) h
    asked_alike Arguments i h = behind_alike i.operands (asked_by Arguments i) h

    -- 201
    pub typed_alike : (d : Declarations) (i : Inst) → Each IsSame i.operands → Each AreSameAlong i.edges
        → has_operand_types d new (renumbered_inst num i) ≡ has_operand_types d old i
    typed_alike d i h along =
        ap₂ (λ a b. a && b)
        (ap₂ (λ a b. a && b) (ap₂ (λ a b. a && b) (ap is_some (row_same d i)) (written_alike i.operands h)) (edges_alike i.edges along))
        (asked_alike (bare_operands_of i.op) i h)

  -- ---- forms

  pub form_alike : (x : InForms) (i : Inst) → may_stand_lowered x (renumbered_inst num i) ≡ may_stand_lowered x i
  form_alike BothForms i = refl
  form_alike OwnershipForm i = refl
  form_alike LoweredForm i = refl
  form_alike ByWord i = refl
  form_alike ByStorage i = ap (λ w. passes is_storage (option_and_then target w)) (written_same 0 i)
