-- Each instruction takes its operands. In a lowered function they and its results are of the forms that its row has to do with.
use Rattle.std.proofs.Common.{◌≡◌, ℕ, length, map, ap, ◌∙◌, append-nil, true, false, Some}
use Rattle.std.specs.Prelude.{drop, option_to_list, slice_get}
use Rattle.std.specs.List.{flat_map}
use Rattle.instruction_table.specs.Forms.{forms_of, roles_of}
use Rattle.instruction_table.specs.declared.op.Op.{Op}
use Rattle.instruction_table.specs.declared.op.Op.TheVariants as op
use Rattle.holder_model.specs.sil_cfg_items.Parts.{inst_at}
use Rattle.holder_model.specs.sil_cfg_items.Roles.{taken_by}
use Rattle.holder_model.specs.LoweredRun.LowStepParts.{taken_value, values_taken}
use Rattle.sil_ast.specs.declared.function.Form.TheVariants.{Lowered}
use Rattle.sil_ast.specs.declared.function.Function.{Function}
use Rattle.sil_ast.specs.declared.inst.Inst.{Inst}
use Rattle.sil_ast.specs.declared.module.Module.{Module}
use Rattle.sil_ast.specs.declared.place.PointId.{PointId}
use Rattle.holder_model.specs.sil_types_declarations.TypeDefinitions.Declarations.{declarations_of}
use Rattle.sil_cfg.specs.declared.item.Item.TheVariants as item
use Rattle.holder_model.specs.sil_types.Typing.FormRules.{may_stand_lowered}
use Rattle.holder_model.specs.sil_types.Typing.OperandTypes.{argument_types, has_type}
use Rattle.holder_model.specs.sil_types.Typing.Values.{value_types}
use Rattle.holder_model.specs.RunTyping.EndForms.{value_in}
use Rattle.holder_model.specs.RunTyping.RunTyped.{InstIsTyped}
use Rattle.holder_model.specs.RunTyping.Runnable.{IsNotOwned}
use Rattle.holder_model_typing.specs.RunTypingLaws.inner.WellTyped.{IsWellTyped}
use Rattle.holder_model_typing.proofs.RunTypingLaws.BlockFacts.{lowered_form}
use Rattle.holder_model_typing.proofs.RunTypingLaws.CallFacts.{call_row}
use Rattle.holder_model_typing.proofs.RunTypingLaws.FunctionFacts.{typed_function}
use Rattle.holder_model_typing.proofs.RunTypingLaws.Rows.Builtins.{builtin}
use Rattle.holder_model_typing.proofs.RunTypingLaws.Rows.Counting.{release_value, retain_value, strong_release, strong_retain}
use Rattle.holder_model_typing.proofs.RunTypingLaws.Rows.Finding.{some_of}
use Rattle.holder_model_typing.proofs.RunTypingLaws.Rows.Groups.{enum, struct, tuple_of}
use Rattle.holder_model_typing.proofs.RunTypingLaws.Rows.Known.{Known, in_lowered, known}
use Rattle.holder_model_typing.proofs.RunTypingLaws.Rows.Members.{ref_element_addr, struct_element_addr, struct_extract, tuple_element_addr, tuple_extract}
use Rattle.holder_model_typing.proofs.RunTypingLaws.Rows.Memory.{load, store}
use Rattle.holder_model_typing.proofs.RunTypingLaws.Rows.NamesOfObjects.{destroy_addr, load_unowned, load_weak, store_unowned, store_weak}
use Rattle.holder_model_typing.proofs.RunTypingLaws.Rows.Plain.{alloc_ref, alloc_stack, cond_fail, dealloc_stack, debug_value, function_ref, integer_literal}
use Rattle.holder_model_typing.proofs.RunTypingLaws.Rows.Points.{is_at}
use Rattle.holder_model_typing.proofs.RunTypingLaws.Rows.Shares.{Row, is_nothing, of_parts}
use Rattle.holder_model_typing.proofs.RunTypingLaws.Rows.Taking.{ends_for_any, item_takes, pairs_level, takes_any, takes_arguments, takes_none}
use Rattle.holder_model_typing.proofs.RunTypingLaws.Rows.Upcasts.{upcast_of}

no_other_form : {P : Type 0} → false ≡ true → P
no_other_form e = absurd (cc)

no_terminator : {P : Type 0} → true ≡ false → P
no_terminator e = absurd (cc)

module _ (m : Module) (r : IsWellTyped m) (n : ℕ) (f : Function) (is_function : slice_get m.functions n ≡ Some f) (p : PointId) (i : Inst)
    (here : inst_at f p ≡ Some i) where
  abbrev Taken : Type 0
  Taken = map taken_value (taken_by i) ≡ map value_in i.operands

  -- a call takes the function and as many arguments as its signature tells of
  call_takes : Known m f i op.Apply → Taken
  call_takes k =
      let s = some_of i.signature k.signature in
      let level = pairs_level (has_type (value_types (declarations_of m) f)) (drop 1 i.operands) (flat_map argument_types (option_to_list i.signature)) k.asked in
      takes_arguments i s.0 (ap roles_of k.op) s.1
      (level ∙ ap (λ x. length (flat_map argument_types (option_to_list x))) s.1 ∙ ap length (append-nil (argument_types s.0)))

  takes : (o : Op) → Known m f i o → Taken
  takes op.IntegerLiteral k = takes_none i (is_nothing i.operands (of_parts _ k.operands))
  takes op.FunctionRef k = takes_none i (is_nothing i.operands (of_parts _ k.operands))
  takes op.AllocRef k = takes_none i (is_nothing i.operands (of_parts _ k.operands))
  takes op.AllocStack k = takes_none i (is_nothing i.operands (of_parts _ k.operands))
  takes op.Apply k = call_takes k
  takes op.Br k = no_terminator k.inside
  takes op.Unreachable k = no_terminator k.inside
  takes _ k = takes_any i (ap (λ o. ends_for_any (roles_of o)) k.op)

  -- in a function of either form
  pub inst_takes : values_taken f (item.Inst p) ≡ map value_in i.operands
  inst_takes = item_takes f p i here (takes i.op (known m r n f is_function p i here))

  module _ (not_owned : IsNotOwned f) where
    lowered : f.form ≡ Lowered
    lowered = let at = is_at f p i here in lowered_form m f p.block.0 at.within (typed_function m r n f is_function) not_owned at.is_block

    stands : {o : Op} → Known m f i o → may_stand_lowered (forms_of o) i ≡ true
    stands {o} k = in_lowered m f i o k lowered

    row : (o : Op) → Known m f i o → Row m f i
    row op.IntegerLiteral k = integer_literal m r f i k
    row op.FunctionRef k = function_ref m r f i k
    row op.Builtin k = builtin m f i k
    row op.CondFail k = cond_fail m r f i k
    row op.AllocRef k = alloc_ref m r f i k
    row op.AllocStack k = alloc_stack m r f i k
    row op.DeallocStack k = dealloc_stack m r f i k
    row op.CopyValue k = no_other_form (stands k)
    row op.DestroyValue k = no_other_form (stands k)
    row op.MoveValue k = no_other_form (stands k)
    row op.BeginBorrow k = no_other_form (stands k)
    row op.EndBorrow k = no_other_form (stands k)
    row op.Load k = load m r f i lowered k
    row op.Store k = store m r f i lowered k
    row op.LoadBorrow k = no_other_form (stands k)
    row op.DestroyAddr k = destroy_addr m r f i lowered k
    row op.LoadWeak k = load_weak m r f i k
    row op.StoreWeak k = store_weak m r f i k
    row op.LoadUnowned k = load_unowned m r f i k
    row op.StoreUnowned k = store_unowned m r f i k
    row op.Struct k = struct m r f i k
    row op.Tuple k = tuple_of m r f i k
    row op.Enum k = enum m r f i k
    row op.StructExtract k = struct_extract m r f i k
    row op.TupleExtract k = tuple_extract m r f i k
    row op.DestructureStruct k = no_other_form (stands k)
    row op.DestructureTuple k = no_other_form (stands k)
    row op.StructElementAddr k = struct_element_addr m r f i k
    row op.TupleElementAddr k = tuple_element_addr m r f i k
    row op.RefElementAddr k = ref_element_addr m r f i k
    row op.Apply k = call_row m r n f is_function p.block.0 p.index i (is_at f p i here) k.op
    row op.DebugValue k = debug_value m r f i k
    row op.StrongRetain k = strong_retain m r f i k
    row op.StrongRelease k = strong_release m r f i k
    row op.RetainValue k = retain_value m r f i k
    row op.ReleaseValue k = release_value m r f i k
    row op.Br k = no_terminator k.inside
    row op.CondBr k = no_terminator k.inside
    row op.SwitchEnum k = no_terminator k.inside
    row op.Return k = no_terminator k.inside
    row op.Unreachable k = no_terminator k.inside
    row op.Upcast k = upcast_of m r f i k

    pub inst_is_typed : InstIsTyped m f p i
    inst_is_typed = record { takes = inst_takes; row = row i.op (known m r n f is_function p i here) }
