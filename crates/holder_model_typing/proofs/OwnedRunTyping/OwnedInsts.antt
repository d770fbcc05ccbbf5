-- Each instruction of a function in ownership form takes its operands, and they and its results are of the forms that its row has to do with.
use Rattle.std.proofs.Common.{◌≡◌, ℕ, true, false, Some}
use Rattle.std.specs.Prelude.{slice_get}
use Rattle.instruction_table.specs.Forms.{forms_of}
use Rattle.instruction_table.specs.declared.op.Op.{Op}
use Rattle.instruction_table.specs.declared.op.Op.TheVariants as op
use Rattle.holder_model.specs.sil_cfg_items.Parts.{inst_at}
use Rattle.sil_ast.specs.declared.function.Form.TheVariants.{Ossa}
use Rattle.sil_ast.specs.declared.function.Function.{Function}
use Rattle.sil_ast.specs.declared.inst.Inst.{Inst}
use Rattle.sil_ast.specs.declared.module.Module.{Module}
use Rattle.sil_ast.specs.declared.place.PointId.{PointId}
use Rattle.holder_model.specs.sil_types.Typing.FormRules.{may_stand_owned}
use Rattle.holder_model_typing.specs.RunTypingLaws.inner.WellTyped.{IsWellTyped}
use Rattle.holder_model_typing.proofs.RunTypingLaws.CallFacts.{call_row}
use Rattle.holder_model_typing.proofs.RunTypingLaws.Rows.Builtins.{builtin}
use Rattle.holder_model_typing.proofs.RunTypingLaws.Rows.Groups.{enum, struct, tuple_of}
use Rattle.holder_model_typing.proofs.RunTypingLaws.Rows.Insts.{inst_takes}
use Rattle.holder_model_typing.proofs.RunTypingLaws.Rows.Known.{Known, in_owned, known}
use Rattle.holder_model_typing.proofs.RunTypingLaws.Rows.Members.{ref_element_addr, struct_element_addr, struct_extract, tuple_element_addr, tuple_extract}
use Rattle.holder_model_typing.proofs.RunTypingLaws.Rows.NamesOfObjects.{load_unowned, load_weak, store_unowned, store_weak}
use Rattle.holder_model_typing.proofs.RunTypingLaws.Rows.Plain.{alloc_ref, alloc_stack, cond_fail, dealloc_stack, debug_value, function_ref, integer_literal}
use Rattle.holder_model_typing.proofs.RunTypingLaws.Rows.Points.{is_at}
use Rattle.holder_model_typing.proofs.RunTypingLaws.Rows.Upcasts.{upcast_of}
use Rattle.holder_model_typing.specs.OwnedRunTyping.inner.OwnedTyped.{OwnedInst}
use Rattle.holder_model_typing.proofs.OwnedRunTyping.OwnedRows.{OwnedRow, as_lowered, begin_borrow, copy_value, destroy_addr, destroy_value, destructure_struct, destructure_tuple}
use Rattle.holder_model_typing.proofs.OwnedRunTyping.OwnedRows.{end_borrow, load, load_borrow, move_value, store}

no_other_form : {P : Type 0} → false ≡ true → P
no_other_form e = absurd (cc)

no_terminator : {P : Type 0} → true ≡ false → P
no_terminator e = absurd (cc)

module _ (m : Module) (r : IsWellTyped m) (n : ℕ) (f : Function) (is_function : slice_get m.functions n ≡ Some f) (p : PointId) (i : Inst)
    (here : inst_at f p ≡ Some i) (owned : f.form ≡ Ossa) where
  stands : {o : Op} → Known m f i o → may_stand_owned (forms_of o) ≡ true
  stands {o} k = in_owned m f i o k owned

  row : (o : Op) → Known m f i o → OwnedRow m f i
  row op.IntegerLiteral k = as_lowered m f i (integer_literal m r f i k)
  row op.FunctionRef k = as_lowered m f i (function_ref m r f i k)
  row op.Builtin k = as_lowered m f i (builtin m f i k)
  row op.CondFail k = as_lowered m f i (cond_fail m r f i k)
  row op.AllocRef k = as_lowered m f i (alloc_ref m r f i k)
  row op.AllocStack k = as_lowered m f i (alloc_stack m r f i k)
  row op.DeallocStack k = as_lowered m f i (dealloc_stack m r f i k)
  row op.CopyValue k = copy_value m r f i k
  row op.DestroyValue k = destroy_value m r f i k
  row op.MoveValue k = move_value m r f i k
  row op.BeginBorrow k = begin_borrow m r f i k
  row op.EndBorrow k = end_borrow m r f i k
  row op.Load k = load m r f i k
  row op.Store k = store m r f i k
  row op.LoadBorrow k = load_borrow m r f i k
  row op.DestroyAddr k = destroy_addr m r f i k
  row op.LoadWeak k = as_lowered m f i (load_weak m r f i k)
  row op.StoreWeak k = as_lowered m f i (store_weak m r f i k)
  row op.LoadUnowned k = as_lowered m f i (load_unowned m r f i k)
  row op.StoreUnowned k = as_lowered m f i (store_unowned m r f i k)
  row op.Struct k = as_lowered m f i (struct m r f i k)
  row op.Tuple k = as_lowered m f i (tuple_of m r f i k)
  row op.Enum k = as_lowered m f i (enum m r f i k)
  row op.StructExtract k = as_lowered m f i (struct_extract m r f i k)
  row op.TupleExtract k = as_lowered m f i (tuple_extract m r f i k)
  row op.DestructureStruct k = destructure_struct m r f i k
  row op.DestructureTuple k = destructure_tuple m r f i k
  row op.StructElementAddr k = as_lowered m f i (struct_element_addr m r f i k)
  row op.TupleElementAddr k = as_lowered m f i (tuple_element_addr m r f i k)
  row op.RefElementAddr k = as_lowered m f i (ref_element_addr m r f i k)
  row op.Apply k = as_lowered m f i (call_row m r n f is_function p.block.0 p.index i (is_at f p i here) k.op)
  row op.DebugValue k = as_lowered m f i (debug_value m r f i k)
  row op.StrongRetain k = no_other_form (stands k)
  row op.StrongRelease k = no_other_form (stands k)
  row op.RetainValue k = no_other_form (stands k)
  row op.ReleaseValue k = no_other_form (stands k)
  row op.Br k = no_terminator k.inside
  row op.CondBr k = no_terminator k.inside
  row op.SwitchEnum k = no_terminator k.inside
  row op.Return k = no_terminator k.inside
  row op.Unreachable k = no_terminator k.inside
  row op.Upcast k = as_lowered m f i (upcast_of m r f i k)

  pub owned_inst : OwnedInst m f p i
  owned_inst = record { takes = inst_takes m r n f is_function p i here; row = row i.op (known m r n f is_function p i here) }
