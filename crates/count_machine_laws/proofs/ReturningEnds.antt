-- Terminators.
use Rattle.std.proofs.Common.{◌≡◌, ◌==◌, ◌∙◌, ℕ, List, [], ◌∷◌, cond, length, map, refl, sym, ap, arith}
use Rattle.std.specs.Prelude.{slice_get}
use Rattle.std.proofs.lemmas.Bool.{cond-false, cond-true, eq-eqb, ne_eqb}
use Rattle.std.proofs.lemmas.Option.{same_Some}
use Rattle.count_machine_model.specs.holder_model.Data.{Datum, ValueOf}
use Rattle.count_machine_model.specs.holder_model.Effects.{only}
use Rattle.count_machine_model.specs.holder_model.Frames.{has_any}
use Rattle.count_machine_model.specs.holder_model.ModuleShapes.{shapes_of}
use Rattle.count_machine_model.specs.holder_model.States as low
use Rattle.count_machine_model.specs.holder_model.declared.trap.Trap.TheVariants as trap
use Rattle.instruction_table.specs.Forms.{ending_of}
use Rattle.instruction_table.specs.declared.entries.Ending.TheVariants as ending
use Rattle.count_machine_model.specs.holder_model.declared.lowered_run.low_fault.LowFault.TheVariants as fault
use Rattle.count_machine_model.specs.holder_model.LoweredRun.LowFrames.{LowFrame, read_all}
use Rattle.count_machine_model.specs.holder_model.LoweredRun.LowStepParts.{LowNext, LowState, fails, on_ok, on_some}
use Rattle.count_machine_model.specs.holder_model.LoweredRun.LowSteps as run
use Rattle.count_machine_model.specs.declared.machine_steps.frame.Frame.{Frame}
use Rattle.count_machine_model.specs.declared.machine_steps.frame.Task.{Task}
use Rattle.count_machine_model.specs.declared.machine_steps.run_end.RunEnd.TheVariants as stop
use Rattle.count_machine_model.specs.MachineSteps.Ends as machine
use Rattle.count_machine_model.specs.MachineSteps.Operands.{faults}
use Rattle.count_machine_model.specs.MachineSteps.Views.{MachineView, Went}
use Rattle.count_machine_model.specs.declared.ready_code.block.ReadyEnd.{ReadyEnd}
use Rattle.count_machine_model.specs.declared.ready_code.block.ReadyEnd.TheVariants as end
use Rattle.count_machine_model.specs.declared.ready_code.function.ReadyModule.{ReadyModule}
use Rattle.count_machine_model.specs.ReadyCode.Layout.{local}
use Rattle.count_machine_model.specs.ReadyCode.ReadyEnds.{IsReadyEnd}
use Rattle.count_machine_model.specs.ReadyCode.ReadyModules.{IsReadyModule}
use Rattle.count_machine_model.specs.ReadyCode.ReadyOps.{operands_of}
use Rattle.count_machine_model.specs.holder_model.RunTyping.EndForms.{EndForms, branch, branches, cases, operand_forms, returns, unreachable}
use Rattle.count_machine_model.specs.holder_model.RunTyping.Forms.{OfValue, form_of, given_shape}
use Rattle.count_machine_model.specs.holder_model.RunTyping.RunTyped.{RunTyped}
use Rattle.holder_model_values.specs.RunValues.Shapes.{Shape}
use Rattle.sil_ast.specs.declared.function.Function.{Function}
use Rattle.sil_ast.specs.declared.inst.Inst.{Inst}
use Rattle.sil_ast.specs.declared.module.Module.{Module}
use Rattle.sil_ast.specs.declared.place.ValueId.{ValueId}
use Rattle.sil_types_declarations.specs.TypeDefinitions.Declarations.{Declarations, declarations_of}
use Rattle.count_machine_laws.specs.inner.Told as told
use Rattle.count_machine_laws.proofs.EdgingBranches.{OperandRead, StandsAtEnd, branch_alike, exit_takes, jump_alike, operand_alike}
use Rattle.count_machine_laws.proofs.EdgingSwitches.{switch_alike}
use Rattle.count_machine_laws.proofs.Ending.{Alike, alike_by, ends_alike, fault_alike}
use Rattle.count_machine_laws.proofs.Entries.{Ends}
use Rattle.count_machine_laws.proofs.FrameSteps.{Running}
use Rattle.count_machine_laws.proofs.PushesSlots.{NewestSlot, newest, newest_slot, none}
use Rattle.count_machine_laws.proofs.Returning.{returns_to_alike}
use Rattle.count_machine_laws.proofs.Slots.{Made}
use Rattle.count_machine_laws.proofs.Tasks.{Beginning, to_take}

return_forms : (d : Declarations) (f : Function) (i : Inst) → ending_of i.op ≡ ending.Return → EndForms d f i → operand_forms d f i ≡ OfValue (given_shape d f) ∷ []
return_forms d f i is (branch e is' bare edge forms) = absurd (cc)
return_forms d f i is (branches set clear is' operands set_is clear_is set_forms clear_forms) = absurd (cc)
return_forms d f i is (cases s is' operands shape all) = absurd (cc)
return_forms d f i is (returns is' operands) = operands
return_forms d f i is (unreachable is') = absurd (cc)

module _ (m : Module) (ready : ReadyModule) (entry : Beginning) (bound : ℕ) (typed : RunTyped m) (is_ready : IsReadyModule m entry.reached ready) (made : List Made) (s : LowState) (st : MachineView)
    (f : Function) (lf : LowFrame) (mf : Frame) (below : Ends) (rest : List (low.Task LowFrame)) (rest' : List Task) (running : Running m entry made s st f lf mf below rest rest')
    (i : Inst) (stands : StandsAtEnd m f lf i) where
  return_alike : (v : ValueId) → ending_of i.op ≡ ending.Return → operands_of i ≡ v ∷ []
      → Alike m entry (run.ends_block_by m (shapes_of m) bound (ending_of i.op) s rest lf f i) (machine.ends_with ready bound st mf rest' (end.Return (local (declarations_of m) f v)))
  return_alike v is one =
      alike_by
      (ap (λ x. run.ends_block_by m (shapes_of m) bound x s rest lf f i) is
      ∙ ap (λ vs. on_ok s giving (read_all lf.values vs)) (exit_takes m ready entry bound typed made s st f lf mf below rest rest' running i stands))
      refl
      (operand_alike m ready entry bound typed made s st f lf mf below rest rest' running i stands v shape one form giving
      (cond (length st.slots == mf.slots) to (faults fault.Slot st)) by)
    where
      shape : Shape
      shape = given_shape (declarations_of m) f

      form : form_of (declarations_of m) f v ≡ OfValue shape
      form =
          same_Some (form_of (declarations_of m) f v) (OfValue shape)
          (ap (λ vs. slice_get (map (form_of (declarations_of m) f) vs) 0) (sym one) ∙ ap (λ fs. slice_get fs 0) (return_forms (declarations_of m) f i is stands.forms))

      giving : List Datum → LowNext
      giving xs = cond (has_any lf.slots) (fails s fault.Slot) (on_some s (λ x. run.returns_to m (shapes_of m) bound s x rest) (only xs))

      to : Went
      to = machine.returns_to ready bound st mf rest' (local (declarations_of m) f v) rest'

      by : (read : OperandRead m ready entry bound typed made s st f lf mf below rest rest' running i stands v shape)
          → Alike m entry (giving (ValueOf read.value ∷ [])) (cond (length st.slots == mf.slots) to (faults fault.Slot st))
      by read = at (newest_slot running.frame refl)
        where
          there : LowNext
          there = run.returns_to m (shapes_of m) bound s (ValueOf read.value) rest

          at : NewestSlot made st lf below → Alike m entry (giving (ValueOf read.value ∷ [])) (cond (length st.slots == mf.slots) to (faults fault.Slot st))
          at (none bare same) =
              let empty : length st.slots ≡ mf.slots = sym (running.frame.slots ∙ same) in
              alike_by (cond-false (has_any lf.slots) (fails s fault.Slot) there (ap has_any bare))
              (cond-true (length st.slots == mf.slots) to (faults fault.Slot st) (eq-eqb (length st.slots) mf.slots empty))
              (returns_to_alike m ready entry bound typed is_ready made s st running.parts f lf mf below running.frame rest' empty shape read.value read.fits (local (declarations_of m) f v)
              read.leaves (to_take shape) below rest rest' refl refl refl running.others)
          at (newest index slot places last over at_index slots) =
              alike_by (cond-true (has_any lf.slots) (fails s fault.Slot) there (ap has_any slots))
              (cond-false (length st.slots == mf.slots) to (faults fault.Slot st) (ne_eqb (length st.slots) mf.slots (λ e. omega (arith, e, running.frame.slots, last, over))))
              (fault_alike running.parts fault.Slot)

  -- what the terminator does in both
  pub end_alike : (e : ReadyEnd) → IsReadyEnd (declarations_of m) f i e
      → Alike m entry (run.ends_block_by m (shapes_of m) bound (ending_of i.op) s rest lf f i) (machine.ends_with ready bound st mf rest' e)
  end_alike _ (IsReadyEnd.jump e is edge) = jump_alike m ready entry bound typed made s st f lf mf below rest rest' running i stands e is edge
  end_alike _ (IsReadyEnd.branch v set clear is one set_is clear_is) =
      branch_alike m ready entry bound typed made s st f lf mf below rest rest' running i stands v set clear is one set_is clear_is
  end_alike _ (IsReadyEnd.switch v s' cases_ is one form are) =
      switch_alike m ready entry bound typed made s st f lf mf below rest rest' running i stands is v one s' cases_ form are
  end_alike _ (IsReadyEnd.returns v is one) = return_alike v is one
  end_alike _ (IsReadyEnd.unreachable is) =
      alike_by (ap (λ x. run.ends_block_by m (shapes_of m) bound x s rest lf f i) is) refl
      (ends_alike running.parts (low.Trapped trap.Unreachable) stop.Unreachable told.unreachable refl)
