-- A slot is deallocated before one that was allocated after it.
use Rattle.std.specs.Prelude.{[], ◌∷◌, Some, false, codes}
use Rattle.instruction_table.specs.declared.op.Op.TheVariants as op
use Rattle.sil_ast.specs.declared.function.Block.{Block}
use Rattle.sil_ast.specs.declared.function.Form.TheVariants as form
use Rattle.sil_ast.specs.declared.function.Function.{Function}
use Rattle.sil_ast.specs.declared.function.Linkage.TheVariants as linkage
use Rattle.sil_ast.specs.declared.module.Module.{Module}
use Rattle.sil_ast.specs.declared.module.Stage.TheVariants as stage
use Rattle.sil_ast.specs.declared.signature.Convention.TheVariants as convention
use Rattle.sil_ast.specs.declared.signature.Signature.{Signature}
use Rattle.sil_ast.specs.declared.type_name.TypeName.TheVariants as type
use Rattle.module_runner_examples.specs.Parts.{v, fn, typed, inst, signed_as, imports}
use Rattle.holder_model.specs.Faults as holder
use Rattle.holder_model.specs.declared.lowered_run.low_fault.LowFault.TheVariants as fault
use Rattle.module_runner_examples.specs.inner.Reported.{FaultsByHolders, FaultsLowered}
use Rattle.ownership_lowering_model.specs.LoweredModules.{lowered}

abbrev pub sig_main : Signature
sig_main = signed_as convention.Thin [] []

abbrev pub bb_main_0 : Block
bb_main_0 = record {
  args = [];
  insts =
      record (inst op.AllocStack (v 0 ∷ []) []) { ty = Some (type.Int 8) }
      ∷ record (inst op.AllocStack (v 1 ∷ []) []) { ty = Some (type.Int 8) }
      ∷ inst op.DeallocStack [] (typed 0 (type.Address (type.Int 8)) ∷ [])
      ∷ inst op.DeallocStack [] (typed 1 (type.Address (type.Int 8)) ∷ [])
      ∷ inst op.Tuple (v 2 ∷ []) []
      ∷ [];
  terminator = inst op.Return [] (typed 2 (type.Tuple []) ∷ []);
}

abbrev pub fn_main : Function
fn_main = record {
  name = codes "main";
  form = form.Ossa;
  linkage = linkage.Plain;
  attributes = [];
  signature = sig_main;
  blocks = bb_main_0 ∷ [];
}

abbrev pub slots_deallocated_out_of_order : Module
slots_deallocated_out_of_order = record {
  stage = stage.Canonical;
  imports = imports false false;
  decls = [];
  functions = fn_main ∷ [];
  vtables = [];
}

abbrev pub SlotsDeallocatedOutOfOrder : Type 0
SlotsDeallocatedOutOfOrder = FaultsByHolders slots_deallocated_out_of_order (fn 0) 100000 300 holder.NotLastSlot × FaultsLowered (lowered
    slots_deallocated_out_of_order) (fn 0) 100000 300 fault.Slot
