-- A callee deallocates the place that it is handed.
use Rattle.std.specs.Prelude.{[], ◌∷◌, Some, false, pos, codes}
use Rattle.instruction_table.specs.declared.op.Op.TheVariants as op
use Rattle.sil_ast.specs.declared.function.ArgKind.TheVariants as kind
use Rattle.sil_ast.specs.declared.function.Block.{Block}
use Rattle.sil_ast.specs.declared.function.Form.TheVariants as form
use Rattle.sil_ast.specs.declared.function.Function.{Function}
use Rattle.sil_ast.specs.declared.function.Linkage.TheVariants as linkage
use Rattle.sil_ast.specs.declared.inst.Qualifier.TheVariants as qualifier
use Rattle.sil_ast.specs.declared.module.Module.{Module}
use Rattle.sil_ast.specs.declared.module.Stage.TheVariants as stage
use Rattle.sil_ast.specs.declared.signature.Convention.TheVariants as convention
use Rattle.sil_ast.specs.declared.signature.Passing.TheVariants as passing
use Rattle.sil_ast.specs.declared.signature.Signature.{Signature}
use Rattle.sil_ast.specs.declared.type_name.TypeName.TheVariants as type
use Rattle.module_runner_examples.specs.Parts.{v, fn, typed, bare, inst, arg, signed_as, param, imports}
use Rattle.holder_model.specs.Faults as holder
use Rattle.holder_model.specs.declared.lowered_run.low_fault.LowFault.TheVariants as fault
use Rattle.module_runner_examples.specs.inner.Reported.{FaultsByHolders, FaultsLowered}
use Rattle.ownership_lowering_model.specs.LoweredModules.{lowered}

abbrev pub sig_f : Signature
sig_f = signed_as convention.Thin (param passing.Inout (type.Int 8) ∷ []) []

abbrev pub sig_main : Signature
sig_main = signed_as convention.Thin [] []

abbrev pub bb_f_0 : Block
bb_f_0 = record {
  args = arg 0 kind.Plain (type.Address (type.Int 8)) ∷ [];
  insts =
      inst op.DeallocStack [] (typed 0 (type.Address (type.Int 8)) ∷ [])
      ∷ inst op.Tuple (v 1 ∷ []) []
      ∷ [];
  terminator = inst op.Return [] (typed 1 (type.Tuple []) ∷ []);
}

abbrev pub fn_f : Function
fn_f = record {
  name = codes "f";
  form = form.Ossa;
  linkage = linkage.Plain;
  attributes = [];
  signature = sig_f;
  blocks = bb_f_0 ∷ [];
}

abbrev pub bb_main_0 : Block
bb_main_0 = record {
  args = [];
  insts =
      record (inst op.AllocStack (v 0 ∷ []) []) { ty = Some (type.Int 8) }
      ∷ record (inst op.IntegerLiteral (v 1 ∷ []) []) { ty = Some (type.Int 8); number = Some (pos 1) }
      ∷ record (inst op.Store [] (bare 1 ∷ typed 0 (type.Address (type.Int 8)) ∷ [])) { qualifier = qualifier.Trivial }
      ∷ record (inst op.FunctionRef (v 2 ∷ []) []) { function = Some (fn 0); signature = Some sig_f }
      ∷ record (inst op.Apply (v 3 ∷ []) (bare 2 ∷ bare 0 ∷ [])) { signature = Some sig_f }
      ∷ [];
  terminator = inst op.Return [] (typed 3 (type.Tuple []) ∷ []);
}

abbrev pub fn_main : Function
fn_main = record {
  name = codes "main";
  form = form.Ossa;
  linkage = linkage.Plain;
  attributes = [];
  signature = sig_main;
  blocks = bb_main_0 ∷ [];
}

abbrev pub slot_of_the_caller_deallocated : Module
slot_of_the_caller_deallocated = record {
  stage = stage.Canonical;
  imports = imports false false;
  decls = [];
  functions = fn_f ∷ fn_main ∷ [];
  vtables = [];
}

abbrev pub SlotOfTheCallerDeallocated : Type 0
SlotOfTheCallerDeallocated = FaultsByHolders slot_of_the_caller_deallocated (fn 1) 100000 300 holder.NotLastSlot × FaultsLowered (lowered
    slot_of_the_caller_deallocated) (fn 1) 100000 300 fault.Slot
