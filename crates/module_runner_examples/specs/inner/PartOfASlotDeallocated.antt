-- A part is no whole slot.
use Rattle.std.specs.Prelude.{[], ◌∷◌, Some, false, codes}
use Rattle.instruction_table.specs.declared.op.Op.TheVariants as op
use Rattle.sil_ast.specs.declared.decl.Decl.TheVariants as decl
use Rattle.sil_ast.specs.declared.decl.Decl.{Decl}
use Rattle.sil_ast.specs.declared.decl.Storage.TheVariants as storage
use Rattle.sil_ast.specs.declared.function.Block.{Block}
use Rattle.sil_ast.specs.declared.function.Form.TheVariants as form
use Rattle.sil_ast.specs.declared.function.Function.{Function}
use Rattle.sil_ast.specs.declared.function.Linkage.TheVariants as linkage
use Rattle.sil_ast.specs.declared.module.Module.{Module}
use Rattle.sil_ast.specs.declared.module.Stage.TheVariants as stage
use Rattle.sil_ast.specs.declared.signature.Convention.TheVariants as convention
use Rattle.sil_ast.specs.declared.signature.Signature.{Signature}
use Rattle.sil_ast.specs.declared.type_name.TypeName.TheVariants as type
use Rattle.sil_ast.specs.declared.type_name.TypeName.{TypeName}
use Rattle.module_runner_examples.specs.Parts.{v, fn, typed, member, inst, signed_as, imports}
use Rattle.holder_model.specs.Faults as holder
use Rattle.holder_model.specs.declared.lowered_run.low_fault.LowFault.TheVariants as fault
use Rattle.module_runner_examples.specs.inner.Reported.{FaultsByHolders, FaultsLowered}
use Rattle.ownership_lowering_model.specs.LoweredModules.{lowered}

abbrev pub ty_S : TypeName
ty_S = type.Named (codes "S")

abbrev pub decl_S : Decl
decl_S = decl.Struct (codes "S") (record { name = codes "x"; storage = storage.Strong; ty = (type.Int 8) } ∷ [])

abbrev pub sig_main : Signature
sig_main = signed_as convention.Thin [] []

abbrev pub bb_main_0 : Block
bb_main_0 = record {
  args = [];
  insts =
      record (inst op.AllocStack (v 0 ∷ []) []) { ty = Some ty_S }
      ∷ record (inst op.StructElementAddr (v 1 ∷ []) (typed 0 (type.Address ty_S) ∷ [])) { member = Some (member (codes "S") (codes "x")) }
      ∷ inst op.DeallocStack [] (typed 1 (type.Address (type.Int 8)) ∷ [])
      ∷ inst op.Tuple (v 2 ∷ []) []
      ∷ [];
  terminator = inst op.Return [] (typed 2 (type.Tuple []) ∷ []);
}

abbrev pub fn_main : Function
fn_main = record {
  name = codes "main";
  form = form.Ossa;
  linkage = linkage.Plain;
  attributes = [];
  signature = sig_main;
  blocks = bb_main_0 ∷ [];
}

abbrev pub part_of_a_slot_deallocated : Module
part_of_a_slot_deallocated = record {
  stage = stage.Canonical;
  imports = imports false false;
  decls = decl_S ∷ [];
  functions = fn_main ∷ [];
  vtables = [];
}

abbrev pub PartOfASlotDeallocated : Type 0
PartOfASlotDeallocated = FaultsByHolders part_of_a_slot_deallocated (fn 0) 100000 300 holder.NotLastSlot × FaultsLowered (lowered
    part_of_a_slot_deallocated) (fn 0) 100000 300 fault.Slot
