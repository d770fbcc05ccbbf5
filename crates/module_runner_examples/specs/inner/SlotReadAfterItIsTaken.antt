-- A slot is read after its value was taken. The lowered slot still has the value, whose object is dead.
use Rattle.std.specs.Prelude.{[], ◌∷◌, Some, None, false, codes}
use Rattle.instruction_table.specs.declared.op.Op.TheVariants as op
use Rattle.sil_ast.specs.declared.decl.Decl.TheVariants as decl
use Rattle.sil_ast.specs.declared.decl.Decl.{Decl}
use Rattle.sil_ast.specs.declared.function.Block.{Block}
use Rattle.sil_ast.specs.declared.function.Form.TheVariants as form
use Rattle.sil_ast.specs.declared.function.Function.{Function}
use Rattle.sil_ast.specs.declared.function.Linkage.TheVariants as linkage
use Rattle.sil_ast.specs.declared.inst.Qualifier.TheVariants as qualifier
use Rattle.sil_ast.specs.declared.module.Module.{Module}
use Rattle.sil_ast.specs.declared.module.Stage.TheVariants as stage
use Rattle.sil_ast.specs.declared.signature.Convention.TheVariants as convention
use Rattle.sil_ast.specs.declared.signature.Signature.{Signature}
use Rattle.sil_ast.specs.declared.type_name.TypeName.TheVariants as type
use Rattle.sil_ast.specs.declared.type_name.TypeName.{TypeName}
use Rattle.module_runner_examples.specs.Parts.{v, fn, typed, bare, inst, signed_as, imports}
use Rattle.holder_model.specs.Faults as holder
use Rattle.holder_model.specs.declared.lowered_run.low_fault.LowFault.TheVariants as fault
use Rattle.module_runner_examples.specs.inner.Reported.{FaultsByHolders, FaultsLowered}
use Rattle.ownership_lowering_model.specs.LoweredModules.{lowered}

abbrev pub ty_C : TypeName
ty_C = type.Named (codes "C")

abbrev pub decl_C : Decl
decl_C = decl.Class (codes "C") None []

abbrev pub sig_main : Signature
sig_main = signed_as convention.Thin [] []

abbrev pub bb_main_0 : Block
bb_main_0 = record {
  args = [];
  insts =
      record (inst op.AllocRef (v 0 ∷ []) []) { ty = Some ty_C }
      ∷ record (inst op.AllocStack (v 1 ∷ []) []) { ty = Some ty_C }
      ∷ record (inst op.Store [] (bare 0 ∷ typed 1 (type.Address ty_C) ∷ [])) { qualifier = qualifier.Init }
      ∷ record (inst op.Load (v 2 ∷ []) (typed 1 (type.Address ty_C) ∷ [])) { qualifier = qualifier.Take }
      ∷ inst op.DestroyValue [] (typed 2 ty_C ∷ [])
      ∷ record (inst op.Load (v 3 ∷ []) (typed 1 (type.Address ty_C) ∷ [])) { qualifier = qualifier.Copy }
      ∷ inst op.DestroyValue [] (typed 3 ty_C ∷ [])
      ∷ inst op.DeallocStack [] (typed 1 (type.Address ty_C) ∷ [])
      ∷ inst op.Tuple (v 4 ∷ []) []
      ∷ [];
  terminator = inst op.Return [] (typed 4 (type.Tuple []) ∷ []);
}

abbrev pub fn_main : Function
fn_main = record {
  name = codes "main";
  form = form.Ossa;
  linkage = linkage.Plain;
  attributes = [];
  signature = sig_main;
  blocks = bb_main_0 ∷ [];
}

abbrev pub slot_read_after_it_is_taken : Module
slot_read_after_it_is_taken = record {
  stage = stage.Canonical;
  imports = imports false false;
  decls = decl_C ∷ [];
  functions = fn_main ∷ [];
  vtables = [];
}

abbrev pub SlotReadAfterItIsTaken : Type 0
SlotReadAfterItIsTaken = FaultsByHolders slot_read_after_it_is_taken (fn 0) 100000 300 holder.EmptyPlace × FaultsLowered (lowered
    slot_read_after_it_is_taken) (fn 0) 100000 300 (fault.Dead (record { 0 = 0 }))
