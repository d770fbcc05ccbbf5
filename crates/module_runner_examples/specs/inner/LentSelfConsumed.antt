-- A deinitialiser consumes its object, which is lent to it. The lowered release finds the number 0.
use Rattle.std.specs.Prelude.{[], ◌∷◌, Some, None, false, codes}
use Rattle.instruction_table.specs.declared.op.Op.TheVariants as op
use Rattle.sil_ast.specs.declared.decl.Decl.TheVariants as decl
use Rattle.sil_ast.specs.declared.decl.Decl.{Decl}
use Rattle.sil_ast.specs.declared.function.ArgKind.TheVariants as kind
use Rattle.sil_ast.specs.declared.function.Block.{Block}
use Rattle.sil_ast.specs.declared.function.Form.TheVariants as form
use Rattle.sil_ast.specs.declared.function.Function.{Function}
use Rattle.sil_ast.specs.declared.function.Linkage.TheVariants as linkage
use Rattle.sil_ast.specs.declared.module.Module.{Module}
use Rattle.sil_ast.specs.declared.module.Stage.TheVariants as stage
use Rattle.sil_ast.specs.declared.signature.Convention.TheVariants as convention
use Rattle.sil_ast.specs.declared.signature.Passing.TheVariants as passing
use Rattle.sil_ast.specs.declared.signature.Signature.{Signature}
use Rattle.sil_ast.specs.declared.type_name.TypeName.TheVariants as type
use Rattle.sil_ast.specs.declared.type_name.TypeName.{TypeName}
use Rattle.module_runner_examples.specs.Parts.{v, fn, typed, inst, arg, signed_as, param, imports, vtable}
use Rattle.holder_model.specs.Faults as holder
use Rattle.holder_model.specs.declared.lowered_run.low_fault.LowFault.TheVariants as fault
use Rattle.module_runner_examples.specs.inner.Reported.{FaultsByHolders, FaultsLowered}
use Rattle.ownership_lowering_model.specs.LoweredModules.{lowered}

abbrev pub ty_C : TypeName
ty_C = type.Named (codes "C")

abbrev pub decl_C : Decl
decl_C = decl.Class (codes "C") None []

abbrev pub sig_C_deinit : Signature
sig_C_deinit = signed_as convention.Method (param passing.Guaranteed ty_C ∷ []) []

abbrev pub sig_main : Signature
sig_main = signed_as convention.Thin [] []

abbrev pub bb_C_deinit_0 : Block
bb_C_deinit_0 = record {
  args = arg 0 kind.Guaranteed ty_C ∷ [];
  insts =
      inst op.DestroyValue [] (typed 0 ty_C ∷ [])
      ∷ inst op.Tuple (v 1 ∷ []) []
      ∷ [];
  terminator = inst op.Return [] (typed 1 (type.Tuple []) ∷ []);
}

abbrev pub fn_C_deinit : Function
fn_C_deinit = record {
  name = codes "C_deinit";
  form = form.Ossa;
  linkage = linkage.Plain;
  attributes = [];
  signature = sig_C_deinit;
  blocks = bb_C_deinit_0 ∷ [];
}

abbrev pub bb_main_0 : Block
bb_main_0 = record {
  args = [];
  insts =
      record (inst op.AllocRef (v 0 ∷ []) []) { ty = Some ty_C }
      ∷ inst op.DestroyValue [] (typed 0 ty_C ∷ [])
      ∷ inst op.Tuple (v 1 ∷ []) []
      ∷ [];
  terminator = inst op.Return [] (typed 1 (type.Tuple []) ∷ []);
}

abbrev pub fn_main : Function
fn_main = record {
  name = codes "main";
  form = form.Ossa;
  linkage = linkage.Plain;
  attributes = [];
  signature = sig_main;
  blocks = bb_main_0 ∷ [];
}

abbrev pub lent_self_consumed : Module
lent_self_consumed = record {
  stage = stage.Canonical;
  imports = imports false false;
  decls = decl_C ∷ [];
  functions = fn_C_deinit ∷ fn_main ∷ [];
  vtables = vtable (codes "C") 0 ∷ [];
}

abbrev pub LentSelfConsumed : Type 0
LentSelfConsumed = FaultsByHolders lent_self_consumed (fn 1) 100000 300 holder.ConsumesLent × FaultsLowered (lowered lent_self_consumed) (fn 1) 100000 300
    (fault.Underflow (record { 0 = 0 }) 0)
