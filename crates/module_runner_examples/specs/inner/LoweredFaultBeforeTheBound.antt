-- Lowered text: the branch past the bound hands over a name without a value, and the fault comes first.
use Rattle.std.specs.Prelude.{[], ◌∷◌, Some, false, pos, codes}
use Rattle.instruction_table.specs.declared.op.Op.TheVariants as op
use Rattle.sil_ast.specs.declared.function.ArgKind.TheVariants as kind
use Rattle.sil_ast.specs.declared.function.Block.{Block}
use Rattle.sil_ast.specs.declared.function.Form.TheVariants as form
use Rattle.sil_ast.specs.declared.function.Function.{Function}
use Rattle.sil_ast.specs.declared.function.Linkage.TheVariants as linkage
use Rattle.sil_ast.specs.declared.module.Module.{Module}
use Rattle.sil_ast.specs.declared.module.Stage.TheVariants as stage
use Rattle.sil_ast.specs.declared.signature.Convention.TheVariants as convention
use Rattle.sil_ast.specs.declared.signature.Signature.{Signature}
use Rattle.sil_ast.specs.declared.type_name.TypeName.TheVariants as type
use Rattle.module_runner_examples.specs.Parts.{v, fn, typed, inst, edge, arg, signed_as, imports}
use Rattle.holder_model.specs.declared.lowered_run.low_fault.LowFault.TheVariants as fault
use Rattle.module_runner_examples.specs.inner.Reported.{FaultsLowered}

abbrev pub sig_main : Signature
sig_main = signed_as convention.Thin [] []

abbrev pub bb_main_0 : Block
bb_main_0 = record {
  args = [];
  insts = [];
  terminator = record (inst op.Br [] []) { edges = edge 2 (typed 0 (type.Int 8) ∷ []) ∷ [] };
}

abbrev pub bb_main_1 : Block
bb_main_1 = record {
  args = [];
  insts = record (inst op.IntegerLiteral (v 0 ∷ []) []) { ty = Some (type.Int 8); number = Some (pos 1) } ∷ [];
  terminator = record (inst op.Br [] []) { edges = edge 2 (typed 0 (type.Int 8) ∷ []) ∷ [] };
}

abbrev pub bb_main_2 : Block
bb_main_2 = record {
  args = arg 1 kind.Plain (type.Int 8) ∷ [];
  insts = inst op.Tuple (v 2 ∷ []) [] ∷ [];
  terminator = inst op.Return [] (typed 2 (type.Tuple []) ∷ []);
}

abbrev pub fn_main : Function
fn_main = record {
  name = codes "main";
  form = form.Lowered;
  linkage = linkage.Plain;
  attributes = [];
  signature = sig_main;
  blocks = bb_main_0 ∷ bb_main_1 ∷ bb_main_2 ∷ [];
}

abbrev pub lowered_fault_before_the_bound : Module
lowered_fault_before_the_bound = record {
  stage = stage.Canonical;
  imports = imports false false;
  decls = [];
  functions = fn_main ∷ [];
  vtables = [];
}

abbrev pub LoweredFaultBeforeTheBound : Type 0
LoweredFaultBeforeTheBound = FaultsLowered lowered_fault_before_the_bound (fn 0) 1 300 (fault.Missing (record { 0 = 0 }))
