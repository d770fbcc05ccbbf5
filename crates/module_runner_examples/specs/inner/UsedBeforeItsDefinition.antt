-- No walk that is taken defines the value.
use Rattle.std.specs.Prelude.{[], ◌∷◌, Some, false, pos, codes}
use Rattle.instruction_table.specs.declared.op.Op.TheVariants as op
use Rattle.sil_ast.specs.declared.function.Block.{Block}
use Rattle.sil_ast.specs.declared.function.Form.TheVariants as form
use Rattle.sil_ast.specs.declared.function.Function.{Function}
use Rattle.sil_ast.specs.declared.function.Linkage.TheVariants as linkage
use Rattle.sil_ast.specs.declared.module.Module.{Module}
use Rattle.sil_ast.specs.declared.module.Stage.TheVariants as stage
use Rattle.sil_ast.specs.declared.signature.Convention.TheVariants as convention
use Rattle.sil_ast.specs.declared.signature.Signature.{Signature}
use Rattle.sil_ast.specs.declared.type_name.TypeName.TheVariants as type
use Rattle.module_runner_examples.specs.Parts.{v, fn, typed, inst, edge, signed_as, imports}
use Rattle.holder_model.specs.Faults as holder
use Rattle.holder_model.specs.declared.lowered_run.low_fault.LowFault.TheVariants as fault
use Rattle.module_runner_examples.specs.inner.Reported.{FaultsByHolders, FaultsLowered}
use Rattle.ownership_lowering_model.specs.LoweredModules.{lowered}

abbrev pub sig_main : Signature
sig_main = signed_as convention.Thin [] []

abbrev pub bb_main_0 : Block
bb_main_0 = record {
  args = [];
  insts = [];
  terminator = record (inst op.Br [] []) { edges = edge 2 [] ∷ [] };
}

abbrev pub bb_main_1 : Block
bb_main_1 = record {
  args = [];
  insts = record (inst op.IntegerLiteral (v 0 ∷ []) []) { ty = Some (type.Int 64); number = Some (pos 5) } ∷ [];
  terminator = record (inst op.Br [] []) { edges = edge 2 [] ∷ [] };
}

abbrev pub bb_main_2 : Block
bb_main_2 = record {
  args = [];
  insts =
      inst op.DebugValue [] (typed 0 (type.Int 64) ∷ [])
      ∷ inst op.Tuple (v 1 ∷ []) []
      ∷ [];
  terminator = inst op.Return [] (typed 1 (type.Tuple []) ∷ []);
}

abbrev pub fn_main : Function
fn_main = record {
  name = codes "main";
  form = form.Ossa;
  linkage = linkage.Plain;
  attributes = [];
  signature = sig_main;
  blocks = bb_main_0 ∷ bb_main_1 ∷ bb_main_2 ∷ [];
}

abbrev pub used_before_its_definition : Module
used_before_its_definition = record {
  stage = stage.Canonical;
  imports = imports false false;
  decls = [];
  functions = fn_main ∷ [];
  vtables = [];
}

abbrev pub UsedBeforeItsDefinition : Type 0
UsedBeforeItsDefinition = FaultsByHolders used_before_its_definition (fn 0) 100000 300 holder.NoEntry × FaultsLowered (lowered used_before_its_definition)
    (fn 0) 100000 300 (fault.Missing (record { 0 = 0 }))
