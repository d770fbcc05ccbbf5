-- Lowered text: a name without a value is stored to a slot that is gone.
use Rattle.std.specs.Prelude.{[], ◌∷◌, Some, false, pos, codes}
use Rattle.instruction_table.specs.declared.op.Op.TheVariants as op
use Rattle.sil_ast.specs.declared.function.Block.{Block}
use Rattle.sil_ast.specs.declared.function.Form.TheVariants as form
use Rattle.sil_ast.specs.declared.function.Function.{Function}
use Rattle.sil_ast.specs.declared.function.Linkage.TheVariants as linkage
use Rattle.sil_ast.specs.declared.module.Module.{Module}
use Rattle.sil_ast.specs.declared.module.Stage.TheVariants as stage
use Rattle.sil_ast.specs.declared.signature.Convention.TheVariants as convention
use Rattle.sil_ast.specs.declared.signature.Signature.{Signature}
use Rattle.sil_ast.specs.declared.type_name.TypeName.TheVariants as type
use Rattle.module_runner_examples.specs.Parts.{v, fn, typed, bare, inst, edge, signed_as, imports}
use Rattle.holder_model.specs.declared.lowered_run.low_fault.LowFault.TheVariants as fault
use Rattle.module_runner_examples.specs.inner.Reported.{FaultsLowered}

abbrev pub sig_main : Signature
sig_main = signed_as convention.Thin [] []

abbrev pub bb_main_0 : Block
bb_main_0 = record {
  args = [];
  insts =
      record (inst op.AllocStack (v 0 ∷ []) []) { ty = Some (type.Int 8) }
      ∷ inst op.DeallocStack [] (typed 0 (type.Address (type.Int 8)) ∷ [])
      ∷ [];
  terminator = record (inst op.Br [] []) { edges = edge 2 [] ∷ [] };
}

abbrev pub bb_main_1 : Block
bb_main_1 = record {
  args = [];
  insts = record (inst op.IntegerLiteral (v 1 ∷ []) []) { ty = Some (type.Int 8); number = Some (pos 1) } ∷ [];
  terminator = record (inst op.Br [] []) { edges = edge 2 [] ∷ [] };
}

abbrev pub bb_main_2 : Block
bb_main_2 = record {
  args = [];
  insts =
      inst op.Store [] (bare 1 ∷ typed 0 (type.Address (type.Int 8)) ∷ [])
      ∷ inst op.Tuple (v 2 ∷ []) []
      ∷ [];
  terminator = inst op.Return [] (typed 2 (type.Tuple []) ∷ []);
}

abbrev pub fn_main : Function
fn_main = record {
  name = codes "main";
  form = form.Lowered;
  linkage = linkage.Plain;
  attributes = [];
  signature = sig_main;
  blocks = bb_main_0 ∷ bb_main_1 ∷ bb_main_2 ∷ [];
}

abbrev pub lowered_missing_before_slot : Module
lowered_missing_before_slot = record {
  stage = stage.Canonical;
  imports = imports false false;
  decls = [];
  functions = fn_main ∷ [];
  vtables = [];
}

abbrev pub LoweredMissingBeforeSlot : Type 0
LoweredMissingBeforeSlot = FaultsLowered lowered_missing_before_slot (fn 0) 100000 300 (fault.Missing (record { 0 = 1 }))
