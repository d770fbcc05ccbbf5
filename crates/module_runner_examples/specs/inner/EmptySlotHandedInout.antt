-- The callee does nothing to the empty place that it is handed, so the lowered run returns.
use Rattle.std.specs.Prelude.{ℕ, List, [], ◌∷◌, Some, None, false, codes}
use Rattle.instruction_table.specs.declared.op.Op.TheVariants as op
use Rattle.sil_ast.specs.declared.decl.Decl.TheVariants as decl
use Rattle.sil_ast.specs.declared.decl.Decl.{Decl}
use Rattle.sil_ast.specs.declared.function.ArgKind.TheVariants as kind
use Rattle.sil_ast.specs.declared.function.Block.{Block}
use Rattle.sil_ast.specs.declared.function.Form.TheVariants as form
use Rattle.sil_ast.specs.declared.function.Function.{Function}
use Rattle.sil_ast.specs.declared.function.Linkage.TheVariants as linkage
use Rattle.sil_ast.specs.declared.module.Module.{Module}
use Rattle.sil_ast.specs.declared.module.Stage.TheVariants as stage
use Rattle.sil_ast.specs.declared.signature.Convention.TheVariants as convention
use Rattle.sil_ast.specs.declared.signature.Passing.TheVariants as passing
use Rattle.sil_ast.specs.declared.signature.Signature.{Signature}
use Rattle.sil_ast.specs.declared.type_name.TypeName.TheVariants as type
use Rattle.sil_ast.specs.declared.type_name.TypeName.{TypeName}
use Rattle.module_runner_examples.specs.Parts.{v, fn, typed, bare, inst, arg, signed_as, param, imports}
use Rattle.holder_model.specs.Faults as holder
use Rattle.module_runner_examples.specs.inner.Reported.{ReportsWhenLowered, FaultsByHolders}

abbrev pub ty_C : TypeName
ty_C = type.Named (codes "C")

abbrev pub decl_C : Decl
decl_C = decl.Class (codes "C") None []

abbrev pub sig_f : Signature
sig_f = signed_as convention.Thin (param passing.Inout ty_C ∷ []) []

abbrev pub sig_main : Signature
sig_main = signed_as convention.Thin [] []

abbrev pub bb_f_0 : Block
bb_f_0 = record {
  args = arg 0 kind.Plain (type.Address ty_C) ∷ [];
  insts = inst op.Tuple (v 1 ∷ []) [] ∷ [];
  terminator = inst op.Return [] (typed 1 (type.Tuple []) ∷ []);
}

abbrev pub fn_f : Function
fn_f = record {
  name = codes "f";
  form = form.Ossa;
  linkage = linkage.Plain;
  attributes = [];
  signature = sig_f;
  blocks = bb_f_0 ∷ [];
}

abbrev pub bb_main_0 : Block
bb_main_0 = record {
  args = [];
  insts =
      record (inst op.AllocStack (v 0 ∷ []) []) { ty = Some ty_C }
      ∷ record (inst op.FunctionRef (v 1 ∷ []) []) { function = Some (fn 0); signature = Some sig_f }
      ∷ record (inst op.Apply (v 2 ∷ []) (bare 1 ∷ bare 0 ∷ [])) { signature = Some sig_f }
      ∷ inst op.DeallocStack [] (typed 0 (type.Address ty_C) ∷ [])
      ∷ [];
  terminator = inst op.Return [] (typed 2 (type.Tuple []) ∷ []);
}

abbrev pub fn_main : Function
fn_main = record {
  name = codes "main";
  form = form.Ossa;
  linkage = linkage.Plain;
  attributes = [];
  signature = sig_main;
  blocks = bb_main_0 ∷ [];
}

abbrev pub empty_slot_handed_inout : Module
empty_slot_handed_inout = record {
  stage = stage.Canonical;
  imports = imports false false;
  decls = decl_C ∷ [];
  functions = fn_f ∷ fn_main ∷ [];
  vtables = [];
}

abbrev pub empty_slot_handed_inout_answer : List (List ℕ)
empty_slot_handed_inout_answer =
    codes "returned ()"
    ∷ codes "objects 0"
    ∷ codes "retains 0 releases 0"
    ∷ []

abbrev pub EmptySlotHandedInout : Type 0
EmptySlotHandedInout = FaultsByHolders empty_slot_handed_inout (fn 1) 100000 300 holder.PlaceNotAsAsked × ReportsWhenLowered empty_slot_handed_inout (fn 1)
    100000 300 empty_slot_handed_inout_answer
