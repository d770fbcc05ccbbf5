-- An object is held at the return, and no one holds it afterwards.
use Rattle.std.specs.Prelude.{ℕ, List, [], ◌∷◌, Some, None, false, codes}
use Rattle.instruction_table.specs.declared.op.Op.TheVariants as op
use Rattle.sil_ast.specs.declared.decl.Decl.TheVariants as decl
use Rattle.sil_ast.specs.declared.decl.Decl.{Decl}
use Rattle.sil_ast.specs.declared.function.Block.{Block}
use Rattle.sil_ast.specs.declared.function.Form.TheVariants as form
use Rattle.sil_ast.specs.declared.function.Function.{Function}
use Rattle.sil_ast.specs.declared.function.Linkage.TheVariants as linkage
use Rattle.sil_ast.specs.declared.module.Module.{Module}
use Rattle.sil_ast.specs.declared.module.Stage.TheVariants as stage
use Rattle.sil_ast.specs.declared.signature.Convention.TheVariants as convention
use Rattle.sil_ast.specs.declared.signature.Signature.{Signature}
use Rattle.sil_ast.specs.declared.type_name.TypeName.TheVariants as type
use Rattle.sil_ast.specs.declared.type_name.TypeName.{TypeName}
use Rattle.module_runner_examples.specs.Parts.{v, fn, typed, inst, signed_as, imports}
use Rattle.holder_model.specs.Faults as holder
use Rattle.module_runner_examples.specs.inner.Reported.{ReportsWhenLowered, FaultsByHolders}

abbrev pub ty_C : TypeName
ty_C = type.Named (codes "C")

abbrev pub decl_C : Decl
decl_C = decl.Class (codes "C") None []

abbrev pub sig_main : Signature
sig_main = signed_as convention.Thin [] []

abbrev pub bb_main_0 : Block
bb_main_0 = record {
  args = [];
  insts =
      record (inst op.AllocRef (v 0 ∷ []) []) { ty = Some ty_C }
      ∷ inst op.Tuple (v 1 ∷ []) []
      ∷ [];
  terminator = inst op.Return [] (typed 1 (type.Tuple []) ∷ []);
}

abbrev pub fn_main : Function
fn_main = record {
  name = codes "main";
  form = form.Ossa;
  linkage = linkage.Plain;
  attributes = [];
  signature = sig_main;
  blocks = bb_main_0 ∷ [];
}

abbrev pub object_held_at_the_return : Module
object_held_at_the_return = record {
  stage = stage.Canonical;
  imports = imports false false;
  decls = decl_C ∷ [];
  functions = fn_main ∷ [];
  vtables = [];
}

abbrev pub object_held_at_the_return_answer : List (List ℕ)
object_held_at_the_return_answer =
    codes "returned ()"
    ∷ codes "objects 1"
    ∷ codes "object C#0 live strong 1 unowned 0 weak 0"
    ∷ codes "retains 0 releases 0"
    ∷ []

abbrev pub ObjectHeldAtTheReturn : Type 0
ObjectHeldAtTheReturn = FaultsByHolders object_held_at_the_return (fn 0) 100000 300 holder.LeavesHeld × ReportsWhenLowered object_held_at_the_return (fn 0)
    100000 300 object_held_at_the_return_answer
