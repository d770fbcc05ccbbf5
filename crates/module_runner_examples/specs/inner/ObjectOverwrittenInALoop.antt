-- The second turn of a loop gives a value anew that is held. The lowered run loses the first object.
use Rattle.std.specs.Prelude.{ℕ, List, [], ◌∷◌, Some, None, false, pos, negsuc, codes}
use Rattle.instruction_table.specs.declared.op.Op.TheVariants as op
use Rattle.sil_ast.specs.declared.decl.Decl.TheVariants as decl
use Rattle.sil_ast.specs.declared.decl.Decl.{Decl}
use Rattle.sil_ast.specs.declared.function.ArgKind.TheVariants as kind
use Rattle.sil_ast.specs.declared.function.Block.{Block}
use Rattle.sil_ast.specs.declared.function.Form.TheVariants as form
use Rattle.sil_ast.specs.declared.function.Function.{Function}
use Rattle.sil_ast.specs.declared.function.Linkage.TheVariants as linkage
use Rattle.sil_ast.specs.declared.module.Module.{Module}
use Rattle.sil_ast.specs.declared.module.Stage.TheVariants as stage
use Rattle.sil_ast.specs.declared.signature.Convention.TheVariants as convention
use Rattle.sil_ast.specs.declared.signature.Signature.{Signature}
use Rattle.sil_ast.specs.declared.type_name.TypeName.TheVariants as type
use Rattle.sil_ast.specs.declared.type_name.TypeName.{TypeName}
use Rattle.module_runner_examples.specs.Parts.{v, fn, typed, bare, inst, edge, arg, signed_as, imports}
use Rattle.holder_model.specs.Faults as holder
use Rattle.module_runner_examples.specs.inner.Reported.{ReportsWhenLowered, FaultsByHolders}

abbrev pub ty_C : TypeName
ty_C = type.Named (codes "C")

abbrev pub decl_C : Decl
decl_C = decl.Class (codes "C") None []

abbrev pub sig_main : Signature
sig_main = signed_as convention.Thin [] []

abbrev pub bb_main_0 : Block
bb_main_0 = record {
  args = [];
  insts =
      record (inst op.IntegerLiteral (v 0 ∷ []) []) { ty = Some (type.Int 1); number = Some (negsuc 0) }
      ∷ record (inst op.IntegerLiteral (v 1 ∷ []) []) { ty = Some (type.Int 1); number = Some (pos 0) }
      ∷ [];
  terminator = record (inst op.Br [] []) { edges = edge 1 (typed 0 (type.Int 1) ∷ []) ∷ [] };
}

abbrev pub bb_main_1 : Block
bb_main_1 = record {
  args = arg 2 kind.Plain (type.Int 1) ∷ [];
  insts = record (inst op.AllocRef (v 3 ∷ []) []) { ty = Some ty_C } ∷ [];
  terminator = record (inst op.CondBr [] (bare 2 ∷ [])) { edges = edge 1 (typed 1 (type.Int 1) ∷ []) ∷ edge 2 [] ∷ [] };
}

abbrev pub bb_main_2 : Block
bb_main_2 = record {
  args = [];
  insts =
      inst op.DestroyValue [] (typed 3 ty_C ∷ [])
      ∷ inst op.Tuple (v 4 ∷ []) []
      ∷ [];
  terminator = inst op.Return [] (typed 4 (type.Tuple []) ∷ []);
}

abbrev pub fn_main : Function
fn_main = record {
  name = codes "main";
  form = form.Ossa;
  linkage = linkage.Plain;
  attributes = [];
  signature = sig_main;
  blocks = bb_main_0 ∷ bb_main_1 ∷ bb_main_2 ∷ [];
}

abbrev pub object_overwritten_in_a_loop : Module
object_overwritten_in_a_loop = record {
  stage = stage.Canonical;
  imports = imports false false;
  decls = decl_C ∷ [];
  functions = fn_main ∷ [];
  vtables = [];
}

abbrev pub object_overwritten_in_a_loop_answer : List (List ℕ)
object_overwritten_in_a_loop_answer =
    codes "deinit C#1"
    ∷ codes "returned ()"
    ∷ codes "objects 1"
    ∷ codes "object C#0 live strong 1 unowned 0 weak 0"
    ∷ codes "retains 0 releases 1"
    ∷ []

abbrev pub ObjectOverwrittenInALoop : Type 0
ObjectOverwrittenInALoop = FaultsByHolders object_overwritten_in_a_loop (fn 0) 100000 300 holder.OverwritesHeld × ReportsWhenLowered
    object_overwritten_in_a_loop (fn 0) 100000 300 object_overwritten_in_a_loop_answer
