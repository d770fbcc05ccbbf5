-- Lowered text: an object dies before its field is written, and the field drops nothing.
use Rattle.std.specs.Prelude.{ℕ, List, [], ◌∷◌, Some, None, false, codes}
use Rattle.instruction_table.specs.declared.op.Op.TheVariants as op
use Rattle.sil_ast.specs.declared.decl.Decl.TheVariants as decl
use Rattle.sil_ast.specs.declared.decl.Decl.{Decl}
use Rattle.sil_ast.specs.declared.decl.Storage.TheVariants as storage
use Rattle.sil_ast.specs.declared.function.Block.{Block}
use Rattle.sil_ast.specs.declared.function.Form.TheVariants as form
use Rattle.sil_ast.specs.declared.function.Function.{Function}
use Rattle.sil_ast.specs.declared.function.Linkage.TheVariants as linkage
use Rattle.sil_ast.specs.declared.module.Module.{Module}
use Rattle.sil_ast.specs.declared.module.Stage.TheVariants as stage
use Rattle.sil_ast.specs.declared.signature.Convention.TheVariants as convention
use Rattle.sil_ast.specs.declared.signature.Signature.{Signature}
use Rattle.sil_ast.specs.declared.type_name.TypeName.TheVariants as type
use Rattle.sil_ast.specs.declared.type_name.TypeName.{TypeName}
use Rattle.module_runner_examples.specs.Parts.{v, fn, typed, inst, signed_as, imports}
use Rattle.module_runner_examples.specs.inner.Reported.{ReportsLowered}

abbrev pub ty_B : TypeName
ty_B = type.Named (codes "B")

abbrev pub ty_C : TypeName
ty_C = type.Named (codes "C")

abbrev pub decl_B : Decl
decl_B = decl.Class (codes "B") None (record { name = codes "c"; storage = storage.Strong; ty = ty_C } ∷ [])

abbrev pub decl_C : Decl
decl_C = decl.Class (codes "C") None []

abbrev pub sig_main : Signature
sig_main = signed_as convention.Thin [] []

abbrev pub bb_main_0 : Block
bb_main_0 = record {
  args = [];
  insts =
      record (inst op.AllocRef (v 0 ∷ []) []) { ty = Some ty_B }
      ∷ inst op.StrongRelease [] (typed 0 ty_B ∷ [])
      ∷ inst op.Tuple (v 1 ∷ []) []
      ∷ [];
  terminator = inst op.Return [] (typed 1 (type.Tuple []) ∷ []);
}

abbrev pub fn_main : Function
fn_main = record {
  name = codes "main";
  form = form.Lowered;
  linkage = linkage.Plain;
  attributes = [];
  signature = sig_main;
  blocks = bb_main_0 ∷ [];
}

abbrev pub lowered_unwritten_field_is_skipped : Module
lowered_unwritten_field_is_skipped = record {
  stage = stage.Canonical;
  imports = imports false false;
  decls = decl_B ∷ decl_C ∷ [];
  functions = fn_main ∷ [];
  vtables = [];
}

abbrev pub lowered_unwritten_field_is_skipped_answer : List (List ℕ)
lowered_unwritten_field_is_skipped_answer =
    codes "deinit B#0"
    ∷ codes "returned ()"
    ∷ codes "objects 0"
    ∷ codes "retains 0 releases 1"
    ∷ []

abbrev pub LoweredUnwrittenFieldIsSkipped : Type 0
LoweredUnwrittenFieldIsSkipped = ReportsLowered lowered_unwritten_field_is_skipped (fn 0) 100000 300 lowered_unwritten_field_is_skipped_answer
