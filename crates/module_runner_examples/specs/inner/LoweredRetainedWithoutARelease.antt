-- Lowered text: the stored number is 2, where one holder is left.
use Rattle.std.specs.Prelude.{ℕ, List, [], ◌∷◌, Some, None, false, codes}
use Rattle.instruction_table.specs.declared.op.Op.TheVariants as op
use Rattle.sil_ast.specs.declared.decl.Decl.TheVariants as decl
use Rattle.sil_ast.specs.declared.decl.Decl.{Decl}
use Rattle.sil_ast.specs.declared.function.Block.{Block}
use Rattle.sil_ast.specs.declared.function.Form.TheVariants as form
use Rattle.sil_ast.specs.declared.function.Function.{Function}
use Rattle.sil_ast.specs.declared.function.Linkage.TheVariants as linkage
use Rattle.sil_ast.specs.declared.module.Module.{Module}
use Rattle.sil_ast.specs.declared.module.Stage.TheVariants as stage
use Rattle.sil_ast.specs.declared.signature.Convention.TheVariants as convention
use Rattle.sil_ast.specs.declared.signature.Signature.{Signature}
use Rattle.sil_ast.specs.declared.type_name.TypeName.TheVariants as type
use Rattle.sil_ast.specs.declared.type_name.TypeName.{TypeName}
use Rattle.module_runner_examples.specs.Parts.{v, fn, typed, inst, signed_as, given_owned, imports}
use Rattle.module_runner_examples.specs.inner.Reported.{ReportsLowered}

abbrev pub ty_C : TypeName
ty_C = type.Named (codes "C")

abbrev pub decl_C : Decl
decl_C = decl.Class (codes "C") None []

abbrev pub sig_main : Signature
sig_main = signed_as convention.Thin [] (given_owned ty_C ∷ [])

abbrev pub bb_main_0 : Block
bb_main_0 = record {
  args = [];
  insts =
      record (inst op.AllocRef (v 0 ∷ []) []) { ty = Some ty_C }
      ∷ inst op.StrongRetain [] (typed 0 ty_C ∷ [])
      ∷ [];
  terminator = inst op.Return [] (typed 0 ty_C ∷ []);
}

abbrev pub fn_main : Function
fn_main = record {
  name = codes "main";
  form = form.Lowered;
  linkage = linkage.Plain;
  attributes = [];
  signature = sig_main;
  blocks = bb_main_0 ∷ [];
}

abbrev pub lowered_retained_without_a_release : Module
lowered_retained_without_a_release = record {
  stage = stage.Canonical;
  imports = imports false false;
  decls = decl_C ∷ [];
  functions = fn_main ∷ [];
  vtables = [];
}

abbrev pub lowered_retained_without_a_release_answer : List (List ℕ)
lowered_retained_without_a_release_answer =
    codes "returned C#0"
    ∷ codes "objects 1"
    ∷ codes "object C#0 live strong 2 unowned 0 weak 0"
    ∷ codes "retains 1 releases 0"
    ∷ []

abbrev pub LoweredRetainedWithoutARelease : Type 0
LoweredRetainedWithoutARelease = ReportsLowered lowered_retained_without_a_release (fn 0) 100000 300 lowered_retained_without_a_release_answer
