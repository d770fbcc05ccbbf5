-- A full slot is filled. The lowered run loses what was there.
use Rattle.std.specs.Prelude.{ℕ, List, [], ◌∷◌, Some, None, false, codes}
use Rattle.instruction_table.specs.declared.op.Op.TheVariants as op
use Rattle.sil_ast.specs.declared.decl.Decl.TheVariants as decl
use Rattle.sil_ast.specs.declared.decl.Decl.{Decl}
use Rattle.sil_ast.specs.declared.function.Block.{Block}
use Rattle.sil_ast.specs.declared.function.Form.TheVariants as form
use Rattle.sil_ast.specs.declared.function.Function.{Function}
use Rattle.sil_ast.specs.declared.function.Linkage.TheVariants as linkage
use Rattle.sil_ast.specs.declared.inst.Qualifier.TheVariants as qualifier
use Rattle.sil_ast.specs.declared.module.Module.{Module}
use Rattle.sil_ast.specs.declared.module.Stage.TheVariants as stage
use Rattle.sil_ast.specs.declared.signature.Convention.TheVariants as convention
use Rattle.sil_ast.specs.declared.signature.Signature.{Signature}
use Rattle.sil_ast.specs.declared.type_name.TypeName.TheVariants as type
use Rattle.sil_ast.specs.declared.type_name.TypeName.{TypeName}
use Rattle.module_runner_examples.specs.Parts.{v, fn, typed, bare, inst, signed_as, imports}
use Rattle.holder_model.specs.Faults as holder
use Rattle.module_runner_examples.specs.inner.Reported.{ReportsWhenLowered, FaultsByHolders}

abbrev pub ty_C : TypeName
ty_C = type.Named (codes "C")

abbrev pub decl_C : Decl
decl_C = decl.Class (codes "C") None []

abbrev pub sig_main : Signature
sig_main = signed_as convention.Thin [] []

abbrev pub bb_main_0 : Block
bb_main_0 = record {
  args = [];
  insts =
      record (inst op.AllocRef (v 0 ∷ []) []) { ty = Some ty_C }
      ∷ record (inst op.AllocRef (v 1 ∷ []) []) { ty = Some ty_C }
      ∷ record (inst op.AllocStack (v 2 ∷ []) []) { ty = Some ty_C }
      ∷ record (inst op.Store [] (bare 0 ∷ typed 2 (type.Address ty_C) ∷ [])) { qualifier = qualifier.Init }
      ∷ record (inst op.Store [] (bare 1 ∷ typed 2 (type.Address ty_C) ∷ [])) { qualifier = qualifier.Init }
      ∷ inst op.DestroyAddr [] (typed 2 (type.Address ty_C) ∷ [])
      ∷ inst op.DeallocStack [] (typed 2 (type.Address ty_C) ∷ [])
      ∷ inst op.Tuple (v 3 ∷ []) []
      ∷ [];
  terminator = inst op.Return [] (typed 3 (type.Tuple []) ∷ []);
}

abbrev pub fn_main : Function
fn_main = record {
  name = codes "main";
  form = form.Ossa;
  linkage = linkage.Plain;
  attributes = [];
  signature = sig_main;
  blocks = bb_main_0 ∷ [];
}

abbrev pub slot_filled_twice : Module
slot_filled_twice = record {
  stage = stage.Canonical;
  imports = imports false false;
  decls = decl_C ∷ [];
  functions = fn_main ∷ [];
  vtables = [];
}

abbrev pub slot_filled_twice_answer : List (List ℕ)
slot_filled_twice_answer =
    codes "deinit C#1"
    ∷ codes "returned ()"
    ∷ codes "objects 1"
    ∷ codes "object C#0 live strong 1 unowned 0 weak 0"
    ∷ codes "retains 0 releases 1"
    ∷ []

abbrev pub SlotFilledTwice : Type 0
SlotFilledTwice = FaultsByHolders slot_filled_twice (fn 0) 100000 300 holder.FullPlace × ReportsWhenLowered slot_filled_twice (fn 0) 100000 300
    slot_filled_twice_answer
