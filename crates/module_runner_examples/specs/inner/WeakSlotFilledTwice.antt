-- A full weak slot is filled. The lowered run counts both, and takes one away.
use Rattle.std.specs.Prelude.{ℕ, List, [], ◌∷◌, Some, None, true, false, codes}
use Rattle.instruction_table.specs.declared.op.Op.TheVariants as op
use Rattle.sil_ast.specs.declared.decl.Decl.TheVariants as decl
use Rattle.sil_ast.specs.declared.decl.Decl.{Decl}
use Rattle.sil_ast.specs.declared.function.Block.{Block}
use Rattle.sil_ast.specs.declared.function.Form.TheVariants as form
use Rattle.sil_ast.specs.declared.function.Function.{Function}
use Rattle.sil_ast.specs.declared.function.Linkage.TheVariants as linkage
use Rattle.sil_ast.specs.declared.inst.Qualifier.TheVariants as qualifier
use Rattle.sil_ast.specs.declared.module.Module.{Module}
use Rattle.sil_ast.specs.declared.module.Stage.TheVariants as stage
use Rattle.sil_ast.specs.declared.signature.Convention.TheVariants as convention
use Rattle.sil_ast.specs.declared.signature.Signature.{Signature}
use Rattle.sil_ast.specs.declared.type_name.TypeName.TheVariants as type
use Rattle.sil_ast.specs.declared.type_name.TypeName.{TypeName}
use Rattle.module_runner_examples.specs.Parts.{v, fn, typed, bare, member, inst, signed_as, imports}
use Rattle.holder_model.specs.Faults as holder
use Rattle.module_runner_examples.specs.inner.Reported.{ReportsWhenLowered, FaultsByHolders}

abbrev pub ty_C : TypeName
ty_C = type.Named (codes "C")

abbrev pub decl_C : Decl
decl_C = decl.Class (codes "C") None []

abbrev pub sig_main : Signature
sig_main = signed_as convention.Thin [] []

abbrev pub bb_main_0 : Block
bb_main_0 = record {
  args = [];
  insts =
      record (inst op.AllocRef (v 0 ∷ []) []) { ty = Some ty_C }
      ∷ record (inst op.Enum (v 1 ∷ []) (typed 0 ty_C ∷ [])) { ty = Some (type.Optional ty_C); member = Some (member (codes "Optional") (codes "some")) }
      ∷ record (inst op.AllocStack (v 2 ∷ []) []) { ty = Some (type.Weak (type.Optional ty_C)) }
      ∷ record (inst op.StoreWeak [] (bare 1 ∷ typed 2 (type.Address (type.Weak (type.Optional ty_C))) ∷ [])) { qualifier = qualifier.Init }
      ∷ record (inst op.StoreWeak [] (bare 1 ∷ typed 2 (type.Address (type.Weak (type.Optional ty_C))) ∷ [])) { qualifier = qualifier.Init }
      ∷ inst op.DestroyValue [] (typed 1 (type.Optional ty_C) ∷ [])
      ∷ inst op.DestroyAddr [] (typed 2 (type.Address (type.Weak (type.Optional ty_C))) ∷ [])
      ∷ inst op.DeallocStack [] (typed 2 (type.Address (type.Weak (type.Optional ty_C))) ∷ [])
      ∷ inst op.Tuple (v 3 ∷ []) []
      ∷ [];
  terminator = inst op.Return [] (typed 3 (type.Tuple []) ∷ []);
}

abbrev pub fn_main : Function
fn_main = record {
  name = codes "main";
  form = form.Ossa;
  linkage = linkage.Plain;
  attributes = [];
  signature = sig_main;
  blocks = bb_main_0 ∷ [];
}

abbrev pub weak_slot_filled_twice : Module
weak_slot_filled_twice = record {
  stage = stage.Canonical;
  imports = imports false true;
  decls = decl_C ∷ [];
  functions = fn_main ∷ [];
  vtables = [];
}

abbrev pub weak_slot_filled_twice_answer : List (List ℕ)
weak_slot_filled_twice_answer =
    codes "deinit C#0"
    ∷ codes "returned ()"
    ∷ codes "objects 1"
    ∷ codes "object C#0 dead strong 0 unowned 0 weak 1"
    ∷ codes "retains 0 releases 1"
    ∷ []

abbrev pub WeakSlotFilledTwice : Type 0
WeakSlotFilledTwice = FaultsByHolders weak_slot_filled_twice (fn 0) 100000 300 holder.FullPlace × ReportsWhenLowered weak_slot_filled_twice (fn 0) 100000
    300 weak_slot_filled_twice_answer
