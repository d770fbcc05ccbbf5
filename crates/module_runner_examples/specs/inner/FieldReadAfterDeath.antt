-- The address of a field outlives its object.
use Rattle.std.specs.Prelude.{[], ◌∷◌, Some, None, false, pos, codes}
use Rattle.instruction_table.specs.declared.op.Op.TheVariants as op
use Rattle.sil_ast.specs.declared.decl.Decl.TheVariants as decl
use Rattle.sil_ast.specs.declared.decl.Decl.{Decl}
use Rattle.sil_ast.specs.declared.decl.Storage.TheVariants as storage
use Rattle.sil_ast.specs.declared.function.Block.{Block}
use Rattle.sil_ast.specs.declared.function.Form.TheVariants as form
use Rattle.sil_ast.specs.declared.function.Function.{Function}
use Rattle.sil_ast.specs.declared.function.Linkage.TheVariants as linkage
use Rattle.sil_ast.specs.declared.inst.Qualifier.TheVariants as qualifier
use Rattle.sil_ast.specs.declared.module.Module.{Module}
use Rattle.sil_ast.specs.declared.module.Stage.TheVariants as stage
use Rattle.sil_ast.specs.declared.signature.Convention.TheVariants as convention
use Rattle.sil_ast.specs.declared.signature.Signature.{Signature}
use Rattle.sil_ast.specs.declared.type_name.TypeName.TheVariants as type
use Rattle.sil_ast.specs.declared.type_name.TypeName.{TypeName}
use Rattle.module_runner_examples.specs.Parts.{v, fn, typed, bare, member, inst, signed_as, imports}
use Rattle.holder_model.specs.Faults as holder
use Rattle.holder_model.specs.declared.lowered_run.low_fault.LowFault.TheVariants as fault
use Rattle.module_runner_examples.specs.inner.Reported.{FaultsByHolders, FaultsLowered}
use Rattle.ownership_lowering_model.specs.LoweredModules.{lowered}

abbrev pub ty_P : TypeName
ty_P = type.Named (codes "P")

abbrev pub decl_P : Decl
decl_P = decl.Class (codes "P") None (record { name = codes "x"; storage = storage.Strong; ty = (type.Int 8) } ∷ [])

abbrev pub sig_main : Signature
sig_main = signed_as convention.Thin [] []

abbrev pub bb_main_0 : Block
bb_main_0 = record {
  args = [];
  insts =
      record (inst op.AllocRef (v 0 ∷ []) []) { ty = Some ty_P }
      ∷ inst op.BeginBorrow (v 1 ∷ []) (typed 0 ty_P ∷ [])
      ∷ record (inst op.RefElementAddr (v 2 ∷ []) (typed 1 ty_P ∷ [])) { member = Some (member (codes "P") (codes "x")) }
      ∷ record (inst op.IntegerLiteral (v 3 ∷ []) []) { ty = Some (type.Int 8); number = Some (pos 3) }
      ∷ record (inst op.Store [] (bare 3 ∷ typed 2 (type.Address (type.Int 8)) ∷ [])) { qualifier = qualifier.Trivial }
      ∷ inst op.EndBorrow [] (typed 1 ty_P ∷ [])
      ∷ inst op.DestroyValue [] (typed 0 ty_P ∷ [])
      ∷ record (inst op.Load (v 4 ∷ []) (typed 2 (type.Address (type.Int 8)) ∷ [])) { qualifier = qualifier.Trivial }
      ∷ inst op.Tuple (v 5 ∷ []) []
      ∷ [];
  terminator = inst op.Return [] (typed 5 (type.Tuple []) ∷ []);
}

abbrev pub fn_main : Function
fn_main = record {
  name = codes "main";
  form = form.Ossa;
  linkage = linkage.Plain;
  attributes = [];
  signature = sig_main;
  blocks = bb_main_0 ∷ [];
}

abbrev pub field_read_after_death : Module
field_read_after_death = record {
  stage = stage.Canonical;
  imports = imports false false;
  decls = decl_P ∷ [];
  functions = fn_main ∷ [];
  vtables = [];
}

abbrev pub FieldReadAfterDeath : Type 0
FieldReadAfterDeath = FaultsByHolders field_read_after_death (fn 0) 100000 300 holder.NamesDead × FaultsLowered (lowered field_read_after_death) (fn 0)
    100000 300 (fault.Dead (record { 0 = 0 }))
