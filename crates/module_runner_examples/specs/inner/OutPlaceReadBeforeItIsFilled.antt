-- An @out place counts as empty at the callee's entry, whatever it held. The lowered run still finds what it held.
use Rattle.std.specs.Prelude.{ℕ, List, [], ◌∷◌, Some, false, pos, codes}
use Rattle.instruction_table.specs.declared.op.Op.TheVariants as op
use Rattle.sil_ast.specs.declared.function.ArgKind.TheVariants as kind
use Rattle.sil_ast.specs.declared.function.Block.{Block}
use Rattle.sil_ast.specs.declared.function.Form.TheVariants as form
use Rattle.sil_ast.specs.declared.function.Function.{Function}
use Rattle.sil_ast.specs.declared.function.Linkage.TheVariants as linkage
use Rattle.sil_ast.specs.declared.inst.Qualifier.TheVariants as qualifier
use Rattle.sil_ast.specs.declared.module.Module.{Module}
use Rattle.sil_ast.specs.declared.module.Stage.TheVariants as stage
use Rattle.sil_ast.specs.declared.signature.Convention.TheVariants as convention
use Rattle.sil_ast.specs.declared.signature.Signature.{Signature}
use Rattle.sil_ast.specs.declared.type_name.TypeName.TheVariants as type
use Rattle.module_runner_examples.specs.Parts.{v, fn, typed, bare, inst, arg, signed_as, given, given_out, imports}
use Rattle.holder_model.specs.Faults as holder
use Rattle.module_runner_examples.specs.inner.Reported.{ReportsWhenLowered, FaultsByHolders}

abbrev pub sig_f : Signature
sig_f = signed_as convention.Thin [] (given_out (type.Int 8) ∷ [])

abbrev pub sig_main : Signature
sig_main = signed_as convention.Thin [] (given (type.Int 8) ∷ [])

abbrev pub bb_f_0 : Block
bb_f_0 = record {
  args = arg 0 kind.Plain (type.Address (type.Int 8)) ∷ [];
  insts =
      record (inst op.Load (v 1 ∷ []) (typed 0 (type.Address (type.Int 8)) ∷ [])) { qualifier = qualifier.Trivial }
      ∷ record (inst op.Store [] (bare 1 ∷ typed 0 (type.Address (type.Int 8)) ∷ [])) { qualifier = qualifier.Trivial }
      ∷ inst op.Tuple (v 2 ∷ []) []
      ∷ [];
  terminator = inst op.Return [] (typed 2 (type.Tuple []) ∷ []);
}

abbrev pub fn_f : Function
fn_f = record {
  name = codes "f";
  form = form.Ossa;
  linkage = linkage.Plain;
  attributes = [];
  signature = sig_f;
  blocks = bb_f_0 ∷ [];
}

abbrev pub bb_main_0 : Block
bb_main_0 = record {
  args = [];
  insts =
      record (inst op.AllocStack (v 0 ∷ []) []) { ty = Some (type.Int 8) }
      ∷ record (inst op.IntegerLiteral (v 1 ∷ []) []) { ty = Some (type.Int 8); number = Some (pos 7) }
      ∷ record (inst op.Store [] (bare 1 ∷ typed 0 (type.Address (type.Int 8)) ∷ [])) { qualifier = qualifier.Trivial }
      ∷ record (inst op.FunctionRef (v 2 ∷ []) []) { function = Some (fn 0); signature = Some sig_f }
      ∷ record (inst op.Apply (v 3 ∷ []) (bare 2 ∷ bare 0 ∷ [])) { signature = Some sig_f }
      ∷ record (inst op.Load (v 4 ∷ []) (typed 0 (type.Address (type.Int 8)) ∷ [])) { qualifier = qualifier.Trivial }
      ∷ inst op.DeallocStack [] (typed 0 (type.Address (type.Int 8)) ∷ [])
      ∷ [];
  terminator = inst op.Return [] (typed 4 (type.Int 8) ∷ []);
}

abbrev pub fn_main : Function
fn_main = record {
  name = codes "main";
  form = form.Ossa;
  linkage = linkage.Plain;
  attributes = [];
  signature = sig_main;
  blocks = bb_main_0 ∷ [];
}

abbrev pub out_place_read_before_it_is_filled : Module
out_place_read_before_it_is_filled = record {
  stage = stage.Canonical;
  imports = imports false false;
  decls = [];
  functions = fn_f ∷ fn_main ∷ [];
  vtables = [];
}

abbrev pub out_place_read_before_it_is_filled_answer : List (List ℕ)
out_place_read_before_it_is_filled_answer =
    codes "returned 7"
    ∷ codes "objects 0"
    ∷ codes "retains 0 releases 0"
    ∷ []

abbrev pub OutPlaceReadBeforeItIsFilled : Type 0
OutPlaceReadBeforeItIsFilled = FaultsByHolders out_place_read_before_it_is_filled (fn 1) 100000 300 holder.EmptyPlace × ReportsWhenLowered
    out_place_read_before_it_is_filled (fn 1) 100000 300 out_place_read_before_it_is_filled_answer
