use Rattle.std.proofs.Common.{◌<◌, ap, ◌∙◌, length, List}
use Rattle.std.specs.Prelude.{slice_get, IsSomeAnd}
use Rattle.sil_ast.specs.declared.function.Block.{Block}
use Rattle.sil_ast.specs.declared.function.Function.{Function}
use Rattle.sil_ast.specs.declared.module.Module.{Module}
use Rattle.copy_pairing_model.specs.Rewritten.{moved}
use Rattle.copy_pairing_search.proofs.CopyRewriting.Changed.{below_some, set_changed_in}
use Rattle.copy_pairing_search.proofs.copy_rewriting.modules.move_copy.Goals as goal

pub returns : goal.returns
returns c =
    let with_functions : List Function → Module = λ functions. record c.args.m.now { functions = functions } in
    let within : c.args.function < length c.args.m.now.functions =
    below_some (λ (f : Function). IsSomeAnd (slice_get f.blocks c.args.p.block.0) (λ (block : Block). c.args.last < length block.insts)) c.args.m.now.functions c.args.function c.requires.there in
    ap with_functions (
    c.from_vec.ensures
    ∙ set_changed_in (moved c.args.p c.args.last) c.args.m.now.functions c.into_vec-functions.result.items c.args.function c.index_mut.result.now c.move_in.new.f
    (c.into_vec-functions.ensures ∙ c.replace.ensures.value) within c.index_mut.ensures.value c.in_ok-move_in.ensures
    )
