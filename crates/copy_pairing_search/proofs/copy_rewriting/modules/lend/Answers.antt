use Rattle.std.proofs.Common.{ap, ◌∙◌, List}
use Rattle.sil_ast.specs.declared.function.Function.{Function}
use Rattle.sil_ast.specs.declared.module.Module.{Module}
use Rattle.copy_pairing_model.specs.Rewritten.{lent}
use Rattle.copy_pairing_search.proofs.CopyRewriting.Changed.{set_changed_in}
use Rattle.copy_pairing_search.proofs.copy_rewriting.modules.lend.Goals as goal

pub returns : goal.returns
returns c =
    let with_functions : List Function → Module = λ functions. record c.args.m.now { functions = functions } in
    ap with_functions (
    c.from_vec.ensures
    ∙ set_changed_in (lent c.args.value) c.args.m.now.functions c.into_vec-functions.result.items c.args.function c.index_mut.result.now c.lend_in.new.f
    (c.into_vec-functions.ensures ∙ c.replace.ensures.value) c.requires c.index_mut.ensures.value c.in_ok-lend_in.ensures
    )
