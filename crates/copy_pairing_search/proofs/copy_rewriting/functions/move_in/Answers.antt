use Rattle.std.proofs.Common.{◌<◌, ap, ◌∙◌, length, List}
use Rattle.sil_ast.specs.declared.function.Block.{Block}
use Rattle.sil_ast.specs.declared.function.Function.{Function}
use Rattle.copy_pairing_model.specs.Rewritten.{moved_block}
use Rattle.copy_pairing_search.proofs.CopyRewriting.Changed.{below_some, set_changed_in}
use Rattle.copy_pairing_search.proofs.copy_rewriting.functions.move_in.Goals as goal

pub returns : goal.returns
returns c =
    let with_blocks : List Block → Function = λ blocks. record c.args.f.now { blocks = blocks } in
    let within : c.args.p.block.0 < length c.args.f.now.blocks = below_some (λ (block : Block). c.args.last < length block.insts) c.args.f.now.blocks c.args.p.block.0 c.requires.there in
    ap with_blocks (
    c.from_vec.ensures
    ∙ set_changed_in (moved_block c.args.p.index c.args.last) c.args.f.now.blocks c.into_vec-blocks.result.items c.args.p.block.0 c.index_mut.result.now c.move_in_block.new.block
    (c.into_vec-blocks.ensures ∙ c.replace.ensures.value) within c.index_mut.ensures.value c.in_ok-move_in_block.ensures
    )
