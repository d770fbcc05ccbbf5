use Rattle.std.proofs.Common.{ap, ◌∙◌}
use Rattle.std.specs.Prelude.{remove}
use Rattle.instruction_table.specs.declared.op.Op.TheVariants as op
use Rattle.copy_pairing_model.specs.Rewritten.{with_op}
use Rattle.copy_pairing_search.proofs.CopyRewriting.Changed.{set_changed}
use Rattle.copy_pairing_search.proofs.copy_rewriting.blocks.move_insts.Goals as goal

pub returns : goal.returns
returns c =
    c.remove-gone.ensures.items
    ∙ ap (λ insts. remove insts c.args.last)
    (set_changed (with_op op.MoveValue) c.args.insts.now.items c.args.index c.index_mut.result.now c.put_op.new.inst c.requires.index c.index_mut.ensures.value c.in_ok-put_op.ensures)
