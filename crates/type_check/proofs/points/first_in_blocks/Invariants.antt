-- None of the blocks so far has a fault, and the counts that are left are those of the blocks that are left.
use Rattle.std.proofs.Common.{◌≡◌, drop, map}
use Rattle.numbered_form.specs.Insts.{insts_in}
use Rattle.type_check.specs.inner.FirstFault.{fault_of_block}
use Rattle.type_check.specs.inner.Firsts.{first_from}
use Rattle.type_check_values.specs.TypingValues.inner.Given.{given_count}
use Rattle.type_check.proofs.points.first_in_blocks.Given as goal

abbrev pub invariant-loop-block : goal.invariant-loop-block
invariant-loop-block l =
    (l.number ≡ l.block-index)
    × (l.rest ≡ map (given_count l.body.table.now) (insts_in (drop l.block-index l.blocks)))
    × (first_from (fault_of_block l.body.module.now l.body.number l.body.function.now) 0 l.blocks
    ≡ first_from (fault_of_block l.body.module.now l.body.number l.body.function.now) l.number (drop l.block-index l.blocks))
