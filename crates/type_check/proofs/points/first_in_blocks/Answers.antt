use Rattle.std.proofs.Common.{◌≡◌, ◌+◌, ◌≤◌, length, map, ap, sym, ◌∙◌, ◌++◌, drop, arith, rules}
use Rattle.std.specs.Prelude.{ℕ, Option}
use Rattle.sil_ast.specs.declared.function.Block.{Block}
use Rattle.sil_ast.specs.declared.inst.Inst.{Inst}
use Rattle.numbered_form.specs.Insts.{insts_in}
use Rattle.type_check_values.specs.TypingValues.inner.Given.{given_count}
use Rattle.std.specs.Option.{option_or}
use Rattle.type_check.specs.inner.FirstFault.{fault_of_block}
use Rattle.type_check.specs.inner.Firsts.{first_from}
use Rattle.type_check.specs.declared.fault.TypingFault.{TypingFault}
use Rattle.type_check.proofs.Counts.{ahead, next_block, own_part, part_behind, room}
use Rattle.type_check.proofs.points.first_in_blocks.Goals as goal

pub split_at-requires : goal.split_at-requires
split_at-requires c =
    let count : Inst → Option ℕ = given_count c.args.body.now.table.now in
    let b : Block = c.block-item.result in
    let here = ahead count c.loop-block.rest.now c.args.blocks.now c.loop-block.block-index b c.loop-block-test.true c.block-item.is c.loop-block.invariant.1 in
    let fits : length b.insts + 1 ≤ length c.loop-block.rest.now = room count b c.loop-block.rest.now (map count (insts_in (drop (c.loop-block.block-index + 1) c.args.blocks.now))) here in
    let size = c.len.ensures in
    omega (arith, fits, size)

pub first_in_block-requires-clause-given : goal.first_in_block-requires-clause-given
first_in_block-requires-clause-given c =
    let count : Inst → Option ℕ = given_count c.args.body.now.table.now in
    let b : Block = c.block-item.result in
    let here = ahead count c.loop-block.rest.now c.args.blocks.now c.loop-block.block-index b c.loop-block-test.true c.block-item.is c.loop-block.invariant.1 in
    c.split_at.ensures.front ∙ own_part count b c.loop-block.rest.now (map count (insts_in (drop (c.loop-block.block-index + 1) c.args.blocks.now))) (c.len.result
    + 1) (ap (λ n. n + 1) c.len.ensures) here

pub loop-block-preserved : goal.loop-block-preserved
loop-block-preserved c =
    let count : Inst → Option ℕ = given_count c.args.body.now.table.now in
    let b : Block = c.block-item.result in
    let here = ahead count c.loop-block.rest.now c.args.blocks.now c.loop-block.block-index b c.loop-block-test.true c.block-item.is c.loop-block.invariant.1 in
    let more = c.split_at.ensures.back
    ∙ part_behind count b c.loop-block.rest.now (map count (insts_in (drop (c.loop-block.block-index + 1) c.args.blocks.now))) (c.len.result + 1) (ap (λ n. n + 1) c.len.ensures) here in
    let find : ℕ → Block → Option TypingFault = fault_of_block c.args.body.now.module.now c.args.body.now.number c.args.body.now.function.now in
    let no_fault = sym c.first_in_block.ensures ∙ c.in_default.is in (
      search rules,
      more,
      c.loop-block.invariant.2
          ∙ ap (first_from find c.loop-block.number) (next_block c.args.blocks.now c.loop-block.block-index b c.loop-block-test.true c.block-item.is)
          ∙ ap (λ o. option_or o (first_from find (c.loop-block.number + 1) (drop (c.loop-block.block-index + 1) c.args.blocks.now))) no_fault,
    )
