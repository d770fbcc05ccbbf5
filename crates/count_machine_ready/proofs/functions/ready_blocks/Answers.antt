use Rattle.count_machine_model.specs.ReadyCode.ReadyModules.{IsReadyBlock}
use Rattle.count_machine_layouts.proofs.FrameLayouts.Lists.{item_at}
use Rattle.count_machine_ready.proofs.BlockRows.{has_rows}
use Rattle.count_machine_ready.proofs.Matching.{matched_further, matched_none}
use Rattle.count_machine_ready.proofs.functions.ready_blocks.Goals as goal

pub loop-block-init : goal.loop-block-init
loop-block-init c =
    let f = c.args.body.now.function.now in
    matched_none (IsReadyBlock c.args.body.now.m.now f) f.blocks c.in_ok-blocks.blocks c.in_ok-blocks.ensures

pub ready_block-requires-clause-rows : goal.ready_block-requires-clause-rows
ready_block-requires-clause-rows c =
    let f = c.args.body.now.function.now in
    let k = c.loop-block.block-index in
    let block = c.block-item.result in
    has_rows c.args.body.now c.requires k block (item_at f.blocks c.as_slice-block-items.result.now k block
    c.as_slice-block-items.ensures c.loop-block-test.true c.block-item.is)

pub loop-block-preserved : goal.loop-block-preserved
loop-block-preserved c =
    let f = c.args.body.now.function.now in
    matched_further (IsReadyBlock c.args.body.now.m.now f) f.blocks c.as_slice-block-items.result.now
    c.loop-block.block-index c.block-item.result c.loop-block.blocks c.push.new.self
    c.in_ok-ready_block.field-0 c.as_slice-block-items.ensures c.loop-block-test.true c.block-item.is
    c.loop-block.invariant c.in_ok-push.ensures.ok c.in_ok-ready_block.ensures
