use Rattle.std.proofs.Common.{◌≡◌, ◌+◌, ◌++◌, ap, arith, length, refl, sym}
use Rattle.numbered_form.specs.Numbering.{defined_in, values_of}
use Rattle.ownership_lowering_model.specs.LoweredBlocks.{block_becomes, blocks_become}
use Rattle.ownership_lowering_functions.proofs.FunctionLowering.Steps.{drop_done, drop_next}
use Rattle.ownership_lowering_functions.proofs.FunctionLowering.Told.{room_next}
use Rattle.ownership_lowering_functions.proofs.function_lowering.defined.defined_values.Goals as goal

pub loop-block-preserved : goal.loop-block-preserved
loop-block-preserved c =
    let d = c.args.table.now in
    let r = c.args.renamings.now in
    let b = c.block-item.result in
    let k = c.loop-block.block-index in
    let spare = c.loop-block.spare in
    let long : c.len.result ≡ length b.insts = c.len.ensures in
    record {
      room =
          (let before = c.loop-block.invariant.room in
          let next = room_next c.args.blocks.now k b c.loop-block-test.true c.block-item.is in
          omega arith);
      defined = drop_next (λ bs. values_of (blocks_become d r spare bs)) (λ bs. values_of (blocks_become d r (spare + c.len.result) bs))
          (defined_in (block_becomes d r spare b)) c.args.blocks.now k b c.loop-block.values c.add_block.new.values
          (values_of (blocks_become d r c.args.spare c.args.blocks.now)) c.loop-block-test.true c.block-item.is
          (λ ys. ap (λ n. defined_in (block_becomes d r spare b) ++ values_of (blocks_become d r (spare + n) ys)) (sym long))
          c.loop-block.invariant.defined c.in_ok-add_block.ensures;
    }

pub returns : goal.returns
returns c =
    let d = c.args.table.now in
    let r = c.args.renamings.now in
    drop_done (λ bs. values_of (blocks_become d r c.loop-block.spare bs)) c.args.blocks.now c.loop-block.block-index c.loop-block.values
    (values_of (blocks_become d r c.args.spare c.args.blocks.now)) c.loop-block-test.false refl c.loop-block.invariant.defined
