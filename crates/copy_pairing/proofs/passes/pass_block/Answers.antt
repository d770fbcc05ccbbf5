use Rattle.std.proofs.Common.{◌+◌, ◌<◌, ◌≤◌, ◌^◌, length, sym, ◌∙◌, arith}
use Rattle.sil_cfg.specs.Items.{point_at}
use Rattle.copy_pairing.specs.inner.Passes.{insts_at}
use Rattle.copy_pairing.proofs.Sizes.{short_insts}
use Rattle.copy_pairing.proofs.Passed.{block_end, passed_on, passed_same, turned_passed}
use Rattle.copy_pairing.proofs.passes.pass_block.Goals as goal

pub loop-index-init : goal.loop-index-init
loop-index-init c = record { passed = passed_same c.args.m.now c.args.function (point_at c.args.block.0 0) c.requires.verified; kept = c.requires.kept }

pub overflow_cast-p : goal.overflow_cast-p
overflow_cast-p c =
    let few : length (insts_at c.args.m.now c.args.function c.args.block.0) < 2 ^ 32 = short_insts c.args.m.now c.args.function c.requires.verified c.args.block.0 in
    omega arith

pub rewrite_at-requires-clause-verified : goal.rewrite_at-requires-clause-verified
rewrite_at-requires-clause-verified c = c.loop-index.invariant.passed.verified

pub rewrite_at-requires-clause-types : goal.rewrite_at-requires-clause-types
rewrite_at-requires-clause-types c = c.requires.types ∙ sym c.loop-index.invariant.passed.declarations

pub rewrite_at-requires-clause-kept : goal.rewrite_at-requires-clause-kept
rewrite_at-requires-clause-kept c = c.loop-index.invariant.kept

pub loop-index-preserved : goal.loop-index-preserved
loop-index-preserved c = record {
  passed = passed_on c.args.m.now c.loop-index.m c.rewrite_at.new.m c.args.function c.args.function c.args.function (point_at c.args.block.0 0) (point_at c.args.block.0 c.loop-index.index)
      (point_at c.args.block.0 (c.loop-index.index + 1)) c.loop-index.invariant.passed
      (turned_passed c.rewriting_keeps_verified.ensures c.later_ones_are_left.ensures c.loop-index.m c.rewrite_at.new.m c.args.function (point_at c.args.block.0 c.loop-index.index)
      c.loop-index.invariant.passed.verified c.in_ok-kept.ensures.turned);
  kept = c.in_ok-kept.ensures.kept;
}

pub returns-clause-passed : goal.returns-clause-passed
returns-clause-passed c =
    let most : length (insts_at c.args.m.now c.args.function c.args.block.0) ≤ c.loop-index.index = omega arith in
    block_end c.args.m.now c.loop-index.m c.args.function c.args.block.0 c.loop-index.index (point_at c.args.block.0 0) most c.loop-index.invariant.passed
