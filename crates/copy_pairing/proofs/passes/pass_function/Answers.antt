use Rattle.std.proofs.Common.{◌+◌, ◌<◌, ◌≤◌, ◌^◌, length, sym, ◌∙◌, arith}
use Rattle.sil_cfg.specs.Items.{point_at}
use Rattle.copy_pairing.specs.inner.Passes.{blocks_at}
use Rattle.copy_pairing.proofs.Sizes.{few_blocks}
use Rattle.copy_pairing.proofs.Passed.{function_end, passed_on, passed_same}
use Rattle.copy_pairing.proofs.passes.pass_function.Goals as goal

pub loop-b-init : goal.loop-b-init
loop-b-init c = record { passed = passed_same c.args.m.now c.args.function (point_at 0 0) c.requires.verified; kept = λ f at. tt }

pub overflow_cast-b : goal.overflow_cast-b
overflow_cast-b c =
    let few : length (blocks_at c.args.m.now c.args.function) < 2 ^ 32 = few_blocks c.args.m.now c.args.function c.requires.verified in
    omega arith

pub pass_block-requires-clause-verified : goal.pass_block-requires-clause-verified
pass_block-requires-clause-verified c = c.loop-b.invariant.passed.verified

pub pass_block-requires-clause-types : goal.pass_block-requires-clause-types
pass_block-requires-clause-types c = c.requires.types ∙ sym c.loop-b.invariant.passed.declarations

pub pass_block-requires-clause-kept : goal.pass_block-requires-clause-kept
pass_block-requires-clause-kept c = c.loop-b.invariant.kept

pub loop-b-preserved : goal.loop-b-preserved
loop-b-preserved c = record {
  passed = passed_on c.args.m.now c.loop-b.m c.pass_block.new.m c.args.function c.args.function c.args.function (point_at 0 0) (point_at c.loop-b.b 0) (point_at (c.loop-b.b + 1) 0)
      c.loop-b.invariant.passed c.in_ok-kept.ensures.passed;
  kept = c.in_ok-kept.ensures.kept;
}

pub returns : goal.returns
returns c =
    let most : length (blocks_at c.args.m.now c.args.function) ≤ c.loop-b.b = omega arith in
    function_end c.args.m.now c.loop-b.m c.args.function c.loop-b.b (point_at 0 0) most c.loop-b.invariant.passed
