use Rattle.std.proofs.Common.{◌≡◌, ◌<◌, ◌+◌, length, get_or, arith, ap, bit_or, bit_and}
use Rattle.reach_engine.proofs.MaskedWords.{masked_at, write_none, write_more, masked_bit, bits_above}
use Rattle.reach_engine.proofs.bits.merge_masked.Goals as goal

pub loop-i-init : goal.loop-i-init
loop-i-init c = write_none c.args.words.now c.args.offset (masked_at c.args.words.now c.args.offset c.args.source.now c.args.mask.now)

pub loop-i-preserved : goal.loop-i-preserved
loop-i-preserved c =
    let size : length c.loop-i.words ≡ length c.args.words.now = c.loop-i.invariant.size in
    let lt : c.args.offset + c.loop-i.i < length c.loop-i.words = omega arith in
    write_more c.args.words.now c.loop-i.words c.args.offset c.loop-i.i _ (masked_at c.args.words.now c.args.offset c.args.source.now c.args.mask.now) c.loop-i.invariant lt
    (ap (λ x. bit_or x (bit_and (get_or c.args.source.now c.loop-i.i 0) (get_or c.args.mask.now c.loop-i.i 0))) (c.loop-i.invariant.above (c.args.offset + c.loop-i.i) (omega arith)))

pub returns-clause-inside : goal.returns-clause-inside
returns-clause-inside c = λ k lt. masked_bit c.args.words.now c.loop-i.words c.args.source.now c.args.mask.now c.args.offset c.loop-i.i k c.loop-i.invariant (omega arith)

pub returns-clause-above : goal.returns-clause-above
returns-clause-above c =
    λ k le. bits_above c.args.words.now c.loop-i.words c.args.offset c.loop-i.i k (masked_at c.args.words.now c.args.offset c.args.source.now c.args.mask.now) c.loop-i.invariant (omega arith)
