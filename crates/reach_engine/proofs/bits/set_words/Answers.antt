use Rattle.std.proofs.Common.{◌≡◌, ◌<◌, ◌+◌, length, refl, arith}
use Rattle.reach_engine.proofs.MaskedWords.{all_ones, write_none, write_more, ones_bit, bits_above}
use Rattle.reach_engine.proofs.bits.set_words.Goals as goal

pub loop-i-init : goal.loop-i-init
loop-i-init c = write_none c.args.words.now c.args.offset all_ones

pub loop-i-preserved : goal.loop-i-preserved
loop-i-preserved c =
    let size : length c.loop-i.words ≡ length c.args.words.now = c.loop-i.invariant.size in
    let lt : c.args.offset + c.loop-i.i < length c.loop-i.words = omega arith in
    write_more c.args.words.now c.loop-i.words c.args.offset c.loop-i.i _ all_ones c.loop-i.invariant lt refl

pub returns-clause-inside : goal.returns-clause-inside
returns-clause-inside c = λ k lt. ones_bit c.args.words.now c.loop-i.words c.args.offset c.loop-i.i k c.loop-i.invariant (omega arith)

pub returns-clause-above : goal.returns-clause-above
returns-clause-above c = λ k le. bits_above c.args.words.now c.loop-i.words c.args.offset c.loop-i.i k all_ones c.loop-i.invariant (omega arith)
