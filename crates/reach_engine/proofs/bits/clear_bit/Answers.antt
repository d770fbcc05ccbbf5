use Rattle.reach_engine.proofs.BitLists.{bit_clear_same, bit_clear_others}
use Rattle.reach_engine.proofs.bits.clear_bit.Goals as goal

pub returns-clause-same : goal.returns-clause-same
returns-clause-same c = bit_clear_same c.args.words.now c.args.k c.requires

pub returns-clause-others : goal.returns-clause-others
returns-clause-others c = λ j n. bit_clear_others c.args.words.now c.args.k j c.requires n
