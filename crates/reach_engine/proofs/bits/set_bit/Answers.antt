use Rattle.reach_engine.proofs.BitLists.{bit_set_same, bit_set_others}
use Rattle.reach_engine.proofs.bits.set_bit.Goals as goal

pub returns-clause-same : goal.returns-clause-same
returns-clause-same c = bit_set_same c.args.words.now c.args.k c.requires

pub returns-clause-others : goal.returns-clause-others
returns-clause-others c = λ j n. bit_set_others c.args.words.now c.args.k j c.requires n
