-- What is left is written in the shortest way.
use Rattle.std.proofs.Common.{reverse}
use Rattle.sil_grammar_shape.proofs.Shortened.{shortened}
use Rattle.sil_grammar_modules.proofs.building.front_fault.Given as goal

abbrev pub ghost-replay : goal.ghost-replay
ghost-replay a = (shortened (reverse a.left.items)).0
