-- Nothing is left behind the steps of a derivation.
use Rattle.std.proofs.Common.{[]}
use Rattle.sil_grammar_modules.proofs.building.build.Given as goal

abbrev pub ghost-replay : goal.ghost-replay
ghost-replay a = []
