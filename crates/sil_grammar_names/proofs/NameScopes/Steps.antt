-- What a look-up is proved by.
use Rattle.std.proofs.lemmas.Grind.{common_steps}
use Rattle.sil_grammar_tree.proofs.WrittenTree.FaultOrder.{earlier-none}
use Rattle.sil_grammar_names.proofs.NameScopes.SymbolLemmas.{among_names}

pub ruleset names = (common_steps, earlier-none, among_names)
