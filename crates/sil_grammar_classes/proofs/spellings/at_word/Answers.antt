use Rattle.sil_grammar_classes.proofs.SpellingLemmas.{at_word_each, at_word_known}
use Rattle.sil_grammar_classes.proofs.spellings.at_word.Goals as goal

pub returns-clause-each : goal.returns-clause-each
returns-clause-each c = λ a e. at_word_each c.args.name.now c.known_at_word.result c.unwrap_or.result a c.known_at_word.ensures c.unwrap_or.ensures e

pub returns-clause-known : goal.returns-clause-known
returns-clause-known c = at_word_known c.args.name.now c.known_at_word.result c.unwrap_or.result c.known_at_word.ensures c.unwrap_or.ensures
