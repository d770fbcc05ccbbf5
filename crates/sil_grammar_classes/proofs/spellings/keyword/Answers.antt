use Rattle.std.proofs.Common.{◌∙◌, ap}
use Rattle.std.specs.Prelude.{unwrap_or}
use Rattle.sil_grammar_classes.specs.declared.classes.Keyword.TheVariants as k
use Rattle.sil_grammar_classes.specs.Spelling.{keyword_of}
use Rattle.sil_grammar_classes.proofs.ByLetterLemmas.{looked_up-known}
use Rattle.sil_grammar_classes.proofs.SpellingLemmas.{keyword_each, keyword_known}
use Rattle.sil_grammar_classes.proofs.spellings.keyword.Goals as goal

pub returns-clause-value : goal.returns-clause-value
unfolding keyword_of
returns-clause-value c = c.unwrap_or.ensures ∙ ap (λ o. unwrap_or o k.Other) (c.look_up.ensures ∙ looked_up-known c.args.word.now)

pub returns-clause-each : goal.returns-clause-each
returns-clause-each c = λ k e. keyword_each c.args.word.now c.look_up.result c.unwrap_or.result k (c.look_up.ensures ∙ looked_up-known c.args.word.now) c.unwrap_or.ensures e

pub returns-clause-known : goal.returns-clause-known
returns-clause-known c = keyword_known c.args.word.now c.look_up.result c.unwrap_or.result (c.look_up.ensures ∙ looked_up-known c.args.word.now) c.unwrap_or.ensures
