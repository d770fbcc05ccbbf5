use Rattle.sil_grammar_classes.proofs.LawLemmas.{at_words_spelled, keywords_spelled, own_at_words, own_keywords, own_punctuation, punctuation_spelled}
use Rattle.sil_grammar_classes.proofs.laws.words_are_told.Goals as goal

pub returns-clause-keywords : goal.returns-clause-keywords
returns-clause-keywords c = keywords_spelled

pub returns-clause-at_words : goal.returns-clause-at_words
returns-clause-at_words c = at_words_spelled

pub returns-clause-punctuation : goal.returns-clause-punctuation
returns-clause-punctuation c = punctuation_spelled

pub returns-clause-own_keywords : goal.returns-clause-own_keywords
returns-clause-own_keywords c = own_keywords

pub returns-clause-own_at_words : goal.returns-clause-own_at_words
returns-clause-own_at_words c = own_at_words

pub returns-clause-own_punctuation : goal.returns-clause-own_punctuation
returns-clause-own_punctuation c = own_punctuation
