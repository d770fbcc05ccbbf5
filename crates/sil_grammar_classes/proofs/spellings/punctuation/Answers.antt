use Rattle.std.proofs.Common.{◌∙◌, sym}
use Rattle.sil_grammar_classes.proofs.SpellingLemmas.{is_arrow, is_mark, no_punctuation}
use Rattle.sil_grammar_classes.proofs.spellings.punctuation.Goals as goal

pub returns-then-bytes-eq1-clause-known : goal.returns-then-bytes-eq1-clause-known
returns-then-bytes-eq1-clause-known c = is_mark c.args.bytes.now c.mark.result c.if-bytes-eq1.true c.mark.ensures

pub returns-then-eq-clause-value : goal.returns-then-eq-clause-value
returns-then-eq-clause-value c = is_arrow c.args.bytes.now c.punctuation_spelling.result.now c.punctuation_spelling.ensures (sym c.eq.ensures ∙ c.if-eq.true)

pub returns-else-eq-clause-value : goal.returns-else-eq-clause-value
returns-else-eq-clause-value c = no_punctuation c.args.bytes.now c.punctuation_spelling.result.now c.if-bytes-eq1.false c.punctuation_spelling.ensures (sym c.eq.ensures ∙ c.if-eq.false)
