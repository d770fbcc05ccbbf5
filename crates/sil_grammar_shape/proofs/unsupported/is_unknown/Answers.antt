use Rattle.sil_grammar_shape.proofs.unsupported.is_unknown.Goals as goal

pub returns-in-Word : goal.returns-in-Word
returns-in-Word c = rw c.in-Word.is c.is_unknown_word.ensures

pub returns-in-OtherText : goal.returns-in-OtherText
returns-in-OtherText c = rw c.in-OtherText.is c.goes_on.ensures
