use Rattle.sil_lexer.proofs.FrontLemmas.{longest}
use Rattle.sil_lexer.proofs.lexer.longest_taken.Goals as goal

pub returns : goal.returns
returns c = longest
