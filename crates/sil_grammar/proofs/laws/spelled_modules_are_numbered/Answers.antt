-- For the law `spelled_modules_are_numbered`.
use Rattle.sil_grammar.proofs.NumberedLemmas.{spelled_numbered}
use Rattle.sil_grammar.proofs.laws.spelled_modules_are_numbered.Goals as goal

pub returns : goal.returns
returns c = spelled_numbered
