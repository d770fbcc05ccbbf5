-- For the law `spelled_once`.
use Rattle.sil_grammar.proofs.ReadLemmas.{spelled_once}
use Rattle.sil_grammar.proofs.laws.spelled_once.Goals as goal

pub returns : goal.returns
returns c = spelled_once
