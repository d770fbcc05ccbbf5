-- For the law `refused_once`.
use Rattle.sil_grammar.proofs.RefusedOnce.{refused_once}
use Rattle.sil_grammar.proofs.laws.refused_once.Goals as goal

pub returns : goal.returns
returns c = refused_once
