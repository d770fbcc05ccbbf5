-- For the law `shortest_has_fewest_tokens`.
use Rattle.sil_grammar.proofs.FewestTokens.{fewest_tokens}
use Rattle.sil_grammar.proofs.laws.shortest_has_fewest_tokens.Goals as goal

pub returns : goal.returns
returns c = fewest_tokens
