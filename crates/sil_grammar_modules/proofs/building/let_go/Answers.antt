-- What is cut off stands behind the first ones.
use Rattle.sil_grammar_modules.proofs.BuildLemmas.{keeps_first}
use Rattle.sil_grammar_modules.proofs.building.let_go.Goals as goal

pub returns-then-token-eq0-clause-tokens : goal.returns-then-token-eq0-clause-tokens
returns-then-token-eq0-clause-tokens c = keeps_first c.args.token c.args.tokens.now.tokens c.cut.new.tokens.tokens c.requires.token c.cut.ensures.tokens

pub returns-then-token-eq0-clause-steps : goal.returns-then-token-eq0-clause-steps
returns-then-token-eq0-clause-steps c = keeps_first c.args.step c.args.steps.now.items c.cut.new.steps.items c.requires.step c.cut.ensures.steps
