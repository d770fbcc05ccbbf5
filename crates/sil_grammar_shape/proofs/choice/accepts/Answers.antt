use Rattle.sil_grammar_shape.proofs.SuitsLemmas.{accepts-suits}
use Rattle.sil_grammar_shape.proofs.choice.accepts.Goals as goal

pub returns-in-Read : goal.returns-in-Read
returns-in-Read c = rw (c.in-Read.is, c.accepts_terminal.ensures) (accepts-suits c.in-Read.terminal c.args.token.class)
