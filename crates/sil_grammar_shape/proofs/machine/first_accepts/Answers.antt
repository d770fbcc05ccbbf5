use Rattle.std.proofs.Common.{sym, ◌∙◌}
use Rattle.sil_grammar_shape.proofs.TurnLemmas.{accepted_first}
use Rattle.sil_grammar_shape.proofs.machine.first_accepts.Goals as goal

pub returns-in-Some : goal.returns-in-Some
returns-in-Some c = accepted_first c.args.token.class _ c.in-Some.symbol (sym c.first.ensures ∙ c.in-Some.is) c.accepts.ensures
