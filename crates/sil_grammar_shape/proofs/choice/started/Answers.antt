use Rattle.std.proofs.Common.{sym, ◌∙◌}
use Rattle.sil_grammar_shape.proofs.ChoiceLemmas.{started-else}
use Rattle.sil_grammar_shape.proofs.choice.started.Goals as goal

pub returns-in_default : goal.returns-in_default
returns-in_default c = c.listed.ensures ∙ sym (started-else c.args.part c.args.look c.in_default.not-Row c.in_default.not-Terminator)
