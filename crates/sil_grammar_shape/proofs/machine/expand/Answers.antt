use Rattle.std.proofs.Common.{◌++◌, ◌∙◌, ap}
use Rattle.sil_grammar_tables.specs.Grammar.{body}
use Rattle.sil_grammar_shape.proofs.TurnLemmas.{rest_popped}
use Rattle.sil_grammar_shape.proofs.machine.expand.Goals as goal

pub returns : goal.returns
returns c =
    let rest = rest_popped c.pop_symbol.result _ _ c.pop_symbol.ensures in
    record { stack_is = c.in_ok-push_body.ensures ∙ ap (λ l. body c.args.production ++ l) rest; steps_are = c.in_ok-push.ensures.items }
