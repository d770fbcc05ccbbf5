use Rattle.std.proofs.Common.{ap, reverse}
use Rattle.sil_grammar_shape.proofs.TurnLemmas.{refused_numbered}
use Rattle.sil_grammar_shape.proofs.machine.take.Goals as goal

pub returns-then-not-first_accepts : goal.returns-then-not-first_accepts
returns-then-not-first_accepts c =
    refused_numbered c.args.class c.new-token.result.class c.token.result.class (reverse c.as_slice.result.now) c.new-token.ensures c.token.ensures (ap reverse c.as_slice.ensures.value)
    c.in_ok-settle.ensures c.first_accepts.ensures c.if-not-first_accepts.true
