-- For `count_decided`: the last token is taken by the last of these steps.
use Rattle.std.proofs.Common.{◌-◌, arith}
use Rattle.sil_grammar.proofs.CutLemmas.{decided_to}
use Rattle.sil_grammar.proofs.cutting.count_decided.Goals as goal

pub returns-in-Take-clause-decided : goal.returns-in-Take-clause-decided
returns-in-Take-clause-decided c =
    decided_to c.args.steps.now (c.loop-i.i - 1) _ _ (omega arith) c.in-Take.is (omega arith)
