use Rattle.std.proofs.lemmas.Result.{IfOk-weaker}
use Rattle.ownership_kinds.specs.ownership_kinds_origins.Facts.{facts_in}
use Rattle.copy_pairing.proofs.Answered.{body_of_copy, removal_in}
use Rattle.copy_pairing.proofs.removals.removal_at.Goals as goal

pub returns-in-None : goal.returns-in-None
returns-in-None c = λ v w copy. absurd (c.in-None.ensures.none v w copy)

pub removal_of-requires-clause-graph : goal.removal_of-requires-clause-graph
removal_of-requires-clause-graph c = c.requires.graph (body_of_copy c.args.f.now c.args.p c.in-Some.copied.value c.in-Some.copied.operand c.in-Some.ensures.some)

pub returns-in-Some : goal.returns-in-Some
returns-in-Some c = IfOk-weaker c.removal_of.result _ _
    (λ r h. removal_in (facts_in c.args.types.now c.args.f.now) c.args.f.now c.args.p c.in-Some.copied.value c.in-Some.copied.operand r c.in-Some.ensures.some h)
    c.removal_of.ensures
