use Rattle.std.proofs.Common.{sym, ◌∙◌}
use Rattle.memory_rules.proofs.FirstStatic.{first_none, found_first}
use Rattle.memory_rules.proofs.statics.first_static.Goals as goal

pub returns-in-None : goal.returns-in-None
returns-in-None c = first_none c.args.m.now c.args.f.now (sym c.in_ok-least_fault.ensures ∙ c.in-None.is)

pub returns-in_ok-other-in-Some : goal.returns-in_ok-other-in-Some
returns-in_ok-other-in-Some c =
    found_first c.args.m.now c.args.f.now c.in-Some.fault c.in_ok-other-in-Some.other c.rule_fault.result (sym c.in_ok-least_fault.ensures ∙ c.in-Some.is)
    (λ i at. c.in_ok-other-in-Some.ensures i at) c.rule_fault.ensures
