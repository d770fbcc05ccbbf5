use Rattle.std.proofs.Common.{sym, ap, ◌∙◌}
use Rattle.sil_rules.specs.declared.rule.Rule.TheVariants.{PartialAccess}
use Rattle.numbered_form.specs.PointChecks.inner.Faults.{fault_at, fault_where, least}
use Rattle.memory_rules.proofs.lacking.add_operated.Goals as goal

pub returns-then-lacks : goal.returns-then-lacks
returns-then-lacks c =
    c.lesser.ensures ∙ ap (λ b. least c.args.found (fault_where b (fault_at c.args.point.block.0 c.args.point.index PartialAccess c.args.operated.address))) (sym c.if-lacks.true ∙ c.lacks.ensures)
