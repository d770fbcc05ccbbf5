use Rattle.std.proofs.Common.{sym, ap, ◌∙◌}
use Rattle.sil_rules.specs.declared.rule.Rule.TheVariants.{CyclicForwarding}
use Rattle.numbered_form.specs.PointChecks.inner.Faults.{fault_at, fault_where, least}
use Rattle.ownership_kinds.proofs.rings.add_ring.Goals as goal

pub returns-then-is_one : goal.returns-then-is_one
returns-then-is_one c =
    c.lesser.ensures ∙ ap (λ b. least c.args.found (fault_where b (fault_at c.args.point.block.0 c.args.point.index CyclicForwarding c.args.value))) (sym c.if-is_one.true ∙ c.is_one.ensures)
