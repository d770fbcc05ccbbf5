use Rattle.std.proofs.Common.{sym, ap, ◌∙◌}
use Rattle.sil_rules.specs.declared.rule.Rule.TheVariants.{PartialAccess}
use Rattle.numbered_form.specs.PointChecks.inner.Faults.{fault_at, fault_where, least}
use Rattle.memory_rules.proofs.lacking.add_no_slot.Goals as goal

pub returns-then-is_no_slot : goal.returns-then-is_no_slot
returns-then-is_no_slot c =
    c.lesser.ensures ∙ ap (λ b. least c.args.found (fault_where b (fault_at c.args.point.block.0 c.args.point.index PartialAccess c.args.address))) (sym c.if-is_no_slot.true ∙ c.is_no_slot.ensures)
