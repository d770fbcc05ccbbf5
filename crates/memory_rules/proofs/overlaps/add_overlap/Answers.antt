use Rattle.std.proofs.Common.{sym, ap, ◌∙◌}
use Rattle.sil_rules.specs.declared.rule.Rule.TheVariants.{InoutOverlap}
use Rattle.numbered_form.specs.PointChecks.inner.Faults.{fault_at, fault_where, least}
use Rattle.memory_rules.proofs.overlaps.add_overlap.Goals as goal

pub returns-then-do_clash : goal.returns-then-do_clash
returns-then-do_clash c =
    c.lesser.ensures ∙ ap (λ b. least c.args.found (fault_where b (fault_at c.args.point.block.0 c.args.point.index InoutOverlap c.args.first.address))) (sym c.if-do_clash.true ∙ c.do_clash.ensures)
