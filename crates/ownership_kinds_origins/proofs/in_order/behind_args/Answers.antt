use Rattle.std.proofs.Common.{arith}
use Rattle.ownership_kinds_origins.proofs.Ordered.{leads_args}
use Rattle.ownership_kinds_origins.proofs.in_order.behind_args.Goals as goal

pub returns-then-hands_before : goal.returns-then-hands_before
returns-then-hands_before c = leads_args c.args.switched c.args.args.now c.args.number c.saturating_add.result (omega arith) c.if-hands_before.ensures
