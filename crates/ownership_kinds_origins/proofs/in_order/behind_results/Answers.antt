use Rattle.std.proofs.Common.{[], arith, cond, length, map}
use Rattle.ownership_kinds_origins.specs.Renamings.{renamed, renames}
use Rattle.numbered_form.specs.ValueTables.FirstValue.{value_of}
use Rattle.ownership_kinds_origins.proofs.Ordered.{leads_times}
use Rattle.ownership_kinds_origins.proofs.in_order.behind_results.Goals as goal

pub returns-then-renames_before : goal.returns-then-renames_before
returns-then-renames_before c =
    let i = c.args.inst.now in
    leads_times (length i.results) (renamed (cond (renames i.op) (map value_of i.operands) [])) c.args.number c.saturating_add.result (omega arith) c.if-renames_before.ensures
