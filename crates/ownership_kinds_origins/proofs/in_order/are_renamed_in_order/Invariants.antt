use Rattle.std.proofs.Common.{take}
use Rattle.numbered_form.specs.ValueTables.ValueRows.{rows_from}
use Rattle.ownership_kinds_origins.specs.inner.InOrder.{LeadsOn}
use Rattle.ownership_kinds_origins.specs.Renamings.{arg_renamings, result_renamings}
use Rattle.ownership_kinds_origins.proofs.in_order.are_renamed_in_order.Given as goal

abbrev pub invariant-loop-number : goal.invariant-loop-number
invariant-loop-number l = LeadsOn 0 (rows_from (arg_renamings l.f) result_renamings 0 (take l.number l.f.blocks)) l.next
