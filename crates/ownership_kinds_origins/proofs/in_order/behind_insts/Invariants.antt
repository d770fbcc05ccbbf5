use Rattle.std.proofs.Common.{take}
use Rattle.std.specs.List.{flat_map}
use Rattle.ownership_kinds_origins.specs.inner.InOrder.{LeadsOn}
use Rattle.ownership_kinds_origins.specs.Renamings.{result_renamings}
use Rattle.ownership_kinds_origins.proofs.in_order.behind_insts.Given as goal

abbrev pub invariant-loop-inst : goal.invariant-loop-inst
invariant-loop-inst l = LeadsOn l.initial.number (flat_map result_renamings (take l.inst-index l.insts)) l.number
