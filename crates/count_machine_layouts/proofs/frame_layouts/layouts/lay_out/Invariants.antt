use Rattle.std.proofs.Common.{◌≡◌, ◌*◌, ◌≤◌}
use Rattle.sil_rules.specs.declared.limits.TheConstants.{LEAVES}
use Rattle.type_check_values.specs.TypingValues.inner.Told.{types_told}
use Rattle.count_machine_layouts.specs.FrameLayouts.inner.Layouts.{layout_to}
use Rattle.count_machine_layouts.proofs.frame_layouts.layouts.lay_out.Given as goal

abbrev pub invariant-loop-number : goal.invariant-loop-number
invariant-loop-number l = record {
  laid : l.layout ≡ layout_to l.table (types_told l.types) l.functions l.number;
  leaves : l.layout.leaves ≤ LEAVES * l.number;
  addresses : l.layout.addresses ≤ l.number;
}
