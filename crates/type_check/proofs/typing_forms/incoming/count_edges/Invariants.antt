use Rattle.std.proofs.Common.{◌≡◌, ℕ, ◌+◌, ◌<◌, ◌≤◌, min, length, slice_index, drop}
use Rattle.std.specs.List.{count_by}
use Rattle.sil_types.specs.Typing.SwitchRules.{is_to}
use Rattle.type_check.proofs.typing_forms.incoming.count_edges.Given as goal

abbrev pub invariant-loop-edge : goal.invariant-loop-edge
invariant-loop-edge l = record {
  small : (k : ℕ) → k < length l.counts → slice_index l.counts k ≤ 2;
  counted : (k : ℕ) → k < length l.counts →
      min 2 (slice_index l.counts k + count_by (is_to k) (drop l.edge-index l.edges)) ≡ min 2 (slice_index l.initial.counts k + count_by (is_to k) l.edges);
}
