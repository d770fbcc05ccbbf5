use Rattle.std.proofs.Common.{◌≡◌, ℕ, ◌+◌, ◌<◌, ◌≤◌, min, length, slice_index, drop}
use Rattle.std.specs.List.{count_by, flat_map}
use Rattle.sil_types.specs.Typing.SwitchRules.{edges_of_block, is_to}
use Rattle.type_check.proofs.typing_forms.incoming.count_blocks.Given as goal

abbrev pub invariant-loop-block : goal.invariant-loop-block
invariant-loop-block l = record {
  small : (k : ℕ) → k < length l.counts → slice_index l.counts k ≤ 2;
  counted : (k : ℕ) → k < length l.counts →
      min 2 (slice_index l.counts k + count_by (is_to k) (flat_map edges_of_block (drop l.block-index l.blocks)))
      ≡ min 2 (slice_index l.initial.counts k + count_by (is_to k) (flat_map edges_of_block l.blocks));
}
