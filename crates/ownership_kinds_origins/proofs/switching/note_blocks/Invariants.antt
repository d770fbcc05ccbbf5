use Rattle.std.proofs.Common.{take}
use Rattle.std.specs.List.{flat_map}
use Rattle.ownership_kinds_origins.specs.Switched.{switches_from}
use Rattle.ownership_kinds_origins.specs.inner.Tables.{Adds}
use Rattle.ownership_kinds_origins.proofs.switching.note_blocks.Given as goal

abbrev pub invariant-loop-block : goal.invariant-loop-block
invariant-loop-block l = Adds (λ n. flat_map (switches_from n) (take l.block-index l.blocks)) l.initial.table l.table
