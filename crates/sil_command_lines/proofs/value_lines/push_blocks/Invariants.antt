-- The blocks of the edges so far are written.
use Rattle.std.proofs.Common.{◌≡◌, ◌++◌, drop}
use Rattle.sil_command_lines.specs.ValueTexts.{walk_words}
use Rattle.sil_command_lines.proofs.value_lines.push_blocks.Given as goal

abbrev pub invariant-loop-edge : goal.invariant-loop-edge
invariant-loop-edge l = l.out.items ++ walk_words l.f (drop l.edge-index l.walk) ≡ l.initial.out.items ++ walk_words l.f l.walk
