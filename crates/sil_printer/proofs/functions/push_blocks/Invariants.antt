-- The blocks so far stand in the text, with an empty line between two.
use Rattle.std.proofs.Common.{◌≡◌, ◌++◌, take}
use Rattle.std.specs.List.{join_by, enumerate_from}
use Rattle.sil_printer.specs.Words.{line_feed}
use Rattle.sil_printer.specs.CanonicalFunctions.{block_text}
use Rattle.sil_printer.proofs.functions.push_blocks.Given as goal

abbrev pub invariant-loop-k : goal.invariant-loop-k
invariant-loop-k l =
    l.out.items
    ≡ l.initial.out.items ++ join_by (λ (k, b). block_text l.functions k b) line_feed (take l.k (enumerate_from 0 l.blocks))
