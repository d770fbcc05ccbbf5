use Rattle.std.proofs.Common.{ℕ, ◌-◌, ◌≤◌, List, length, drop}
use Rattle.sil_lexer.specs.Lexes.{Skips}
use Rattle.sil_lexer.specs.Places.{IsPlaceIn}
use Rattle.sil_lexer.proofs.skip.skip_blanks.Given as goal

abbrev pub invariant-loop-at : goal.invariant-loop-at
invariant-loop-at l = record {
  placed : IsPlaceIn l.text l.at;
  forward : l.fn.start.offset ≤ l.at.offset;
  skipped : (rest : List ℕ) → Skips (drop l.at.offset l.text) rest → Skips (drop l.fn.start.offset l.text) rest;
}

abbrev pub decreases-loop-at : goal.decreases-loop-at
decreases-loop-at l = length l.text - l.at.offset
