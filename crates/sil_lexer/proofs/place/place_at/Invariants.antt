use Rattle.std.proofs.Common.{◌-◌, ◌≤◌}
use Rattle.sil_lexer.specs.Places.{IsPlaceIn}
use Rattle.sil_lexer.proofs.place.place_at.Given as goal

abbrev pub invariant-loop-at : goal.invariant-loop-at
invariant-loop-at l = record { placed : IsPlaceIn l.text l.at; below : l.at.offset ≤ l.offset }

abbrev pub decreases-loop-at : goal.decreases-loop-at
decreases-loop-at l = l.offset - l.at.offset
