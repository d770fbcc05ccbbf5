use Rattle.std.proofs.Common.{◌≡◌, ◌-◌, ◌≤◌, false, length, drop}
use Rattle.sil_ast.specs.TextBytes.Bytes.{is_blank}
use Rattle.sil_lexer.specs.Spelling.{begins_with}
use Rattle.sil_lexer.specs.Lexes.{Skips}
use Rattle.sil_lexer.specs.Places.{IsPlaceIn}
use Rattle.sil_lexer.proofs.skip.skip.Given as goal

abbrev pub invariant-loop-at : goal.invariant-loop-at
invariant-loop-at l = record {
  placed : IsPlaceIn l.text l.at;
  forward : l.fn.start.offset ≤ l.at.offset;
  skipped : Skips (drop l.fn.start.offset l.text) (drop l.at.offset l.text);
  no_blank : begins_with is_blank (drop l.at.offset l.text) ≡ false;
}

abbrev pub decreases-loop-at : goal.decreases-loop-at
decreases-loop-at l = length l.text - l.at.offset
