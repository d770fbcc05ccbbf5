use Rattle.std.proofs.Common.{◌≡◌, ◌-◌, false, length, drop}
use Rattle.std.specs.Prelude.{All}
use Rattle.sil_lexer.specs.Places.{IsPlaceIn}
use Rattle.sil_lexer.specs.Lexes.{begins_skipped}
use Rattle.sil_lexer.specs.inner.Lexing.{IsInside}
use Rattle.sil_lexer.proofs.LexLemmas.{LexedBefore}
use Rattle.sil_lexer.proofs.lexer.lex.Given as goal

abbrev pub invariant-loop-at : goal.invariant-loop-at
invariant-loop-at l = record {
  placed : IsPlaceIn l.text l.at;
  no_gap : begins_skipped (drop l.at.offset l.text) ≡ false;
  inside : All (IsInside l.text) l.tokens.items;
  before : LexedBefore l.text l.tokens.items l.at;
}

abbrev pub decreases-loop-at : goal.decreases-loop-at
decreases-loop-at l = length l.text - l.at.offset
