use Rattle.std.proofs.Common.{◌≡◌, ◌+◌, true, false, get_or, ap, sym, subst, arith}
use Rattle.std.proofs.lemmas.Grind.{common_steps}
use Rattle.sil_ast.specs.declared.place.Place.{Place}
use Rattle.sil_ast.specs.TextBytes.Bytes.{is_blank, is_line_feed}
use Rattle.sil_lexer.specs.Places.{IsPlaceIn}
use Rattle.sil_lexer.specs.Lexes.{nothing}
use Rattle.sil_lexer.proofs.PlaceLemmas.{bounds, place_behind}
use Rattle.sil_lexer.proofs.SkipLemmas.{blank_skipped}
use Rattle.sil_lexer.proofs.skip.skip_blanks.Goals as goal

pub ahead-at-requires-clause-column : goal.ahead-at-requires-clause-column
ahead-at-requires-clause-column c =
    let columns = bounds c.args.text.now c.loop-at.at c.loop-at.invariant.placed in
    omega arith

pub loop-at-preserved-in-32 : goal.loop-at-preserved-in-32
loop-at-preserved-in-32 c =
    let text = c.args.text.now in
    let at = c.loop-at.at in
    let passes : is_blank (get_or text at.offset 0) ≡ true = grind (arith, common_steps) in
    let stays : is_line_feed (get_or text at.offset 0) ≡ false = grind (arith, common_steps) in
    let next : c.ahead-at.result.offset ≡ at.offset + 1 = ap (λ (p : Place). p.offset) c.ahead-at.ensures in
    record {
      placed = subst (IsPlaceIn text) (sym c.ahead-at.ensures) (place_behind text at c.loop-at.invariant.placed c.loop-at-test.true stays);
      forward = omega arith;
      skipped = λ rest skips. c.loop-at.invariant.skipped rest (blank_skipped text at.offset c.ahead-at.result.offset c.loop-at-test.true passes next rest skips);
    }

pub loop-at-preserved : goal.loop-at-preserved
loop-at-preserved c =
    let text = c.args.text.now in
    let at = c.loop-at.at in
    let passes : is_blank (get_or text at.offset 0) ≡ true = grind (arith, common_steps) in
    record {
      placed = c.next_place-at.ensures.placed;
      forward = omega arith;
      skipped = λ rest skips. c.loop-at.invariant.skipped rest
          (blank_skipped text at.offset c.next_place-at.result.offset c.loop-at-test.true passes c.next_place-at.ensures.next rest skips);
    }

pub returns-in_default-clause-skipped : goal.returns-in_default-clause-skipped
returns-in_default-clause-skipped c = c.loop-at.invariant.skipped _ (nothing _)

pub returns-clause-skipped : goal.returns-clause-skipped
returns-clause-skipped c = c.loop-at.invariant.skipped _ (nothing _)
