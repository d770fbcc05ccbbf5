use Rattle.std.proofs.Common.{ap, sym, subst, arith}
use Rattle.sil_ast.specs.declared.place.Place.{Place}
use Rattle.sil_lexer.specs.Places.{IsPlaceIn}
use Rattle.sil_lexer.specs.inner.Scan.{SkipsOne}
use Rattle.sil_lexer.proofs.PlaceLemmas.{bounds}
use Rattle.sil_lexer.proofs.SkipLemmas.{comment_place, comment_skipped, last_comment_skipped}
use Rattle.sil_lexer.proofs.skip.skip_comment.Goals as goal

pub ahead-end-requires-clause-column : goal.ahead-end-requires-clause-column
ahead-end-requires-clause-column c =
    let columns = bounds c.args.text.now c.args.at c.requires.placed in
    omega arith

pub next_place-requires-clause-placed : goal.next_place-requires-clause-placed
next_place-requires-clause-placed c =
    subst (IsPlaceIn c.args.text.now) (sym c.ahead-end.ensures)
    (comment_place c.args.text.now c.args.at c.line_length.result c.requires.comment c.line_length.ensures.value c.requires.placed (omega arith))

pub returns-then-end-text : goal.returns-then-end-text
returns-then-end-text c =
    let text = c.args.text.now in
    let end = ap (λ (p : Place). p.offset) c.ahead-end.ensures in
    record {
      placed = c.next_place.ensures.placed;
      forward = omega arith;
      skipped = comment_skipped text c.args.at c.line_length.result c.requires.comment c.line_length.ensures.value c.next_place.result.offset (omega arith) (omega arith);
    }

pub returns-else-end-text : goal.returns-else-end-text
returns-else-end-text c =
    let text = c.args.text.now in
    subst (SkipsOne text c.args.at) (sym c.ahead-end.ensures) (record {
      placed = comment_place text c.args.at c.line_length.result c.requires.comment c.line_length.ensures.value c.requires.placed (omega arith);
      forward = omega arith;
      skipped = last_comment_skipped text c.args.at c.line_length.result c.requires.comment c.line_length.ensures.value (omega (arith, ap (λ (p : Place). p.offset) c.ahead-end.ensures));
    })
