use Rattle.std.proofs.Common.{◌≡◌, ◌∷◌, ◌++◌, [], refl, sym, subst, arith, length-drop}
use Rattle.std.specs.Prelude.{All, Some, None}
use Rattle.std.proofs.lemmas.List.{take_rest}
use Rattle.std.proofs.lemmas.List.Elements.{All-nil}
use Rattle.sil_lexer.specs.Places.{IsPlaceIn}
use Rattle.sil_lexer.specs.inner.Scan.{HasRoom, SkipsTo}
use Rattle.sil_lexer.specs.inner.Lexing.{IsInside}
use Rattle.sil_lexer.proofs.PlaceLemmas.{bounds}
use Rattle.sil_lexer.proofs.LexLemmas.{LexedBefore, lexed_none, lexed_more, lexed_all, lexed_up_to, token_end, inside_more, lexing_is}
use Rattle.sil_lexer.proofs.lexer.lex.Goals as goal

pub loop-at-init : goal.loop-at-init
loop-at-init c =
    let text = c.args.text.now in
    record {
      placed = c.skip-at.ensures.placed;
      no_gap = c.skip-at.ensures.no_more;
      inside = subst (All (IsInside text)) (sym c.in_ok-tokens.ensures) (All-nil (IsInside text));
      before = subst (λ tokens. LexedBefore text tokens c.skip-at.result) (sym c.in_ok-tokens.ensures) (lexed_none text _ c.skip-at.result refl c.skip-at.ensures);
    }

pub token_at-requires-clause-room : goal.token_at-requires-clause-room
token_at-requires-clause-room c =
    let text = c.args.text.now in
    let at = c.loop-at.at in
    let columns = bounds text at c.loop-at.invariant.placed in
    let size = length-drop at.offset text in
    subst (HasRoom at) (sym (take_rest text at.offset)) (record { offset = omega arith; column = omega arith })

pub ahead-requires-clause-column : goal.ahead-requires-clause-column
ahead-requires-clause-column c =
    let text = c.args.text.now in
    let token = rw take_rest at c.in-Ok.ensures in
    let columns = bounds text c.loop-at.at c.loop-at.invariant.placed in
    let size = length-drop c.loop-at.at.offset text in
    omega (arith, token.inside)

pub skip-at-requires-in-Ok-clause-placed : goal.skip-at-requires-in-Ok-clause-placed
skip-at-requires-in-Ok-clause-placed c =
    let text = c.args.text.now in
    let token = rw take_rest at c.in-Ok.ensures in
    subst (IsPlaceIn text) (sym c.ahead.ensures) (token_end text c.loop-at.at _ _ c.loop-at.invariant.placed token.inside token.spelled)

pub loop-at-preserved : goal.loop-at-preserved
loop-at-preserved c =
    let text = c.args.text.now in
    let token = rw take_rest at c.in-Ok.ensures in
    let kept = c.loop-at.invariant in
    let pushed : c.push.new.tokens.items ≡ c.loop-at.tokens.items ++ c.in-Ok.token ∷ [] = c.in_ok-push-in-Ok.ensures in
    record {
      placed = c.skip-at-in-Ok.ensures.placed;
      no_gap = c.skip-at-in-Ok.ensures.no_more;
      inside = subst (All (IsInside text)) (sym pushed) (inside_more text c.loop-at.tokens.items c.loop-at.at c.in-Ok.token kept.placed kept.inside token);
      before = subst (λ tokens. LexedBefore text tokens c.skip-at-in-Ok.result) (sym pushed)
          (lexed_more text c.loop-at.tokens.items c.loop-at.at kept.placed kept.before c.in-Ok.token c.skip-at-in-Ok.result token
          (subst (λ p. SkipsTo text p c.skip-at-in-Ok.result) c.ahead.ensures c.skip-at-in-Ok.ensures));
    }

pub returns-in-Err : goal.returns-in-Err
returns-in-Err c =
    let text = c.args.text.now in
    let kept = c.loop-at.invariant in
    let stops = rw take_rest at c.in-Err.ensures in
    lexing_is text c.new.result c.loop-at.tokens.items (Some c.in-Err.refusal) c.new.ensures.tokens c.new.ensures.stop
    (lexed_up_to text c.loop-at.tokens.items c.loop-at.at kept.placed kept.before c.in-Err.refusal (stops text kept.placed refl)) kept.inside

pub returns : goal.returns
returns c =
    let text = c.args.text.now in
    let kept = c.loop-at.invariant in
    lexing_is text c.new-2.result c.loop-at.tokens.items None c.new-2.ensures.tokens c.new-2.ensures.stop
    (lexed_all text c.loop-at.tokens.items c.loop-at.at kept.placed kept.before c.loop-at-test.false) kept.inside
