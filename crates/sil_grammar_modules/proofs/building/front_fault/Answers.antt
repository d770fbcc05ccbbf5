-- The steps and the shortest way to write what is left derive a module.
use Rattle.std.proofs.Common.{◌≡◌, ◌++◌, ◌∙◌, ap, length, map, reverse, subst, sym, take}
use Rattle.std.specs.Prelude.{All}
use Rattle.std.proofs.lemmas.List.{length-take-le, take-map}
use Rattle.std.proofs.lemmas.List.Elements.{All-take}
use Rattle.sil_lexer.specs.inner.Lexing.{lexeme_of, lexemes_of, IsInside}
use Rattle.sil_grammar_shape.proofs.Shortened.{shortened}
use Rattle.sil_grammar_modules.specs.inner.Replay.{first_fault}
use Rattle.sil_grammar_modules.proofs.WholeLemmas.{enough_whole, takes_before}
use Rattle.sil_grammar_modules.proofs.building.front_fault.Goals as goal

pub replay-requires : goal.replay-requires
replay-requires c =
    let left = reverse c.args.front.left.items in
    let steps = c.args.front.steps.items in
    let begun = c.requires.begun in
    let way = (shortened left).1 in
    let tokens = c.args.tokens.tokens in
    let text = c.args.text.now.value.items in
    let inside : All (IsInside text) (take c.args.count tokens) = All-take (IsInside text) c.args.count tokens c.requires.lexed.inside in (
      subst (All (IsInside text)) (sym c.truncate.ensures) inside,
      (
        takes_before begun.0 steps left begun.2 way ∙ begun.1 ∙ sym (length-take-le c.args.count tokens c.requires.inside) ∙ ap length (sym c.truncate.ensures),
        (way, enough_whole begun.0 steps left begun.2 way),
      ),
    )

pub returns : goal.returns
returns c =
    let left = reverse c.args.front.left.items in
    let rest = (shortened left).0 in
    let text = c.args.text.now.value.items in
    let front : lexemes_of text c.truncate.new.self ≡ take c.args.count (lexemes_of text c.args.tokens) =
    ap (map (lexeme_of text)) c.truncate.ensures ∙ sym (take-map (lexeme_of text) c.args.count c.args.tokens.tokens) in (
      rest,
      (shortened left).1,
      c.in_ok-replayed.ensures.fault
          ∙ ap (first_fault (c.args.front.steps.items ++ rest)) front,
    )
