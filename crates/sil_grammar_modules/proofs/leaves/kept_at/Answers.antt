-- The token stands inside the text.
use Rattle.std.proofs.Common.{◌∙◌, ap, arith, get_or, length}
use Rattle.sil_lexer.specs.declared.token.Token.{Token}
use Rattle.sil_lexer.specs.inner.Lexing.{spelling_of}
use Rattle.sil_lexer.proofs.OrderLemmas.{length-spelling}
use Rattle.sil_grammar_modules.proofs.LeafLemmas.{some_token, token_inside}
use Rattle.sil_grammar_modules.proofs.leaves.kept_at.Goals as goal

pub kept_of-requires : goal.kept_of-requires
kept_of-requires c =
    let token : Token = get_or c.args.tokens.now.tokens c.args.i some_token in
    let text = c.args.text.now.value.items in
    let inside = token_inside text c.args.tokens.now.tokens c.args.i c.requires.inside c.requires.in_range in
    let spelled = c.text-count.ensures some_token ∙ ap (λ bytes. spelling_of bytes token) (c.as_slice.ensures.value ∙ ap (λ v. v.items) c.as_ref.ensures) in
    omega (arith, inside, length-spelling text token inside, ap length spelled, ap (λ p. p.offset) (c.place-from.ensures some_token))
