use Rattle.std.proofs.Common.{arith}
use Rattle.sil_lexer.specs.declared.token.TokenKind.TheVariants.{Number}
use Rattle.sil_lexer.proofs.SpellLemmas.{takes_number, token_is}
use Rattle.sil_lexer.proofs.scan.number_at.Goals as goal

pub returns : goal.returns
returns c =
    let n = c.digits_length.ensures in
    let rest = c.args.rest.now in
    token_is rest c.args.at Number _ _ n.value (omega arith) (takes_number rest c.requires.first) (omega arith)
