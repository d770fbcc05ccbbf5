use Rattle.std.proofs.Common.{arith, length-take-le}
use Rattle.std.specs.List.{prefix_len}
use Rattle.sil_lexer.specs.declared.token.TokenKind.TheVariants.{Word}
use Rattle.sil_ast.specs.TextBytes.Bytes.{is_name_byte}
use Rattle.sil_lexer.proofs.SpellLemmas.{takes_word, token_is}
use Rattle.sil_lexer.proofs.StopLemmas.{stops_at_long_name}
use Rattle.sil_lexer.proofs.scan.word_at.Goals as goal

pub returns-then-length-gt-NAME_BYTES : goal.returns-then-length-gt-NAME_BYTES
returns-then-length-gt-NAME_BYTES c =
    let rest = c.args.rest.now in
    let size = length-take-le (prefix_len is_name_byte rest) rest (omega arith) in
    stops_at_long_name rest c.args.at Word _ (takes_word rest c.requires.first) (omega arith)

pub returns : goal.returns
returns c =
    let rest = c.args.rest.now in
    let size = length-take-le (prefix_len is_name_byte rest) rest (omega arith) in
    token_is rest c.args.at Word _ _ c.name_length-length.ensures.value (omega arith) (takes_word rest c.requires.first) (omega arith)
