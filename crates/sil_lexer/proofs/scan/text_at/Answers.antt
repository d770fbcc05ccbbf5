use Rattle.std.proofs.Common.{◌+◌, drop, refl, sym, arith, subst, length-drop}
use Rattle.std.proofs.lemmas.List.{take_rest}
use Rattle.std.proofs.lemmas.List.Sums.{prefix_len-le-length}
use Rattle.sil_lexer.specs.declared.token.TokenKind.TheVariants.{Text}
use Rattle.sil_lexer.specs.declared.token.LexRefusal.TheVariants.{BadByte}
use Rattle.sil_ast.specs.TextBytes.Bytes.{is_text_byte}
use Rattle.sil_lexer.proofs.RunLemmas.{first_some}
use Rattle.sil_lexer.proofs.SpellLemmas.{takes_text, token_is}
use Rattle.sil_lexer.proofs.StopLemmas.{StopsAt, stops_at_end, stops_at_line_end, stops_at_bad_text_byte}
use Rattle.sil_lexer.proofs.scan.text_at.Goals as goal
use Rattle.sil_lexer.proofs.scan.text_at.Goals.{then-end-rest-via-then-end-rest, then-end-rest-via-else-end-rest+then-rest-end-eq10}

pub returns-then-end-rest : goal.returns-then-end-rest
returns-then-end-rest c =
    let rest = c.args.rest.now in
    let n = c.text_length-end.result in
    let count = rw take_rest at c.text_length-end.ensures.value in
    let whole = length-drop 1 rest in
    let within = prefix_len-le-length is_text_byte (drop 1 rest) in
    let some = first_some _ rest c.requires.first in
    elim c.then-end-rest.branch [
      | then-end-rest-via-then-end-rest w ↦ stops_at_end rest c.args.at n c.requires.first count (omega arith)
      | then-end-rest-via-else-end-rest+then-rest-end-eq10 w ↦ stops_at_line_end rest c.args.at n c.requires.first count (omega arith) w.if-rest-end-eq10.true
    ]

pub returns-then-rest-end-ne34 : goal.returns-then-rest-end-ne34
returns-then-rest-end-ne34 c =
    let rest = c.args.rest.now in
    let n = c.text_length-end.result in
    let count = rw take_rest at c.text_length-end.ensures.value in
    let whole = length-drop 1 rest in
    let within = prefix_len-le-length is_text_byte (drop 1 rest) in
    let some = first_some _ rest c.requires.first in
    subst (λ p. StopsAt rest c.args.at (BadByte p)) (sym c.ahead.ensures)
    (stops_at_bad_text_byte rest c.args.at n c.requires.first count (omega arith) c.if-rest-end-eq10.false c.if-rest-end-ne34.true)

pub returns : goal.returns
returns c =
    let rest = c.args.rest.now in
    let n = c.text_length-end.result in
    let count = rw take_rest at c.text_length-end.ensures.value in
    let whole = length-drop 1 rest in
    let within = prefix_len-le-length is_text_byte (drop 1 rest) in
    let some = first_some _ rest c.requires.first in
    token_is rest c.args.at Text (1 + (1 + n)) _ refl (omega arith) (takes_text rest c.requires.first n count (omega arith) c.if-rest-end-ne34.false) (omega arith)
