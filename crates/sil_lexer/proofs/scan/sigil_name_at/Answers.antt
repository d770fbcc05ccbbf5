use Rattle.std.proofs.Common.{◌+◌, drop, arith, sym, ◌∙◌, length-drop}
use Rattle.std.specs.List.{prefix_len}
use Rattle.std.proofs.lemmas.List.{take_rest}
use Rattle.std.proofs.lemmas.List.Sums.{prefix_len-le-length}
use Rattle.sil_ast.specs.TextBytes.Bytes.{is_name_byte}
use Rattle.sil_lexer.proofs.SpellLemmas.{takes_sigil_name, length_of_sigil_name, token_is}
use Rattle.sil_lexer.proofs.StopLemmas.{stops_at_sigil, stops_at_long_name}
use Rattle.sil_lexer.proofs.scan.sigil_name_at.Goals as goal

pub returns-then-length-eq0 : goal.returns-then-length-eq0
returns-then-length-eq0 c =
    let count = rw take_rest at c.name_length-length.ensures.value in
    stops_at_sigil c.args.at c.args.kind c.args.rest.now c.requires.first (sym count ∙ c.if-length-eq0.true)

pub returns-then-length-gt-NAME_BYTES : goal.returns-then-length-gt-NAME_BYTES
returns-then-length-gt-NAME_BYTES c =
    let rest = c.args.rest.now in
    let count = rw take_rest at c.name_length-length.ensures.value in
    let whole = length-drop 1 rest in
    let within = prefix_len-le-length is_name_byte (drop 1 rest) in
    let size = length_of_sigil_name c.args.kind rest c.requires.first (prefix_len is_name_byte (drop 1 rest)) (omega arith) in
    stops_at_long_name rest c.args.at c.args.kind _ (takes_sigil_name c.args.kind rest c.requires.first (omega arith)) (omega arith)

pub returns : goal.returns
returns c =
    let rest = c.args.rest.now in
    let count = rw take_rest at c.name_length-length.ensures.value in
    let whole = length-drop 1 rest in
    let within = prefix_len-le-length is_name_byte (drop 1 rest) in
    let size = length_of_sigil_name c.args.kind rest c.requires.first (prefix_len is_name_byte (drop 1 rest)) (omega arith) in
    token_is rest c.args.at c.args.kind (1 + prefix_len is_name_byte (drop 1 rest)) _ (omega arith) (omega arith)
    (takes_sigil_name c.args.kind rest c.requires.first (omega arith)) (omega arith)
