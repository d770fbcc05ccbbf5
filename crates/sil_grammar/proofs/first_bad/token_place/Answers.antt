-- For `token_place`: a token's place, or that of the end.
use Rattle.std.proofs.Common.{arith}
use Rattle.sil_grammar.proofs.LexemeLemmas.{token_place_inside, token_place_past}
use Rattle.sil_grammar.proofs.first_bad.token_place.Goals as goal

pub returns-then-i-len : goal.returns-then-i-len
returns-then-i-len c = token_place_inside c.args.text.now c.args.tokens.now c.args.i _ (omega arith) c.place.ensures

pub returns-else-i-len : goal.returns-else-i-len
returns-else-i-len c = token_place_past c.args.text.now c.args.tokens.now c.args.i _ (omega arith) c.end_place.ensures
