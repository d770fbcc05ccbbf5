use Rattle.std.proofs.Common.{arith}
use Rattle.sil_lexer.proofs.PlaceLemmas.{bounds}
use Rattle.sil_lexer.proofs.place.next_place.Goals as goal

pub ahead-requires-clause-column : goal.ahead-requires-clause-column
ahead-requires-clause-column c =
    let columns = bounds c.args.text.now c.args.at c.requires.placed in
    omega arith
