use Rattle.std.proofs.Common.{arith}
use Rattle.sil_grammar_modules.proofs.LeafLemmas.{sigil-part}
use Rattle.sil_grammar_modules.proofs.leaves.without_sigil.Goals as goal

pub returns-else-count-eq0 : goal.returns-else-count-eq0
returns-else-count-eq0 c =
    let part = sigil-part c.args.text.now.value.items c.args.from c.args.count (omega (arith, c.if-count-eq0.false)) in
    rw part c.part.ensures
