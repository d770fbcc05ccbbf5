use Rattle.sil_grammar_shape.proofs.ParseTableLemmas.{filled_table}
use Rattle.sil_grammar_shape.proofs.parse_table.ParseTable.fill.Goals as goal

pub invariant_of-self-clause-right : goal.invariant_of-self-clause-right
invariant_of-self-clause-right c =
    filled_table c.args.self.now.known.items _ _ c.args.part c.args.class c.requires.place c.choose-production.ensures c.requires.inside c.args.self.now.sized c.args.self.now.right
