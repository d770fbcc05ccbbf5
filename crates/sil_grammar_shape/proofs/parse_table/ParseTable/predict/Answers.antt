use Rattle.std.proofs.Common.{sym}
use Rattle.sil_grammar_shape.proofs.ParseTableLemmas.{known_chosen}
use Rattle.sil_grammar_shape.proofs.parse_table.ParseTable.predict.Goals as goal

pub returns-in-Some : goal.returns-in-Some
returns-in-Some c =
    sym (known_chosen c.args.self.now.known.items _ _ c.args.part c.args.look.class c.in-Some.production
    c.place-at.ensures.value c.place-at.ensures.inside c.args.self.now.sized c.index.ensures c.in-Some.is c.args.self.now.right)
