-- There is a first value.
use Rattle.sil_grammar_values.proofs.Popped.{first_of}
use Rattle.sil_grammar_values.proofs.put.pass.Goals as goal

pub returns : goal.returns
returns c = let some = first_of c.args.values.now c.requires in (some.0, some.1, some.2, some.2)
