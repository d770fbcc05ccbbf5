-- For `read`: there may be no memory for a copy of the text.
use Rattle.sil_grammar.proofs.ReadLemmas.{out_of_memory}
use Rattle.sil_grammar.proofs.reader.read.Goals as goal

pub returns-in_err-source-clause-refused : goal.returns-in_err-source-clause-refused
returns-in_err-source-clause-refused c = out_of_memory c.args.text.now c.from_residual.result c.from_residual.ensures.1
