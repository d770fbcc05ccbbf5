use Rattle.std.proofs.Common.{ap}
use Rattle.sil_grammar_values.specs.declared.value.Value.TheVariants.{Token}
use Rattle.sil_grammar_modules.specs.inner.Lacking.{lacking, lacking_within}
use Rattle.sil_grammar_modules.proofs.lacking.lacking.Goals as goal

pub returns-in-Read : goal.returns-in-Read
unfolding lacking lacking_within
returns-in-Read c = rw c.in-Read.is (ap Token c.no_token.ensures)
