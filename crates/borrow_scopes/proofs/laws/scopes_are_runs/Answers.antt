use Rattle.borrow_scopes.proofs.ScopesAreRuns.{open_while_on}
use Rattle.borrow_scopes.proofs.laws.scopes_are_runs.Goals as goal

pub returns : goal.returns
returns c = open_while_on
