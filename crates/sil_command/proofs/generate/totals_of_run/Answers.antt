-- What is told of the run is told of it from `@main`.
use Rattle.std.proofs.Common.{refl}
use Rattle.module_runner.specs.inner.RunReports.{outcome_of}
use Rattle.sil_command.proofs.GeneratedRuns.{ran_so}
use Rattle.sil_command.proofs.generate.totals_of_run.Goals as goal

pub returns-in-Ok : goal.returns-in-Ok
returns-in-Ok c = (outcome_of c.in-Ok.report, ran_so c.args.checked.now c.in-Ok.report c.in-Ok.ensures.run, c.totals_of-totals.ensures)

pub unreachable-requires : goal.unreachable-requires
unreachable-requires c = (rw c.in-Err-NoEntry.field-0-is at c.in-Err-NoEntry.ensures.no_entry).0 refl c.requires
