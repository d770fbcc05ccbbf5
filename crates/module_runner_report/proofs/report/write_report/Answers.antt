use Rattle.module_runner_report.proofs.Reports.{whole}
use Rattle.module_runner_report.proofs.report.write_report.Goals as goal

pub push_ending-requires : goal.push_ending-requires
push_ending-requires c = (c.args.m.now, c.requires.runnable, c.requires.of_it)

pub returns : goal.returns
returns c =
    whole c.args.m.now c.args.table.now c.args.result_type.now c.from_vec.result c.args.outcome.now _ _ _ _ c.new-out.ensures.items c.in_ok-push_events.ensures
    c.in_ok-push_ending.ensures c.in_ok-push_counts.ensures c.from_vec.ensures
