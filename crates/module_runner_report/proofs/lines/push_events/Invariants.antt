-- The events so far stand in the text, each on its line.
use Rattle.std.proofs.Common.{◌≡◌, ◌++◌, take}
use Rattle.std.specs.List.{flat_map}
use Rattle.holder_model.specs.RunReport.ReportLines.{event_line}
use Rattle.module_runner_report.proofs.lines.push_events.Given as goal

abbrev pub invariant-loop-event : goal.invariant-loop-event
invariant-loop-event l = l.out.items ≡ l.initial.out.items ++ flat_map (event_line l.m) (take l.event-index l.events)
