use Rattle.std.proofs.Common.{◌<◌, ◌≤◌, ◌^◌, take, All}
use Rattle.reach_engine_marks.proofs.path_checks.bound.bound_over.Given as goal

abbrev pub invariant-loop-entry : goal.invariant-loop-entry
invariant-loop-entry l = record {
  kept : l.before ≤ l.bound;
  fits : l.bound ≤ 2 ^ 32;
  above : All (λ e. e.subject < l.bound) (take l.entry-index l.entries);
}
