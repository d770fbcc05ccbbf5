use Rattle.std.proofs.Common.{ℕ, ◌<◌, ◌≤◌, ◌^◌, All}
use Rattle.number_tables.specs.PathLists.inner.Lists.{list_at}
use Rattle.reach_engine_marks.proofs.path_checks.bound.subject_bound.Given as goal

abbrev pub invariant-loop-item : goal.invariant-loop-item
invariant-loop-item l = record {
  least : l.least ≤ l.bound;
  fits : l.bound ≤ 2 ^ 32;
  above : (i : ℕ) → i < l.item → All (λ e. e.subject < l.bound) (list_at l.entries i);
}
