use Rattle.std.proofs.Common.{◌≡◌, ◌++◌, ◌≤◌, replicate}
use Rattle.numbered_form.proofs.value_tables.times.push_times.Given as goal

abbrev pub invariant-loop : goal.invariant-loop
invariant-loop g l = (l.counter ≤ l.count) × (l.table.items ≡ l.initial.table.items ++ replicate l.counter l.row)
