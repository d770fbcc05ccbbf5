use Rattle.std.proofs.Common.{◌≡◌, ℕ, ◌<◌, Some, All}
use Rattle.std.specs.Prelude.{Contains, slice_get}
use Rattle.memory_rules_parts.specs.inner.Index.{row_at}
use Rattle.memory_rules_parts.specs.inner.Keys.{keys_of_part}
use Rattle.memory_rules_parts.specs.declared.part.Part.{Part}
use Rattle.memory_rules_parts.proofs.index.index_of.Given as goal

abbrev pub invariant-loop-number : goal.invariant-loop-number
invariant-loop-number l = (i : ℕ) (p : Part) → i < l.number → slice_get l.batch i ≡ Some p → All (λ key. Contains (row_at l.rows.items key) i) (keys_of_part l.m p)
