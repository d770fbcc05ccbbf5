use Rattle.std.proofs.Common.{◌≡◌, ◌++◌, [], map}
use Rattle.std.specs.Prelude.{option_map, unwrap_or}
use Rattle.std.specs.List.{range_with_len}
use Rattle.type_check_rows.specs.inner.Views.{made_told}
use Rattle.ownership_kinds_origins.specs.inner.Results.{definition_by_types}
use Rattle.ownership_kinds_origins.proofs.results.add_made.Given as goal

abbrev pub invariant-loop-k : goal.invariant-loop-k
invariant-loop-k l = l.defs ≡ l.initial.defs ++ map (definition_by_types l.table l.inst (unwrap_or (option_map made_told l.made) [])) (range_with_len 0 l.k)
