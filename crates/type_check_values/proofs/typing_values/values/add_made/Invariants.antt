use Rattle.std.proofs.Common.{◌≡◌, ◌++◌, [], map}
use Rattle.std.specs.Prelude.{option_map, slice_get, unwrap_or}
use Rattle.std.specs.List.{range_with_len}
use Rattle.type_check_rows.specs.inner.Views.{made_told}
use Rattle.type_check_values.specs.TypingValues.inner.Told.{types_told}
use Rattle.type_check_values.proofs.typing_values.values.add_made.Given as goal

abbrev pub invariant-loop-k : goal.invariant-loop-k
invariant-loop-k l = types_told l.types.items ≡ types_told l.initial.types.items ++ map (slice_get (unwrap_or (option_map made_told l.made) [])) (range_with_len 0 l.k)
