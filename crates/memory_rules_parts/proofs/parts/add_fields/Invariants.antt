use Rattle.std.proofs.Common.{◌≡◌, ◌++◌}
use Rattle.std.specs.List.{flat_map, range_with_len}
use Rattle.memory_rules_parts.specs.Parts.{field_parts}
use Rattle.memory_rules_parts.proofs.parts.add_fields.Given as goal

abbrev pub invariant-loop-field : goal.invariant-loop-field
invariant-loop-field l = l.found.items ≡ l.initial.found.items ++ flat_map (field_parts l.object) (range_with_len 0 l.field)
