-- Which slots aren't in doubt.
use Rattle.std.specs.Prelude.{◌≡◌, slice_get, Some, false}
use Rattle.sil_ast.specs.declared.place.ValueId.{ValueId}
use Rattle.memory_rules_slots.specs.declared.doubts.Doubts.{Doubts}

abbrev pub IsTrusted : Doubts → ValueId → Type 0
IsTrusted doubts v = (doubts.all ≡ false) × (slice_get doubts.slots.items v.0 ≡ Some false)

-- doubts are never taken back
abbrev pub Keeps : Doubts → Doubts → Type 0
Keeps old new = (v : ValueId) → IsTrusted new v → IsTrusted old v
