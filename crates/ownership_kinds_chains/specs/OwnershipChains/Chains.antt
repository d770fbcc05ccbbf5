-- Chains of operands, and rings of them.
use Rattle.std.specs.Prelude.{◌<◌, ◌≤◌, ◌^◌, List, [], map, length, slice_get, unwrap_or, All, Contains}
use Rattle.sil_ast.specs.declared.place.ValueId.{ValueId}
use Rattle.ownership_kinds_chains.specs.declared.ownership_chains.definition.Definition.{Definition}

-- the values that a chain goes on to from a value
abbrev pub operands_at : List Definition → ValueId → List ValueId
operands_at defs v = unwrap_or (slice_get (map (λ d. d.operands) defs) v.0) []

-- a chain of one step or more leads from a value to a value
pub data Chain (defs : List Definition) : ValueId → ValueId → Type 0 where
  one : (v w : ValueId) → Contains (operands_at defs v) w → Chain defs v w
  more : (v u w : ValueId) → Contains (operands_at defs v) u → Chain defs u w → Chain defs v w

-- a chain returns to the value at which it began
abbrev pub IsCyclic : List Definition → ValueId → Type 0
IsCyclic defs v = Chain defs v v

-- a chain from the value leads to one on a ring, as one on a ring does itself
abbrev pub LeadsIntoRing : List Definition → ValueId → Type 0
LeadsIntoRing defs v = (w : ValueId) × Chain defs v w × IsCyclic defs w

-- values have numbers that fit, and each operand is a value of the function
pub record IsInRange (defs : List Definition) : Type 0 where
  pub few : length defs ≤ 2 ^ 32
  pub inside : (v : ValueId) → v.0 < length defs → All (λ w. w.0 < length defs) (operands_at defs v)

-- the value is on a ring, and none before it is
pub record IsFirstCyclic (defs : List Definition) (v : ValueId) : Type 0 where
  pub inside : v.0 < length defs
  pub cyclic : IsCyclic defs v
  pub first : (w : ValueId) → w.0 < v.0 → IsCyclic defs w → ⊥

-- no value is on a ring
abbrev pub HasNoRing : List Definition → Type 0
HasNoRing defs = (v : ValueId) → IsCyclic defs v → ⊥
