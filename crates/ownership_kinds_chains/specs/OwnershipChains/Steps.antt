-- The same facts, found step by step. Nobody has to believe these steps: `facts_are_told_in_time` says that they tell just the facts.
use Rattle.std.specs.Prelude.{ℕ, zero, suc, List, length, cond, Option, Some, None}
use Rattle.std.specs.List.{list_all}
use Rattle.sil_ast.specs.declared.place.ValueId.{ValueId}
use Rattle.ownership_kinds_chains.specs.declared.ownership_chains.definition.Definition.{Definition}
use Rattle.ownership_kinds_chains.specs.declared.ownership_chains.facts.Facts.{Facts}
use Rattle.ownership_kinds_chains.specs.OwnershipChains.Chains.{operands_at}
use Rattle.ownership_kinds_chains.specs.OwnershipChains.Facts.{is_known, known_or, origin_at, told_by}

-- the facts of a value, where those of all its operands are known
abbrev pub told_from : List Definition → (ValueId → Option Facts) → ValueId → Option Facts
told_from defs known v =
    cond (list_all (is_known known) (operands_at defs v)) (Some (told_by (length defs) v (known_or known) (operands_at defs v) (origin_at defs v))) None

-- what chains of fewer than n steps tell
abbrev pub told_in : List Definition → ℕ → ValueId → Option Facts
told_in defs zero v = None
told_in defs (suc n) v = told_from defs (told_in defs n) v
