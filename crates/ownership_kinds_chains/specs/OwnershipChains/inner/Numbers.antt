-- The operands of values as a graph of numbers.
use Rattle.std.specs.Prelude.{ℕ, List, map}
use Rattle.sil_ast.specs.declared.place.ValueId.{ValueId}
use Rattle.number_tables.specs.ContainmentOrder.Chains.{Graph}
use Rattle.ownership_kinds_chains.specs.declared.ownership_chains.definition.Definition.{Definition}

abbrev pub number_of : ValueId → ℕ
number_of v = v.0

abbrev pub operand_numbers : Definition → List ℕ
operand_numbers d = map number_of d.operands

-- of each value the numbers of its operands
abbrev pub numbers_of : List Definition → Graph
numbers_of defs = map operand_numbers defs
