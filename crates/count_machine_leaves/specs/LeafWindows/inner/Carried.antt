-- Values that are carried from a frame to another one, by the lists of the frames.
use Rattle.std.specs.Prelude.{ℕ, ◌+◌, List, Bool, true, take, drop, set, fold}
use Rattle.count_machine_model.specs.declared.ready_code.local.Carry.{Carry}
use Rattle.holder_model_values.specs.declared.run_values.leaf.Leaf.{Leaf}
use Rattle.count_machine_model.specs.MachineSteps.Operands.{laid_over}

-- what is carried, where the leaves of the frame from which it is carried begin at a base
abbrev pub carried_from : ℕ → List Leaf → Carry → List Leaf
carried_from base leaves c = take c.from.size (drop (base + c.from.at) leaves)

abbrev pub laid_by : (Carry → List Leaf) → ℕ → List Leaf → Carry → List Leaf
laid_by carries base leaves c = laid_over (base + c.to.at) (carries c) leaves

-- the leaves with all that is carried
abbrev pub all_laid : (Carry → List Leaf) → ℕ → List Carry → List Leaf → List Leaf
all_laid carries base cs leaves = fold (laid_by carries base) leaves cs

abbrev pub marked_by : ℕ → List Bool → Carry → List Bool
marked_by base there c = set there (base + c.to.value.0) true

-- which values are there, with all that are carried
abbrev pub all_marked : ℕ → List Carry → List Bool → List Bool
all_marked base cs there = fold (marked_by base) there cs
