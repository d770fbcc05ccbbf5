-- Values that become members of one.
use Rattle.std.specs.Prelude.{ℕ, ◌+◌, List, take, drop}
use Rattle.count_machine_model.specs.declared.ready_code.local.Local.{Local}
use Rattle.holder_model_values.specs.declared.run_values.leaf.Leaf.{Leaf}

-- the leaves of a value, where those of its frame begin at a base
abbrev pub leaves_from : ℕ → List Leaf → Local → List Leaf
leaves_from base leaves l = take l.size (drop (base + l.at) leaves)
