-- Definitions that go on only to values before them.
use Rattle.std.specs.Prelude.{ℕ, ◌+◌, ◌<◌, List, [], ◌∷◌, ◌++◌, ⊤}
use Rattle.numbered_form.specs.Lists.{Each}
use Rattle.ownership_kinds_chains.specs.declared.ownership_chains.definition.Definition.{Definition}

-- the operands of each have lesser numbers than it has, where the first one's is n
abbrev pub AreInOrder : ℕ → List Definition → Type 0
AreInOrder n [] = ⊤
AreInOrder n (d ∷ ds) = Each (λ w. w.0 < n) d.operands × AreInOrder (n + 1) ds

-- they are in order from n on, where those behind them are from m on
abbrev pub LeadsOn : ℕ → List Definition → ℕ → Type 0
LeadsOn n ds m = (rest : List Definition) → AreInOrder m rest → AreInOrder n (ds ++ rest)
