-- Tables of the switches that go to blocks, by the blocks' numbers.
use Rattle.std.specs.Prelude.{◌≡◌, ℕ, ◌<◌, List, length, Option, Some, None, slice_get, unwrap_or}
use Rattle.sil_ast.specs.declared.function.Function.{Function}
use Rattle.ownership_kinds_origins.specs.Switched.{switch_to}
use Rattle.ownership_kinds_origins.specs.declared.switched.Switched.{Switched}

-- what a table tells of a block
abbrev pub switch_at : List (Option Switched) → ℕ → Option Switched
switch_at table n = unwrap_or (slice_get table n) None

-- the table tells of each block the switch that goes to it
pub record AreSwitches (f : Function) (table : List (Option Switched)) : Type 0 where
  pub size : length table ≡ length f.blocks
  pub each : (n : ℕ) → n < length f.blocks → switch_at table n ≡ switch_to f n

-- a switch that was met before, or else the first of some more
abbrev pub first_or : Option Switched → List Switched → Option Switched
first_or None more = slice_get more 0
first_or (Some s) more = Some s

-- where nothing was told of a block, the first of the switches that are met now is
abbrev pub Adds : (ℕ → List Switched) → List (Option Switched) → List (Option Switched) → Type 0
Adds more old new = (n : ℕ) → n < length old → switch_at new n ≡ first_or (switch_at old n) (more n)
