-- What is counted of the edges of a function, block by block.
use Rattle.std.specs.Prelude.{◌≡◌, ◌<◌, ℕ, List, length, min, slice_index}
use Rattle.sil_ast.specs.declared.function.Function.{Function}
use Rattle.sil_types.specs.Typing.SwitchRules.{incoming}

-- for each block of the function how many edges go to it, 2 for more than one
pub record AreIncoming (f : Function) (counts : List ℕ) : Type 0 where
  pub blocks : length counts ≡ length f.blocks
  pub each : (block : ℕ) → block < length counts → slice_index counts block ≡ min 2 (incoming f block)
