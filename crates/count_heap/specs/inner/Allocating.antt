-- The slot of a new object.
use Rattle.std.specs.Prelude.{◌≡◌, ◌<◌, ◌⊎◌, ◌++◌, ◌∷◌, [], ℕ, List, true, length}
use Rattle.weak_unowned.specs.Sides.{changed, idle_count, is_idle_at, no_sides, unmarked}
use Rattle.weak_unowned.specs.declared.side.SlotSides.{SlotSides}

-- an idle slot was taken
pub record TakesIdle (before after : List SlotSides) (s : ℕ) : Type 0 where
  pub there : s < length before
  pub idle : is_idle_at before s ≡ true
  pub after_is : after ≡ changed unmarked before s

-- none was idle, and there is one more
pub record TakesNew (before after : List SlotSides) (s : ℕ) : Type 0 where
  pub none : idle_count before ≡ 0
  pub last : s ≡ length before
  pub after_is : after ≡ before ++ no_sides ∷ []

abbrev pub IsSlotForNew : List SlotSides → List SlotSides → ℕ → Type 0
IsSlotForNew before after s = TakesIdle before after s ⊎ TakesNew before after s
